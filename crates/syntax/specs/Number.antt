-- The number that document 01 gives a refusal.
use Rattle.std.specs.Prelude.{ℕ}
use Rattle.syntax.specs.declared.refusal.Refusal.{Refusal}
use Rattle.syntax.specs.declared.refusal.Refusal.TheVariants.{TextTooLong, BadLine, BadName, TooManyNames, NotInGrammar, UnknownLabel, ExpressionTooLong, TooDeep, TooManyOccurrences, BufferTooShort, TooManyStandings, TooManyStates, BadAllowance, TooManyPlaces, TooManyPairs, BadRecordings, BadTable, BadStart, NoExpression}

abbrev pub number : Refusal → ℕ
number TextTooLong = 1
number BadLine = 2
number BadName = 3
number TooManyNames = 4
number NotInGrammar = 5
number UnknownLabel = 6
number ExpressionTooLong = 7
number TooDeep = 7
number TooManyOccurrences = 7
number BufferTooShort = 8
number TooManyStandings = 9
number TooManyStates = 10
number BadAllowance = 11
number TooManyPlaces = 12
number TooManyPairs = 13
number BadRecordings = 14
number BadTable = 15
number BadStart = 16
number NoExpression = 17
