-- No refusal has the number 0, which stands for an answer.
use Rattle.std.specs.Prelude.{◌<◌}
use Rattle.std.proofs.Common.{lit<}
use Rattle.syntax.specs.Number.{number}
use Rattle.syntax.specs.declared.refusal.Refusal.{Refusal}
use Rattle.syntax.specs.declared.refusal.Refusal.TheVariants.{TextTooLong, BadLine, BadName, TooManyNames, NotInGrammar, UnknownLabel, ExpressionTooLong, TooDeep, TooManyOccurrences, BufferTooShort, TooManyStandings, TooManyStates, BadAllowance, TooManyPlaces, TooManyPairs, BadRecordings, BadTable, BadStart, NoExpression}

pub number-some : (r : Refusal) → 0 < number r
number-some TextTooLong = lit< tt
number-some BadLine = lit< tt
number-some BadName = lit< tt
number-some TooManyNames = lit< tt
number-some NotInGrammar = lit< tt
number-some UnknownLabel = lit< tt
number-some ExpressionTooLong = lit< tt
number-some TooDeep = lit< tt
number-some TooManyOccurrences = lit< tt
number-some BufferTooShort = lit< tt
number-some TooManyStandings = lit< tt
number-some TooManyStates = lit< tt
number-some BadAllowance = lit< tt
number-some TooManyPlaces = lit< tt
number-some TooManyPairs = lit< tt
number-some BadRecordings = lit< tt
number-some BadTable = lit< tt
number-some BadStart = lit< tt
number-some NoExpression = lit< tt
