-- The number of a refusal is small.
use Rattle.std.specs.Prelude.{◌≤◌}
use Rattle.std.proofs.Common.{lit≤}
use Rattle.syntax.specs.Number.{number}
use Rattle.syntax.specs.declared.refusal.Refusal.{Refusal}
use Rattle.syntax.specs.declared.refusal.Refusal.TheVariants.{TextTooLong, BadLine, BadName, TooManyNames, NotInGrammar, UnknownLabel, ExpressionTooLong, TooDeep, TooManyOccurrences, BufferTooShort, TooManyStandings, TooManyStates, BadAllowance, TooManyPlaces, TooManyPairs, BadRecordings, BadTable, BadStart, NoExpression}

pub number-few : (r : Refusal) → number r ≤ 17
number-few TextTooLong = lit≤ tt
number-few BadLine = lit≤ tt
number-few BadName = lit≤ tt
number-few TooManyNames = lit≤ tt
number-few NotInGrammar = lit≤ tt
number-few UnknownLabel = lit≤ tt
number-few ExpressionTooLong = lit≤ tt
number-few TooDeep = lit≤ tt
number-few TooManyOccurrences = lit≤ tt
number-few BufferTooShort = lit≤ tt
number-few TooManyStandings = lit≤ tt
number-few TooManyStates = lit≤ tt
number-few BadAllowance = lit≤ tt
number-few TooManyPlaces = lit≤ tt
number-few TooManyPairs = lit≤ tt
number-few BadRecordings = lit≤ tt
number-few BadTable = lit≤ tt
number-few BadStart = lit≤ tt
number-few NoExpression = lit≤ tt
