-- `Refusal::number` meets its contract: each arm knows its variant.
use mathlib.Core.Path.{sym, ap}
use Rattle.syntax.specs.Number.{number}
use Rattle.syntax.proofs.refusal.Refusal.number.Goals as goal

pub returns-in-TextTooLong : goal.returns-in-TextTooLong
returns-in-TextTooLong c = sym (ap number c.in-TextTooLong.is)

pub returns-in-BadLine : goal.returns-in-BadLine
returns-in-BadLine c = sym (ap number c.in-BadLine.is)

pub returns-in-BadName : goal.returns-in-BadName
returns-in-BadName c = sym (ap number c.in-BadName.is)

pub returns-in-TooManyNames : goal.returns-in-TooManyNames
returns-in-TooManyNames c = sym (ap number c.in-TooManyNames.is)

pub returns-in-NotInGrammar : goal.returns-in-NotInGrammar
returns-in-NotInGrammar c = sym (ap number c.in-NotInGrammar.is)

pub returns-in-UnknownLabel : goal.returns-in-UnknownLabel
returns-in-UnknownLabel c = sym (ap number c.in-UnknownLabel.is)

pub returns-in-ExpressionTooLong : goal.returns-in-ExpressionTooLong
returns-in-ExpressionTooLong c = sym (ap number c.in-ExpressionTooLong.is)

pub returns-in-TooDeep : goal.returns-in-TooDeep
returns-in-TooDeep c = sym (ap number c.in-TooDeep.is)

pub returns-in-TooManyOccurrences : goal.returns-in-TooManyOccurrences
returns-in-TooManyOccurrences c = sym (ap number c.in-TooManyOccurrences.is)

pub returns-in-BufferTooShort : goal.returns-in-BufferTooShort
returns-in-BufferTooShort c = sym (ap number c.in-BufferTooShort.is)

pub returns-in-TooManyStandings : goal.returns-in-TooManyStandings
returns-in-TooManyStandings c = sym (ap number c.in-TooManyStandings.is)

pub returns-in-TooManyStates : goal.returns-in-TooManyStates
returns-in-TooManyStates c = sym (ap number c.in-TooManyStates.is)

pub returns-in-BadAllowance : goal.returns-in-BadAllowance
returns-in-BadAllowance c = sym (ap number c.in-BadAllowance.is)

pub returns-in-TooManyPlaces : goal.returns-in-TooManyPlaces
returns-in-TooManyPlaces c = sym (ap number c.in-TooManyPlaces.is)

pub returns-in-TooManyPairs : goal.returns-in-TooManyPairs
returns-in-TooManyPairs c = sym (ap number c.in-TooManyPairs.is)

pub returns-in-BadRecordings : goal.returns-in-BadRecordings
returns-in-BadRecordings c = sym (ap number c.in-BadRecordings.is)

pub returns-in-BadTable : goal.returns-in-BadTable
returns-in-BadTable c = sym (ap number c.in-BadTable.is)

pub returns-in-BadStart : goal.returns-in-BadStart
returns-in-BadStart c = sym (ap number c.in-BadStart.is)

pub returns-in-NoExpression : goal.returns-in-NoExpression
returns-in-NoExpression c = sym (ap number c.in-NoExpression.is)
