-- The code is the definition.
use Rattle.finding.specs.States.{state_accepts}
use borrow.Author.Rules.{rules}
use Rattle.finding.proofs.flags.state_accepts.Goals as goal

pub returns : goal.returns
unfolding state_accepts
returns c = search rules
