-- `alone` meets its contract: without its least state nothing is left of the set.
use Rattle.answering.specs.WordsPending.{alone-least}
use mathlib.Core.Bool.{false≢true}
use native.Mathlib.Omega.{arith}
use borrow.Author.Tests.{eqb-true}
use Rattle.answering.proofs.word_search.alone.Goals as goal

pub returns-then-states-eq0 : goal.returns-then-states-eq0
returns-then-states-eq0 c = record { only = λ e. absurd (false≢true e) }

pub returns : goal.returns
returns c = record { only = λ e. alone-least c.args.states c.if-states-eq0.false (omega arith) (eqb-true _ _ e) }
