-- Where there is room, what each state leads to tells what is reached from the first.
use mathlib.Core.Bool.{false≢true}
use native.Mathlib.Omega.{arith}
use Rattle.verdict.specs.Prepared.{first-reached}
use Rattle.verdict.proofs.prepared.prepare_ranges.Goals as goal

pub returns-then-states-gt256 : goal.returns-then-states-gt256
returns-then-states-gt256 c = λ e. absurd (false≢true e)

pub returns-then-reached-states : goal.returns-then-reached-states
returns-then-reached-states c = λ e. absurd (false≢true e)

pub returns-then-not-passing : goal.returns-then-not-passing
returns-then-not-passing c = λ e. absurd (false≢true e)

pub returns : goal.returns
returns c = λ e.
    let p = c.passing.ensures c.if-not-passing.false in
    (p.0, first-reached c.requires.0 p.0 c.first_of.ensures, p.1, omega (arith, c.passing.auto.passes, c.if-reached-states.false))
