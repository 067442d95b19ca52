-- What each state leads to tells what is reached from the first, and where a path of a list ends, which is summed up.
use mathlib.Core.Bool.{false≢true}
use mathlib.Core.Path.{◌∙◌}
use native.Mathlib.Omega.{arith}
use Rattle.verdict.specs.Prepared.{first-reached}
use Rattle.verdict.specs.SumsLaws.{finishing-kept}
use Rattle.verdict.proofs.prepared.prepare_columns.Goals as goal

pub returns-then-not-passing : goal.returns-then-not-passing
returns-then-not-passing c = λ e. absurd (false≢true e)

pub returns-then-not-finishing : goal.returns-then-not-finishing
returns-then-not-finishing c = λ e. absurd (false≢true e)

pub sum_lists-requires : goal.sum_lists-requires
sum_lists-requires c =
    let s = c in
    (s.requires.2, s.requires.1, omega (arith, s.requires.5, c.finishing.auto.ended))

pub shape_of-ended : goal.shape_of-ended
shape_of-ended c = c.sum_lists.auto.ended ∙ c.finishing.auto.ended

pub returns : goal.returns
returns c = λ e.
    let s = c in
    let p = c.passing.ensures c.if-not-passing.false in
    let sums = c.sum_lists.ensures in (
      finishing-kept s.args.states s.args.lists _ _ _ _ s.requires.1 sums.1
          (c.finishing.ensures c.if-not-finishing.false _ p.0),
      sums.0,
      first-reached s.requires.0 p.0 c.first_of.ensures,
      p.1,
    )
