-- What each state leads to tells what is reached from the first, and where a path of a list ends at a class, which is summed up.
use mathlib.Core.Bool.{false≢true}
use Rattle.verdict.specs.Prepared.{first-reached}
use Rattle.verdict.proofs.prepared.prepare_classes.Goals as goal

pub returns-then-not-passing : goal.returns-then-not-passing
returns-then-not-passing c = λ e. absurd (false≢true e)

pub class_sums-requires : goal.class_sums-requires
class_sums-requires c =
    let s = c in
    let p = c.passing.ensures c.if-not-passing.false in
    (s.requires.0, s.requires.1, s.requires.2, s.requires.5, c.passing.auto.passes, s.requires.6, s.requires.4, p.1, s.requires.7)

pub shape_of-ended : goal.shape_of-ended
shape_of-ended c = c.class_sums.auto.ended

pub returns : goal.returns
returns c =
    let s = c in
    let p = c.passing.ensures c.if-not-passing.false in
    λ e. (
      λ sizes classes ending. c.class_sums.ensures e sizes s.args.accepting.now classes ending p.0,
      first-reached s.requires.0 p.0 c.first_of.ensures,
      p.1,
    )
