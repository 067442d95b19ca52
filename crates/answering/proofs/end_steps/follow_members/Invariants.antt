-- `follow_members` meets its contract. The loop's invariant: the links over the symbols before `a` have been followed.
use Rattle.answering.specs.EndStepsLaws.{FollowedBelow}
use Rattle.answering.proofs.end_steps.follow_members.Given as goal

abbrev pub invariant-loop-a : goal.invariant-loop-a
invariant-loop-a l =
    FollowedBelow l.a l.turned.rows.now l.turned.sizes.symbols l.turned.sizes.recordings l.turned.ends.now l.from l.set l.s l.initial.sets l.sets
