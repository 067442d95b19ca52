-- The loop's invariant: what the entries gained, with what they gain for the places left, is what they gain for the set (LedLeft).
use Rattle.std.specs.Prelude.{◌≡◌, ◌^◌, ◌<◌, length}
use Rattle.verdict.specs.LeadingTurns.{LedLeft}
use Rattle.verdict.proofs.leading.lead_from.Given as goal

abbrev pub invariant-loop-p : goal.invariant-loop-p
invariant-loop-p l =
    (goal.iterator-loop-p).can_next l.p-iterator × (goal.iterator-loop-p).is_finite l.p-iterator × (l.p-iterator.rest < 2 ^ 64) × (length l.before ≡ length l.initial.before) × LedLeft l.base l.o l.set l.initial.before l.before l.p-iterator.rest
