-- The loop's invariant: what the set gained, with what it gains for the states left, is what it gains for all (AloneLeft).
use Rattle.std.specs.Prelude.{◌≡◌, ℕ, ◌*◌, ◌^◌, ◌<◌, length}
use Rattle.theory.specs.Places.{Member}
use Rattle.verdict.specs.WideRowsTurns.{AloneLeft}
use Rattle.verdict.proofs.wide_rows.put_alone.Given as goal

abbrev pub invariant-loop-t : goal.invariant-loop-t
invariant-loop-t l =
    (goal.iterator-loop-t).can_next l.t-iterator × (goal.iterator-loop-t).is_finite l.t-iterator × (l.t-iterator.rest < 2 ^ 64) × (length l.words ≡ 16) × ((t : ℕ) → Member t l.t-iterator.rest → l.w * t < 1024) × AloneLeft l.w l.alone l.initial.words l.words l.t-iterator.rest
