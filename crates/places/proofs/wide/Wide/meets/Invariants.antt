-- The loop's invariant: the first i words have no place in common.
use Prim.Native.Nat.{ℕ, ◌<◌}
use mathlib.Core.Path.{◌≡◌}
use lib.ListN.{get_or}
use Rattle.theory.specs.Places.{intersection}
use Rattle.places.proofs.wide.Wide.meets.Given as goal

abbrev pub invariant-loop-i : goal.invariant-loop-i
invariant-loop-i l = (k : ℕ) → k < l.i → intersection (get_or l.words k 0) (get_or l.others k 0) ≡ 0
