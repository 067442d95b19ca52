-- The places of a set from a place on, the least of them by the trailing zeros of a word.
use Rattle.std.specs.Prelude.{ℕ, ◌+◌, ◌-◌, ◌/◌, ◌^◌, ◌≤◌, ◌<◌, ◌≢◌, ◌≡◌}
use Rattle.std.proofs.Common.{subst, arith}
use Rattle.std.specs.Int.Count.{count_trailing_zeros}
use Rattle.std.proofs.lemmas.Nat.{shr_le}
use Rattle.theory.specs.Places.{Member}
use Rattle.theory.specs.PlacesLaws.{member-none}
use Rattle.theory.specs.PlacesShift.{member-down}
use Rattle.places.specs.NextPlace.{trailing-here, trailing-passed}

module _ (s i : ℕ) where
  down : (k : ℕ) → i ≤ k → Member k s → Member (k - i) (s / 2 ^ i)
  down k h m =
      let e : k ≡ i + (k - i) = omega arith in
      (member-down i (k - i) s).1 (subst (λ z. Member z s) e m)

  pub none_from : s / 2 ^ i ≡ 0 → (k : ℕ) → i ≤ k → ¬ Member k s
  none_from z k h m = member-none (k - i) (subst (Member (k - i)) z (down k h m))

  pub least-passed : (k : ℕ) → i ≤ k → k < i + count_trailing_zeros 64 (s / 2 ^ i) → ¬ Member k s
  least-passed k h l m = trailing-passed 64 (s / 2 ^ i) (k - i) (omega arith) (down k h m)

  pub least-here : s < 2 ^ 64 → s / 2 ^ i ≢ 0 → Member (i + count_trailing_zeros 64 (s / 2 ^ i)) s
  least-here h d =
      (member-down i (count_trailing_zeros 64 (s / 2 ^ i)) s).0 (trailing-here 64 (s / 2 ^ i) d (omega (arith, h, shr_le s i)))
