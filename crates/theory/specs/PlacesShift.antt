-- Sets of places moved and cut (Places): s * 2 ^ t holds the places of s moved up by t, s / 2 ^ t the places of s from t on moved down by
-- t, and s % 2 ^ w the places of s below w.
use Rattle.std.specs.Prelude.{ℕ, zero, suc, ◌+◌, ◌*◌, ◌-◌, ◌/◌, ◌%◌, ◌^◌, ◌≤◌, ◌<◌, ◌↔◌, ◌≡◌}
use Rattle.std.proofs.Common.{sym, ap, ◌∙◌, subst, mod-lt, arith, pow_pos, shr-shr}
use Rattle.std.specs.Int.Bits.{shifted_half, shifted_even}
use Rattle.std.proofs.lemmas.Nat.{shl-shr}
use Rattle.std.proofs.Math.Pow.{field, mod-mod-pow}
use Rattle.theory.specs.Places.{Member}
use Rattle.theory.specs.PlacesLaws.{member-zero, member-suc, member_below}

pub member-down : (t i s : ℕ) → Member i (s / 2 ^ t) ↔ Member (t + i) s
member-down t i s = (λ m. rw (shr-shr s t i) at m, λ m. rw (shr-shr s t i) m)

pub member-up : (t i s : ℕ) → Member (t + i) (s * 2 ^ t) ↔ Member i s
member-up t i s = (λ m. rw (shl-shr s t) at ((member-down t i (s * 2 ^ t)).1 m), λ m. (member-down t i (s * 2 ^ t)).0 (rw (shl-shr s t) m))

-- A set moved up by t has no place below t.
pub member-up-from : (t i s : ℕ) → Member i (s * 2 ^ t) → t ≤ i
member-up-from zero i s m = omega arith
member-up-from (suc t) zero s m = absurd (omega (arith, (member-zero (s * 2 ^ suc t)).0 m, shifted_even s t))
member-up-from (suc t) (suc i) s m =
    omega (arith, member-up-from t i s (rw (shifted_half s t) at ((member-suc i (s * 2 ^ suc t)).0 m)))

-- The places of a set moved up.
pub member-moved : (t i s : ℕ) → Member i (s * 2 ^ t) ↔ ((x : ℕ) × (i ≡ t + x) × Member x s)
member-moved t i s = (there, λ (x, e, m). rw e ((member-up t x s).1 m))
  where
    there : Member i (s * 2 ^ t) → (x : ℕ) × (i ≡ t + x) × Member x s
    there m =
        let h : t ≤ i = member-up-from t i s m in
        let e : i ≡ t + (i - t) = omega arith in
        (i - t, e, (member-up t (i - t) s).0 (subst (λ z. Member z (s * 2 ^ t)) e m))

-- The lowest digit is untouched by a cut above it.
cut-bit : (w i s : ℕ) → i < w → s % 2 ^ w / 2 ^ i % 2 ≡ s / 2 ^ i % 2
cut-bit w i s h =
    let e : w ≡ (w - suc i) + 1 + i = omega arith in
    ap (λ z. s % 2 ^ z / 2 ^ i % 2) e ∙ ap (λ z. z % 2) (field s ((w - suc i) + 1) i) ∙ mod-mod-pow (s / 2 ^ i) (w - suc i) 1

-- The places of a set cut at w.
pub member-cut : (w i s : ℕ) → Member i (s % 2 ^ w) ↔ ((i < w) × Member i s)
member-cut w i s = (
  λ m. let h = member_below w (s % 2 ^ w) i (mod-lt s (pow_pos w)) m in (h, sym (cut-bit w i s h) ∙ m),
  λ (h, m). cut-bit w i s h ∙ m,
)
