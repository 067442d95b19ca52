-- One set of places within another, and the places of one set that are not in another.
use Rattle.std.specs.Prelude.{ℕ, zero, suc, ◌/◌, ◌%◌, ◌^◌, ◌≤◌, ◌<◌, min, ◌↔◌, ◌⊎◌, ◌≡◌, refl}
use Rattle.std.proofs.Common.{inl, inr, sym, ap, ◌∙◌, arith}
use Rattle.std.specs.Int.Bits.{bit_and, bit_xor, differ, xor_step, and_step, or_add_and}
use Rattle.std.proofs.lemmas.Nat.{xor_shr, and_shr, and_le_r}
use Rattle.theory.specs.Places.{Member, union}
use Rattle.theory.specs.PlacesLaws.{member_union, equal-members}

-- One set within another.

pub within-at-most : (s t : ℕ) → ((x : ℕ) → Member x s → Member x t) → s ≤ t
within-at-most s t h = omega (arith, or_add_and s t, and_le_r s t, joined)
  where
    back : (x : ℕ) → Member x s ⊎ Member x t → Member x t
    back x (inl m) = h x m
    back x (inr m) = m

    joined : union s t ≡ t
    joined = equal-members (union s t) t (λ x. (λ m. back x ((member_union x s t).0 m), λ m. (member_union x s t).1 (inr m)))

-- The places of s that are not in t.

differ-small : (u v : ℕ) → u < 2 → v < 2 → differ u v < 2
differ-small zero v h l = l
differ-small (suc u) zero h l = h
differ-small (suc u) (suc v) h l = differ-small u v (omega arith) (omega arith)

xor-bit : (i s t : ℕ) → bit_xor s t / 2 ^ i % 2 ≡ differ (s / 2 ^ i % 2) (t / 2 ^ i % 2)
xor-bit i s t = ap (λ (x : ℕ). x % 2) (xor_shr s t i) ∙ odd (s / 2 ^ i) (t / 2 ^ i)
  where
    odd : (a b : ℕ) → bit_xor a b % 2 ≡ differ (a % 2) (b % 2)
    odd a b = let h : differ (a % 2) (b % 2) < 2 = differ-small (a % 2) (b % 2) (omega arith) (omega arith) in omega (arith, xor_step a b)

differ-exactly : (u v b : ℕ) → u < 2 → v < 2 → b ≡ min u v → (differ u b ≡ 1) ↔ ((u ≡ 1) × ¬ (v ≡ 1))
differ-exactly zero v b h l e = (λ d. absurd (omega arith), λ d. absurd (omega arith))
differ-exactly (suc zero) v zero h l e = (λ d. (refl, λ z. absurd (omega arith)), λ d. refl)
differ-exactly (suc zero) v (suc b) h l e = (λ d. absurd (omega arith), λ d. absurd (d.1 (omega arith)))
differ-exactly (suc (suc u)) v b h l e = absurd (omega arith)

pub member-without : (s t x : ℕ) → Member x (bit_xor s (bit_and s t)) ↔ (Member x s × ¬ Member x t)
member-without s t x =
    let r = differ-exactly (s / 2 ^ x % 2) (t / 2 ^ x % 2) (bit_and s t / 2 ^ x % 2) (omega arith) (omega arith) low in
    (λ m. r.0 (sym (xor-bit x s (bit_and s t)) ∙ m), λ m. xor-bit x s (bit_and s t) ∙ r.1 m)
  where
    odd : (a b : ℕ) → bit_and a b % 2 ≡ min (a % 2) (b % 2)
    odd a b = omega (arith, and_step a b)

    low : bit_and s t / 2 ^ x % 2 ≡ min (s / 2 ^ x % 2) (t / 2 ^ x % 2)
    low = ap (λ (z : ℕ). z % 2) (and_shr s t x) ∙ odd (s / 2 ^ x) (t / 2 ^ x)
