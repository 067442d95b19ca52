-- The laws of rows (Rows): which places a row has, and how it stands in words.
use Rattle.std.specs.Prelude.{◌≡◌, ℕ, ◌+◌, ◌-◌, ◌*◌, ◌/◌, ◌%◌, ◌^◌, ◌<◌, ◌≤◌, ◌⊎◌, ◌↔◌, List, slice_index}
use Rattle.std.proofs.Common.{inl, inr, ap, ◌∙◌, subst, arith}
use Rattle.std.proofs.Math.Decide.{dec_lt}
use Rattle.std.proofs.Math.Pow.{field}
use Rattle.std.proofs.lemmas.Nat.{shl-shr}
use Rattle.theory.specs.Places.{Member, union}
use Rattle.theory.specs.PlacesLaws.{member_below, member_union, equal-members}
use Rattle.theory.specs.PlacesShift.{member-down, member-moved, member-cut}
use Rattle.places.specs.Words.{number_of, Words}
use Rattle.places.specs.WordsLaws.{member-number}
use Rattle.verdict.specs.Rows.{row_of}

pub member-row : (s at w o : ℕ) → Member o (row_of s at w) ↔ ((o < w) × Member (at + o) s)
member-row s at w o = (
  λ m. let (h, k) = (member-cut w o (s / 2 ^ at)).0 m in (h, (member-down at o s).0 k),
  λ (h, m). (member-cut w o (s / 2 ^ at)).1 (h, (member-down at o s).1 m),
)

-- A row in words: it lies in one word, or across two.

pub cut_word : (x w : ℕ) → w ≤ 64 → (x * 2 ^ (64 - w)) % 2 ^ 64 / 2 ^ (64 - w) ≡ x % 2 ^ w
cut_word x w h =
    let e : 64 ≡ w + (64 - w) = omega arith in
    ap (λ z. (x * 2 ^ (64 - w)) % 2 ^ z / 2 ^ (64 - w)) e ∙ field (x * 2 ^ (64 - w)) w (64 - w) ∙ ap (λ z. z % 2 ^ w) (shl-shr x (64 - w))

module _ (l : List ℕ) (words : Words l) (at w : ℕ) (small : w ≤ 64) where
  near : (i : ℕ) → at % 64 + i < 64 → Member (at + i) (number_of l) ↔ Member (at % 64 + i) (slice_index l (at / 64))
  near i h =
      let p : (at + i) % 64 ≡ at % 64 + i = omega arith in
      let q : (at + i) / 64 ≡ at / 64 = omega arith in
      rw (p, q) at (member-number l words (at + i))

  far : (i : ℕ) → 64 ≤ at % 64 + i → i < 64 → Member (at + i) (number_of l) ↔ Member (at % 64 + i - 64) (slice_index l (at / 64 + 1))
  far i h k =
      let p : (at + i) % 64 ≡ at % 64 + i - 64 = omega arith in
      let q : (at + i) / 64 ≡ at / 64 + 1 = omega arith in
      rw (p, q) at (member-number l words (at + i))

  pub row_here : at % 64 + w ≤ 64 → (slice_index l (at / 64) / 2 ^ (at % 64)) % 2 ^ w ≡ row_of (number_of l) at w
  row_here h = equal-members ((slice_index l (at / 64) / 2 ^ (at % 64)) % 2 ^ w) (row_of (number_of l) at w) λ i. (
    λ m.
        let (k, u) = (member-row (slice_index l (at / 64)) (at % 64) w i).0 m in
        (member-row (number_of l) at w i).1 (k, (near i (omega arith)).1 u),
    λ m.
        let (k, u) = (member-row (number_of l) at w i).0 m in
        (member-row (slice_index l (at / 64)) (at % 64) w i).1 (k, (near i (omega arith)).0 u),
  )

  pub row-across : 64 < at % 64 + w
      → union (slice_index l (at / 64) / 2 ^ (at % 64)) ((slice_index l (at / 64 + 1) * 2 ^ (64 - at % 64)) % 2 ^ 64) % 2 ^ w
      ≡ row_of (number_of l) at w
  row-across h = equal-members (union low high % 2 ^ w) (row_of (number_of l) at w) λ i. (
    λ m.
        let (k, u) = (member-cut w i (union low high)).0 m in
        (member-row (number_of l) at w i).1 (k, there i k ((member_union i low high).0 u)),
    λ m.
        let (k, u) = (member-row (number_of l) at w i).0 m in
        (member-cut w i (union low high)).1 (k, (member_union i low high).1 (back i k u (dec_lt (at % 64 + i) 64))),
  )
    where
      low : ℕ
      low = slice_index l (at / 64) / 2 ^ (at % 64)

      high : ℕ
      high = (slice_index l (at / 64 + 1) * 2 ^ (64 - at % 64)) % 2 ^ 64

      there : (i : ℕ) → i < w → Member i low ⊎ Member i high → Member (at + i) (number_of l)
      there i k (inl m) =
          let u = (member-down (at % 64) i (slice_index l (at / 64))).0 m in
          (near i (member_below 64 (slice_index l (at / 64)) (at % 64 + i) (words (at / 64)) u)).1 u
      there i k (inr m) =
          let t = ((member-cut 64 i (slice_index l (at / 64 + 1) * 2 ^ (64 - at % 64))).0 m).1 in
          let (x, e, u) = (member-moved (64 - at % 64) i (slice_index l (at / 64 + 1))).0 t in
          let f : x ≡ at % 64 + i - 64 = omega arith in
          (far i (omega arith) (omega arith)).1 (subst (λ z. Member z (slice_index l (at / 64 + 1))) f u)

      back : (i : ℕ) → i < w → Member (at + i) (number_of l) → Dec (at % 64 + i < 64) → Member i low ⊎ Member i high
      back i k m (yes d) = inl ((member-down (at % 64) i (slice_index l (at / 64))).1 ((near i d).0 m))
      back i k m (no d) =
          inr ((member-cut 64 i (slice_index l (at / 64 + 1) * 2 ^ (64 - at % 64))).1 (
            omega arith,
            (member-moved (64 - at % 64) i (slice_index l (at / 64 + 1))).1
                (at % 64 + i - 64, omega arith, (far i (omega arith) (omega arith)).0 m),
          ))
