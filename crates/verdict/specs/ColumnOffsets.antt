-- The offsets of the lists in tables (Tables, Columns): every offset but 0 is that of an occurrence of a list.
use Rattle.std.specs.Prelude.{◌≡◌, ℕ, zero, suc, ◌+◌, ◌-◌, ◌<◌, ◌≤◌, List, slice_index}
use Rattle.std.specs.Prelude.{refl}
use Rattle.std.proofs.Common.{ap}
use Rattle.std.proofs.Math.Decide.{dec_le}
use native.Mathlib.Omega.{arith}
use Rattle.verdict.specs.Tables.{occupied}
use Rattle.verdict.specs.TablesLaws.{occupied-more, occupied-grows}
use Rattle.verdict.specs.Columns.{offset_in}

-- The offset of the place o of a list, whose occurrences come after the offset `base`.
abbrev pub offset_from : ℕ → ℕ → ℕ
offset_from base zero = 0
offset_from base (suc o) = base + suc o

pub offset-none : (base o : ℕ) → o ≡ 0 → offset_from base o ≡ 0
offset-none base zero e = refl
offset-none base (suc o) e = absurd (omega arith)

pub offset-some : (base o : ℕ) → ¬ (o ≡ 0) → offset_from base o ≡ base + o
offset-some base zero d = absurd (d refl)
offset-some base (suc o) d = refl

pub offset-small : (base o size : ℕ) → o ≤ size → offset_from base o ≤ base + size
offset-small base zero size h = omega arith
offset-small base (suc o) size h = omega arith

module _ (sizes : List ℕ) where
  sized : (i j : ℕ) → i ≡ j → slice_index sizes i ≡ slice_index sizes j
  sized i j e = ap (λ z. slice_index sizes z) e

  -- The occurrences of the list v come after those of the lists before it.
  pub occupied-room : (v n : ℕ) → v < n → occupied sizes 0 v + slice_index sizes (v + 1) ≤ occupied sizes 0 n
  occupied-room v n h = omega (arith, occupied-more sizes v, occupied-grows sizes (v + 1) n (omega arith))

  -- The offset of a place of a list.
  pub offset-below : (v o n : ℕ) → v < n → o ≤ slice_index sizes (v + 1) → offset_in sizes v o < suc (occupied sizes 0 n)
  offset-below v zero n h k = omega arith
  offset-below v (suc o) n h k = omega (arith, occupied-room v n h)

  -- The occurrence at an offset, from the list u on.
  occurrence-from : (u n o : ℕ) → 0 < o → o ≤ occupied sizes u n
      → (v : ℕ) × (x : ℕ) × (v < n) × (suc x ≤ slice_index sizes (u + v + 1)) × (o ≡ occupied sizes u v + suc x)
  unfolding occupied
  occurrence-from u zero o h k = absurd (omega arith)
  occurrence-from u (suc n) o h k = side (dec_le o (slice_index sizes (u + 1))) (occurrence-from (u + 1) n (o - slice_index sizes (u + 1)))
    where
      side : Dec (o ≤ slice_index sizes (u + 1))
          → (0 < o - slice_index sizes (u + 1) → o - slice_index sizes (u + 1) ≤ occupied sizes (u + 1) n
          → (v : ℕ) × (x : ℕ) × (v < n) × (suc x ≤ slice_index sizes (u + 1 + v + 1))
          × (o - slice_index sizes (u + 1) ≡ occupied sizes (u + 1) v + suc x))
          → (v : ℕ) × (x : ℕ) × (v < suc n) × (suc x ≤ slice_index sizes (u + v + 1)) × (o ≡ occupied sizes u v + suc x)
      side (yes i) later = (0, o - 1, omega arith, omega (arith, sized (u + 0 + 1) (u + 1) (omega arith)), omega arith)
      side (no i) later =
          let (v, x, a, b, c) = later (omega arith) (omega arith) in
          (suc v, x, omega arith, omega (arith, sized (u + suc v + 1) (u + 1 + v + 1) (omega arith)), omega arith)

  pub occurrence-at : (n o : ℕ) → 0 < o → o ≤ occupied sizes 0 n
      → (v : ℕ) × (x : ℕ) × (v < n) × (suc x ≤ slice_index sizes (v + 1)) × (o ≡ occupied sizes 0 v + suc x)
  occurrence-at n o h k =
      let (v, x, a, b, c) = occurrence-from 0 n o h k in
      (v, x, a, omega (arith, sized (0 + v + 1) (v + 1) (omega arith)), c)
