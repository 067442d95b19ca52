-- How long the lines of the printed form are, for names of at most 16 bytes.
use Prim.Native.Nat.{ℕ, zero, suc, ◌+◌, ◌*◌, ◌^◌, ◌≤◌, ◌<◌}
use mathlib.Core.List.{List, [], ◌∷◌, ◌++◌}
use Rattle.std.specs.Prelude.{◌≡◌, length, get_or}
use Rattle.std.proofs.Common.{ap}
use Rattle.std.proofs.Math.Decide.{dec_lt}
use native.Mathlib.Omega.{arith}
use Rattle.std.proofs.Math.ListN.{length-append, get_or-eq_default}
use Rattle.syntax.specs.declared.refusal.Refusal.{Refusal}
use Rattle.syntax.specs.Byte.{Bytes}
use Rattle.syntax.specs.Number.{number}
use Rattle.reading.specs.Text.{newline, space, line}
use Rattle.reading.specs.ReadFacts.{ShortNames}
use Rattle.syntax.specs.NumberLaws.{number-few}
use Rattle.finding.specs.Find.{row_width}
use Rattle.output.specs.Decimal.{decimal}
use Rattle.output.specs.DecimalLaws.{decimal-length}
use Rattle.printing.specs.Lines.{refused_word, line_word, in_line, refusal_line, count_line}
use Rattle.printing.specs.Lines.{spelled, named_line, sign, nexts, row, rows}

pub line-length : (s : Bytes) → length (line s) ≡ suc (length s)
line-length s = omega (arith, length-append s (newline ∷ []))

place-length : (m : ℕ) → m < 10000 → length (in_line m) ≤ 10
unfolding in_line
place-length zero h = omega arith
place-length (suc m) h = omega (arith, length-append line_word (decimal (suc m)), decimal-length 3 (suc m) h)

-- `refused 17 line 9999`
pub refusal-length : (r : Refusal) (m : ℕ) → m < 10000 → length (refusal_line r m) ≤ 21
unfolding refusal_line
refusal-length r m h =
    let place : Bytes = in_line m in
    let told : Bytes = decimal (number r) ++ place in
    omega (
      arith,
      line-length (refused_word ++ told),
      length-append refused_word told,
      length-append (decimal (number r)) place,
      decimal-length 1 (number r) (omega (arith, number-few r)),
      place-length m h,
    )

pub count-length : (k : ℕ) (word : Bytes) (n : ℕ) → n < 10 ^ suc k → length (count_line word n) ≤ length word + k + 2
unfolding count_line
count-length k word n h = omega (arith, line-length (word ++ decimal n), length-append word (decimal n), decimal-length k n h)

-- Names, each after a space.
module _ (names : List Bytes) (short : ShortNames names) where
  name-length : (i : ℕ) → length (get_or names i []) ≤ 16
  name-length i = by (dec_lt i (length names))
    where
      by : Dec (i < length names) → length (get_or names i []) ≤ 16
      by (yes h) = short i h
      by (no h) = omega (arith, ap length (get_or-eq_default names [] {n = i} (omega arith)))

  spelled-length : (l : List ℕ) → length (spelled names l) ≤ 17 * length l
  unfolding spelled
  spelled-length [] = omega arith
  spelled-length (i ∷ l) = omega (arith, length-append (get_or names i []) (spelled names l), name-length i, spelled-length l)

  pub named-length : (word : Bytes) (l : List ℕ) → length (named_line word names l) ≤ length word + 17 * length l + 1
  unfolding named_line
  named-length word l = omega (arith, line-length (word ++ spelled names l), length-append word (spelled names l), spelled-length l)

-- At most 16 next states of at most three digits: a row has at most 70 bytes.
module _ (table flags : List ℕ) (small : (i : ℕ) → get_or table i 0 < 1000) (k : ℕ) (few : k ≤ 16) where
  nexts-length : (s n v : ℕ) → length (nexts table s n v) ≤ 4 * n
  unfolding nexts
  nexts-length s zero v = omega arith
  nexts-length s (suc n) v =
      let next : Bytes = decimal (get_or table (row_width * s + v) 0) in
      omega (arith, length-append next (nexts table s n (suc v)), decimal-length 2 _ (small (row_width * s + v)), nexts-length s n (suc v))

  row-length : (s : ℕ) → s < 1000 → length (row table flags k s) ≤ 70
  unfolding row
  row-length s h =
      let rest : Bytes = space ∷ (sign (get_or flags s 0) ∷ nexts table s k 0) in
      omega (arith, line-length (decimal s ++ rest), length-append (decimal s) rest, decimal-length 2 s h, nexts-length s k 0)

  pub rows-length : (n s : ℕ) → s + n ≤ 1000 → length (rows table flags k n s) ≤ 70 * n
  unfolding rows
  rows-length zero s h = omega arith
  rows-length (suc n) s h =
      omega (arith, length-append (row table flags k s) (rows table flags k n (suc s)), row-length s (omega arith), rows-length n (suc s) (omega arith))
