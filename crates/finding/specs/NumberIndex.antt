-- An index (Buckets) of the numbers found by an exploration, of which none stands twice: 509 buckets, by the remainder. The first number,
-- the start, is not in it: the value number i of the index is the number found after i.
use Rattle.std.specs.Prelude.{◌≡◌, ℕ, ◌+◌, ◌-◌, ◌%◌, ◌<◌, List, slice_index, Option, Some, replicate}
use Rattle.finding.specs.declared.index.Index.{Index}
use Rattle.finding.specs.Buckets.{Chained}

abbrev pub bucket_of : ℕ → ℕ
bucket_of x = x % 509

abbrev pub number_after : List ℕ → ℕ → ℕ
number_after found i = slice_index found (i + 1)

-- The first n numbers are indexed, and distinct.
pub record Indexed (found : List ℕ) (n : ℕ) (heads nexts : List ℕ) : Type 0 where
  pub some : 0 < n
  pub chained : Chained bucket_of 509 255 (number_after found) (n - 1) heads nexts
  pub distinct : (i j : ℕ) → i < n → j < n → slice_index found i ≡ slice_index found j → i ≡ j

-- The index of no number but the start.
abbrev pub IsEmpty : Index → Type 0
IsEmpty i = (i.heads ≡ replicate 509 0) × (i.nexts ≡ replicate 255 0)

-- As many numbers as are told are indexed.
abbrev pub IndexedAll : (found heads nexts : List ℕ) → Option ℕ → Type 0
IndexedAll found heads nexts r = (m : ℕ) → r ≡ Some m → Indexed found m heads nexts
