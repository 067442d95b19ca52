-- Where the links that leave a recording begin: in a table sorted by the recordings that its triples leave, they stand together.
use Rattle.std.specs.Prelude.{◌≡◌, ℕ, ◌+◌, ◌*◌, ◌/◌, ◌<◌, ◌≤◌, length, slice_index}
use Rattle.std.proofs.Common.{inl, inr, arith}
use Rattle.std.proofs.Math.Decide.{dec_lt}
use Rattle.theory.specs.Graph.{Table}
use Rattle.answering.specs.Table.{Rises, IsTable}
use Rattle.answering.specs.TableLaws.{table-rises}

-- The recording that the triple number i leaves.
abbrev pub leaves : Table → ℕ → ℕ
leaves t i = slice_index t (3 * i)

-- The triples are sorted by the recordings that they leave.
abbrev pub SortedByFrom : Table → Type 0
SortedByFrom t = (i j : ℕ) → i ≤ j → 3 * j + 2 < length t → leaves t i ≤ leaves t j

-- The number r of the first triple that leaves x, where one does.
pub record FirstLink (t : Table) (x r : ℕ) : Type 0 where
  pub within : r ≤ length t / 3
  pub before : (i : ℕ) → i < r → ¬ (leaves t i ≡ x)
  pub there : (i : ℕ) → i < length t / 3 → leaves t i ≡ x → leaves t r ≡ x

-- The symbol of each triple is below k, and the recordings that it leaves and leads to are below N.
pub record InRange (k N : ℕ) (t : Table) : Type 0 where
  pub from : (i : ℕ) → i < length t / 3 → leaves t i < N
  pub label : (i : ℕ) → i < length t / 3 → slice_index t (3 * i + 1) < k
  pub end : (i : ℕ) → i < length t / 3 → slice_index t (3 * i + 2) < N

-- The triples of a table are sorted by the recordings that they leave.
from-rises : {x a y u b v : ℕ} → Rises x a y u b v → x ≤ u
from-rises (inl h) = omega arith
from-rises (inr (e, h)) = omega arith

pub table-sorted : {N k : ℕ} {t : Table} → IsTable N k t → SortedByFrom t
table-sorted {t = t} h i j l b = go (dec_lt i j)
  where
    go : Dec (i < j) → slice_index t (3 * i) ≤ slice_index t (3 * j)
    go (yes m) = from-rises (table-rises h i j m b)
    go (no m) = let e : i ≡ j = omega arith in rw e (omega arith)
