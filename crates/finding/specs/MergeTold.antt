-- What the code that merges states promises: the lent table and flags become those of the smallest table that accepts the same words.
use Rattle.std.specs.Prelude.{◌≡◌, ℕ, ◌+◌, ◌*◌, ◌%◌, ◌<◌, ◌≤◌, List, length, slice_index}
use Rattle.theory.specs.Leaders.{leaders}
use Rattle.theory.specs.Refinement.{class_at}
use Rattle.theory.specs.Minimized.{class_number, first_member, minimized}
use Rattle.finding.specs.Find.{deterministic, table_of, flags_of}
use Rattle.finding.specs.Named.{table_part, flags_part, written}

-- The classes are numbered by their first states; r of them.
pub record ClassNumbers (classes : List ℕ) (states : ℕ) (numbers' : List ℕ) (r : ℕ) : Type 0 where
  pub sized : length numbers' ≡ 256
  pub count : r ≡ leaders (class_at classes) states
  pub at : (s : ℕ) → s < states → slice_index numbers' s ≡ class_number (class_at classes) s

-- The row k gets the numbers of the next states of s; nothing else changes.
pub record RowPut (table : List ℕ) (lists : ℕ) (numbers : List ℕ) (s k : ℕ) (table' : List ℕ) : Type 0 where
  pub sized : length table' ≡ length table
  pub put : (v : ℕ) → v < lists → slice_index table' (16 * k + v) ≡ slice_index numbers (slice_index table (16 * s + v))
  pub elsewhere : (i : ℕ) → ((v : ℕ) → v < lists → ¬ (i ≡ 16 * k + v)) → slice_index table' i ≡ slice_index table i

-- Each class has the row and the flag of its first state, by the numbers of classes; rows of states that are no more may hold anything.
pub record ClassesPut (table flags : List ℕ) (lists states : ℕ) (classes table' flags' : List ℕ) : Type 0 where
  pub table-sized : length table' ≡ length table
  pub flags-sized : length flags' ≡ length flags
  pub next : (k v : ℕ) → k < leaders (class_at classes) states → v < lists
      → slice_index table' (16 * k + v)
      ≡ class_number (class_at classes) (slice_index table (16 * first_member (class_at classes) states k + v))
  pub flag : (k : ℕ) → k < leaders (class_at classes) states → slice_index flags' k ≡ slice_index flags (first_member (class_at classes) states k)
  pub unused : (i : ℕ) → lists ≤ i % 16 → slice_index table' i ≡ slice_index table i
  pub behind : (i : ℕ) → 16 * states ≤ i → slice_index table' i ≡ slice_index table i
  pub flags-behind : (i : ℕ) → states ≤ i → slice_index flags' i ≡ slice_index flags i

-- What is left of the named parts, and the number of states.
pub record MergeTold (table flags : List ℕ) (lists states : ℕ) (table' flags' : List ℕ) (r : ℕ) : Type 0 where
  pub count : r ≡ (minimized (deterministic states lists table flags)).states
  pub next : table' ≡ written table_part (table_of (minimized (deterministic states lists table flags))) table
  pub flag : flags' ≡ written flags_part (flags_of (minimized (deterministic states lists table flags))) flags
