-- What the code that merges states is lent: a complete table of states over lists, with its flags, and zeros in all that is not used.
use Rattle.std.specs.Prelude.{◌≡◌, ℕ, ◌+◌, ◌*◌, ◌<◌, ◌≤◌, ◌⊎◌, List, length, slice_index}
use Rattle.std.proofs.Common.{⊎_elim, arith}
use Rattle.theory.specs.Deterministic.{Complete}
use Rattle.finding.specs.Find.{deterministic}

-- The row of the state s: its next states for the lists.
pub record RowLent (lists : ℕ) (table : List ℕ) (s : ℕ) : Type 0 where
  pub few : lists ≤ 16
  pub state : s < 256
  pub room : 4096 ≤ length table
  pub next : (v : ℕ) → v < lists → slice_index table (16 * s + v) < 256

-- All rows, as those of a complete table.
pub record RowsLent (states lists : ℕ) (table : List ℕ) : Type 0 where
  pub some : 0 < states
  pub most : states ≤ 256
  pub few : lists ≤ 16
  pub room : 4096 ≤ length table
  pub next : (s v : ℕ) → s < states → v < lists → slice_index table (16 * s + v) < states

pub row-lent : {states lists : ℕ} {table : List ℕ} → RowsLent states lists table → (s : ℕ) → s < states → RowLent lists table s
row-lent L s h =
    record {
      few = L.few;
      state = omega (arith, L.most);
      room = L.room;
      next = λ v k. omega (arith, L.next s v h k, L.most);
    }

pub record TableLent (states lists : ℕ) (table flags : List ℕ) : Type 0 where
  pub rows : RowsLent states lists table
  pub flags-room : 256 ≤ length flags
  pub flag : (s : ℕ) → s < states → (slice_index flags s ≡ 0) ⊎ (slice_index flags s ≡ 1)
  pub unused : (s v : ℕ) → s < states → lists ≤ v → v < 16 → slice_index table (16 * s + v) ≡ 0
  pub behind : (i : ℕ) → 16 * states ≤ i → i < 4096 → slice_index table i ≡ 0
  pub flags-behind : (i : ℕ) → states ≤ i → i < 256 → slice_index flags i ≡ 0

-- What the code that refines classes is lent: the rows, with a flag for each state.
pub record StatesLent (states lists : ℕ) (table flags : List ℕ) : Type 0 where
  pub rows : RowsLent states lists table
  pub flags-room : 256 ≤ length flags
  pub flag : (s : ℕ) → s < states → slice_index flags s ≤ 1

pub states-lent : {states lists : ℕ} {table flags : List ℕ} → TableLent states lists table flags → StatesLent states lists table flags
states-lent T = record { rows = T.rows; flags-room = T.flags-room; flag = λ s h. ⊎_elim (λ e. omega arith) (λ e. omega arith) (T.flag s h) }

pub rows-complete : {states lists : ℕ} {table : List ℕ} (flags : List ℕ) → RowsLent states lists table
    → Complete (deterministic states lists table flags)
rows-complete flags L = record { start = L.some; next = L.next }
