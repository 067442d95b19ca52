-- Cover sets by columns, where there are at most 64 states: the column of an offset is the set of the states that have a place with this
-- offset in the set. What is prepared for steps by columns, and what a step promises.
use Rattle.std.specs.Prelude.{◌≡◌, ℕ, zero, suc, ◌+◌, ◌*◌, ◌/◌, ◌%◌, ◌^◌, ◌<◌, ◌≤◌, ◌↔◌, List, slice_index}
use Rattle.theory.specs.Places.{Member}
use Rattle.theory.specs.Closure.{Reaches}
use Rattle.verdict.specs.Tables.{occupied}

-- The offset of the place o of the list v: its start is the state alone, an occurrence comes after those of the lists before.
abbrev pub offset_in : List ℕ → ℕ → ℕ → ℕ
offset_in sizes v zero = 0
offset_in sizes v (suc o) = occupied sizes 0 v + suc o

-- The first w columns have states below `states` alone.
abbrev pub StatesWithin : ℕ → ℕ → List ℕ → Type 0
StatesWithin w states columns = (q o : ℕ) → o < w → Member q (slice_index columns o) → q < states

-- The columns of the cover set C; `column` gives that of each offset.
pub record ColumnsOf (w states C : ℕ) (column : ℕ → ℕ) : Type 0 where
  pub exact : (q o : ℕ) → q < states → o < w → Member q (column o) ↔ Member (w * q + o) C
  pub within : (q o : ℕ) → o < w → Member q (column o) → q < states

-- The set C of columns, which has no other places; `next` gives the column of each offset.
pub record SetOf (w states : ℕ) (next : ℕ → ℕ) (C : ℕ) : Type 0 where
  pub exact : (q o : ℕ) → q < states → o < w → Member q (next o) ↔ Member (w * q + o) C
  pub within : (q o : ℕ) → o < w → Member q (next o) → q < states
  pub below : C < 2 ^ (states * w)

-- The entry 64 × v + p has places of the list v alone.
abbrev pub PlacesWithin : ℕ → List ℕ → List ℕ → Type 0
PlacesWithin n sizes before = (v o p : ℕ) → v < n → p ≤ 63 → Member o (slice_index before (64 * v + p)) → o ≤ slice_index sizes (v + 1)

-- It has the places of the list v that lead to its place p; the start is led to from none.
pub record Leading (n : ℕ) (follow sizes before : List ℕ) : Type 0 where
  pub exact : (v o p : ℕ) → v < n → o ≤ slice_index sizes (v + 1) → p ≤ 63
      → Member o (slice_index before (64 * v + p)) ↔ Member p (slice_index follow (64 * (v + 1) + o))
  pub within : PlacesWithin n sizes before
  pub no_start : (v o : ℕ) → v < n → o ≤ slice_index sizes (v + 1) → ¬ Member 0 (slice_index follow (64 * (v + 1) + o))

-- One list with the empty path leads from the state q to the state t.
abbrev pub Passes : ℕ → List ℕ → List ℕ → ℕ → ℕ → Type 0
Passes n accepting table q t = (v : ℕ) × (v < n) × Member 0 (slice_index accepting (v + 1)) × (t ≡ slice_index table (16 * q + v))

-- Each next state is one of the states.
abbrev pub NextBelow : ℕ → ℕ → List ℕ → Type 0
NextBelow states n table = (q v : ℕ) → q < states → v < n → slice_index table (16 * q + v) < states

-- The state t is in the k words of the state q.
abbrev pub LeadsIn : ℕ → List ℕ → ℕ → ℕ → Type 0
LeadsIn k passes q t = (t / 64 < k) × Member (t % 64) (slice_index passes (k * q + t / 64))

-- The k words at k × state have the states that lists with the empty path lead to from that state.
pub record Passing (k states n : ℕ) (accepting table passes : List ℕ) : Type 0 where
  pub exact : (q t : ℕ) → q < states → LeadsIn k passes q t ↔ Reaches (Passes n accepting table) q t
  pub within : (q t : ℕ) → q < states → LeadsIn k passes q t → t < states

-- The entry 64 × v + q has states below `states` alone.
abbrev pub EndedWithin : ℕ → ℕ → List ℕ → Type 0
EndedWithin states n ended = (q v t : ℕ) → q < states → v < n → Member t (slice_index ended (64 * v + q)) → t < states

-- It has the states that are reached from the state q where a path of the list v ends.
pub record Finishing (states n : ℕ) (accepting table ended : List ℕ) : Type 0 where
  pub exact : (q v t : ℕ) → q < states → v < n
      → Member t (slice_index ended (64 * v + q)) ↔ Reaches (Passes n accepting table) (slice_index table (16 * q + v)) t
  pub within : EndedWithin states n ended

-- The columns after a step over the label a: the occurrences that it leads to, and the states alone where paths of lists end. `next` gives
-- the column of each offset.
pub record Stepped (n a : ℕ) (enter sizes accepting before ended columns : List ℕ) (next : ℕ → ℕ) : Type 0 where
  pub moved : (v p q : ℕ) → v < n → 0 < p → p ≤ slice_index sizes (v + 1)
      → Member q (next (occupied sizes 0 v + p))
      ↔ (Member p (slice_index enter (32 * (v + 1) + a))
      × ((o : ℕ) × Member o (slice_index before (64 * v + p)) × Member q (slice_index columns (offset_in sizes v o))))
  pub alone : (t : ℕ) → Member t (next 0)
      ↔ ((v : ℕ) × (p : ℕ) × (q : ℕ) × (v < n) × (0 < p) × (p ≤ slice_index sizes (v + 1)) × Member p (slice_index accepting (v + 1))
      × Member q (next (occupied sizes 0 v + p)) × Member t (slice_index ended (64 * v + q)))
