-- Cover sets by rows of two words, where there are more than 64 and at most 128 offsets: the row of a state is the set of the offsets that
-- its places have, the first word having the first 64 of them. What is prepared for steps by such rows, and what a step promises.
use Rattle.std.specs.Prelude.{◌≡◌, ℕ, zero, suc, ◌+◌, ◌*◌, ◌/◌, ◌%◌, ◌<◌, ◌≤◌, ◌≢◌, ◌⊎◌, ◌↔◌, List, slice_index}
use Rattle.theory.specs.Places.{Member}
use Rattle.places.specs.Words.{number_of}
use Rattle.verdict.specs.Tables.{occupied}
use Rattle.verdict.specs.Columns.{offset_in}

-- Of two words, the first where k is 0, else the second.
abbrev pub word_of : ℕ → ℕ → ℕ → ℕ
word_of low high zero = low
word_of low high (suc k) = high

-- The offset y is in the row of two words.
pub record Has (low high y : ℕ) : Type 0 where
  pub below : y < 128
  pub bit : Member (y % 64) (word_of low high (y / 64))

-- It is in the row whose words stand at i and after it.
abbrev pub InPair : List ℕ → ℕ → ℕ → Type 0
InPair rows i y = Has (slice_index rows i) (slice_index rows (i + 1)) y

-- The row at i gains the offsets that are `New`, and nothing else is changed.
pub record Gained (i : ℕ) (New : ℕ → Type 0) (rows rows' : List ℕ) : Type 0 where
  pub here : (y : ℕ) → InPair rows' i y ↔ (InPair rows i y ⊎ New y)
  pub others : (j : ℕ) → j ≢ i → j ≢ i + 1 → slice_index rows' j ≡ slice_index rows j

-- The offset y is that of an occurrence in the set s of places of a list, which has `size` occurrences after the offset `base`.
abbrev pub OccursAt : ℕ → ℕ → ℕ → ℕ → Type 0
OccursAt size base s y = (p : ℕ) × (0 < p) × (p ≤ size) × (y ≡ base + p) × Member p s

-- The same of the list v.
abbrev pub OccursIn : List ℕ → ℕ → ℕ → ℕ → Type 0
OccursIn sizes v s y = OccursAt (slice_index sizes (v + 1)) (occupied sizes 0 v) s y

-- The offset y can come next from the offset x, over some label.
abbrev pub ComesNext : ℕ → List ℕ → List ℕ → ℕ → ℕ → Type 0
ComesNext n follow sizes x y = (v : ℕ) × (o : ℕ) × (v < n) × (o ≤ slice_index sizes (v + 1)) × (x ≡ offset_in sizes v o)
    × OccursIn sizes v (slice_index follow (64 * (v + 1) + o)) y

-- What steps need: at 2 × offset the offsets that can come next, at 256 + 2 × label those that a label enters, at 320 + 2 × list those at
-- which a path of a list may end. The start never comes next.
pub record RowsPrepared (n : ℕ) (follow enter sizes accepting rows : List ℕ) : Type 0 where
  pub steps : (x y : ℕ) → x < 128 → InPair rows (2 * x) y ↔ ComesNext n follow sizes x y
  pub enters : (a y : ℕ) → a < 32
      → InPair rows (256 + 2 * a) y ↔ ((v : ℕ) × (v < n) × OccursIn sizes v (slice_index enter (32 * (v + 1) + a)) y)
  pub ends : (v y : ℕ) → v < n → InPair rows (320 + 2 * v) y ↔ OccursIn sizes v (slice_index accepting (v + 1)) y
  pub no_start : (v o : ℕ) → v < n → o ≤ slice_index sizes (v + 1) → ¬ Member 0 (slice_index follow (64 * (v + 1) + o))

-- The offset y comes next from an offset in the word `part`, whose first offset has its row at `first`.
abbrev pub Follows : List ℕ → ℕ → ℕ → ℕ → Type 0
Follows rows part first y = (o : ℕ) × Member o part × InPair rows (first + 2 * o) y

-- At 2 × state, the offsets that can come next from those of the state in the set s.
pub record RowsLaid (w states : ℕ) (rows : List ℕ) (s : ℕ) (laid : List ℕ) : Type 0 where
  pub exact : (q y : ℕ) → q < states
      → InPair laid (2 * q) y ↔ ((o : ℕ) × (o < w) × Member (w * q + o) s × InPair rows (2 * o) y)

-- They are occurrences, none is the state alone.
abbrev pub LaidWithin : ℕ → ℕ → List ℕ → Type 0
LaidWithin w states laid = (q y : ℕ) → q < states → InPair laid (2 * q) y → (0 < y) × (y < w)

-- The label a enters the offset y, which comes next in the state q.
abbrev pub Steps : ℕ → List ℕ → List ℕ → ℕ → ℕ → Type 0
Steps a rows laid q y = InPair laid (2 * q) y × InPair rows (256 + 2 * a) y

-- The state t is reached from the state q where a path of a list ends at an offset that is `At`.
abbrev pub Ends : ℕ → List ℕ → List ℕ → ℕ → (ℕ → Type 0) → ℕ → Type 0
Ends n rows ended q At t =
    (v : ℕ) × (y : ℕ) × (v < n) × At y × InPair rows (320 + 2 * v) y × Member t (slice_index ended (64 * v + q))

-- The set r after the step over the label a: the occurrences that it leads to, and the states alone where paths of lists end.
pub record RowsStepped (w states n a : ℕ) (rows ended laid : List ℕ) (r : ℕ) : Type 0 where
  pub exact : (i : ℕ) → Member i r
      ↔ (((q : ℕ) × (y : ℕ) × (q < states) × Steps a rows laid q y × (i ≡ w * q + y))
      ⊎ ((q : ℕ) × (t : ℕ) × (q < states) × Ends n rows ended q (Steps a rows laid q) t × (i ≡ w * t)))

-- A set gains the row of two words, its first offset at the place `from`.
pub record RowPut (from low high : ℕ) (set set' : List ℕ) : Type 0 where
  pub exact : (i : ℕ) → Member i (number_of set') ↔ (Member i (number_of set) ⊎ ((y : ℕ) × Has low high y × (i ≡ from + y)))

-- A set gains the states of a word, alone, which stand w apart.
pub record AlonePut (w alone : ℕ) (set set' : List ℕ) : Type 0 where
  pub exact : (i : ℕ) → Member i (number_of set') ↔ (Member i (number_of set) ⊎ ((t : ℕ) × Member t alone × (i ≡ w * t)))
