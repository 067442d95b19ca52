-- Classes of occurrences: the occurrences of a class are entered by the same labels and led to from the same classes (a backward
-- bisimulation), so that the same paths reach them and a cover set has all of them with a state or none. Where there are at most 64 states,
-- sets stand turned with one column for each class (Turned). What is prepared for steps by classes, and what a step promises.
use Rattle.std.specs.Prelude.{◌≡◌, ℕ, suc, ◌+◌, ◌*◌, ◌%◌, ◌<◌, ◌≤◌, ◌⊎◌, ◌↔◌, List, length, slice_index, slice_index_or}
use Rattle.theory.specs.Places.{Member}
use Rattle.theory.specs.Closure.{Reaches}
use Rattle.verdict.specs.Tables.{occupied, Ready}
use Rattle.verdict.specs.Columns.{offset_in, Passes, Leading}
use Rattle.verdict.specs.Sums.{quarters, SummedBy}

-- The class of the place p of the list v; classes stand by offset, and that of the states alone is 0.
abbrev pub class_at : List ℕ → List ℕ → ℕ → ℕ → ℕ
class_at sizes classes v p = slice_index classes (offset_in sizes v p)

-- The classes of a set of places of a list, whose occurrences come after the offset `base`.
pub record ClassesOf (classes : List ℕ) (base set r : ℕ) : Type 0 where
  pub exact : (d : ℕ) → Member d r
      ↔ ((Member 0 set × (d ≡ 0)) ⊎ ((o : ℕ) × Member (suc o) set × (slice_index classes (base + suc o) % 64 ≡ d)))

-- The occurrences have classes from 1 on, below k, no more than there are offsets.
pub record Numbered (w k : ℕ) (classes : List ℕ) : Type 0 where
  pub some : 0 < k
  pub few : k ≤ 63
  pub narrow : k ≤ w
  pub inside : (o : ℕ) → 0 < o → o < w → (0 < slice_index classes o) × (slice_index classes o < k)

-- The labels that enter each occurrence, by offset.
pub record Kinds (n labels : ℕ) (enter sizes kinds : List ℕ) : Type 0 where
  pub exact : (v p a : ℕ) → v < n → 0 < p → p ≤ slice_index sizes (v + 1)
      → Member a (slice_index kinds (occupied sizes 0 v + p)) ↔ ((a < labels) × Member p (slice_index enter (32 * (v + 1) + a)))

-- The classes are stable, and none is empty. The entry c of `merged` has the classes that lead to the class c, the entry 64 + a those that the
-- label a enters.
pub record Classes (n labels k : ℕ) (enter sizes before classes merged : List ℕ) : Type 0 where
  pub alone : slice_index_or classes 0 0 ≡ 0
  pub inside : (v p : ℕ) → v < n → 0 < p → p ≤ slice_index sizes (v + 1) → (0 < class_at sizes classes v p) × (class_at sizes classes v p < k)
  pub onto : (c : ℕ) → 0 < c → c < k
      → (v : ℕ) × (p : ℕ) × (v < n) × (0 < p) × (p ≤ slice_index sizes (v + 1)) × (class_at sizes classes v p ≡ c)
  pub led : (v p d : ℕ) → v < n → 0 < p → p ≤ slice_index sizes (v + 1)
      → Member d (slice_index merged (class_at sizes classes v p))
      ↔ ((o : ℕ) × Member o (slice_index before (64 * v + p)) × (class_at sizes classes v o ≡ d))
  pub entered : (v p a : ℕ) → v < n → 0 < p → p ≤ slice_index sizes (v + 1) → a < labels
      → Member (class_at sizes classes v p) (slice_index merged (64 + a)) ↔ Member p (slice_index enter (32 * (v + 1) + a))
  pub entered-within : (c a : ℕ) → a < labels → Member c (slice_index merged (64 + a)) → (0 < c) × (c < k)

-- The lists a path of which may end at an occurrence of each class.
pub record EndingLists (n : ℕ) (sizes accepting classes ends : List ℕ) : Type 0 where
  pub exact : (v c : ℕ) → Member v (slice_index ends c)
      ↔ ((v < n) × ((p : ℕ) × (0 < p) × (p ≤ slice_index sizes (v + 1)) × Member p (slice_index accepting (v + 1))
      × (class_at sizes classes v p ≡ c)))

-- The state t is reached from the state q where a path of a list ends at an occurrence of the class c.
abbrev pub EndsAt : ℕ → List ℕ → List ℕ → List ℕ → List ℕ → ℕ → ℕ → ℕ → Type 0
EndsAt n sizes accepting table classes c q t =
    (v : ℕ) × (p : ℕ) × (v < n) × (0 < p) × (p ≤ slice_index sizes (v + 1)) × Member p (slice_index accepting (v + 1))
    × (class_at sizes classes v p ≡ c) × Reaches (Passes n accepting table) (slice_index table (16 * q + v)) t

-- The sums of the classes below k that have some, whose place stands at the class, are of n states.
pub record SumsWithin (n k : ℕ) (ended : List ℕ) : Type 0 where
  pub starts : k ≤ length ended
  pub room : (c : ℕ) → 0 < c → c < k → 0 < slice_index ended c → slice_index ended c + 16 * quarters n ≤ length ended
  pub within : (c j m t : ℕ) → 0 < c → c < k → 0 < slice_index ended c → j < quarters n → m < 16
      → Member t (slice_index ended (slice_index ended c + 16 * j + m)) → t < n

-- A class has sums where a path of a list ends at it: they are of the states that are reached from each state.
pub record ClassSums (states n k : ℕ) (sizes accepting table classes ended : List ℕ) : Type 0 where
  pub word : ℕ → ℕ → ℕ
  pub summed : (c : ℕ) → 0 < c → c < k → 0 < slice_index ended c → SummedBy (word c) (slice_index ended c) (quarters states) ended
  pub ends : (c q t : ℕ) → 0 < c → c < k → 0 < slice_index ended c → q < states
      → Member t (word c q) ↔ EndsAt n sizes accepting table classes c q t
  pub none : (c q t : ℕ) → 0 < c → c < k → slice_index ended c ≡ 0 → q < states → ¬ EndsAt n sizes accepting table classes c q t
  pub within : SumsWithin states k ended

-- The classes are found, and at which of them paths of lists may end.
pub record Merged (states n labels : ℕ) (follow enter sizes accepting table : List ℕ) (k : ℕ) (merged classes ends : List ℕ) : Type 0 where
  pub ready : Ready states n follow enter sizes accepting table (suc (occupied sizes 0 n))
  pub some-class : 0 < k
  pub few-classes : k ≤ 63
  pub few-places : states * k ≤ 1024
  pub few-labels : labels ≤ 32
  pub before : List ℕ
  pub leading : Leading n follow sizes before
  pub stable : Classes n labels k enter sizes before classes merged
  pub ending : EndingLists n sizes accepting classes ends

-- Steps by classes are prepared, over the labels below `labels`.
pub record ClassesReady (states n labels : ℕ) (follow enter sizes accepting table : List ℕ) (k : ℕ) (merged ended classes : List ℕ) : Type 0 where
  pub ready : Ready states n follow enter sizes accepting table (suc (occupied sizes 0 n))
  pub some : 0 < states
  pub few : states ≤ 64
  pub some-class : 0 < k
  pub few-classes : k ≤ 63
  pub few-places : states * k ≤ 1024
  pub few-labels : labels ≤ 32
  pub before : List ℕ
  pub leading : Leading n follow sizes before
  pub stable : Classes n labels k enter sizes before classes merged
  pub merged-room : 128 ≤ length merged
  pub sums : ClassSums states n k sizes accepting table classes ended

-- The classes that the label a enters, and those that lead to them, are below k.
pub record MergedWithin (a k : ℕ) (merged : List ℕ) : Type 0 where
  pub entered : (c : ℕ) → Member c (slice_index merged (64 + a)) → (0 < c) × (c < k)
  pub led : (c d : ℕ) → Member c (slice_index merged (64 + a)) → Member d (slice_index merged c) → d < k

-- The columns after a step over the label a, each of n states: those of the classes that it enters are joined, and the states alone are
-- summed, whatever the words are that the sums are of. `next` gives the column of each class.
pub record ClassStepped (n a k : ℕ) (merged ended columns : List ℕ) (next : ℕ → ℕ) : Type 0 where
  pub moved : (c q : ℕ) → 0 < c → c < k
      → Member q (next c) ↔ (Member c (slice_index merged (64 + a)) × ((d : ℕ) × Member d (slice_index merged c) × Member q (slice_index columns d)))
  pub alone : (word : ℕ → ℕ → ℕ) → ((c : ℕ) → 0 < c → c < k → 0 < slice_index ended c → SummedBy (word c) (slice_index ended c) (quarters n) ended)
      → (t : ℕ) → Member t (next 0)
      ↔ ((c : ℕ) × (q : ℕ) × (0 < c) × (c < k) × (0 < slice_index ended c) × Member q (next c) × Member t (word c q))
