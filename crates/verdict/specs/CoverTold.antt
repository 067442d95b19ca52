-- What the functions on cover sets promise: each adds what the cover's definitions (Cover) say to a set, or gives it, as numbers. What a
-- function does not read is any list.
use Rattle.std.specs.Prelude.{◌≡◌, ℕ, suc, ◌+◌, ◌*◌, ◌%◌, ◌^◌, ◌<◌, ◌≤◌, List, length, slice_index}
use Rattle.theory.specs.Places.{union, union_over}
use Rattle.places.specs.Words.{number_of}
use Rattle.verdict.specs.Cover.{places, entered, moved_within, moves, passed, finished, ends, settled, cover_start, cover_step}
use Rattle.verdict.specs.Coded.{Layout, StandsAs}
use Rattle.verdict.specs.Tables.{automata_of, occupied, rewritten, Counted, Ready, Proper}

-- `set` becomes `set'`: it gains the places x, those below 1,024.
abbrev pub Gains : List ℕ → ℕ → List ℕ → Type 0
Gains set x set' = number_of set' ≡ union (number_of set) (x % 2 ^ 1024)

-- The step over the label a can be made.
pub record Moving (n a : ℕ) (follow enter sizes : List ℕ) (w : ℕ) : Type 0 where
  pub counted : Counted n sizes
  pub follow-room : 64 * n + 64 ≤ length follow
  pub enter-room : 32 * n + 32 ≤ length enter
  pub label : a < 32
  pub wide : w ≡ suc (occupied sizes 0 n)

pub record Entered (n a : ℕ) (follow enter sizes : List ℕ) (from : ℕ) (set set' : List ℕ) : Type 0 where
  pub gains : (accepting : List ℕ) → Gains set (entered (automata_of follow enter sizes accepting n) 0 a * 2 ^ from) set'

pub record MovedWithin (n a : ℕ) (follow enter sizes : List ℕ) (from o : ℕ) (set set' : List ℕ) : Type 0 where
  pub gains : (accepting : List ℕ) → Gains set (moved_within (automata_of follow enter sizes accepting n) 0 o a * 2 ^ from) set'

pub record Moves (n a : ℕ) (follow enter sizes : List ℕ) (p : ℕ) (set set' : List ℕ) : Type 0 where
  pub gains : (accepting : List ℕ) → Gains set (moves (automata_of follow enter sizes accepting n) a p) set'

-- The places that the first p places of a set lead to.
pub record Moved (n a : ℕ) (follow enter sizes : List ℕ) (p : ℕ) (set set' : List ℕ) : Type 0 where
  pub told : (accepting : List ℕ)
      → number_of set' ≡ union_over (moves (automata_of follow enter sizes accepting n) a) p (number_of set) % 2 ^ 1024

-- The ends of lists can be told.
pub record Ending (states n : ℕ) (sizes accepting table : List ℕ) (w : ℕ) : Type 0 where
  pub counted : Counted n sizes
  pub accepting-room : n < length accepting
  pub table-room : 16 * states ≤ length table
  pub wide : w ≡ suc (occupied sizes 0 n)
  pub few-places : states * w ≤ 1024

pub record Passed (n : ℕ) (accepting table : List ℕ) (w q : ℕ) (set set' : List ℕ) : Type 0 where
  pub gains : (states : ℕ) (flags follow enter sizes : List ℕ)
      → Gains set (passed (rewritten states table flags) w (automata_of follow enter sizes accepting n) 0 q) set'

pub record Finished (n : ℕ) (sizes accepting table : List ℕ) (w o q : ℕ) (set set' : List ℕ) : Type 0 where
  pub gains : (states : ℕ) (flags follow enter : List ℕ) → 64 * n + 64 ≤ length follow
      → Gains set (finished (rewritten states table flags) w (automata_of follow enter sizes accepting n) 0 o q) set'

pub record Ends (n : ℕ) (sizes accepting table : List ℕ) (p : ℕ) (set set' : List ℕ) : Type 0 where
  pub gains : (states : ℕ) (flags follow enter : List ℕ) → 64 * n + 64 ≤ length follow
      → Gains set (ends (rewritten states table flags) (automata_of follow enter sizes accepting n) p) set'

-- A set with what the first p places of `fresh` reach without a label.
pub record Round (n : ℕ) (sizes accepting table : List ℕ) (p : ℕ) (fresh set set' : List ℕ) : Type 0 where
  pub gains : (states : ℕ) (flags follow enter : List ℕ) → 64 * n + 64 ≤ length follow
      → Gains set (union_over (ends (rewritten states table flags) (automata_of follow enter sizes accepting n)) p (number_of fresh)) set'

-- A set of cover places with all that is reached from it without reading a label.
pub record Settled (states n : ℕ) (sizes accepting table : List ℕ) (set set' : List ℕ) : Type 0 where
  pub told : (flags follow enter : List ℕ) → 64 * n + 64 ≤ length follow
      → ((q v : ℕ) → q < states → v < n → slice_index table (16 * q + v) < states)
      → number_of set < 2 ^ places (rewritten states table flags) (automata_of follow enter sizes accepting n)
      → number_of set' ≡ settled (rewritten states table flags) (automata_of follow enter sizes accepting n) (number_of set)

-- The width, 0 where there are too many lists or occurrences.
pub record WidthTold (n : ℕ) (sizes : List ℕ) (r : ℕ) : Type 0 where
  pub counted : 0 < r → Counted n sizes
  pub exact : 0 < r → r ≡ suc (occupied sizes 0 n)
  pub complete : Counted n sizes → r ≡ suc (occupied sizes 0 n)

-- The width where the tables have room, else 0.
pub record ReadyTold (states n : ℕ) (follow enter sizes accepting table : List ℕ) (r : ℕ) : Type 0 where
  pub ready : 0 < r → Ready states n follow enter sizes accepting table r
  pub complete : (w : ℕ) → Ready states n follow enter sizes accepting table w → r ≡ w

-- The cover places that the empty path reaches.
pub record StartTold (states n : ℕ) (follow enter sizes accepting table : List ℕ) (r : List ℕ) : Type 0 where
  pub told : Proper states n follow enter sizes accepting table → (flags : List ℕ)
      → number_of r ≡ cover_start (rewritten states table flags) (automata_of follow enter sizes accepting n)

-- The step of a cover set over a label.
pub record StepTold (states n : ℕ) (follow enter sizes accepting table : List ℕ) (a : ℕ) (set r : List ℕ) : Type 0 where
  pub told : Proper states n follow enter sizes accepting table → a < 32 → (flags : List ℕ)
      → number_of r ≡ cover_step (rewritten states table flags) (automata_of follow enter sizes accepting n) (number_of set) a

-- The same of cover sets as they stand in the workspace (Coded).

pub record StartStands (L : Layout) (states n : ℕ) (follow enter sizes accepting table : List ℕ) (r : List ℕ) : Type 0 where
  pub told : Proper states n follow enter sizes accepting table → (flags : List ℕ)
      → StandsAs L states (cover_start (rewritten states table flags) (automata_of follow enter sizes accepting n)) (number_of r)

pub record StepStands (L : Layout) (states n : ℕ) (follow enter sizes accepting table : List ℕ) (a : ℕ) (set r : List ℕ) : Type 0 where
  pub told : Proper states n follow enter sizes accepting table → a < 32 → (flags : List ℕ) (C : ℕ) → StandsAs L states C (number_of set)
      → StandsAs L states (cover_step (rewritten states table flags) (automata_of follow enter sizes accepting n) C a) (number_of r)
