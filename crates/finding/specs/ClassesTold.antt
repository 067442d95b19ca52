-- What the code that refines classes promises (theory: Splitting). Classes stand in memory, for each state the first state of its class; keys
-- are numbers below 512.
use Rattle.std.specs.Prelude.{◌≡◌, ℕ, ◌+◌, ◌*◌, ◌<◌, Bool, true, false, ◌⊎◌, List, length, take, slice_index, slice_index_or}
use Rattle.theory.specs.Refinement.{class_at, classes}
use Rattle.theory.specs.Splitting.{Alike, first_with, Keyed}
use Rattle.finding.specs.Find.{deterministic}

abbrev pub key_at : List ℕ → ℕ → ℕ
key_at keys s = slice_index keys s

-- Each state's class is named by the first state with its key.
pub record Classed (keys : List ℕ) (states : ℕ) (classes' : List ℕ) : Type 0 where
  pub sized : length classes' ≡ 256
  pub at : (s : ℕ) → s < states → class_at classes' s ≡ first_with (key_at keys) s

-- The states s and t have the same flag, and their next states are in the same classes.
pub record SameRows (table flags : List ℕ) (lists : ℕ) (classes : List ℕ) (s t : ℕ) : Type 0 where
  pub flag : slice_index_or flags s 0 ≡ slice_index flags t
  pub next : (v : ℕ) → v < lists → class_at classes (slice_index table (16 * s + v)) ≡ class_at classes (slice_index table (16 * t + v))

-- The key of s in a split: its class where it is like the first of it, else 256 more.
abbrev pub SplitKey : List ℕ → List ℕ → ℕ → List ℕ → ℕ → ℕ → Type 0
SplitKey table flags lists classes s r =
    ((r ≡ class_at classes s) × SameRows table flags lists classes (class_at classes s) s)
    ⊎ ((r ≡ 256 + class_at classes s) × (¬ SameRows table flags lists classes (class_at classes s) s))

-- The keys of all states; whether some state leaves its class.
pub record SplitKeys (table flags : List ℕ) (lists states : ℕ) (classes keys' : List ℕ) (r : Bool) : Type 0 where
  pub sized : length keys' ≡ 256
  pub keyed : Keyed (deterministic states lists table flags) (class_at classes) 256 (key_at keys')
  pub leaves : r ≡ true → (s : ℕ) × (s < states) × (key_at keys' s ≡ 256 + class_at classes s)
  pub stays : r ≡ false → (s : ℕ) → s < states → Alike (deterministic states lists table flags) (class_at classes) (class_at classes s) s

-- The classes of states with the same continuations.
pub record Refined (table flags : List ℕ) (lists states : ℕ) (classes' : List ℕ) : Type 0 where
  pub sized : length classes' ≡ 256
  pub classed : take states classes' ≡ classes (deterministic states lists table flags)
