-- What the code that looks for levels promises (theory: Level). Levels stand in memory, one for each state; 256 is that of a state from which
-- no accepted word is known.
use Rattle.std.specs.Prelude.{◌≡◌, ℕ, suc, ◌+◌, ◌*◌, ◌<◌, ◌≤◌, Bool, true, false, List, length, ◌==◌, slice_index}
use Rattle.theory.specs.Level.{Known, Settled}
use Rattle.finding.specs.Find.{deterministic}

abbrev pub most_level : ℕ
most_level = 256

abbrev pub level_at : List ℕ → ℕ → ℕ
level_at levels s = slice_index levels s

-- As far as a state's own flag tells.
unfoldable pub flag_level : ℕ → ℕ
flag_level f = elim (f == 1) [ true ↦ 0 | false ↦ most_level ]

pub record FlagLevels (flags : List ℕ) (states : ℕ) (levels' : List ℕ) : Type 0 where
  pub sized : length levels' ≡ 256
  pub at : (s : ℕ) → s < states → level_at levels' s ≡ flag_level (slice_index flags s)

-- The least level of the next states of s.
pub record LeastNext (table : List ℕ) (lists s : ℕ) (levels : List ℕ) (r : ℕ) : Type 0 where
  pub within : r ≤ most_level
  pub least : (v : ℕ) → v < lists → r ≤ level_at levels (slice_index table (16 * s + v))
  pub of-list : r < most_level → (v : ℕ) × (v < lists) × (level_at levels (slice_index table (16 * s + v)) ≡ r)

-- The level of s, lowered to one more than the least of the next states; what is known stays known.
pub record Lowered (table : List ℕ) (lists s : ℕ) (levels levels' : List ℕ) (r : Bool) : Type 0 where
  pub sized : length levels' ≡ 256
  pub known : (states : ℕ) (flags : List ℕ) → s < states
      → ((q v : ℕ) → q < states → v < lists → slice_index table (16 * q + v) < states)
      → Known (deterministic states lists table flags) most_level (level_at levels)
      → Known (deterministic states lists table flags) most_level (level_at levels')
  pub still : r ≡ false → levels' ≡ levels
  pub settled : r ≡ false → (v : ℕ) → v < lists → level_at levels s ≤ suc (level_at levels (slice_index table (16 * s + v)))

-- One sweep over all states; where it lowers none, the levels are settled.
pub record Swept (table : List ℕ) (lists states : ℕ) (levels levels' : List ℕ) (r : Bool) : Type 0 where
  pub sized : length levels' ≡ 256
  pub known : (flags : List ℕ) → Known (deterministic states lists table flags) most_level (level_at levels)
      → Known (deterministic states lists table flags) most_level (level_at levels')
  pub settled : r ≡ false → (flags : List ℕ) → Settled (deterministic states lists table flags) (level_at levels')

-- The levels, where they were found.
pub record Levelled (table flags : List ℕ) (lists states : ℕ) (levels' : List ℕ) : Type 0 where
  pub known : Known (deterministic states lists table flags) most_level (level_at levels')
  pub settled : Settled (deterministic states lists table flags) (level_at levels')
