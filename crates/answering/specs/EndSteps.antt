-- The steps of the search by sets of recordings (TurnedRun): where links lead from the members of a set, over a symbol and over all. A set
-- of recordings is a row of four words (Pairs); the members of one word count recordings from a place on.
use Rattle.std.specs.Prelude.{ℕ, ◌+◌, ◌*◌, ◌<◌, ◌≤◌, ◌⊎◌, ◌↔◌, List, length}
use Rattle.theory.specs.Places.{Member}
use Rattle.answering.specs.SetSearch.{Steps}
use Rattle.answering.specs.Pairs.{Has}

-- There are few states, with a row of next states for each state and symbol, which are states again.
pub record Turnable (rows : List ℕ) (k states : ℕ) : Type 0 where
  pub some-states : 0 < states
  pub few-states : states ≤ 16
  pub few-symbols : k ≤ 32
  pub rows_fit : k * states ≤ length rows
  pub within : (s a t : ℕ) → s < states → a < k → t < 64 → Steps rows k 1 s a t → t < states

-- The recording y is in the row of some member of the set, the rows beginning with the number `row`.
abbrev pub InRows : List ℕ → ℕ → ℕ → ℕ → Type 0
InRows ends row set y = (p : ℕ) × Member p set × Has 4 ends (row + p) y

-- The rows of the members are there.
abbrev pub RowsThere : List ℕ → ℕ → ℕ → Type 0
RowsThere words row set = (p : ℕ) → Member p set → 4 * (row + p) + 4 ≤ length words

-- The first row has got the recordings in the rows of the members.
abbrev pub RowsJoined : List ℕ → ℕ → ℕ → List ℕ → List ℕ → Type 0
RowsJoined ends row set before after = (y : ℕ) → y < 256 → Has 4 after 0 y ↔ (Has 4 before 0 y ⊎ InRows ends row set y)

-- The rows of the states of an image have got some recordings, and no other row anything.
abbrev pub Given : (ℕ → Type 0) → ℕ → List ℕ → List ℕ → Type 0
Given Some image before after = (t y : ℕ) → y < 256 → Has 4 after t y ↔ (Has 4 before t y ⊎ (Member t image × Some y))

-- The state t is next of s over a symbol whose links lead to y from one of the members of the set, which count recordings from `from` on.
abbrev pub LedTo : List ℕ → ℕ → ℕ → List ℕ → ℕ → ℕ → ℕ → ℕ → ℕ → Type 0
LedTo rows k N ends from set s t y = (a : ℕ) × (a < k) × Steps rows k 1 s a t × InRows ends (N * a + from) set y

-- The links of the members have been followed from the state s.
abbrev pub MembersFollowed : List ℕ → ℕ → ℕ → List ℕ → ℕ → ℕ → ℕ → List ℕ → List ℕ → Type 0
MembersFollowed rows k N ends from set s before after =
    (t y : ℕ) → t < 64 → y < 256 → Has 4 after t y ↔ (Has 4 before t y ⊎ LedTo rows k N ends from set s t y)
