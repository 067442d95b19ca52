-- The search from one recording over sets of states (document 01, "Answer from links", "Answer from lists"). An automaton that may have
-- several next states is given by words, w for each state and symbol: the next states of the state s over the symbol a, of k symbols, are
-- those that the row k × s + a of the words has (Pairs).
use Rattle.std.specs.Prelude.{◌≡◌, ℕ, ◌+◌, ◌*◌, ◌<◌, ◌≤◌, Bool, true, false, List, length, drop}
use Rattle.theory.specs.Graph.{Table, Linked}
use Rattle.answering.specs.Links.{SortedByFrom}
use Rattle.answering.specs.Pairs.{Has}

-- The state t is one of the next states of s over the symbol a.
abbrev pub Steps : List ℕ → ℕ → ℕ → ℕ → ℕ → ℕ → Type 0
Steps sets k w s a t = Has w sets (k * s + a) t

-- The pairs of a recording and a state that links lead to from the start in state 0, with ends below N, symbols below k, and steps of an
-- automaton from states below `states`.
pub data SetFound (Step : ℕ → ℕ → ℕ → Type 0) (k w states : ℕ) (table : Table) (N start : ℕ) : ℕ → ℕ → Type 0 where
  begins : SetFound Step k w states table N start start 0
  onward : {x s a y t : ℕ} → SetFound Step k w states table N start x s → s < states → Linked table x a y → a < k → y < N → t < 64 * w
      → Step s a t → SetFound Step k w states table N start y t

-- The sizes fit: states in their words, words in the lent ones, the start among the recordings, and a row of words for each state and
-- symbol.
pub record SetSearchable (sets : List ℕ) (k w states N start : ℕ) (reached : List ℕ) : Type 0 where
  pub some : 0 < states
  pub width : states ≤ 64 * w
  pub few_words : w ≤ 4
  pub few-symbols : k ≤ 32
  pub few : N ≤ 4096
  pub begins : start < N
  pub room : w * N ≤ length reached
  pub rows : w * (k * states) ≤ length sets

-- Whether they fit.
pub record SetFitting (sets : List ℕ) (k w states N start : ℕ) (reached : List ℕ) (r : Bool) : Type 0 where
  pub fits : r ≡ true → SetSearchable sets k w states N start reached
  pub unfit : r ≡ false → ¬ SetSearchable sets k w states N start reached

-- What the search promises: the words hold exactly the pairs found, where the table is sorted.
pub record SetSearched (sets : List ℕ) (k w states : ℕ) (table : Table) (N start : ℕ) (before after : List ℕ) : Type 0 where
  pub sound : SetSearchable sets k w states N start before → (y t : ℕ) → y < N → t < 64 * w → Has w after y t
      → SetFound (Steps sets k w) k w states table N start y t
  pub complete : SetSearchable sets k w states N start before → SortedByFrom table → (y t : ℕ)
      → SetFound (Steps sets k w) k w states table N start y t
      → Has w after y t
  pub beyond : SetSearchable sets k w states N start before → drop (w * N) after ≡ drop (w * N) before
  pub same_length : length after ≡ length before
  pub unfit : ¬ SetSearchable sets k w states N start before → after ≡ before
