-- Complete deterministic tables with flags: which words such a table accepts, when its states differ in what may follow them, when it is
-- the smallest one for its words, and document 01's numbering of its states.
use Rattle.std.specs.Prelude.{ℕ, ◌≤◌, ◌<◌, Bool, true, List, [], ◌∷◌, ◌↔◌, ◌⊎◌, ◌≡◌}
use Rattle.theory.specs.Path.{Below, Before}

-- The states are the numbers below `states`, and the start is state 0; the symbols are the numbers below `symbols`.
pub record Deterministic : Type 0 where
  pub states : ℕ
  pub symbols : ℕ
  pub next : ℕ → ℕ → ℕ
  pub accepting : ℕ → Bool

-- The state to which a word leads from the state q.
unfoldable pub run : Deterministic → ℕ → List ℕ → ℕ
run D q [] = q
run D q (v ∷ w) = run D (D.next q v) w

-- The word is accepted.
abbrev pub Accepts : Deterministic → List ℕ → Type 0
Accepts D w = D.accepting (run D 0 w) ≡ true

-- There is a start, and the table has a next state for each state and symbol.
pub record Complete (D : Deterministic) : Type 0 where
  pub start : 0 < D.states
  pub next : (q v : ℕ) → q < D.states → v < D.symbols → D.next q v < D.states

-- The states q and r have the same continuations: the same words are accepted from both.
abbrev pub SameFrom : Deterministic → ℕ → ℕ → Type 0
SameFrom D q r = (w : List ℕ) → Below D.symbols w → D.accepting (run D q w) ≡ D.accepting (run D r w)

-- Two tables over the same symbols accept the same words.
pub record SameWords (D E : Deterministic) : Type 0 where
  pub symbols : D.symbols ≡ E.symbols
  pub words : (w : List ℕ) → Below D.symbols w → Accepts D w ↔ Accepts E w

-- Some word leads to each state.
abbrev pub Reached : Deterministic → Type 0
Reached D = (q : ℕ) → q < D.states → (w : List ℕ) × Below D.symbols w × (run D 0 w ≡ q)

-- No two states have the same continuations.
abbrev pub Apart : Deterministic → Type 0
Apart D = (q r : ℕ) → q < D.states → r < D.states → SameFrom D q r → q ≡ r

-- No complete table that accepts the same words has fewer states.
abbrev pub Minimal : Deterministic → Type 0
Minimal D = (E : Deterministic) → Complete E → SameWords D E → D.states ≤ E.states

-- The states are numbered by the shortest word reaching them, ties by symbol order.
pub record Numbered (D : Deterministic) : Type 0 where
  pub word : ℕ → List ℕ
  pub reached : (q : ℕ) → q < D.states → Below D.symbols (word q) × (run D 0 (word q) ≡ q)
  pub least : (q : ℕ) (w : List ℕ) → q < D.states → Below D.symbols w → run D 0 w ≡ q → (word q ≡ w) ⊎ Before (word q) w
  pub ordered : (q r : ℕ) → q < r → r < D.states → Before (word q) (word r)

-- A complete table whose states are apart and numbered by their first words.
pub record Canonical (D : Deterministic) : Type 0 where
  pub complete : Complete D
  pub apart : Apart D
  pub numbered : Numbered D

-- Two tables are the same, where they are read.
pub record Agree (D E : Deterministic) : Type 0 where
  pub states : D.states ≡ E.states
  pub symbols : D.symbols ≡ E.symbols
  pub next : (q v : ℕ) → q < D.states → v < D.symbols → D.next q v ≡ E.next q v
  pub accepting : (q : ℕ) → q < D.states → D.accepting q ≡ E.accepting q
