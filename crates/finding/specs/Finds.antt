-- What Find's answer means (demand 2), against the meaning of standings, states and accepted words in `theory`.
use Rattle.std.specs.Prelude.{◌≡◌, ℕ, ◌+◌, ◌*◌, ◌<◌, ◌≤◌, ◌⊎◌, ◌↔◌, List, [], ◌∷◌, length, slice_index, slice_index_or}
use Rattle.std.proofs.Math.Option.{some, none}
use Rattle.theory.specs.Path.{Path, Below, Before}
use Rattle.theory.specs.Expression.{Expression}
use Rattle.theory.specs.Standing.{SameStanding}
use Rattle.theory.specs.Word.{Word}
use Rattle.theory.specs.Job.{Job, IsWord}
use Rattle.theory.specs.Rewriting.{SameState, SameContinuations, Accepted, AcceptedWord}
use Rattle.finding.specs.Find.{Rewriting, row_width}

-- Paths over k labels with pairwise different standings: n of them.
pub record DistinctStandings (e : Expression) (k n : ℕ) : Type 0 where
  pub paths : List Path
  pub count : length paths ≡ n
  pub below : (i : ℕ) → i < n → Below k (slice_index_or paths i [])
  pub distinct : (i j : ℕ) → i < n → j < n → SameStanding e (slice_index_or paths i []) (slice_index_or paths j []) → i ≡ j

-- List words with pairwise different states: n of them.
pub record DistinctStates (J : Job) (n : ℕ) : Type 0 where
  pub words : List Word
  pub count : length words ≡ n
  pub below : (i : ℕ) → i < n → IsWord J (slice_index_or words i [])
  pub distinct : (i j : ℕ) → i < n → j < n → SameState J (slice_index_or words i []) (slice_index_or words j []) → i ≡ j

-- Every path has the standing of one of these: there are exactly n standings.
pub record CountsStandings (e : Expression) (k n : ℕ) : Type 0 where
  pub some : DistinctStandings e k n
  pub all : (p : Path) → Below k p → (i : ℕ) × (i < n) × SameStanding e p (slice_index_or some.paths i [])

-- The table, followed from the state s by list numbers.
unfoldable pub followed : List ℕ → ℕ → Word → ℕ
followed table s [] = s
followed table s (v ∷ w) = followed table (slice_index table (row_width * s + v)) w

-- R is the greatest rewriting of the job's query, as document 01 has it, where words with one state are those of which `Same` holds. This
-- determines R (FindsUnique).
pub record FindsBy (Same : Word → Word → Type 0) (J : Job) (R : Rewriting) : Type 0 where
  pub standings : CountsStandings J.query J.labels R.standings
  -- each state has a row of the table, of 16 numbers, with zeros behind those of the lists
  pub rows : length R.table ≡ row_width * R.states
  pub unused : (s v : ℕ) → s < R.states → length J.lists ≤ v → v < row_width → slice_index R.table (row_width * s + v) ≡ 0
  -- each state has a flag, 0 or 1
  pub flag-count : length R.flags ≡ R.states
  pub flag-value : (s : ℕ) → s < R.states → (slice_index R.flags s ≡ 0) ⊎ (slice_index R.flags s ≡ 1)
  -- a word ends at a state
  pub within : (w : Word) → IsWord J w → followed R.table 0 w < R.states
  -- it ends at flag 1 exactly when it is accepted
  pub accepted : (w : Word) → IsWord J w → (slice_index R.flags (followed R.table 0 w) ≡ 1) ↔ Accepted J w
  -- two words end at one number exactly when they have one state
  pub same : (v w : Word) → IsWord J v → IsWord J w → (followed R.table 0 v ≡ followed R.table 0 w) ↔ Same v w
  -- the states are numbered by the shortest word reaching them, ties by list order
  pub word : ℕ → Word
  pub reached : (s : ℕ) → s < R.states → IsWord J (word s) × (followed R.table 0 (word s) ≡ s)
  pub least : (s : ℕ) (w : Word) → s < R.states → IsWord J w → followed R.table 0 w ≡ s → (word s ≡ w) ⊎ Before (word s) w
  pub ordered : (s t : ℕ) → s < t → t < R.states → Before (word s) (word t)
  -- `first` is the first accepted word, and there is none exactly when no word is accepted
  pub first : (w : Word) → R.first ≡ some w → AcceptedWord J w × ((v : Word) → AcceptedWord J v → (w ≡ v) ⊎ Before w v)
  pub nothing : R.first ≡ none → (w : Word) → ¬ AcceptedWord J w

-- What Find gives, with states merged: two words end at one state exactly when they have the same continuations.
abbrev pub Finds : Job → Rewriting → Type 0
Finds J = FindsBy (SameContinuations J) J

-- Before states are merged: two words have one state exactly when they have the same set of query standings.
abbrev pub FindsUnmerged : Job → Rewriting → Type 0
FindsUnmerged J = FindsBy (SameState J) J
