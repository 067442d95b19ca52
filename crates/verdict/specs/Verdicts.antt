-- What a verdict means (demand 3, second part), for any complete table whose accepted words are the accepted words of the job.
use Rattle.std.specs.Prelude.{◌≡◌, ℕ, suc, ◌+◌, ◌*◌, ◌<◌, ◌↔◌, List, [], ◌∷◌, ◌++◌, length, slice_index_or}
use Rattle.theory.specs.Path.{Path, Below}
use Rattle.theory.specs.Expression.{Expression, empty}
use Rattle.theory.specs.Standing.{size, InStanding, SameStanding}
use Rattle.theory.specs.Word.{Word}
use Rattle.theory.specs.Job.{Job, IsWord, SpelledBy}
use Rattle.finding.specs.Finds.{followed}
use Rattle.finding.specs.Rewritten.{Rewritten}

-- A path reaches the state q: a list word of that state spells it.
abbrev pub ReachesState : Job → Rewritten → Path → ℕ → Type 0
ReachesState J R p q = (w : Word) × IsWord J w × SpelledBy J w p × (followed R.table 0 w ≡ q)

-- A path reaches the state q with the occurrence x of the list v: a front part reaches q, and the rest begins a path of that list, ending
-- at that occurrence.
abbrev pub ReachesOccurrence : Job → Rewritten → Path → ℕ → ℕ → ℕ → Type 0
ReachesOccurrence J R p q v x =
    (front : Path) × (rest : Path) × (p ≡ front ++ rest) × ReachesState J R front q × InStanding (slice_index_or J.lists v empty) rest (suc x)

-- Two paths have one pair: the same query standing, and they reach the same cover places.
pub record SamePair (J : Job) (R : Rewritten) (p r : Path) : Type 0 where
  pub standing : SameStanding J.query p r
  pub states : (q : ℕ) → ReachesState J R p q ↔ ReachesState J R r q
  pub occurrences : (q v x : ℕ) → v < length J.lists → ReachesOccurrence J R p q v x ↔ ReachesOccurrence J R r q v x

-- Paths over the job's labels with pairwise different pairs: n of them.
pub record DistinctPairs (J : Job) (R : Rewritten) (n : ℕ) : Type 0 where
  pub paths : List Path
  pub count : length paths ≡ n
  pub below : (i : ℕ) → i < n → Below J.labels (slice_index_or paths i [])
  pub distinct : (i j : ℕ) → i < n → j < n → SamePair J R (slice_index_or paths i []) (slice_index_or paths j []) → i ≡ j

-- There are exactly n distinct pairs over all paths.
pub record CountsPairs (J : Job) (R : Rewritten) (n : ℕ) : Type 0 where
  pub some : DistinctPairs J R n
  pub all : (p : Path) → Below J.labels p → (i : ℕ) × (i < n) × SamePair J R p (slice_index_or some.paths i [])

-- All label occurrences of some lists.
abbrev pub total_size : List Expression → ℕ
total_size [] = 0
total_size (e ∷ l) = size e + total_size l

-- The number of cover places: states × (1 + all occurrences in all lists).
abbrev pub cover_places : Job → Rewritten → ℕ
cover_places J R = R.states * suc (total_size J.lists)
