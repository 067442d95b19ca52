-- What an answer's marks mean (document 01, "Answer from links" and "Answer from lists").
use Rattle.std.specs.Prelude.{◌≡◌, ℕ, suc, ◌+◌, ◌<◌, ◌⊎◌, ◌↔◌, List, [], ◌∷◌, length, slice_index, slice_index_or}
use Rattle.theory.specs.Expression.{Expression, empty}
use Rattle.theory.specs.Job.{Job}

-- The chosen expression: 0 is the query, 1 upward a list.
pub data Chosen (J : Job) : ℕ → Expression → Type 0 where
  query : Chosen J 0 J.query
  list : {v : ℕ} → v < length J.lists → Chosen J (suc v) (slice_index_or J.lists v empty)

-- N marks, 1 exactly where P holds, else 0.
pub record MarksOf (N : ℕ) (P : ℕ → Type 0) (m : List ℕ) : Type 0 where
  pub size : length m ≡ N
  pub zero-or-one : (y : ℕ) → y < N → (slice_index m y ≡ 0) ⊎ (slice_index m y ≡ 1)
  pub exactly : (y : ℕ) → y < N → (slice_index m y ≡ 1) ↔ P y

-- The number of ones among zeros and ones: their sum.
unfoldable pub ones : List ℕ → ℕ
ones [] = 0
ones (b ∷ l) = b + ones l
