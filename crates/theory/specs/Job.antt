-- A job (document 01): how many labels it has, the query's expression and the lists' expressions, in line order; and what its list words
-- spell.
use Rattle.std.specs.Prelude.{ℕ, ◌<◌, List, length, get_or}
use Rattle.theory.specs.Path.{Path, Language, Below}
use Rattle.theory.specs.Expression.{Expression, empty, label, alternative, sequence, star, optional, IsPath}
use Rattle.theory.specs.Word.{Word, Spells}

pub record Job : Type 0 where
  pub labels : ℕ
  pub query : Expression
  pub lists : List Expression

-- Every label of the expression is below k.
abbrev pub LabelsBelow : ℕ → Expression → Type 0
LabelsBelow k empty = Unit {0}
LabelsBelow k (label a) = a < k
LabelsBelow k (alternative l r) = LabelsBelow k l × LabelsBelow k r
LabelsBelow k (sequence l r) = LabelsBelow k l × LabelsBelow k r
LabelsBelow k (star e) = LabelsBelow k e
LabelsBelow k (optional e) = LabelsBelow k e

-- The expressions of the job use its own labels alone. Every job that is read from a text is so.
pub record WellFormed (J : Job) : Type 0 where
  pub query : LabelsBelow J.labels J.query
  pub lists : (v : ℕ) → v < length J.lists → LabelsBelow J.labels (get_or J.lists v empty)

-- A query path: a path of the query's expression.
abbrev pub QueryPath : Job → Language
QueryPath J p = IsPath J.query p

-- The paths of the list v.
abbrev pub ListPath : Job → ℕ → Language
ListPath J v p = (v < length J.lists) × IsPath (get_or J.lists v empty) p

-- A list word of the job.
abbrev pub IsWord : Job → Word → Type 0
IsWord J w = Below (length J.lists) w

-- The word w spells the path p.
abbrev pub SpelledBy : Job → Word → Path → Type 0
SpelledBy J w p = Spells (ListPath J) w p
