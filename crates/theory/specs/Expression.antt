-- Expressions over labels, and their paths (document 01, "The job text"; document 001, section 2, regular expressions).
use Rattle.std.specs.Prelude.{[], ◌∷◌, ◌++◌, ◌⊎◌, ◌≡◌}
use Rattle.theory.specs.Path.{Label, Path, Language}

-- Regular expressions over any kind of leaf: label numbers here, names as they are written where a job is read.
pub data Regular (A : Type 0) : Type 0 where
  -- `()`, the empty path
  empty : Regular A
  -- one label occurrence
  label : A → Regular A
  -- `l | r`
  alternative : Regular A → Regular A → Regular A
  -- `l . r`
  sequence : Regular A → Regular A → Regular A
  -- `e *`, zero or more
  star : Regular A → Regular A
  -- `e ?`, zero or one
  optional : Regular A → Regular A

-- An expression of document 01: its occurrences are label numbers.
abbrev pub Expression : Type 0
Expression = Regular Label

-- A path made by joining, in order, any number of paths of L.
pub data Star (L : Language) : Path → Type 0 where
  none : {p : Path} → p ≡ [] → Star L p
  more : {p : Path} (u v : Path) → p ≡ u ++ v → L u → Star L v → Star L p

-- `IsPath e p`: p is a path of the expression e.
abbrev pub IsPath : Expression → Language
IsPath empty p = p ≡ []
IsPath (label a) p = p ≡ a ∷ []
IsPath (alternative l r) p = IsPath l p ⊎ IsPath r p
IsPath (sequence l r) p = (u : Path) × (v : Path) × (p ≡ u ++ v) × IsPath l u × IsPath r v
IsPath (star e) p = Star (IsPath e) p
IsPath (optional e) p = (p ≡ []) ⊎ IsPath e p
