-- Labels and paths (document 01, "Path").
-- A label is its number in the job, from 0. A path is any finite sequence of labels, and a language is a set of paths.
-- A list word is a finite sequence too, of list numbers: what is said here of sequences serves both.
use Rattle.std.specs.Prelude.{ℕ, ◌<◌, List, [], ◌∷◌, ◌⊎◌, ◌≡◌, length}

abbrev pub Label : Type 0
Label = ℕ

abbrev pub Path : Type 0
Path = List Label

abbrev pub Language : Type 1
Language = Path → Type 0

-- The path has only labels below k: it is a path over a job of k labels. Likewise for a list word and k lists.
pub data Below (k : ℕ) : Path → Type 0 where
  nothing : Below k []
  next : {a : Label} {p : Path} → a < k → Below k p → Below k (a ∷ p)

-- Label order on paths of one length: the smaller label at the first place where they differ.
pub data LabelOrder : Path → Path → Type 0 where
  here : {a b : Label} {p q : Path} → a < b → LabelOrder (a ∷ p) (b ∷ q)
  later : {a : Label} {p q : Path} → LabelOrder p q → LabelOrder (a ∷ p) (a ∷ q)

-- The order of paths: the shorter first, then label order. Document 01's "first" (missed path, list word) is first in it.
abbrev pub Before : Path → Path → Type 0
Before p q = (length p < length q) ⊎ ((length p ≡ length q) × LabelOrder p q)
