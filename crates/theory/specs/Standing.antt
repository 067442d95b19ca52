-- Standings (document 01, "Standing"; Glushkov's positions), said through marked expressions: each label occurrence gets a number of
-- its own, so that a path of the marked expression tells which occurrence reads which label.
use Rattle.std.specs.Prelude.{ℕ, ◌+◌, List, [], ◌∷◌, ◌++◌, ◌↔◌, ◌⊎◌, ◌≡◌}
use Rattle.theory.specs.Path.{Label, Path}
use Rattle.theory.specs.Expression.{Expression, empty, label, alternative, sequence, star, optional, IsPath}

-- The number of label occurrences.
abbrev pub size : Expression → ℕ
size empty = 0
size (label a) = 1
size (alternative l r) = size l + size r
size (sequence l r) = size l + size r
size (star e) = size e
size (optional e) = size e

-- The expression with its occurrences numbered from k on, left to right, in the place of their labels.
abbrev pub mark : ℕ → Expression → Expression
mark k empty = empty
mark k (label a) = label k
mark k (alternative l r) = alternative (mark k l) (mark (k + size l) r)
mark k (sequence l r) = sequence (mark k l) (mark (k + size l) r)
mark k (star e) = star (mark k e)
mark k (optional e) = optional (mark k e)

-- `Labelled k e x a`: with the occurrences numbered from k on, x is one and reads the label a.
abbrev pub Labelled : ℕ → Expression → ℕ → Label → Type 0
Labelled k empty x a = ⊥
Labelled k (label b) x a = (x ≡ k) × (a ≡ b)
Labelled k (alternative l r) x a = Labelled k l x a ⊎ Labelled (k + size l) r x a
Labelled k (sequence l r) x a = Labelled k l x a ⊎ Labelled (k + size l) r x a
Labelled k (star e) x a = Labelled k e x a
Labelled k (optional e) x a = Labelled k e x a

-- `Reads k e m p`: the occurrences of m read, one by one, the labels of p: m is a marking of p.
pub data Reads (k : ℕ) (e : Expression) : List ℕ → Path → Type 0 where
  nothing : Reads k e [] []
  next : {x : ℕ} {a : Label} {m : List ℕ} {p : Path} → Labelled k e x a → Reads k e m p → Reads k e (x ∷ m) (a ∷ p)

-- `InStanding e p x`: the place x is in the standing after the path p. Place 0 is the start, and the occurrences are numbered from 1.
-- Before any label the standing is the start alone; after that it holds the occurrences that can be the last one read when p begins a
-- path of the expression.
pub data InStanding (e : Expression) : Path → ℕ → Type 0 where
  start : InStanding e [] 0
  after : {p : Path} {x : ℕ} (m n : List ℕ) → Reads 1 e (m ++ (x ∷ [])) p → IsPath (mark 1 e) (m ++ (x ∷ n)) → InStanding e p x

-- The standings after p and after q are equal as sets.
abbrev pub SameStanding : Expression → Path → Path → Type 0
SameStanding e p q = (x : ℕ) → InStanding e p x ↔ InStanding e q x

-- The standing after p accepts: the paths leading to it are paths of the expression.
abbrev pub Accepts : Expression → Path → Type 0
Accepts e p = (q : Path) → SameStanding e p q → IsPath e q
