-- Link tables and list tables (document 01: triples from, label, to; document 001, Definition 5): when a path leads from one recording to
-- another, when a list word does, and when lent lists are exactly the pairs of their expressions.
use Rattle.std.specs.Prelude.{ℕ, ◌<◌, List, [], ◌∷◌, ◌↔◌, length}
use Rattle.theory.specs.Path.{Path}
use Rattle.theory.specs.Word.{Word}
use Rattle.theory.specs.Job.{Job, QueryPath, ListPath}
use Rattle.theory.specs.Rewriting.{AcceptedWord}

-- A table as it is lent: the numbers of its triples, one triple after the other.
abbrev pub Table : Type 0
Table = List ℕ

-- `Linked t x a y`: the triple (x, a, y) is in the table.
pub data Linked : Table → ℕ → ℕ → ℕ → Type 0 where
  here : {x a y : ℕ} {t : Table} → Linked (x ∷ (a ∷ (y ∷ t))) x a y
  later : {x a y u b v : ℕ} {t : Table} → Linked t x a y → Linked (u ∷ (b ∷ (v ∷ t))) x a y

-- `Leads t p x y`: links with the labels of p, in order, join x to y. The empty path joins each recording to itself. Over a list table,
-- p is a list word.
pub data Leads (t : Table) : List ℕ → ℕ → ℕ → Type 0 where
  stay : {x : ℕ} → Leads t [] x x
  along : {a x y z : ℕ} {p : List ℕ} → Linked t x a y → Leads t p y z → Leads t (a ∷ p) x z

-- A path of the list v leads from x to y.
abbrev pub Pair : Job → Table → ℕ → ℕ → ℕ → Type 0
Pair J links x v y = (p : Path) × ListPath J v p × Leads links p x y

-- The lent lists are exactly the pairs on the link table, for recordings below N.
abbrev pub ExactPairs : Job → ℕ → Table → Table → Type 0
ExactPairs J N links lists =
    (x v y : ℕ) → x < N → v < length J.lists → y < N → Linked lists x v y ↔ Pair J links x v y

-- Every triple begins and ends below N.
abbrev pub EndsBelow : ℕ → Table → Type 0
EndsBelow N t = (x a y : ℕ) → Linked t x a y → (x < N) × (y < N)

-- A query path leads from x to y over the links.
abbrev pub AnswersFromLinks : Job → Table → ℕ → ℕ → Type 0
AnswersFromLinks J links x y = (p : Path) × QueryPath J p × Leads links p x y

-- An accepted list word leads from x to y over the lists.
abbrev pub AnswersFromLists : Job → Table → ℕ → ℕ → Type 0
AnswersFromLists J lists x y = (w : Word) × AcceptedWord J w × Leads lists w x y
