-- Label names in an expression, and the numbers of the labels that they name.
use Rattle.std.specs.Prelude.{ℕ, ◌<◌, Bool, true, ◌&&◌, List, [], ◌∷◌, ltb, length, get_or, take, drop}
use Rattle.theory.specs.Expression.{empty, label, alternative, sequence, star, optional, Expression}
use Rattle.syntax.specs.declared.table.Span.{Span}
use Rattle.syntax.specs.Byte.{Bytes}
use Rattle.syntax.specs.Name.{SameName, find}
use Rattle.syntax.specs.Grammar.{Tree}

-- `Resolves labels t e`: e is the tree t with each name replaced by the number of the label that has it.
pub data Resolves (labels : List Bytes) : Tree → Expression → Type 0 where
  at-empty : Resolves labels empty empty
  at_label : {n : Bytes} {a : ℕ} → a < length labels → SameName (get_or labels a []) n → Resolves labels (label n) (label a)
  at-alternative : {l r : Tree} {d e : Expression} → Resolves labels l d → Resolves labels r e
      → Resolves labels (alternative l r) (alternative d e)
  at-sequence : {l r : Tree} {d e : Expression} → Resolves labels l d → Resolves labels r e → Resolves labels (sequence l r) (sequence d e)
  at-star : {t : Tree} {e : Expression} → Resolves labels t e → Resolves labels (star t) (star e)
  at-optional : {t : Tree} {e : Expression} → Resolves labels t e → Resolves labels (optional t) (optional e)

-- The tree with its names replaced by their numbers; an unknown name by the number of labels.
unfoldable pub numbered : List Bytes → Tree → Expression
numbered labels empty = empty
numbered labels (label n) = label (find n 0 labels)
numbered labels (alternative l r) = alternative (numbered labels l) (numbered labels r)
numbered labels (sequence l r) = sequence (numbered labels l) (numbered labels r)
numbered labels (star t) = star (numbered labels t)
numbered labels (optional t) = optional (numbered labels t)

-- All names are names of labels.
unfoldable pub known : List Bytes → List Bytes → Bool
known labels [] = true
known labels (n ∷ t) = ltb (find n 0 labels) (length labels) && known labels t

-- The names of a table of places in a text.
unfoldable pub names_at : Bytes → List Span → List Bytes
names_at text [] = []
names_at text (span ∷ t) = take span.size (drop span.start text) ∷ names_at text t
