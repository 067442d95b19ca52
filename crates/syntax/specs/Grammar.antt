-- The grammar of expressions (document 01, "The job text"), over names: which label a name stands for comes later. An alternative holds
-- sequences, a sequence holds factors, a factor may hold an alternative. Parentheses leave no node in the tree: how deep they nest is read
-- off the bytes (Limits).
use Rattle.std.specs.Prelude.{[], ◌∷◌, ◌++◌, ◌≡◌}
use Rattle.theory.specs.Expression.{Regular, empty, label, alternative, sequence, star, optional}
use Rattle.syntax.specs.Byte.{Bytes, dot, bar, asterisk, question, opening, closing}
use Rattle.syntax.specs.Name.{IsName}

-- An expression over names, as it is written.
abbrev pub Tree : Type 0
Tree = Regular Bytes

-- The three levels of the grammar.
pub data Level : Type 0 where
  alternatives sequences factors : Level

-- `Derives level s t`: the text s is an alternative, a sequence or a factor, and t is its tree.
pub data Derives : Level → Bytes → Tree → Type 0 where
  -- an alternative is one or more sequences joined by `|`
  one-sequence : {s : Bytes} {t : Tree} → Derives sequences s t → Derives alternatives s t
  more-sequences : {s : Bytes} {l r : Tree} (u v : Bytes) → s ≡ u ++ (bar ∷ v) → Derives sequences u l → Derives alternatives v r
      → Derives alternatives s (alternative l r)
  -- a sequence is one or more factors joined by `.`
  one-factor : {s : Bytes} {t : Tree} → Derives factors s t → Derives sequences s t
  more-factors : {s : Bytes} {l r : Tree} (u v : Bytes) → s ≡ u ++ (dot ∷ v) → Derives factors u l → Derives sequences v r
      → Derives sequences s (sequence l r)
  -- a factor is a label name, `()` or an alternative in parentheses, followed by any number of `*` and `?`
  name : {s : Bytes} → IsName s → Derives factors s (label s)
  unit : {s : Bytes} → s ≡ opening ∷ (closing ∷ []) → Derives factors s empty
  group : {s : Bytes} {t : Tree} (u : Bytes) → s ≡ opening ∷ (u ++ (closing ∷ [])) → Derives alternatives u t → Derives factors s t
  starred : {s : Bytes} {t : Tree} (u : Bytes) → s ≡ u ++ (asterisk ∷ []) → Derives factors u t → Derives factors s (star t)
  optioned : {s : Bytes} {t : Tree} (u : Bytes) → s ≡ u ++ (question ∷ []) → Derives factors u t → Derives factors s (optional t)
