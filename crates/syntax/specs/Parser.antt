-- Reading an expression, executable: three functions, one for each level of the grammar, that call each other, bounded by a number of
-- calls. Each gives the tree and the text left unread, or fails.
use Rattle.std.specs.Prelude.{ℕ, zero, suc, ◌+◌, ◌*◌, true, false, [], ◌∷◌, eqb, length}
use Rattle.std.proofs.Math.Option.{Option, some, none}
use Rattle.theory.specs.Expression.{empty, label, alternative, sequence, star, optional}
use Rattle.syntax.specs.Byte.{Bytes, dot, bar, asterisk, question, opening, closing, name_byte}
use Rattle.syntax.specs.Name.{is_name}
use Rattle.syntax.specs.Grammar.{Tree}

pub data Parsed : Type 0 where
  failed : Parsed
  parsed : Tree → Bytes → Parsed

-- The longest run of name bytes at the front of a text, and what comes after it.
unfoldable pub run : Bytes → Bytes
run [] = []
run (b ∷ s) = elim (name_byte b) [ true ↦ b ∷ run s | false ↦ [] ]

unfoldable pub past_run : Bytes → Bytes
past_run [] = []
past_run (b ∷ s) = elim (name_byte b) [ true ↦ past_run s | false ↦ b ∷ s ]

-- What comes after the byte m, where the text begins with it.
unfoldable pub past_mark : ℕ → Bytes → Option Bytes
past_mark m [] = none
past_mark m (b ∷ s) = elim (eqb b m) [ true ↦ some s | false ↦ none ]

-- The marks `*` and `?` after a factor.
unfoldable pub suffixes : Tree → Bytes → Parsed
suffixes t [] = parsed t []
suffixes t (b ∷ s) =
    elim (eqb b asterisk) [
      | true ↦ suffixes (star t) s
      | false ↦ elim (eqb b question) [ true ↦ suffixes (optional t) s | false ↦ parsed t (b ∷ s) ]
    ]

-- A name at the front of a text.
unfoldable pub named : Bytes → Parsed
named s = elim (is_name (run s)) [ true ↦ parsed (label (run s)) (past_run s) | false ↦ failed ]

-- A parsed part, with the marks after it.
unfoldable pub suffixed : Parsed → Parsed
suffixed failed = failed
suffixed (parsed t s) = suffixes t s

-- A parsed alternative, with the closing parenthesis after it.
unfoldable pub closed : Parsed → Parsed
closed failed = failed
closed (parsed t s) = elim (past_mark closing s) [ none ↦ failed | some r ↦ parsed t r ]

unfoldable pub joined : (Tree → Tree → Tree) → Tree → Parsed → Parsed
joined join l failed = failed
joined join l (parsed r s) = parsed (join l r) s

unfoldable mutual
  pub alternatives : ℕ → Bytes → Parsed
  alternatives zero s = failed
  alternatives (suc k) s =
      elim (sequences k s) [
        | failed ↦ failed
        | parsed l r ↦ elim (past_mark bar r) [ none ↦ parsed l r | some v ↦ joined alternative l (alternatives k v) ]
      ]

  pub sequences : ℕ → Bytes → Parsed
  sequences zero s = failed
  sequences (suc k) s =
      elim (factors k s) [
        | failed ↦ failed
        | parsed l r ↦ elim (past_mark dot r) [ none ↦ parsed l r | some v ↦ joined sequence l (sequences k v) ]
      ]

  pub factors : ℕ → Bytes → Parsed
  factors zero s = failed
  factors (suc k) s =
      elim (past_mark opening s) [
        | none ↦ suffixed (named s)
        | some v ↦ elim (past_mark closing v) [ none ↦ suffixed (closed (alternatives k v)) | some r ↦ suffixes empty r ]
      ]

-- Calls enough for a text of a given length.
abbrev pub calls : ℕ → ℕ
calls n = 3 * n + 4

-- The tree of a whole text.
unfoldable pub parse : Bytes → Option Tree
parse s = elim (alternatives (calls (length s)) s) [ failed ↦ none | parsed t r ↦ elim r [ [] ↦ some t | b ∷ v ↦ none ] ]
