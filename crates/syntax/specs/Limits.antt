-- The limits of an expression (document 01): at most 512 bytes, parentheses at most 16 deep, `()` counted, and at most 63 label occurrences.
use Rattle.std.specs.Prelude.{ℕ, suc, pred, max, Bool, true, false, List, [], ◌∷◌, ◌++◌, eqb}
use Rattle.theory.specs.Expression.{Regular, empty, label, alternative, sequence, star, optional}
use Rattle.syntax.specs.Byte.{Bytes, opening, closing, name_byte}
use Rattle.syntax.specs.Parser.{run}

abbrev pub most_bytes : ℕ
most_bytes = 512

abbrev pub most_nesting : ℕ
most_nesting = 16

abbrev pub most_occurrences : ℕ
most_occurrences = 63

-- The number of open parentheses after one more byte.
unfoldable pub balance : ℕ → ℕ → ℕ
balance n b = elim (eqb b opening) [ true ↦ suc n | false ↦ elim (eqb b closing) [ true ↦ pred n | false ↦ n ] ]

-- How deep the parentheses of a text nest, n of them being open before it.
unfoldable pub nesting : ℕ → Bytes → ℕ
nesting n [] = n
nesting n (b ∷ s) = max n (nesting (balance n b) s)

-- The leaves of a tree, left to right.
unfoldable pub leaves : {A : Type 0} → Regular A → List A
leaves empty = []
leaves (label a) = a ∷ []
leaves (alternative l r) = leaves l ++ leaves r
leaves (sequence l r) = leaves l ++ leaves r
leaves (star e) = leaves e
leaves (optional e) = leaves e

-- The longest runs of name bytes in a text, from left to right, given whether the text goes on a run that has begun before it.
unfoldable pub runs : Bool → Bytes → List Bytes
runs inside [] = []
runs inside (b ∷ s) =
    elim (name_byte b) [
      | true ↦ elim inside [ true ↦ runs true s | false ↦ run (b ∷ s) ∷ runs true s ]
      | false ↦ runs false s
    ]
