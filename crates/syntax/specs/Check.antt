-- What is said of an expression's text, given the labels: its expression, or the first fault in the order of document 01. First as
-- document 01 has it, then executable.
use Rattle.std.specs.Prelude.{ℕ, ◌≤◌, ◌<◌, true, false, List, [], ◌≡◌, leb, length, get_or}
use Rattle.std.proofs.Math.Option.{some, none}
use Rattle.theory.specs.Expression.{Expression}
use Rattle.theory.specs.Standing.{size}
use Rattle.syntax.specs.declared.refusal.Refusal.{Refusal}
use Rattle.syntax.specs.declared.refusal.Refusal.TheVariants.{NotInGrammar, UnknownLabel, ExpressionTooLong, TooDeep, TooManyOccurrences}
use Rattle.syntax.specs.Byte.{Bytes}
use Rattle.syntax.specs.Name.{SameName}
use Rattle.syntax.specs.Grammar.{Tree, alternatives, Derives}
use Rattle.syntax.specs.Parser.{parse}
use Rattle.syntax.specs.Limits.{most_bytes, most_nesting, most_occurrences, nesting, leaves}
use Rattle.syntax.specs.Resolve.{Resolves, numbered, known}

-- The names of a table are distinct.
abbrev pub Distinct : List Bytes → Type 0
Distinct names = (i j : ℕ) → i < length names → j < length names → SameName (get_or names i []) (get_or names j []) → i ≡ j

-- The text s is an expression over the labels, and stands for e.
pub record IsExpression (labels : List Bytes) (s : Bytes) (e : Expression) : Type 0 where
  pub short : length s ≤ most_bytes
  pub tree : Tree
  pub derives : Derives alternatives s tree
  pub shallow : nesting 0 s ≤ most_nesting
  pub resolves : Resolves labels tree e
  pub few : size e ≤ most_occurrences

-- The first fault of the text s: too long; not in the grammar; too deep; with an unknown label; with too many occurrences.
pub data Fault (labels : List Bytes) (s : Bytes) : Refusal → Type 0 where
  long : most_bytes < length s → Fault labels s ExpressionTooLong
  ungrammatical : length s ≤ most_bytes → ((t : Tree) → ¬ Derives alternatives s t) → Fault labels s NotInGrammar
  deep : {t : Tree} → length s ≤ most_bytes → Derives alternatives s t → most_nesting < nesting 0 s → Fault labels s TooDeep
  unknown : {t : Tree} → length s ≤ most_bytes → Derives alternatives s t → nesting 0 s ≤ most_nesting
      → ((e : Expression) → ¬ Resolves labels t e) → Fault labels s UnknownLabel
  many : {t : Tree} {e : Expression} → length s ≤ most_bytes → Derives alternatives s t → nesting 0 s ≤ most_nesting
      → Resolves labels t e → most_occurrences < size e → Fault labels s TooManyOccurrences

pub data Checked : Type 0 where
  fine : Expression → Checked
  faulty : Refusal → Checked

-- The same, of a tree that the grammar gives.
unfoldable pub check_tree : List Bytes → Bytes → Tree → Checked
check_tree labels s t =
    elim (leb (nesting 0 s) most_nesting) [
      | false ↦ faulty TooDeep
      | true ↦ elim (known labels (leaves t)) [
        | false ↦ faulty UnknownLabel
        | true ↦ elim (leb (length (leaves t)) most_occurrences) [ false ↦ faulty TooManyOccurrences | true ↦ fine (numbered labels t) ]
      ]
    ]

unfoldable pub check : List Bytes → Bytes → Checked
check labels s =
    elim (leb (length s) most_bytes) [
      | false ↦ faulty ExpressionTooLong
      | true ↦ elim (parse s) [ none ↦ faulty NotInGrammar | some t ↦ check_tree labels s t ]
    ]
