-- The table of the kinds of all bytes, which the code reads: that its constant is this table is one computed test.
use Rattle.std.specs.Prelude.{ℕ, ◌<◌, Bool, ◌≡◌, eqb, leb}
use mathlib.Core.List.{List}
use Rattle.std.proofs.Math.Path.{ap}
use Rattle.std.proofs.Common.{sym, ◌∙◌}
use Rattle.std.proofs.Math.ListN.{get_or}
use Rattle.syntax.specs.declared.kind.Kind.{Kind}
use Rattle.syntax.specs.declared.kind.Kind.TheVariants.{Letter, Digit, Hyphen, Dot, Bar, Star, Question, Opening, Closing, Rest}
use Rattle.syntax.specs.Byte.{kind, letter, digit, hyphen, rest, name_byte}
use Rattle.syntax.specs.Values.{values, value-at}

-- The kind of each of the 256 bytes.
unfoldable pub kind_table : List ℕ
kind_table = values kind 0 256

-- A byte's entry is its kind.
pub kind_at : (table : List ℕ) → table ≡ kind_table → (b : ℕ) → b < 256 → get_or table b 0 ≡ kind b
unfolding kind_table
kind_at table same b byte = ap (λ (t : List ℕ). get_or t b 0) same ∙ value-at kind 256 b byte

-- The number of a kind.
abbrev pub kind_number : Kind → ℕ
kind_number Letter = letter
kind_number Digit = digit
kind_number Hyphen = hyphen
kind_number Dot = 3
kind_number Bar = 4
kind_number Star = 5
kind_number Question = 6
kind_number Opening = 7
kind_number Closing = 8
kind_number Rest = rest

-- What its kind tells of a byte: whether it is a letter, and whether a name may have it.
module _ (b : ℕ) (k : Kind) (r : Bool) (is : kind_number k ≡ kind b) where
  pub kind_letter : r ≡ eqb (kind_number k) letter → eqb (kind b) letter ≡ r
  kind_letter h = sym (h ∙ ap (λ n. eqb n letter) is)

  pub kind_name : r ≡ leb (kind_number k) hyphen → name_byte b ≡ r
  kind_name h = sym (h ∙ ap (λ n. leb n hyphen) is)
