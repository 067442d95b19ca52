-- Equal words are equal numbers, and the other way round.
use mathlib.Core.Bool.{Bool, true, false}
use mathlib.Core.Path.{◌≡◌, sym, ap, ◌∙◌}
use mathlib.Core.List.{List}
use Prim.Native.Nat.{ℕ}
use lib.Dec.{eqb}
use lib.ListN.{length}
use borrow.Author.Tests.{eq-eqb, ne_eqb}
use Rattle.std.specs.Cmp.Lexicographic.{pointwise, same_text, other_text}
use Rattle.places.specs.Words.{number_of, Words}
use Rattle.places.specs.WordsLaws.{number_same}
use Rattle.places.proofs.Held.{array_count, array-words}
use Rattle.places.proofs.wide.Wide.same.Goals as goal

same-number : (r : Bool) (l m : List ℕ) → Words l → Words m → length l ≡ length m → r ≡ pointwise eqb l m → r ≡ eqb (number_of l) (number_of m)
same-number true l m h k s e = sym (eq-eqb _ _ (ap number_of (same_text l m e)))
same-number false l m h k s e = sym (ne_eqb _ _ λ n. other_text l m e (number_same l m h k s n))

pub returns : goal.returns
returns c =
    let a = c.args in
    let x = array_count 16 a.self.words _ c.well_formed.0.1.1.0 in
    let y = array_count 16 a.other.words _ c.well_formed.1.0.1.1.0 in
    same-number c.eq.result a.self.words a.other.words
    (array-words 16 a.self.words _ c.well_formed.0.1.1.0) (array-words 16 a.other.words _ c.well_formed.1.0.1.1.0)
    (x ∙ sym y) c.eq.ensures
