use Prim.Native.Nat.{ℕ, ◌+◌, ◌-◌}
use mathlib.Core.Bool.{Bool, true, false}
use mathlib.Core.List.{List, [], ◌∷◌}
use mathlib.Core.Path.{◌≡◌, sym, ap, ◌∙◌}
use native.Mathlib.Omega.{arith}
use lib.ListN.{length}
use Rattle.syntax.specs.declared.table.Span.{Span}
use Rattle.syntax.specs.Byte.{Bytes}
use Rattle.syntax.specs.Name.{same_name}
use Rattle.syntax.specs.Resolve.{names_at}
use Rattle.syntax.specs.TableLaws.{name_at, length-names_at, find_from, find_from-here, find_from-past, find_from-end, place-some, place-none}
use Rattle.syntax.proofs.table.Names.find_letter.Goals as goal

-- The name at i has been told to be the letter, or not.
same_at : (text : Bytes) (spans : List Span) (i letter : ℕ) (m : Bytes) (r t : Bool) → m ≡ name_at text spans i → r ≡ same_name m (letter ∷ []) → r ≡ t
    → same_name (name_at text spans i) (letter ∷ []) ≡ t
same_at text spans i letter m r t here told e = sym (ap (λ (n : Bytes). same_name n (letter ∷ [])) here) ∙ sym told ∙ e

pub loop-i-init : goal.loop-i-init
loop-i-init c = let a = c.args in sym (find_from-end a.self.text.now a.self.spans.now (a.letter ∷ []) (length a.self.spans.now) (omega arith))

pub loop-i-preserved-then-same_letter : goal.loop-i-preserved-then-same_letter
loop-i-preserved-then-same_letter c =
    let a = c.args in
    let i = c.loop-i.i - 1 in
    let same = same_at a.self.text.now a.self.spans.now i a.letter _ _ true c.of.ensures c.same_letter.ensures c.if-same_letter.true in
    sym (find_from-here a.self.text.now a.self.spans.now (a.letter ∷ []) i (omega arith) same)

pub loop-i-preserved : goal.loop-i-preserved
loop-i-preserved c =
    let a = c.args in
    let l = c.loop-i in
    let other = same_at a.self.text.now a.self.spans.now (l.i - 1) a.letter _ _ false c.of.ensures c.same_letter.ensures c.if-same_letter.false in
    let past = find_from-past a.self.text.now a.self.spans.now (a.letter ∷ []) (l.i - 1) (omega arith) other in
    let e : l.i - 1 + 1 ≡ l.i = omega arith in
    l.invariant ∙ sym (past ∙ ap (find_from a.self.text.now a.self.spans.now (a.letter ∷ [])) e)

pub returns-then-found-count : goal.returns-then-found-count
returns-then-found-count c =
    let a = c.args in
    let l = c.loop-i in
    let e : l.i ≡ 0 = omega arith in
    place-some (a.letter ∷ []) (names_at a.self.text.now a.self.spans.now) l.found
    (l.invariant ∙ ap (find_from a.self.text.now a.self.spans.now (a.letter ∷ [])) e)
    (omega (arith, length-names_at a.self.text.now a.self.spans.now))

pub returns-else-found-count : goal.returns-else-found-count
returns-else-found-count c =
    let a = c.args in
    let l = c.loop-i in
    let e : l.i ≡ 0 = omega arith in
    let f = l.invariant ∙ ap (find_from a.self.text.now a.self.spans.now (a.letter ∷ [])) e in
    place-none (a.letter ∷ []) (names_at a.self.text.now a.self.spans.now) (omega (arith, length-names_at a.self.text.now a.self.spans.now))
