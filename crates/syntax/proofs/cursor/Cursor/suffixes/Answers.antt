use Prim.Native.Nat.{ℕ}
use mathlib.Core.Bool.{true, false, ◌||◌, or-true}
use mathlib.Core.Path.{◌≡◌, refl, ap, ap₂, ◌∙◌}
use lib.Dec.{eqb}
use lib.ListN.{get_or}
use borrow.Author.Tests.{eq-eqb, ne_eqb}
use Rattle.std.specs.Prelude.{Some}
use Rattle.syntax.specs.Byte.{asterisk, question}
use Rattle.syntax.specs.Place.{Moved, cursor_at}
use Rattle.syntax.proofs.Front.{suffix, past-suffixes, passed, stopped, ended}
use native.Mathlib.Omega.{arith}
use Rattle.syntax.proofs.cursor.Cursor.suffixes.Goals as goal
use Rattle.syntax.proofs.cursor.Cursor.suffixes.Goals.{else-s-i-ne42-via-then-s-i-ne42+else-s-i-ne63, else-s-i-ne42-via-else-s-i-ne42}

pub loop-i-init : goal.loop-i-init
loop-i-init c = refl

pub loop-i-preserved : goal.loop-i-preserved
loop-i-preserved c =
    let s = c.args.s.now in
    let l = c.loop-i in
    let b : ℕ = get_or s l.i 0 in
    let mark : suffix b ≡ true =
    elim c.else-s-i-ne42.branch [
      | else-s-i-ne42-via-then-s-i-ne42+else-s-i-ne63 w ↦
          ap (λ t. eqb b asterisk || t) (eq-eqb b question w.if-s-i-ne63.false) ∙ or-true (eqb b asterisk)
      | else-s-i-ne42-via-else-s-i-ne42 w ↦ ap (λ t. t || eqb b question) (eq-eqb b asterisk w.if-s-i-ne42.false)
    ] in
    passed suffix s l.i c.loop-i-test.true mark ∙ l.invariant

pub returns-then-s-i-ne63 : goal.returns-then-s-i-ne63
returns-then-s-i-ne63 c t =
    let s = c.args.s.now in
    let l = c.loop-i in
    let other : suffix (get_or s l.i 0) ≡ false = ap₂ ◌||◌ (ne_eqb _ asterisk c.if-s-i-ne42.true) (ne_eqb _ question c.if-s-i-ne63.true) in
    ap {B = Moved} Some (stopped suffix s l.i (omega arith) other ∙ ap (cursor_at s) l.invariant) ∙ past-suffixes s t _

pub returns : goal.returns
returns c t =
    let s = c.args.s.now in
    let l = c.loop-i in
    ap {B = Moved} Some (ended suffix s l.i (omega arith) ∙ ap (cursor_at s) l.invariant) ∙ past-suffixes s t _
