use mathlib.Core.Path.{refl, ap, sym, ◌∙◌}
use native.Mathlib.Omega.{arith}
use Rattle.syntax.specs.Byte.{name_byte}
use Rattle.syntax.specs.Place.{cursor_at}
use Rattle.syntax.specs.KindTable.{kind_name}
use Rattle.syntax.proofs.Front.{past-run, passed, stopped, ended}
use Rattle.syntax.proofs.cursor.Cursor.past_run.Goals as goal

pub loop-i-init : goal.loop-i-init
loop-i-init c = refl

pub returns-then-not-in_name : goal.returns-then-not-in_name
returns-then-not-in_name c =
    let s = c.args.s.now in
    let l = c.loop-i in
    let k = kind_name _ _ _ c.of.ensures c.in_name.ensures ∙ c.if-not-in_name.true in
    stopped name_byte s l.i (omega arith) k ∙ ap (cursor_at s) (l.invariant ∙ sym (past-run _))

pub loop-i-preserved : goal.loop-i-preserved
loop-i-preserved c =
    let s = c.args.s.now in
    let l = c.loop-i in
    let k = kind_name _ _ _ c.of.ensures c.in_name.ensures ∙ c.if-not-in_name.false in
    passed name_byte s l.i (omega arith) k ∙ l.invariant

pub returns : goal.returns
returns c =
    let s = c.args.s.now in
    let l = c.loop-i in
    ended name_byte s l.i (omega arith) ∙ ap (cursor_at s) (l.invariant ∙ sym (past-run _))
