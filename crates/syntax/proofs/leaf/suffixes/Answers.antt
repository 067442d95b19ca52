use native.Mathlib.Omega.{arith}
use Prim.Native.Nat.{◌+◌}
use mathlib.Core.Bool.{true}
use mathlib.Core.Path.{◌≡◌, refl, sym, ap, ◌∙◌}
use lib.ListN.{drop, drop_of_length-le}
use borrow.Author.Rules.{rules}
use Rattle.syntax.specs.Build.{Marked, marked}
use Rattle.syntax.specs.MarkedLaws.{marked-star, marked-question, marked_other, marked-end}
use Rattle.syntax.proofs.leaf.suffixes.Goals as goal
use Rattle.syntax.proofs.leaf.suffixes.Goals.{in-42, in-63}

pub loop-at-init : goal.loop-at-init
loop-at-init c = refl

pub loop-at-preserved : goal.loop-at-preserved
loop-at-preserved c =
    let p = c.args.part in
    let s = c.args.s.now in
    let l = c.loop-at in
    let inside = c.loop-at-test.true in
    let m : marked p.last.0 p.first.0 (drop (l.at + 1) s) true c.match-s-at.follow
    ≡ marked p.last.0 p.first.0 (drop l.at s) l.nullable l.follow =
    elim c.match-s-at.branch [
      | in-42 w ↦
          ap (marked p.last.0 p.first.0 (drop (l.at + 1) s) true) (w.follow-is ∙ w.link.ensures)
          ∙ marked-star p.last.0 p.first.0 s l.at l.nullable l.follow inside w.in-42.is
      | in-63 w ↦
          ap (marked p.last.0 p.first.0 (drop (l.at + 1) s) true) w.follow-is
          ∙ marked-question p.last.0 p.first.0 s l.at l.nullable l.follow inside (λ e. omega (arith, e, w.in-63.is)) w.in-63.is
    ] in
    m ∙ l.invariant

pub returns : goal.returns
returns c =
    let l = c.loop-at in
    let s = c.args.s.now in
    let beyond : drop l.at s ≡ drop c.max.result s =
    drop_of_length-le s c.loop-at-test.false ∙ sym (drop_of_length-le s (omega arith)) in
    record {
      onward = omega arith;
      same-follow = l.auto.follow;
      same = refl;
      marks =
          sym l.invariant ∙ marked-end _ _ _ l.at _ _ c.loop-at-test.false
          ∙ ap {B = Marked} (λ w. record { nullable = l.nullable; follow = l.follow; rest = w }) beyond;
    }

pub returns-in_default : goal.returns-in_default
returns-in_default c =
    let l = c.loop-at in
    record {
      onward = l.auto.at;
      same-follow = l.auto.follow;
      same = refl;
      marks = sym l.invariant ∙ marked_other _ _ _ l.at _ _ c.loop-at-test.true (search rules) (search rules);
    }
