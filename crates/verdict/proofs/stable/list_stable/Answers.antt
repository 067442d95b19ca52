use Rattle.std.specs.Prelude.{◌≡◌, ℕ, ◌-◌}
use mathlib.Core.Path.{refl, ◌∙◌, subst}
use Rattle.verdict.specs.StableTurns.{ListLike, list-start, list-turn}
use native.Mathlib.Omega.{arith}
use Rattle.verdict.proofs.stable.list_stable.Goals as goal

pub loop-p-init : goal.loop-p-init
loop-p-init c = (refl, list-start _ _ _ _ _ _ _ _)

pub classes_of-set-requires : goal.classes_of-set-requires
classes_of-set-requires c =
    let s = c in
    let l = c.loop-p in
    λ q m. omega (arith, s.requires.4, s.requires.5 q l.p (omega (arith, c.loop-p-test.true, s.requires.1)) m)

pub is_like-requires : goal.is_like-requires
is_like-requires c =
    let s = c in
    let l = c.loop-p in (
      omega (arith, c.class_at-c.ensures, s.requires.6 l.p (omega arith) (omega arith)),
      omega (arith, l.invariant.0, s.requires.7),
      omega (arith, l.invariant.1.size, s.requires.8),
    )

pub overflow_shl-known : goal.overflow_shl-known
overflow_shl-known c = omega (arith, c.class_at-c.ensures, c.requires.6 c.loop-p.p (omega arith) (omega arith))

pub loop-p-preserved : goal.loop-p-preserved
loop-p-preserved c =
    let s = c in
    let l = c.loop-p in
    let f = c.is_like in
    let class = c.class_at-c in (
      f.auto.merged ∙ l.invariant.0,
      list-turn s.args.v s.args.base l.p s.args.before.now s.args.kinds.now s.args.classes.now s.args.already
          s.args.merged.now s.args.entering.now l.known l.merged l.entering f.new.merged
          f.new.entering class.result c.classes_of-set.result _ (omega arith)
          (omega (arith, class.ensures, s.requires.6 l.p (omega arith) (omega arith))) class.ensures c.classes_of-set.ensures refl
          (f.ensures c.if-not-is_like.false) l.invariant.1,
    )

pub returns : goal.returns
returns c =
    let s = c in
    let l = c.loop-p in
    let e : l.p - 1 ≡ s.args.size = omega (arith, c.loop-p-test.false) in
    subst
    (λ (z : ℕ). ListLike s.args.v s.args.base z s.args.before.now s.args.kinds.now s.args.classes.now s.args.already
    s.args.merged.now s.args.entering.now l.known l.merged l.entering) e l.invariant.1
