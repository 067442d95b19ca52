use mathlib.Core.Path.{refl}
use Rattle.theory.specs.Splitting.{split_below}
use Rattle.finding.specs.ClassesLaws.{classed-led, one_class, levels-class, split-class, split-falls, classes-refined}
use native.Mathlib.Omega.{arith}
use Rattle.finding.proofs.level.StateTable.refine.Goals as goal
use Rattle.finding.proofs.level.StateTable.refine.Goals.{else-find_levels, then-find_levels}

pub find_levels-requires : goal.find_levels-requires
find_levels-requires c = refl

pub class_keys-requires : goal.class_keys-requires
class_keys-requires c =
    let levels = c.find_levels.ensures.1 c.if-find_levels.true in
    (c.args.self.now.lent.rows.most, λ s h. omega (arith, levels.known.within s h), c.requires.1)

pub loop-keys-init : goal.loop-keys-init
loop-keys-init c =
    let levels = c.find_levels.ensures in
    let T = c.args.self.now.lent in
    let one = one_class T c.args.classes.now c.requires.0 in
    (elim c.if-find_levels.branch [
      | then-find_levels w ↦ rw w.classes-is (
        w.class_keys.ensures.sized,
        levels.0,
        classed-led w.class_keys.ensures,
        levels-class T (levels.1 w.if-find_levels.true) w.class_keys.ensures,
      )
      | else-find_levels w ↦ rw w.classes-is (c.requires.1, levels.0, one.0, one.1)
    ])

pub split_keys-requires : goal.split_keys-requires
split_keys-requires c =
    (c.loop-keys.invariant.2, c.loop-keys.invariant.1)

pub class_keys-requires-in-loop-keys : goal.class_keys-requires-in-loop-keys
class_keys-requires-in-loop-keys c =
    (c.args.self.now.lent.rows.most, split_below c.split_keys.ensures.keyed, c.loop-keys.invariant.0)

pub loop-keys-smaller : goal.loop-keys-smaller
loop-keys-smaller c =
    split-falls c.args.self.now.lent c.split_keys.ensures c.loop-keys-test.true
    c.loop-keys.invariant.2 c.class_keys-in-loop-keys.ensures

pub loop-keys-preserved : goal.loop-keys-preserved
loop-keys-preserved c =
    let split = c.split_keys.ensures in (
      c.class_keys-in-loop-keys.ensures.sized,
      split.sized,
      classed-led c.class_keys-in-loop-keys.ensures,
      split-class c.args.self.now.lent split c.loop-keys.invariant.3 c.class_keys-in-loop-keys.ensures,
    )

pub returns : goal.returns
returns c =
    let i = c.loop-keys.invariant in
    classes-refined c.args.self.now.lent c.loop-keys.classes i.0 i.2 i.3
    (c.split_keys.ensures.stays c.loop-keys-test.false)
