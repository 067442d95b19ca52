use Rattle.std.specs.Prelude.{◌<◌, get_or}
use Rattle.finding.proofs.Classing.{classing-none, classing-joins, classing-leads}
use native.Mathlib.Omega.{arith}
use Rattle.finding.proofs.refine.class_keys.Goals as goal
use Rattle.finding.proofs.refine.class_keys.Goals.{else-keys-first, then-keys-first}

pub loop-s-init : goal.loop-s-init
loop-s-init c = classing-none c.args.keys.now c.args.classes.now c.requires.2

pub overflow_cast-first : goal.overflow_cast-first
overflow_cast-first c =
    omega (arith, c.requires.1 c.loop-s.s c.loop-s-test.true)

pub bounds-firsts-key : goal.bounds-firsts-key
bounds-firsts-key c =
    omega (arith, c.requires.1 c.loop-s.s c.loop-s-test.true)

pub overflow_cast-first-in-loop-s : goal.overflow_cast-first-in-loop-s
overflow_cast-first-in-loop-s c =
    let key = c.requires.1 c.loop-s.s c.loop-s-test.true in
    omega (arith, c.loop-s.invariant.below (get_or c.args.keys.now c.loop-s.s 0) key, c.requires.0)

pub offset_bounds-keys-first : goal.offset_bounds-keys-first
offset_bounds-keys-first c =
    let key = c.requires.1 c.loop-s.s c.loop-s-test.true in
    omega (arith, c.loop-s.invariant.below (get_or c.args.keys.now c.loop-s.s 0) key, c.requires.0)

pub bounds-keys-first : goal.bounds-keys-first
bounds-keys-first c =
    let key = c.requires.1 c.loop-s.s c.loop-s-test.true in
    omega (arith, c.loop-s.invariant.below (get_or c.args.keys.now c.loop-s.s 0) key, c.requires.0)

pub overflow_cast-firsts-else-keys-first : goal.overflow_cast-firsts-else-keys-first
overflow_cast-firsts-else-keys-first c =
    omega (arith, c.requires.1 c.loop-s.s c.loop-s-test.true)

pub bounds-firsts-key-else-keys-first : goal.bounds-firsts-key-else-keys-first
bounds-firsts-key-else-keys-first c =
    omega (arith, c.requires.1 c.loop-s.s c.loop-s-test.true)

pub loop-s-preserved : goal.loop-s-preserved
loop-s-preserved c =
    let l = c.loop-s in
    let key = c.requires.1 l.s c.loop-s-test.true in
    let small : l.s < 256 = omega (arith, c.loop-s-test.true, c.requires.0) in
    elim c.if-keys-first.branch [
      | then-keys-first w ↦ rw (w.classes-is, w.firsts-is) (classing-joins l.invariant small key w.if-keys-first.true)
      | else-keys-first w ↦ rw (w.classes-is, w.firsts-is) (classing-leads l.invariant small key w.if-keys-first.false)
    ]

pub returns : goal.returns
returns c =
    record {
      sized = c.loop-s.invariant.sized;
      at = λ q h. c.loop-s.invariant.classed q (omega arith);
    }
