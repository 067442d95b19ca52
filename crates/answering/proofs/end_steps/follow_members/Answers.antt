use Rattle.std.specs.Prelude.{◌+◌, ◌*◌}
use Rattle.answering.specs.EndStepsLaws.{followed-none, followed-more, followed-all}
use Rattle.answering.specs.EndStepsLaws.{word-there, row_small, image-there, ends_there}
use native.Mathlib.Omega.{arith}
use Rattle.answering.proofs.end_steps.follow_members.Goals as goal

pub loop-a-init : goal.loop-a-init
loop-a-init c = followed-none

pub overflow_mul-sizes : goal.overflow_mul-sizes
overflow_mul-sizes c = omega (arith, row_small {a = c.loop-a.a} c.args.turned.ends_fit (omega arith))

pub overflow_add-sizes : goal.overflow_add-sizes
overflow_add-sizes c = omega (arith, row_small {a = c.loop-a.a} c.args.turned.ends_fit (omega arith))

pub overflow_mul-sizes-in-loop-a : goal.overflow_mul-sizes-in-loop-a
overflow_mul-sizes-in-loop-a c = omega (arith, word-there {a = c.loop-a.a} c.args.turned.turnable c.requires.0 (omega arith))

pub overflow_add-sizes-in-loop-a : goal.overflow_add-sizes-in-loop-a
overflow_add-sizes-in-loop-a c = omega (arith, word-there {a = c.loop-a.a} c.args.turned.turnable c.requires.0 (omega arith))

pub offset_bounds-rows-sizes : goal.offset_bounds-rows-sizes
offset_bounds-rows-sizes c = omega (arith, word-there {a = c.loop-a.a} c.args.turned.turnable c.requires.0 (omega arith))

pub bounds-rows-sizes : goal.bounds-rows-sizes
bounds-rows-sizes c = word-there {a = c.loop-a.a} c.args.turned.turnable c.requires.0 (omega arith)

pub follow_symbol-requires : goal.follow_symbol-requires
follow_symbol-requires c =
    let l = c.loop-a in
    let a = c.args in
    let p = c.requires in
    let word = c.type_inv.rows (a.turned.sizes.symbols * a.s + l.a) in (
      ends_there a.from a.set a.turned.ends_fit (omega arith) p.1,
      image-there l.sets a.turned.turnable p.0 (omega arith) (omega (arith, word)) (omega (arith, l.invariant.words-kept, p.3)),
    )

pub loop-a-preserved : goal.loop-a-preserved
loop-a-preserved c =
    let f = c.follow_symbol in
    followed-more c.loop-a.invariant (omega arith) f.auto.sets f.ensures

pub returns : goal.returns
returns c = followed-all c.loop-a.invariant (omega arith)
