use Prim.Native.Nat.{◌-◌}
use lib.ListN.{get_or, drop, length-drop}
use Rattle.reading.specs.ListStarts.{start-told, start-not, starts-next, starts_none, starts-within}
use native.Mathlib.Omega.{arith}
use Rattle.reading.proofs.reader.list_starts.Goals as goal
use Rattle.reading.proofs.reader.list_starts.Goals.{then-text-i, else-text-i}

pub overflow_add-n : goal.overflow_add-n
overflow_add-n c = omega (arith, starts-within c.args.text.now, c.loop-i.invariant, c.requires)

pub loop-i-preserved : goal.loop-i-preserved
loop-i-preserved c =
    let t = c.args.text.now in
    let i = c.loop-i.i in
    let next = starts-next t i (omega arith) (omega arith) in
    elim c.if-text-i.branch [
      | then-text-i w ↦ omega (arith, next, start-told (get_or t (i - 1) 0) (get_or t i 0) w.if-text-i.true)
      | else-text-i w ↦ omega (arith, next, start-not (get_or t (i - 1) 0) (get_or t i 0) w.if-text-i.false)
    ]

pub returns : goal.returns
returns c =
    let t = c.args.text.now in
    let i = c.loop-i.i in
    omega (arith, c.loop-i.invariant, starts_none (drop (i - 1) t) (omega (arith, length-drop (i - 1) t)))
