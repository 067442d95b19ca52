use Rattle.std.specs.Prelude.{◌-◌}
use mathlib.Core.Path.{◌∙◌}
use lib.Bits.{and_le_r}
use lib.Count.{trailing_le}
use lib.ListN.{length-set}
use Rattle.places.specs.Followed.{least-small}
use native.Mathlib.Omega.{arith}
use Rattle.std.proofs.Common.{rules}
use Rattle.verdict.proofs.classes.level_next.Goals as goal

pub overflow_add-keys : goal.overflow_add-keys
overflow_add-keys c =
    let (some, is, left) = c.in-Some.ensures.steps in
    omega (arith, trailing_le 64 c.loop-p.p-iterator.rest, c.requires.2, c.well_formed.1.1.1.1.1.0)

pub offset_bounds-keys-base : goal.offset_bounds-keys-base
offset_bounds-keys-base c =
    let (some, is, left) = c.in-Some.ensures.steps in
    omega (arith, trailing_le 64 c.loop-p.p-iterator.rest, c.requires.2, c.well_formed.1.1.1.1.1.0)

pub bounds-keys-base : goal.bounds-keys-base
bounds-keys-base c =
    let (some, is, left) = c.in-Some.ensures.steps in
    let l = c.loop-p in
    omega (arith, l.invariant.3, c.requires.2, least-small l.p-iterator.rest some l.invariant.2)

pub bounds-keys-base-in-loop-p : goal.bounds-keys-base-in-loop-p
bounds-keys-base-in-loop-p c =
    let (some, is, left) = c.in-Some.ensures.steps in
    let l = c.loop-p in
    omega (arith, l.invariant.3, c.requires.2, least-small l.p-iterator.rest some l.invariant.2)

pub overflow_add-next : goal.overflow_add-next
overflow_add-next c =
    let (some, is, left) = c.in-Some.ensures.steps in
    omega (arith, trailing_le 64 c.loop-p.p-iterator.rest, c.requires.0)

pub offset_bounds-follow-x : goal.offset_bounds-follow-x
offset_bounds-follow-x c =
    let (some, is, left) = c.in-Some.ensures.steps in
    omega (arith, trailing_le 64 c.loop-p.p-iterator.rest, c.requires.0)

pub bounds-follow-x : goal.bounds-follow-x
bounds-follow-x c =
    let (some, is, left) = c.in-Some.ensures.steps in
    let l = c.loop-p in
    omega (arith, c.requires.1, least-small l.p-iterator.rest some l.invariant.2)

pub loop-p-preserved : goal.loop-p-preserved
loop-p-preserved c =
    let (some, is, left) = c.in-Some.ensures.steps in
    let l = c.loop-p in
    rw left (search rules, search rules, omega (arith, l.invariant.2, and_le_r l.p-iterator.rest (l.p-iterator.rest - 1)), length-set l.keys _ _ ∙ l.invariant.3)
