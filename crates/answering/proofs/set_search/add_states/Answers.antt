-- `add_states` meets its contract: there is nothing new, or the recording is on the stack, or comes onto it.
use Rattle.std.specs.Prelude.{◌*◌, ◌<◌}
use Rattle.answering.specs.WordsFrom.{SomeFrom}
use Rattle.answering.specs.Waiting.{waiting-free}
use Rattle.answering.specs.Grown.{row-reached, row-pending}
use Rattle.answering.specs.SetSteps.{states-known, states-stay, states-push, room-push}
use native.Mathlib.Omega.{arith}
use Rattle.answering.proofs.set_search.add_states.Goals as goal

-- Nothing of the recording was pending, so the stack has room.
nothing : (c : goal.Else-waits)
    →
    let a = c.args in ¬ SomeFrom a.pending.now (a.sizes.words * a.y) a.sizes.words
nothing c (k, l, d) =
    d (c.any_from-waits.ensures.nothing c.if-waits.false k l)

pub overflow_mul-base : goal.overflow_mul-base
overflow_mul-base c =
    let l = row-reached c.requires.0 c.args.y c.requires.1 in omega arith

pub brings-requires : goal.brings-requires
brings-requires c =
    (c.requires.2, row-reached c.requires.0 c.args.y c.requires.1)

pub returns-then-not-brings : goal.returns-then-not-brings
returns-then-not-brings c =
    let a = c.args in
    states-known a.images.now a.a c.requires.0 (c.brings.ensures.nothing (c.if-not-brings.true))

pub unite_new-requires : goal.unite_new-requires
unite_new-requires c =
    let p = c.requires in
    (p.2, row-reached p.0 c.args.y p.1, row-pending p.0 c.args.y p.1)

pub unite-requires : goal.unite-requires
unite-requires c =
    (c.requires.2, row-reached c.requires.0 c.args.y c.requires.1)

pub returns-then-waits : goal.returns-then-waits
returns-then-waits c =
    let a = c.args in
    let p = c.requires in
    states-stay a.a a.y p.0 p.1 (c.brings.ensures.some (c.if-not-brings.false))
    c.unite.auto.into c.unite_new.auto.into c.unite.ensures c.unite_new.ensures
    (c.any_from-waits.ensures.some c.if-waits.true)

pub offset_bounds-stack-height : goal.offset_bounds-stack-height
offset_bounds-stack-height c =
    let p = c.requires.0 in
    let l : c.args.height < 4096 = omega (arith, waiting-free p.waiting c.args.y c.requires.1 (nothing c), p.few) in
    omega arith

pub bounds-stack-height : goal.bounds-stack-height
bounds-stack-height c =
    room-push c.requires.0 c.args.y c.requires.1 (nothing c)

pub overflow_add-result : goal.overflow_add-result
overflow_add-result c =
    let p = c.requires.0 in
    let l : c.args.height < 4096 = omega (arith, waiting-free p.waiting c.args.y c.requires.1 (nothing c), p.few) in
    omega arith

pub returns : goal.returns
returns c =
    let a = c.args in
    let p = c.requires in
    states-push a.a a.y p.0 p.1 (c.brings.ensures.some (c.if-not-brings.false))
    c.unite.auto.into c.unite_new.auto.into c.unite.ensures c.unite_new.ensures
    (nothing c)
