-- The places that the label leads to, settled.
use Rattle.std.specs.Prelude.{replicate}
use Rattle.verdict.specs.CoverStepped.{step-unready, step-outside, step-told, ready-moving, ready-ending}
use native.Mathlib.Omega.{arith}
use Rattle.verdict.proofs.cover.cover_step.Goals as goal

pub returns-in_default : goal.returns-in_default
returns-in_default c =
    let s = c in
    step-unready s.args.tables.states s.args.tables.lists s.args.tables.follow.now s.args.tables.enter.now s.args.tables.sizes.now s.args.tables.accepting.now s.args.tables.table.now s.args.a s.args.set.words (replicate 16 0) c.in_default.ensures.told

pub returns-then-a-ge32 : goal.returns-then-a-ge32
returns-then-a-ge32 c =
    let s = c in
    step-outside s.args.tables.states s.args.tables.lists s.args.tables.follow.now s.args.tables.enter.now s.args.tables.sizes.now s.args.tables.accepting.now s.args.tables.table.now s.args.a s.args.set.words (replicate 16 0) c.if-a-ge32.true

pub overflow_mul-tables : goal.overflow_mul-tables
overflow_mul-tables c = omega (arith, (c.in-Some.ensures.told.ready c.in-Some.ensures.some).few-places)

pub moved-next-requires : goal.moved-next-requires
moved-next-requires c =
    let s = c in
    let r = c.in-Some.ensures.told.ready c.in-Some.ensures.some in
    (ready-moving s.args.tables.states s.args.tables.lists s.args.tables.follow.now s.args.tables.enter.now s.args.tables.sizes.now s.args.tables.accepting.now s.args.tables.table.now s.args.a c.if-a-ge32.false r, r.few-places)

pub settled-requires : goal.settled-requires
settled-requires c =
    let s = c in
    ready-ending s.args.tables.states s.args.tables.lists s.args.tables.follow.now s.args.tables.enter.now s.args.tables.sizes.now s.args.tables.accepting.now s.args.tables.table.now (c.in-Some.ensures.told.ready c.in-Some.ensures.some)

pub returns : goal.returns
returns c =
    let s = c in
    step-told s.args.tables.states s.args.tables.lists s.args.tables.follow.now s.args.tables.enter.now s.args.tables.sizes.now s.args.tables.accepting.now s.args.tables.table.now s.args.a c.in-Some.w s.args.set.words c.moved-next.result.words c.settled.result.words
    c.in-Some.ensures.told c.moved-next.ensures c.settled.ensures
