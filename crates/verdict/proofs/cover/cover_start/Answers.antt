-- The set of the first place, settled.
use Rattle.std.specs.Prelude.{replicate}
use Rattle.verdict.specs.CoverStepped.{start-unready, start-told, ready-ending}
use Rattle.verdict.proofs.cover.cover_start.Goals as goal

pub returns-in_default : goal.returns-in_default
returns-in_default c =
    let s = c in
    start-unready s.args.tables.states s.args.tables.lists s.args.tables.follow.now s.args.tables.enter.now s.args.tables.sizes.now s.args.tables.accepting.now s.args.tables.table.now (replicate 16 0) c.in_default.ensures.told

pub settled-requires : goal.settled-requires
settled-requires c =
    let s = c in
    ready-ending s.args.tables.states s.args.tables.lists s.args.tables.follow.now s.args.tables.enter.now s.args.tables.sizes.now s.args.tables.accepting.now s.args.tables.table.now (c.in-Some.ensures.told.ready c.in-Some.ensures.some)

pub returns : goal.returns
returns c =
    let s = c in
    start-told s.args.tables.states s.args.tables.lists s.args.tables.follow.now s.args.tables.enter.now s.args.tables.sizes.now s.args.tables.accepting.now s.args.tables.table.now c.in-Some.w c.one.result.words c.settled.result.words c.in-Some.ensures.told c.one.ensures c.settled.ensures
