-- The four ways through the definition.
use Rattle.verdict.specs.LentTables.{lent_of}
use Rattle.verdict.specs.Judging.{told-places, told-unfit, told-pairs, told-judged}
use native.Mathlib.Omega.{arith}
use Rattle.verdict.proofs.verdict.verdict_of.Goals as goal

pub returns-in_default : goal.returns-in_default
returns-in_default c =
    let s = c in
    told-places (lent_of s.args.tables) s.args.flags.now s.args.most s.args.allowance s.args.workspace.now s.args.path.now
    c.in_default.ensures.told

pub returns-then-flags-tables : goal.returns-then-flags-tables
returns-then-flags-tables c =
    let s = c in
    told-unfit (lent_of s.args.tables) s.args.flags.now s.args.most s.args.allowance s.args.workspace.now s.args.path.now _ (λ f. omega (arith, f.flags-room, c.if-flags-tables.true))

pub returns-then-tables-eq0 : goal.returns-then-tables-eq0
returns-then-tables-eq0 c =
    let s = c in
    told-unfit (lent_of s.args.tables) s.args.flags.now s.args.most s.args.allowance s.args.workspace.now s.args.path.now _ (λ f. omega (arith, f.accepting-room, c.if-tables-eq0.true))

pub explore-search-requires : goal.explore-search-requires
explore-search-requires c = c.in-Some.ensures.told.counted c.in-Some.ensures.some

pub returns-in_default-found : goal.returns-in_default-found
returns-in_default-found c =
    let s = c in
    let r = c.explore-search in
    told-pairs (lent_of s.args.tables) s.args.flags.now s.args.most s.args.allowance c.in-Some.w c.in-Some.ensures.told c.in-Some.ensures.some
    r.result.turned s.args.workspace.now s.args.path.now r.result.found r.new.workspace r.ensures c.in_default-found.is

pub judged-requires : goal.judged-requires
judged-requires c =
    let k = c.in-Some.ensures.some in
    let p = c.in-Some.ensures.told in
    let m = c.explore-search.ensures.told.few _ c.in-Some-found.is in (
      k,
      omega (arith, (p.few k).0, (p.few k).1),
      c.if-flags-tables.false,
      omega (arith, m.0, m.2, c.explore-search.auto.workspace),
    )

pub shape_of-workspace : goal.shape_of-workspace
shape_of-workspace c = c.explore-search.auto.workspace

pub shape_of-path : goal.shape_of-path
shape_of-path c = c.judged.auto.path

pub returns : goal.returns
returns c =
    let s = c in
    let r = c.explore-search in
    let j = c.judged in
    told-judged (lent_of s.args.tables) s.args.flags.now s.args.most s.args.allowance c.in-Some.w c.in-Some.ensures.told c.in-Some.ensures.some
    r.result.turned s.args.workspace.now s.args.path.now r.result.found r.new.workspace _ j.result j.new.path
    r.ensures c.in-Some-found.is j.ensures
