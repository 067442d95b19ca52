use Rattle.std.specs.Prelude.{◌+◌, get_or, take, slice_set}
use mathlib.Core.Logic.{inl, inr}
use mathlib.Core.Path.{refl, ap, ◌∙◌}
use lib.ListN.{length-set}
use lib.Seq.{length-take-le}
use Rattle.finding.specs.PlaceOfLaws.{place-within}
use Rattle.theory.specs.Places.{intersection}
use Rattle.theory.specs.Automaton.{step}
use Rattle.finding.specs.NumberIndexLaws.{indexed-more, indexed-all, indexed-over}
use Rattle.finding.specs.StandingsExploring.{row-begins, row_ends, loop-turn, loop-over}
use native.Mathlib.Omega.{arith}
use Rattle.finding.proofs.standings.Standings.row.Goals as goal
use Rattle.finding.proofs.standings.Standings.row.Goals.{else-to-m, then-to-m+else-m-limit}

pub loop-a-init : goal.loop-a-init
loop-a-init c = (c.follows-after.ensures, row-begins c.requires.0.within, c.requires.1)

pub find_place-to-requires : goal.find_place-to-requires
find_place-to-requires c =
    let l = c.loop-a in
    let p = c.requires.0 in (
      omega (arith, l.invariant.1.within, l.invariant.1.room, p.numbers),
      omega (arith, l.invariant.1.within, p.most),
      c.bucket-at.ensures,
      l.invariant.2,
    )

pub overflow_cast-self : goal.overflow_cast-self
overflow_cast-self c =
    let l = c.loop-a in
    let entered = get_or c.args.enter.now l.a 0 in
    let next = intersection c.follows-after.result.0 entered in
    omega (
      arith,
      c.find_place-to.ensures,
      place-within next (take l.m l.self.found),
      length-take-le l.m l.self.found (omega (arith, l.invariant.1.within, l.invariant.1.room, c.requires.0.numbers)),
      l.invariant.1.within,
      c.requires.0.most,
    )

pub returns-then-m-limit : goal.returns-then-m-limit
unfolding step
returns-then-m-limit c =
    let l = c.loop-a in
    let p = c.requires.0 in
    let more = c.loop-a-test.true in
    let entered = get_or c.args.enter.now l.a 0 in
    let f = c.find_place-to in
    record {
      row_told = loop-over l.invariant.1 more p.inside p.numbers p.row (omega (arith, more, p.inside, p.within, p.row, p.rows))
          (intersection c.follows-after.result.0 entered) f.result
          (ap (λ y. intersection y entered) l.invariant.0) f.ensures c.if-to-m.true (omega arith);
      kept = (l.invariant.1.room, length-set _ _ _ ∙ l.invariant.1.rows);
      indexed = indexed-over;
    }

pub loop-a-preserved : goal.loop-a-preserved
unfolding step
loop-a-preserved c =
    let l = c.loop-a in
    let p = c.requires.0 in
    let more = c.loop-a-test.true in
    let entered = get_or c.args.enter.now l.a 0 in
    let next = intersection c.follows-after.result.0 entered in
    let f = c.find_place-to in
    let turn = loop-turn l.invariant.1 more p.inside p.numbers p.row (omega (arith, more, p.inside, p.within, p.row, p.rows))
    next f.result (ap (λ y. intersection y entered) l.invariant.0) f.ensures in
    elim c.if-to-m.branch [
      | then-to-m+else-m-limit w ↦ rw (w.self-is, w.m-is) (
        l.invariant.0,
        turn (l.m + 1) (slice_set l.self.found l.m next) (inl (w.if-to-m.true, omega arith, refl, refl)),
        indexed-more l.self.found l.m next _ _ _ _ _ c.bucket-at.ensures (omega (arith, p.most, l.invariant.1.within)) (omega arith)
            (omega (arith, f.ensures, w.if-to-m.true)) l.invariant.2 w.note.ensures,
      )
      | else-to-m w ↦ rw (w.self-is, w.m-is) (
        l.invariant.0,
        turn l.m l.self.found (inr (w.if-to-m.false, refl, refl)),
        l.invariant.2,
      )
    ]

pub returns : goal.returns
returns c = let l = c.loop-a in
    record { row_told = row_ends l.invariant.1 c.loop-a-test.false; kept = (l.invariant.1.room, l.invariant.1.rows); indexed = indexed-all l.invariant.2 }
