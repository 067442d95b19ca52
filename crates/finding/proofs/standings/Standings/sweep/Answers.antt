use Rattle.std.specs.Prelude.{set}
use mathlib.Core.Path.{refl, ◌∙◌}
use lib.ListN.{length-set}
use Rattle.finding.specs.NumberIndexLaws.{indexed-first}
use Rattle.finding.specs.Exploring.{sweep-start, sweep-more, sweep-exceeds, all_found, outcome-all, outcome-over}
use native.Mathlib.Omega.{arith}
use Rattle.finding.proofs.standings.Standings.sweep.Goals as goal

pub loop-i-init : goal.loop-i-init
loop-i-init c =
    let s = c.args.self.now in
    let r = c.requires in (
      r.0.within,
      refl,
      refl,
      sweep-start s.found s.moves r.0.within (omega (arith, r.0.within, r.0.numbers)) tt,
      rw (r.1.0, r.1.1) (indexed-first (set s.found 0 1)),
    )

pub row-requires : goal.row-requires
row-requires c =
    let l = c.loop-i in
    let r = c.requires.0 in (
      record {
        row = r.row;
        enters = r.enters;
        inside = c.loop-i-test.true;
        within = l.invariant.0;
        most = r.most;
        numbers = omega (arith, l.invariant.1, length-set c.args.self.now.found 0 1, r.numbers);
        rows = omega (arith, l.invariant.2, r.rows);
      },
      l.invariant.4,
    )

pub returns-in_err-n : goal.returns-in_err-n
returns-in_err-n c =
    let l = c.loop-i in
    rw c.from_residual.ensures
    (record {
      told = sweep-exceeds l.i l.n l.invariant.3 c.loop-i-test.true l.invariant.0
          (omega (arith, l.invariant.0, l.invariant.1, c.requires.0.numbers, length-set c.args.self.now.found 0 1))
          (λ whole held. outcome-over whole _ c.in_err-n.was (c.row.ensures.row_told.told whole held));
      within = tt;
    })

pub loop-i-preserved : goal.loop-i-preserved
loop-i-preserved c =
    let r = c.row in
    let l = c.loop-i in
    let q = c.in_ok-n.was in (
      (r.ensures.row_told.bounds _ q).1,
      r.ensures.kept.0 ∙ l.invariant.1,
      r.ensures.kept.1 ∙ l.invariant.2,
      sweep-more l.i l.n l.invariant.3 c.loop-i-test.true l.invariant.0
          (omega (arith, l.invariant.0, l.invariant.1, c.requires.0.numbers, length-set c.args.self.now.found 0 1)) c.requires.0.row
          (λ whole held. outcome-all whole _ q (r.ensures.row_told.told whole held)),
      r.ensures.indexed _ q,
    )

pub overflow_add-i : goal.overflow_add-i
overflow_add-i c = omega (arith, c.loop-i.invariant.0)

pub loop-i-smaller : goal.loop-i-smaller
loop-i-smaller c = omega (arith, c.loop-i.invariant.0)

pub returns : goal.returns
returns c =
    let l = c.loop-i in
    record {
      told =
          all_found l.i l.n c.requires.0.row
          (omega (arith, l.invariant.0, l.invariant.1, c.requires.0.numbers, length-set c.args.self.now.found 0 1)) c.loop-i-test.false
          l.invariant.3;
      within = l.invariant.0;
    }
