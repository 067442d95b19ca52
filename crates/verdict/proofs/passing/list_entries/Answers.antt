use Rattle.std.specs.Prelude.{◌≡◌}
use mathlib.Core.Bool.{false≢true}
use mathlib.Core.Path.{subst}
use Rattle.verdict.specs.FinishingTurns.{EntriesBefore, entries-start, entries-turn}
use native.Mathlib.Omega.{arith}
use Rattle.verdict.proofs.passing.list_entries.Goals as goal

pub loop-q-init : goal.loop-q-init
loop-q-init c = entries-start _ _ _ _ _

pub shape_of-ended-then-next-states : goal.shape_of-ended-then-next-states
shape_of-ended-then-next-states c = c.loop-q.invariant.size

pub returns-then-next-states : goal.returns-then-next-states
returns-then-next-states c =
    record { size = c.loop-q.invariant.size; entries = λ e. absurd (false≢true e) }

pub bounds-ended-v : goal.bounds-ended-v
bounds-ended-v c =
    let l = c.loop-q in
    omega (arith, l.invariant.size)

pub loop-q-preserved : goal.loop-q-preserved
loop-q-preserved c =
    let l = c.loop-q in
    let s = c in
    entries-turn s.args.states s.args.v s.args.table.now s.args.passes.now s.args.ended.now l.ended l.q
    (omega (arith, l.invariant.size)) (omega (arith, c.if-next-states.false)) l.invariant

pub shape_of-ended : goal.shape_of-ended
shape_of-ended c = c.loop-q.invariant.size

pub returns : goal.returns
returns c =
    let l = c.loop-q in
    let s = c in
    let a = s.args in
    let e : l.q ≡ a.states = omega arith in
    record {
      size = l.invariant.size;
      entries = λ t. subst (EntriesBefore a.states a.v a.table.now a.passes.now a.ended.now l.ended) e l.invariant;
    }
