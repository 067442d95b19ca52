use Rattle.std.specs.Prelude.{◌*◌}
use mathlib.Core.Path.{refl, ◌∙◌}
use Rattle.places.specs.Words.{number_of}
use Rattle.places.proofs.Held.{array_count}
use Rattle.verdict.specs.Cover.{ends as ends_of}
use Rattle.verdict.specs.Tables.{automata_of, rewritten}
use Rattle.verdict.specs.CoverWalk.{walk_start, walk_turn, walk_end}
use native.Mathlib.Omega.{arith}
use Rattle.verdict.proofs.cover.round.Goals as goal

pub overflow_mul-count : goal.overflow_mul-count
overflow_mul-count c = omega (arith, c.requires.few-places)

pub next_place-p-requires : goal.next_place-p-requires
next_place-p-requires c = array_count 16 c.args.fresh.words _ c.well_formed.1.1.1.1.1.1.0.1.1.0

pub loop-p-init : goal.loop-p-init
loop-p-init c =
    let s = c in
    (refl, c.next_place-p.ensures.bound, array_count 16 s.args.set.words _ s.well_formed.1.1.1.1.1.1.1.0.1.1.0, λ any flags follow enter room. walk_start _ _ _ _ _ c.next_place-p.ensures)

pub ends-requires : goal.ends-requires
ends-requires c = (c.requires, omega (arith, c.loop-p.invariant.0, c.loop-p-test.true), c.loop-p.invariant.2)

pub overflow_add-p : goal.overflow_add-p
overflow_add-p c = omega (arith, c.loop-p.invariant.1)

pub next_place-p-requires-in-loop-p : goal.next_place-p-requires-in-loop-p
next_place-p-requires-in-loop-p c = array_count 16 c.args.fresh.words _ c.well_formed.1.1.1.1.1.1.0.1.1.0

pub loop-p-smaller : goal.loop-p-smaller
loop-p-smaller c = omega (arith, c.loop-p.invariant.0, c.loop-p-test.true, c.requires.few-places, c.next_place-p-in-loop-p.ensures.bound, c.next_place-p-in-loop-p.ensures.onward (omega (arith, c.loop-p.invariant.0, c.loop-p-test.true, c.requires.few-places)))

pub loop-p-preserved : goal.loop-p-preserved
loop-p-preserved c =
    let l = c.loop-p in
    let s = c in (
      l.invariant.0,
      c.next_place-p-in-loop-p.ensures.bound,
      c.ends.auto.into ∙ l.invariant.2,
      λ any flags follow enter room.
          walk_turn (ends_of (rewritten any s.args.table.now flags) (automata_of follow enter s.args.sizes.now s.args.accepting.now s.args.lists))
          (number_of s.args.fresh.words) (number_of s.args.set.words) (s.args.states * s.args.w) l.words c.ends.new.into l.p c.next_place-p-in-loop-p.result
          s.requires.few-places (omega (arith, l.invariant.0, c.loop-p-test.true)) (l.invariant.3 any flags follow enter room) (c.ends.ensures.gains any flags follow enter room)
          c.next_place-p-in-loop-p.ensures,
    )

pub returns : goal.returns
returns c =
    let l = c.loop-p in
    record {
      gains = λ any flags follow enter room. walk_end _ _ _ _ _ l.p (omega (arith, l.invariant.0, c.loop-p-test.false)) (l.invariant.3 any flags follow enter room);
    }
