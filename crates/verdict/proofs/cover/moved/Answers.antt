use Rattle.std.specs.Prelude.{replicate}
use mathlib.Core.Path.{refl, ◌∙◌}
use lib.Bits.{or_zero_l}
use Rattle.places.specs.Words.{number_of}
use Rattle.places.proofs.Held.{array_count}
use Rattle.verdict.specs.Cover.{moves as moves_of}
use Rattle.verdict.specs.Tables.{automata_of}
use Rattle.verdict.specs.CoverWalk.{walk_start, walk_turn, walk_end}
use native.Mathlib.Omega.{arith}
use Rattle.verdict.proofs.cover.moved.Goals as goal

pub next_place-p-requires : goal.next_place-p-requires
next_place-p-requires c = array_count 16 c.args.set.words _ c.well_formed.1.1.1.1.1.1.1.0.1.1.0

pub loop-p-init : goal.loop-p-init
loop-p-init c = (c.next_place-p.ensures.bound, refl, λ accepting. walk_start _ _ _ _ _ c.next_place-p.ensures)

pub moves-requires : goal.moves-requires
moves-requires c = (c.requires.0, c.loop-p.invariant.0, c.loop-p.invariant.1)

pub overflow_add-p : goal.overflow_add-p
overflow_add-p c = omega (arith, c.loop-p.invariant.0)

pub next_place-p-requires-in-loop-p : goal.next_place-p-requires-in-loop-p
next_place-p-requires-in-loop-p c = array_count 16 c.args.set.words _ c.well_formed.1.1.1.1.1.1.1.0.1.1.0

pub loop-p-smaller : goal.loop-p-smaller
loop-p-smaller c = omega (arith, c.loop-p-test.true, c.requires.1, c.next_place-p-in-loop-p.ensures.bound, c.next_place-p-in-loop-p.ensures.onward (omega (arith, c.loop-p.invariant.0, c.loop-p-test.true, c.requires.1)))

pub loop-p-preserved : goal.loop-p-preserved
loop-p-preserved c =
    let l = c.loop-p in
    let s = c in (
      c.next_place-p-in-loop-p.ensures.bound,
      c.moves.auto.into ∙ l.invariant.1,
      λ accepting. walk_turn (moves_of (automata_of s.args.follow.now s.args.enter.now s.args.sizes.now accepting s.args.lists) s.args.a)
          (number_of s.args.set.words) (number_of (replicate 16 0)) s.args.count l.words c.moves.new.into l.p c.next_place-p-in-loop-p.result
          s.requires.1 c.loop-p-test.true (l.invariant.2 accepting) (c.moves.ensures.gains accepting) c.next_place-p-in-loop-p.ensures,
    )

pub returns : goal.returns
unfolding number_of
returns c =
    let l = c.loop-p in
    record { told = λ accepting. walk_end _ _ _ _ _ l.p c.loop-p-test.false (l.invariant.2 accepting) ∙ or_zero_l _ }
