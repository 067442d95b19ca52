-- A place is a state alone or a state with an occurrence.
use Rattle.std.specs.Prelude.{◌/◌, ◌%◌, ◌^◌, []}
use mathlib.Core.Path.{sym, ap, ◌∙◌}
use native.Mathlib.Nat.{div-mul-le_self, mul_comm}
use Rattle.theory.specs.Places.{union}
use Rattle.places.specs.Words.{number_of}
use Rattle.verdict.specs.Tables.{automata_of, rewritten}
use Rattle.verdict.specs.CoverBounds.{moves-alone, moves-inside, moving-width}
use native.Mathlib.Omega.{arith}
use Rattle.verdict.proofs.cover.moves.Goals as goal

pub overflow_mul-from : goal.overflow_mul-from
overflow_mul-from c = omega (arith, div-mul-le_self c.args.p c.args.w, mul_comm c.args.w (c.args.p / c.args.w), c.requires.1)

pub entered-requires : goal.entered-requires
entered-requires c = (c.requires.0, omega (arith, div-mul-le_self c.args.p c.args.w, mul_comm c.args.w (c.args.p / c.args.w), c.requires.1), c.requires.2)

pub moved_within-requires : goal.moved_within-requires
moved_within-requires c = (c.requires.0, omega (arith, div-mul-le_self c.args.p c.args.w, mul_comm c.args.w (c.args.p / c.args.w), c.requires.1), c.requires.2)

pub shape_of-into-then-o-eq0 : goal.shape_of-into-then-o-eq0
shape_of-into-then-o-eq0 c = c.entered.auto.into

pub returns-then-o-eq0 : goal.returns-then-o-eq0
returns-then-o-eq0 c =
    let s = c in
    record {
      gains = λ accepting. c.entered.ensures.gains accepting
          ∙ ap (λ x. union (number_of s.args.into.now) (x % 2 ^ 1024))
          (sym (moves-alone (rewritten 0 [] []) (automata_of s.args.follow.now s.args.enter.now s.args.sizes.now accepting s.args.lists)
          s.args.w (moving-width _ _ _ _ _ _ s.requires.0 accepting) s.args.a s.args.p c.if-o-eq0.true));
    }

pub shape_of-into-else-o-eq0 : goal.shape_of-into-else-o-eq0
shape_of-into-else-o-eq0 c = c.moved_within.auto.into

pub returns-else-o-eq0 : goal.returns-else-o-eq0
returns-else-o-eq0 c =
    let s = c in
    record {
      gains = λ accepting. c.moved_within.ensures.gains accepting
          ∙ ap (λ x. union (number_of s.args.into.now) (x % 2 ^ 1024))
          (sym (moves-inside (rewritten 0 [] []) (automata_of s.args.follow.now s.args.enter.now s.args.sizes.now accepting s.args.lists)
          s.args.w (moving-width _ _ _ _ _ _ s.requires.0 accepting) s.args.a s.args.p c.if-o-eq0.false));
    }
