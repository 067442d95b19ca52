-- A place is a state alone or a state with an occurrence.
use Rattle.std.specs.Prelude.{◌%◌, ◌^◌, ◌<◌}
use mathlib.Core.Path.{sym, ap, ◌∙◌}
use Rattle.theory.specs.Places.{union}
use Rattle.places.specs.Words.{number_of}
use Rattle.verdict.specs.Tables.{automata_of, rewritten}
use Rattle.verdict.specs.CoverBounds.{ends-alone, ends-inside, ending-width, few-offsets, state-of-place, few-states}
use native.Mathlib.Omega.{arith}
use Rattle.verdict.proofs.cover.ends.Goals as goal

pub passed-requires : goal.passed-requires
passed-requires c =
    let s = c in
    let h : 0 < s.args.w = omega (arith, s.requires.0.wide) in
    let q = state-of-place s.args.w s.args.states s.args.p h s.requires.1 in (
      s.requires.0.counted.few,
      s.requires.0.accepting-room,
      omega (arith, few-states s.args.states s.args.w h s.requires.0.few-places),
      omega (arith, s.requires.0.table-room),
      few-offsets _ _ _ _ _ _ s.requires.0,
      s.requires.2,
    )

pub finished-requires : goal.finished-requires
finished-requires c =
    let s = c in
    let h : 0 < s.args.w = omega (arith, s.requires.0.wide) in
    let q = state-of-place s.args.w s.args.states s.args.p h s.requires.1 in (
      s.requires.0.counted,
      s.requires.0.accepting-room,
      omega (arith, few-states s.args.states s.args.w h s.requires.0.few-places),
      omega (arith, s.requires.0.table-room),
      few-offsets _ _ _ _ _ _ s.requires.0,
      s.requires.2,
    )

pub shape_of-into-then-o-eq0 : goal.shape_of-into-then-o-eq0
shape_of-into-then-o-eq0 c = c.passed.auto.into

pub returns-then-o-eq0 : goal.returns-then-o-eq0
returns-then-o-eq0 c =
    let s = c in
    record {
      gains = λ states flags follow enter room. c.passed.ensures.gains states flags follow enter s.args.sizes.now
          ∙ ap (λ x. union (number_of s.args.into.now) (x % 2 ^ 1024))
          (sym (ends-alone (rewritten states s.args.table.now flags) (automata_of follow enter s.args.sizes.now s.args.accepting.now s.args.lists)
          s.args.w (ending-width _ _ _ _ _ _ s.requires.0 follow enter room) s.args.p c.if-o-eq0.true));
    }

pub shape_of-into-else-o-eq0 : goal.shape_of-into-else-o-eq0
shape_of-into-else-o-eq0 c = c.finished.auto.into

pub returns-else-o-eq0 : goal.returns-else-o-eq0
returns-else-o-eq0 c =
    let s = c in
    record {
      gains = λ states flags follow enter room. c.finished.ensures.gains states flags follow enter room
          ∙ ap (λ x. union (number_of s.args.into.now) (x % 2 ^ 1024))
          (sym (ends-inside (rewritten states s.args.table.now flags) (automata_of follow enter s.args.sizes.now s.args.accepting.now s.args.lists)
          s.args.w (ending-width _ _ _ _ _ _ s.requires.0 follow enter room) s.args.p c.if-o-eq0.false));
    }
