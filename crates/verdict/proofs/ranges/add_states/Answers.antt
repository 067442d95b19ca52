use Rattle.std.specs.Prelude.{◌+◌, ◌-◌, ◌*◌, ◌<◌, get_or}
use mathlib.Core.Path.{sym, ◌∙◌}
use lib.Bits.{and_le_r}
use lib.Count.{trailing_le}
use Rattle.places.specs.NextPlace.{trailing-here}
use Rattle.verdict.specs.Ranges.{Leads}
use Rattle.verdict.specs.RangesTurns.{left-start, left-turn, left_end, going-turn}
use native.Mathlib.Omega.{arith}
use Rattle.std.proofs.Common.{rules}
use Rattle.verdict.proofs.ranges.add_states.Goals as goal

pub loop-p-init : goal.loop-p-init
loop-p-init c =
    let s = c in
    rw (c.into_iter-p-iterator.ensures.into_iter_gives, c.members-p-items.ensures) (search rules, search rules, omega arith, s.requires.0, s.requires.3, left-start {New = λ x. Leads s.args.reached.now (get_or s.args.table.now (16 * (s.args.first + x) + s.args.v) 0)} _ _)

pub overflow_add-q : goal.overflow_add-q
overflow_add-q c =
    let (some, is, left) = c.in-Some.ensures.steps in
    omega (arith, trailing_le 64 c.loop-p.p-iterator.rest, c.requires.1, c.requires.2)

pub overflow_mul-q : goal.overflow_mul-q
overflow_mul-q c =
    let (some, is, left) = c.in-Some.ensures.steps in
    omega (arith, trailing_le 64 c.loop-p.p-iterator.rest, c.requires.1, c.requires.2)

pub overflow_add-q-in-loop-p : goal.overflow_add-q-in-loop-p
overflow_add-q-in-loop-p c =
    let (some, is, left) = c.in-Some.ensures.steps in
    omega (arith, trailing_le 64 c.loop-p.p-iterator.rest, c.requires.1, c.requires.2)

pub offset_bounds-table-q : goal.offset_bounds-table-q
offset_bounds-table-q c =
    let (some, is, left) = c.in-Some.ensures.steps in
    omega (arith, trailing_le 64 c.loop-p.p-iterator.rest, c.requires.1, c.requires.2)

pub bounds-table-q : goal.bounds-table-q
bounds-table-q c =
    let (some, is, left) = c.in-Some.ensures.steps in
    let here = rw (← is) at (trailing-here 64 c.loop-p.p-iterator.rest some c.loop-p.invariant.2) in
    let l = c.loop-p in
    let (n, g) = l.invariant.4 in
    let s = c in
    omega (arith, g.inside c.in-Some.p here, g.room, s.requires.1)

pub add_state-requires : goal.add_state-requires
add_state-requires c =
    let (some, is, left) = c.in-Some.ensures.steps in
    let here = rw (← is) at (trailing-here 64 c.loop-p.p-iterator.rest some c.loop-p.invariant.2) in
    let l = c.loop-p in
    let (n, g) = l.invariant.4 in
    let s = c in
    let q = s.args.first + c.in-Some.p in
    let t = get_or s.args.table.now (16 * q + s.args.v) 0 in
    let low : t < n = g.next q (g.inside c.in-Some.p here) in (
      l.invariant.3,
      omega (arith, g.closing.room),
      omega (arith, g.closing.few),
      λ m u k. g.closed t u low m k,
    )

pub loop-p-preserved : goal.loop-p-preserved
loop-p-preserved c =
    let (some, is, left) = c.in-Some.ensures.steps in
    let s = c in
    let a = s.args in
    let l = c.loop-p in
    let d = some in
    let (n, g) = l.invariant.4 in
    let add-state = c.add_state in
    rw left (
      search rules,
      search rules,
      omega (arith, l.invariant.2, and_le_r l.p-iterator.rest (l.p-iterator.rest - 1)),
      add-state.auto.words ∙ l.invariant.3,
      (n, going-turn {set = l.words} _ d l.invariant.2 (rw is at add-state.ensures) g),
      left-turn {New = λ x. Leads a.reached.now (get_or a.table.now (16 * (a.first + x) + a.v) 0)} a.states _ l.words _ l.p-iterator.rest d
          l.invariant.2 (rw is at add-state.ensures) l.invariant.5,
    )

pub shape_of-words : goal.shape_of-words
shape_of-words c = c.loop-p.invariant.3 ∙ sym c.requires.0

pub returns : goal.returns
returns c =
    let a = c.args in
    let l = c.loop-p in
    left_end {New = λ x. Leads a.reached.now (get_or a.table.now (16 * (a.first + x) + a.v) 0)} a.states _ l.words l.p-iterator.rest
    c.in-None.ensures.steps.0 l.invariant.5
