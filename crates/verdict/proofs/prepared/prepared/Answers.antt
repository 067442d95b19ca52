-- Each part is asked in turn; where one says no, there is no width and nothing is promised.
use native.Mathlib.Omega.{arith}
use Rattle.verdict.specs.CoverBounds.{few-states}
use Rattle.verdict.proofs.prepared.prepared.Goals as goal

pub leading-requires : goal.leading-requires
leading-requires c =
    let r = c.in_ok-w.ensures.told.ready c.in_ok-w.ensures.some in
    (r.counted, r.follow-room, c.requires.0)

pub shape_of-before-then-not-leading : goal.shape_of-before-then-not-leading
shape_of-before-then-not-leading c = c.leading.auto.before

pub prepare_columns-requires : goal.prepare_columns-requires
prepare_columns-requires c =
    let r = c.in_ok-w.ensures.told.ready c.in_ok-w.ensures.some in
    (omega (arith, c.if-tables-eq0.false), c.if-tables-le64.true, r.counted.few, r.accepting-room, r.table-room, c.requires.2 c.if-tables-le64.true)

pub shape_of-before-then-not-prepare_columns : goal.shape_of-before-then-not-prepare_columns
shape_of-before-then-not-prepare_columns c = c.leading.auto.before

pub shape_of-ended-then-not-prepare_columns : goal.shape_of-ended-then-not-prepare_columns
shape_of-ended-then-not-prepare_columns c = c.prepare_columns.auto.ended

pub shape_of-before-then-tables-le64 : goal.shape_of-before-then-tables-le64
shape_of-before-then-tables-le64 c = c.leading.auto.before

pub shape_of-ended-then-tables-le64 : goal.shape_of-ended-then-tables-le64
shape_of-ended-then-tables-le64 c = c.prepare_columns.auto.ended

pub returns-then-tables-le64 : goal.returns-then-tables-le64
returns-then-tables-le64 c =
    let (finishing, sums, first, next) = c.prepare_columns.ensures c.if-not-prepare_columns.false in
    let s = c in (
      record {
        ready = c.in_ok-w.ensures.told.ready c.in_ok-w.ensures.some;
        some = omega (arith, c.if-tables-eq0.false);
        next = next;
        leading = c.leading.ensures c.if-not-leading.false;
        before-room = omega (arith, c.leading.auto.before, s.requires.0);
        ended-room = omega (arith, c.prepare_columns.auto.ended, s.requires.1);
        finishing = λ few. finishing;
        sums = λ few. sums;
        passing = λ many. absurd (omega (arith, c.if-tables-le64.true));
        reached-room = λ many. absurd (omega (arith, c.if-tables-le64.true));
      },
      first,
    )

pub prepare_ranges-requires : goal.prepare_ranges-requires
prepare_ranges-requires c =
    let r = c.in_ok-w.ensures.told.ready c.in_ok-w.ensures.some in (
      omega (arith, c.if-tables-eq0.false),
      few-states c.args.tables.states c.in_ok-w.w c.in_ok-w.ensures.some r.few-places,
      r.counted.few,
      r.accepting-room,
      r.table-room,
    )

pub shape_of-before-then-not-prepare_ranges : goal.shape_of-before-then-not-prepare_ranges
shape_of-before-then-not-prepare_ranges c = c.leading.auto.before

pub shape_of-ended-then-not-prepare_ranges : goal.shape_of-ended-then-not-prepare_ranges
shape_of-ended-then-not-prepare_ranges c = c.prepare_ranges.auto.reached

pub shape_of-before : goal.shape_of-before
shape_of-before c = c.leading.auto.before

pub shape_of-ended : goal.shape_of-ended
shape_of-ended c = c.prepare_ranges.auto.reached

pub returns : goal.returns
returns c =
    let (passing, first, next, room) = c.prepare_ranges.ensures c.if-not-prepare_ranges.false in
    let s = c in (
      record {
        ready = c.in_ok-w.ensures.told.ready c.in_ok-w.ensures.some;
        some = omega (arith, c.if-tables-eq0.false);
        next = next;
        leading = c.leading.ensures c.if-not-leading.false;
        before-room = omega (arith, c.leading.auto.before, s.requires.0);
        ended-room = omega (arith, c.prepare_ranges.auto.reached, s.requires.1);
        finishing = λ few. absurd (omega (arith, c.if-tables-le64.false));
        sums = λ few. absurd (omega (arith, c.if-tables-le64.false));
        passing = λ many. passing;
        reached-room = λ many. room;
      },
      first,
    )
