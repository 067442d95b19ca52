use Rattle.std.specs.Prelude.{◌+◌, ◌*◌, ◌<◌, get_or}
use mathlib.Core.Path.{refl, sym, ap, subst, subst₂}
use Rattle.places.specs.Words.{number_of}
use Rattle.verdict.specs.LentTables.{lent_of, layout_in}
use Rattle.verdict.specs.NextCover.{way-places}
use Rattle.verdict.specs.PairIndexLaws.{indexed-same, indexed-all, indexed-over, short-more, short-same, short-all, short-over}
use Rattle.verdict.specs.PairRows.{RowLoop, Stepped, row-start, row-known, row_new, row-exceeds, row_told}
use Rattle.verdict.specs.PairTable.{words_at}
use Rattle.verdict.specs.Prepared.{rows-kept}
use Rattle.verdict.specs.Turned.{Stacked}
use Rattle.verdict.specs.WideRows.{RowsLaid}
use Rattle.verdict.specs.Ways.{columns_of, rows_of}
use native.Mathlib.Omega.{arith}
use Rattle.verdict.proofs.pairs.row.Goals as goal
use Rattle.verdict.proofs.pairs.row.Goals.{else-not-seen, then-not-seen+else-m-limit}

pub overflow_mul-from : goal.overflow_mul-from
overflow_mul-from c = let s = c in omega (arith, s.requires.0, s.requires.1, s.requires.2)

pub bounds-workspace-i : goal.bounds-workspace-i
bounds-workspace-i c = let s = c in omega (arith, s.requires.0, s.requires.1, s.requires.4)

pub lay-requires : goal.lay-requires
lay-requires c =
    let s = c in
    (way-places s.requires.8, omega (arith, s.requires.0, s.requires.1, s.requires.4), s.requires.9, λ h. let r = s.requires.10 h in (r.long, r.short, r.ready.few-places, r.before-room, r.laid-room))

pub loop-a-init : goal.loop-a-init
loop-a-init c =
    let s = c in
    (row-start _ _ _ _ _ _ s.requires.1, s.requires.5, s.requires.7)

pub next_cover-requires : goal.next_cover-requires
next_cover-requires c =
    let in-loop = c in
    let lay = in-loop.lay in
    let l = in-loop.loop-a in
    let s = in-loop in (
      record {
        labels = s.args.tables.labels;
        label = in-loop.loop-a-test.true;
        ready = s.requires.8;
        stacked = λ z h few. subst (λ z. Stacked (columns_of s.args.ways.way) s.args.tables.states lay.new.laid (number_of z)) (sym l.invariant.0.words) (lay.ensures.0 z h few);
        room = omega (arith, lay.auto.laid, s.requires.9);
        by_rows = λ h. rows-kept (s.requires.10 h) lay.auto.laid;
        rows-laid = λ h. subst (λ z. RowsLaid (rows_of s.args.ways.way) s.args.tables.states s.args.ways.before.now (number_of z) lay.new.laid) (sym l.invariant.0.words) (lay.ensures.1 h);
      },
      omega (arith, in-loop.loop-a-test.true, s.requires.3),
      omega (arith, l.invariant.0.size, s.requires.0, s.requires.1, s.requires.4),
    )

pub bucket-at-requires : goal.bucket-at-requires
bucket-at-requires c =
    let s = c in
    (s.requires.6.within, c.next_cover.ensures.1 s.args.used s.requires.6)

pub seen-requires : goal.seen-requires
seen-requires c =
    let s = c in
    let l = c.loop-a in (
      omega (arith, l.invariant.0.within, l.invariant.0.size, s.requires.4),
      omega (arith, l.invariant.0.within, s.requires.2),
      c.bucket-at.ensures,
      l.invariant.1,
      s.requires.6.within,
      c.next_cover.ensures.1 s.args.used s.requires.6,
      l.invariant.2,
    )

pub shape_of-laid-then-m-limit : goal.shape_of-laid-then-m-limit
shape_of-laid-then-m-limit c = c.lay.auto.laid

pub shape_of-workspace-then-m-limit : goal.shape_of-workspace-then-m-limit
shape_of-workspace-then-m-limit c = c.loop-a.invariant.0.size

pub returns-then-m-limit : goal.returns-then-m-limit
returns-then-m-limit c =
    let seen = c in
    let cover = c.next_cover in
    let q = c.query_step-standing in
    let in-loop = c in
    let l = in-loop.loop-a in
    let s = in-loop in record {
      row_told = row-exceeds _ _ _ _ _ _ l.a l.m _ l.invariant.0 in-loop.loop-a-test.true s.requires.0 q.result _
          (record {
            from = get_or s.args.workspace.now (18 * s.args.i) 0;
            from_at = refl;
            words = words_at l.workspace (18 * s.args.i + 1) 16;
            words-at = l.invariant.0.words;
            query = q.ensures _ _ _ in-loop.query_follows-after.ensures;
            covered = cover.ensures.0;
          })
          seen.seen.result seen.seen.ensures c.if-not-seen.true (omega (arith, c.if-m-limit.true));
      indexed = (indexed-over, short-over);
    }

pub overflow_mul-link : goal.overflow_mul-link
overflow_mul-link c =
    let in-loop = c in
    let s = in-loop in
    omega (arith, in-loop.loop-a-test.true, s.requires.3)

pub overflow_add-link : goal.overflow_add-link
overflow_add-link c =
    let in-loop = c in
    let s = in-loop in
    omega (arith, in-loop.loop-a-test.true, s.requires.0, s.requires.1, s.requires.2, s.requires.3)

pub add-requires : goal.add-requires
add-requires c =
    let in-loop = c in
    let s = in-loop in
    let l = in-loop.loop-a in
    let m : l.m < s.args.limit = omega (arith, l.invariant.0.within, c.if-m-limit.false) in (
      omega (arith, m, l.invariant.0.size, s.requires.4),
      omega (arith, m, s.requires.2),
      c.next_cover.ensures.2,
      c.bucket-at.ensures,
      l.invariant.1,
    )

pub overflow_add-m : goal.overflow_add-m
overflow_add-m c =
    let in-loop = c in
    let s = in-loop in
    omega (arith, in-loop.loop-a.invariant.0.within, s.requires.2)

pub loop-a-preserved : goal.loop-a-preserved
loop-a-preserved c =
    let seen = c in
    let next = c.next_cover in
    let cover = next.new.cover in
    let q = c.query_step-standing in
    let in-loop = c in
    let l = in-loop.loop-a in
    let s = in-loop in
    let D =
    lent_of s.args.tables in
    let L = layout_in s.args.tables s.args.ways in
    let step : Stepped D L s.args.workspace.now s.args.i l.a q.result cover =
    record {
      from = get_or s.args.workspace.now (18 * s.args.i) 0;
      from_at = refl;
      words = words_at l.workspace (18 * s.args.i + 1) 16;
      words-at = l.invariant.0.words;
      query = q.ensures _ _ _ in-loop.query_follows-after.ensures;
      covered = next.ensures.0;
    } in
    (elim c.if-not-seen.branch [
      | then-not-seen+else-m-limit x ↦ (
        subst₂ (RowLoop D L s.args.limit s.args.i s.args.n s.args.workspace.now (l.a + 1)) (sym x.m-is) (sym x.workspace-is)
            (row_new D _ _ _ _ _ l.a l.m _ l.invariant.0 in-loop.loop-a-test.true s.requires.0 q.result cover step
            seen.seen.result x.add.new.workspace seen.seen.ensures x.if-not-seen.true
            (omega (arith, l.invariant.0.within, x.if-m-limit.false)) s.requires.2 next.ensures.2 x.add.ensures.0),
        indexed-same x.workspace-is (ap (λ i. i.heads) x.index-is) (ap (λ i. i.nexts) x.index-is) x.m-is x.add.ensures.1,
        short-same x.workspace-is x.m-is (short-more x.add.ensures.0 next.ensures.2 (next.ensures.1 s.args.used s.requires.6) l.invariant.2),
      )
      | else-not-seen x ↦ (
        subst₂ (RowLoop D L s.args.limit s.args.i s.args.n s.args.workspace.now (l.a + 1)) (sym x.m-is) (sym x.workspace-is)
            (row-known D _ _ _ _ _ l.a l.m _ l.invariant.0 in-loop.loop-a-test.true s.requires.0 q.result cover step
            seen.seen.result seen.seen.ensures x.if-not-seen.false),
        indexed-same x.workspace-is (ap (λ i. i.heads) x.index-is) (ap (λ i. i.nexts) x.index-is) x.m-is l.invariant.1,
        short-same x.workspace-is x.m-is l.invariant.2,
      )
    ])

pub shape_of-laid : goal.shape_of-laid
shape_of-laid c = c.lay.auto.laid

pub shape_of-workspace : goal.shape_of-workspace
shape_of-workspace c = c.loop-a.invariant.0.size

pub returns : goal.returns
returns c =
    let l = c.loop-a in
    record { row_told = row_told _ _ _ _ _ _ l.a l.m _ l.invariant.0 c.loop-a-test.false; indexed = (indexed-all l.invariant.1, short-all l.invariant.2) }
