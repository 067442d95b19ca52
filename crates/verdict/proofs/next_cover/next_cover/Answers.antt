-- The step by rows, of a set as it stands, by classes, by ranges or by columns.
use Rattle.std.specs.Prelude.{◌≡◌, ◌+◌, ◌*◌, ◌^◌, ◌<◌, ◌≤◌, true, false}
use mathlib.Core.Path.{refl, sym, ap, ◌∙◌, subst}
use lib.ListN.{length-take, length-drop}
use lib.Pow.{pow_mono}
use Rattle.theory.specs.PlacesLaws.{wider}
use Rattle.places.specs.Words.{number_of}
use Rattle.places.specs.WordsLaws.{number-below}
use Rattle.places.proofs.Held.{array_count, array-words}
use Rattle.verdict.specs.NextCover.{next-stands, ranges-asked, ranges-stand, ranges-within, step-plain, merged-within, classes-stand}
use Rattle.verdict.specs.NextCover.{in-plain, in-apart, in-classed, rows-within, rows-stand}
use Rattle.verdict.specs.PairTable.{words_at}
use Rattle.verdict.specs.PairTableLaws.{set-part}
use Rattle.verdict.specs.Ranges.{RangesStepped}
use Rattle.verdict.specs.WordBits.{number-zeros}
use Rattle.verdict.specs.Ways.{columns_of, classed_of, rows_of, SomeWay}
use native.Mathlib.Omega.{arith}
use Rattle.verdict.proofs.next_cover.next_cover.Goals as goal

pub step_rows-requires : goal.step_rows-requires
step_rows-requires c =
    let s = c in
    let is = c.in-Rows.is in
    let some : 0 < c.in-Rows.rows = subst SomeWay is s.args.ways.some in
    let held = rw is at s.requires.0 in
    let p = held.by_rows some in (
      p.before-room,
      p.ready.counted.few,
      p.ended-room,
      p.finishing.within,
      s.requires.1,
      p.long,
      p.short,
      p.few,
      p.ready.few-places,
      p.laid-room,
      rows-within p (words_at s.args.workspace.now (18 * s.args.i + 1) 16) (held.rows-laid some),
      (omega arith),
      number-zeros 16,
    )

pub returns-in-Rows : goal.returns-in-Rows
returns-in-Rows c =
    let s = c in
    let is = c.in-Rows.is in
    let some : 0 < c.in-Rows.rows = subst SomeWay is s.args.ways.some in
    let held = rw is at s.requires.0 in
    let p = held.by_rows some in
    let plain : columns_of s.args.ways.way ≡ 0 = ap columns_of is in
    let set = words_at s.args.workspace.now (18 * s.args.i + 1) 16 in
    let r = c.step_rows.new.words in (
      in-plain (columns_of s.args.ways.way) (classed_of s.args.ways.way) s.args.ways.classes.now plain
          (rows-stand p set (held.rows-laid some) false s.args.ways.classes.now r c.step_rows.ensures.0),
      λ used u. subst (λ k. number_of r < 2 ^ (64 * k)) (sym (u.plain plain)) (wider (s.args.tables.states * c.in-Rows.rows) (64 * 16) (number_of r) p.ready.few-places c.step_rows.ensures.1),
      c.step_rows.auto.words ∙ (omega arith),
    )

pub returns-in-Plain : goal.returns-in-Plain
returns-in-Plain c =
    let s = c in
    let made = c.cover_step-next in
    let plain : columns_of s.args.ways.way ≡ 0 = ap columns_of c.in-Plain.is in
    let size = array_count 16 made.result.words _ made.type_inv.1.1.0 in
    let below = number-below made.result.words (array-words 16 made.result.words _ made.type_inv.1.1.0) in (
      rw (← c.load.ensures s.requires.2) (in-plain (columns_of s.args.ways.way) (classed_of s.args.ways.way) s.args.ways.classes.now plain (step-plain _ made.result.words made.ensures)),
      λ used u. subst (λ k. number_of made.result.words < 2 ^ (64 * k)) (size ∙ sym (u.plain plain)) below,
      size,
    )

pub step_classes-requires : goal.step_classes-requires
step_classes-requires c =
    let s = c in
    let is = c.in-Classes.is in
    let some : 0 < c.in-Classes.k = subst SomeWay is s.args.ways.some in
    let held = rw is at s.requires.0 in
    let p = held.ready.classed some refl in (
      omega (arith, s.requires.1),
      some,
      p.few-classes,
      p.some,
      p.few,
      p.few-places,
      p.merged-room,
      held.room,
      merged-within p held.label,
      (held.stacked refl some p.few).within,
      p.sums.within,
      (omega arith),
      number-zeros 16,
    )

pub returns-in-Classes : goal.returns-in-Classes
returns-in-Classes c =
    let s = c in
    let is = c.in-Classes.is in
    let some : 0 < c.in-Classes.k = subst SomeWay is s.args.ways.some in
    let held = rw is at s.requires.0 in
    let p = held.ready.classed some refl in
    let r = c.step_classes.new.words in
    let told = c.step_classes.ensures in
    rw is (
      in-classed c.in-Classes.k true s.args.ways.classes.now some refl
          (classes-stand p (words_at s.args.workspace.now (18 * s.args.i + 1) 16) (held.stacked refl some p.few) held.label r told.0 told.1),
      λ used u. omega (arith, told.1, pow_mono (u.turned some)),
      c.step_classes.auto.words ∙ (omega arith),
    )

pub step_ranges-requires : goal.step_ranges-requires
step_ranges-requires c =
    let s = c in
    let w : 0 < columns_of s.args.ways.way = subst (λ x. 0 < columns_of x) (sym c.in-Columns.is) (subst SomeWay c.in-Columns.is s.args.ways.some) in
    let by : classed_of s.args.ways.way ≡ false = ap classed_of c.in-Columns.is in
    let p = s.requires.0.ready.apart w by in (
      ranges-asked p c.if-tables-gt64.true,
      s.requires.1,
      simp (length-take, length-drop) (omega (arith, s.requires.2)),
      (omega arith),
      number-zeros 16,
    )

pub returns-then-tables-gt64 : goal.returns-then-tables-gt64
returns-then-tables-gt64 c =
    let s = c in
    let w : 0 < columns_of s.args.ways.way = subst (λ x. 0 < columns_of x) (sym c.in-Columns.is) (subst SomeWay c.in-Columns.is s.args.ways.some) in
    let by : classed_of s.args.ways.way ≡ false = ap classed_of c.in-Columns.is in
    let p = s.requires.0.ready.apart w by in
    let many = c.if-tables-gt64.true in
    let r = c.step_ranges.new.words in (
      in-apart (columns_of s.args.ways.way) (classed_of s.args.ways.way) s.args.ways.classes.now w by
          (ranges-stand p many (words_at s.args.workspace.now (18 * s.args.i + 1) 16) r
          (subst (λ l. RangesStepped s.args.tables.states s.args.tables.lists s.args.a s.args.tables.enter.now s.args.tables.sizes.now s.args.tables.accepting.now
          s.args.ways.before.now s.args.ways.ended.now s.args.tables.table.now (number_of l) (number_of r))
          (set-part s.args.workspace.now s.args.i s.requires.2) c.step_ranges.ensures)),
      λ used u. omega (arith, ranges-within p many c.step_ranges.ensures, pow_mono (u.turned w)),
      c.step_ranges.auto.words ∙ (omega arith),
    )

pub step_turned-requires : goal.step_turned-requires
step_turned-requires c =
    let s = c in
    let w : 0 < columns_of s.args.ways.way = subst (λ x. 0 < columns_of x) (sym c.in-Columns.is) (subst SomeWay c.in-Columns.is s.args.ways.some) in
    let by : classed_of s.args.ways.way ≡ false = ap classed_of c.in-Columns.is in
    let few : s.args.tables.states ≤ 64 = omega (arith, c.if-tables-gt64.false) in
    let stacked = s.requires.0.stacked (ap rows_of c.in-Columns.is) w few in
    let p = s.requires.0.ready.apart w by in
    let r = p.ready in (
      r.counted,
      s.requires.1,
      r.enter-room,
      r.accepting-room,
      r.wide,
      p.leading.within,
      p.some,
      few,
      r.few-places,
      stacked.within,
      (p.finishing few).within,
      s.requires.0.room,
      p.before-room,
      p.sums few,
    )

pub returns-else-tables-gt64 : goal.returns-else-tables-gt64
returns-else-tables-gt64 c =
    let s = c in
    let w : 0 < columns_of s.args.ways.way = subst (λ x. 0 < columns_of x) (sym c.in-Columns.is) (subst SomeWay c.in-Columns.is s.args.ways.some) in
    let by : classed_of s.args.ways.way ≡ false = ap classed_of c.in-Columns.is in
    let few : s.args.tables.states ≤ 64 = omega (arith, c.if-tables-gt64.false) in
    let stacked = s.requires.0.stacked (ap rows_of c.in-Columns.is) w few in
    let told = c.step_turned.ensures in (
      in-apart (columns_of s.args.ways.way) (classed_of s.args.ways.way) s.args.ways.classes.now w by
          (next-stands (s.requires.0.ready.apart w by) few (words_at s.args.workspace.now (18 * s.args.i + 1) 16) stacked _ told.0
          told.1),
      λ used u. omega (arith, told.1, pow_mono (u.turned w)),
      told.2,
    )
