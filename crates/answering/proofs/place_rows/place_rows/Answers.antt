use Rattle.std.specs.Prelude.{◌≡◌, length, get_or}
use mathlib.Core.Path.{subst}
use Rattle.theory.specs.PlacesLaws.{member_below}
use Rattle.answering.specs.Pairs.{row_below}
use Rattle.answering.specs.FewPlaces.{below_64}
use Rattle.answering.specs.PlaceRows.{RowsFilled, rows_none, rows_more, rows-placed}
use native.Mathlib.Omega.{arith}
use Rattle.answering.proofs.place_rows.place_rows.Goals as goal

pub loop-p-init : goal.loop-p-init
loop-p-init c = rows_none _ _ _ _ _

pub overflow_mul-labels : goal.overflow_mul-labels
overflow_mul-labels c =
    let l = c.loop-p in
    let a = c.args in
    let h = row_below a.labels (length a.follow.now) {y = l.p} (omega arith) in
    omega (arith, h, c.requires.2)

pub place_row-requires : goal.place_row-requires
place_row-requires c =
    let l = c.loop-p in
    let a = c.args in
    let f = c.requires.0 in
    let h = row_below a.labels (length a.follow.now) {y = l.p} (omega arith) in (
      λ q m. omega (arith, member_below 6 (get_or a.follow.now l.p 0) q (below_64 f l.p) m),
      c.requires.1,
      omega (arith, h, c.requires.2),
    )

pub loop-p-preserved : goal.loop-p-preserved
loop-p-preserved c =
    rows_more c.loop-p.invariant c.place_row.ensures

pub returns : goal.returns
returns c =
    let a = c.args in
    let l = c.loop-p in
    let leads = c.lead_places.new.leads in
    let e : l.p ≡ length a.follow.now = omega arith in
    rows-placed c.requires.0 c.lead_places.ensures
    (subst (λ n. RowsFilled a.follow.now a.enter.now a.labels leads n l.rows) e l.invariant)
