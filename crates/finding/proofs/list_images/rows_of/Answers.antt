use Rattle.std.specs.Prelude.{◌≡◌, ℕ}
use mathlib.Core.Path.{refl, ◌∙◌, subst, sym}
use Rattle.finding.specs.LentTables.{lent_tables}
use Rattle.finding.specs.ListRows.{Paired, ListsDone, lists-none, lists-more, images-of}
use native.Mathlib.Omega.{arith}
use Rattle.finding.proofs.list_images.rows_of.Goals as goal

pub loop-v-init : goal.loop-v-init
loop-v-init c =
    let a = c.args in
    let T = lent_tables a.job in
    (refl, refl, lists-none T a.rows.now, c.new-pending.ensures)

pub list_row-requires : goal.list_row-requires
list_row-requires c =
    let l = c.loop-v in
    let a = c.args in
    let p = c.requires in
    let h = c.loop-v-test.true in (
      omega (arith, h, p.2),
      p.0,
      p.1,
      subst (Paired a.job.count a.job.sizes.now l.v) (sym l.invariant.0) (p.3 l.v h),
      omega (arith, h, l.invariant.1, p.4),
      omega (arith, h, p.5.lists_follow p.2),
      omega (arith, h, p.5.lists_enter p.2),
      l.invariant.3,
    )

pub loop-v-preserved : goal.loop-v-preserved
loop-v-preserved c =
    let l = c.loop-v in
    let a = c.args in
    let r = c.list_row in
    let T = lent_tables a.job in (
      r.auto.sources ∙ l.invariant.0,
      r.auto.rows ∙ l.invariant.1,
      lists-more T l.v l.rows r.new.rows l.invariant.2 r.ensures.list_told,
      r.ensures.cleared,
    )

pub shape_of-sources : goal.shape_of-sources
shape_of-sources c = c.loop-v.invariant.0

pub shape_of-rows : goal.shape_of-rows
shape_of-rows c = c.loop-v.invariant.1

pub returns : goal.returns
returns c =
    let l = c.loop-v in
    let a = c.args in
    let T = lent_tables a.job in
    let e : l.v ≡ a.lists = omega arith in
    images-of T a.lists l.rows (subst (λ (v : ℕ). ListsDone T v l.rows) e l.invariant.2)
