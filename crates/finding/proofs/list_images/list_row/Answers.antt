-- The row is filled from the parts of the tables that hold the automaton number v + 1.
use Rattle.std.specs.Prelude.{◌≡◌, ◌+◌, ◌-◌, ◌*◌, ◌≤◌, length, get_or, take, drop}
use mathlib.Core.Path.{sym, subst}
use lib.ListN.{length-take, length-drop}
use native.Mathlib.Numerals.{add-one}
use Rattle.finding.specs.LentTables.{lent_tables}
use Rattle.finding.specs.ListRows.{part_length, list-refused, list-told}
use native.Mathlib.Omega.{arith}
use Rattle.finding.proofs.list_images.list_row.Goals as goal

pub returns-then-size-gt63 : goal.returns-then-size-gt63
returns-then-size-gt63 c =
    let a = c.args in
    let T = lent_tables a.job in
    record {
      list_told = list-refused T a.v a.rows.now a.rows.now (rw (← add-one a.v) c.if-size-gt63.true);
      cleared = c.requires.7;
    }

pub fill_row-requires : goal.fill_row-requires
fill_row-requires c =
    let a = c.args in
    let p = c.requires in
    let size = get_or a.job.sizes.now (a.v + 1) 0 in
    let small = c.if-size-gt63.false in
    let long = part_length (64 * (a.v + 1)) size a.job.follow.now (omega (arith, p.5, small)) in
    let wide : length (take (32 * (a.v + 1) + 32 - 32 * (a.v + 1)) (drop (32 * (a.v + 1)) a.job.enter.now)) ≡ 32 =
    simp (length-take, length-drop) (omega (arith, p.6)) in (
      p.0,
      p.4,
      record { standings = p.1; row = p.2; enters = omega (arith, wide, p.2); places = omega (arith, long, small) },
      omega (arith, long),
      subst (λ n. a.job.count * n ≤ length a.sources.now) (sym long) (p.3 small),
      p.7,
    )

pub returns : goal.returns
returns c =
    let a = c.args in
    let row = c.fill_row in
    let T = lent_tables a.job in
    record {
      list_told = list-told T a.v a.rows.now row.new.rows (a.v + 1)
          (64 * (a.v + 1) + get_or a.job.sizes.now (a.v + 1) 0 + 1 - 64 * (a.v + 1)) (32 * (a.v + 1) + 32 - 32 * (a.v + 1)) (add-one a.v)
          (omega arith) (omega arith) (omega (arith, c.requires.6)) row.ensures.filled_row;
      cleared = row.ensures.cleared;
    }
