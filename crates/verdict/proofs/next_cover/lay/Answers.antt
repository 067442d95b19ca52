-- The columns, or the rows that can come next, are read where the set stands.
use Rattle.std.specs.Prelude.{◌+◌, ◌*◌}
use mathlib.Core.Path.{sym, subst}
use Rattle.places.specs.Words.{number_of}
use Rattle.verdict.specs.PairTable.{words_at}
use Rattle.verdict.specs.PairTableLaws.{set-part}
use Rattle.verdict.specs.Turned.{Stacked}
use Rattle.verdict.specs.Ways.{turned-way}
use Rattle.verdict.specs.WideRows.{RowsLaid}
use native.Mathlib.Omega.{arith}
use Rattle.verdict.proofs.next_cover.lay.Goals as goal

pub returns-in-Rows : goal.returns-in-Rows
returns-in-Rows c =
    let s = c in
    rw c.in-Rows.is (
      λ e w few. absurd (omega arith),
      λ h. subst (λ l. RowsLaid c.in-Rows.rows s.args.states s.args.ways.before.now (number_of l) c.lay_rows.new.laid)
          (set-part s.args.workspace.now s.args.i s.requires.1) c.lay_rows.ensures,
    )

pub returns-then-states-le64 : goal.returns-then-states-le64
returns-then-states-le64 c =
    let s = c in
    let (wide, none) = turned-way c.in-Columns.is in (
      λ e w few. subst (λ k. Stacked k s.args.states c.columns_at.new.columns (number_of (words_at s.args.workspace.now (18 * s.args.i + 1) 16))) (sym wide)
          (subst (λ l. Stacked c.in-Columns.w s.args.states c.columns_at.new.columns (number_of l))
          (set-part s.args.workspace.now s.args.i s.requires.1) c.columns_at.ensures),
      λ h. absurd (omega (arith, none)),
    )
