-- The row is lent, and comes back with the images in front.
use Rattle.std.specs.Prelude.{◌≡◌, ◌+◌, ◌-◌, ◌*◌, length}
use mathlib.Core.Path.{◌∙◌}
use native.Mathlib.Nat.{add-sub_cancel_left}
use lib.ListN.{length-take, length-drop}
use Rattle.finding.specs.ListTables.{tables_of}
use Rattle.finding.specs.ListRows.{row-filled}
use native.Mathlib.Omega.{arith}
use Rattle.finding.proofs.list_images.fill_row.Goals as goal

pub images-requires : goal.images-requires
images-requires c =
    let a = c.args in
    let p = c.requires in
    (p.2, p.3, p.4, simp (length-take, length-drop) (omega (arith, p.1, p.2.standings)), p.5)

pub returns : goal.returns
returns c =
    let a = c.args in
    let room = c.requires.1 in
    let called = c.images in
    let sized : length called.new.out ≡ 64 =
    called.auto.out ∙ simp (length-take, length-drop) (omega (arith, room)) in
    record {
      filled_row = row-filled (tables_of a.list) a.accepting a.v a.rows.now
          called.new.out (64 * a.v + 64 - 64 * a.v) (add-sub_cancel_left (64 * a.v) 64) room sized
          called.ensures.images_told;
      cleared = called.ensures.cleared;
    }
