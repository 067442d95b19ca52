-- `fill` meets its contract: the rows x are lent, and come back filled.
use Prim.Native.Nat.{◌*◌}
use native.Mathlib.Nat.{add-sub_cancel_left}
use Rattle.reading.specs.FillingLaws.{rows-lent}
use Rattle.reading.proofs.row.fill.Goals as goal

pub returns : goal.returns
returns c =
    let a = c.args in
    let p = c.requires in
    rows-lent _ a.s.now a.x a.follow.now a.enter.now c.fill_row.result _ _ _ _
    (add-sub_cancel_left (64 * a.x) 64) (add-sub_cancel_left (32 * a.x) 32) p.0 p.1 c.fill_row.ensures
