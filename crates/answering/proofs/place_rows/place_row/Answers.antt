use Rattle.std.specs.Prelude.{◌≡◌, ◌+◌, get_or, set}
use mathlib.Core.Path.{sym, subst}
use native.Mathlib.Nat.{one-mul}
use Rattle.theory.specs.PlacesLaws.{member-intersection}
use Rattle.answering.specs.PlaceRows.{RowPlaced, row-none, row_more}
use native.Mathlib.Omega.{arith}
use Rattle.answering.proofs.place_rows.place_row.Goals as goal

pub loop-a-init : goal.loop-a-init
loop-a-init c = row-none _ _ _ _ _

pub join-requires : goal.join-requires
join-requires c =
    let l = c.loop-a in
    let a = c.args in
    λ p m.
    let n = ((member-intersection p a.after (get_or a.enter.now l.a 0)).0 m).0 in
    omega (arith, c.requires.0 p n, one-mul p)

pub loop-a-preserved : goal.loop-a-preserved
loop-a-preserved c =
    let l = c.loop-a in
    let a = c.args in
    subst
    (λ w. RowPlaced a.leads.now a.after a.enter.now (l.a + 1) a.from a.rows.now (set l.rows (a.from + l.a) w))
    (sym c.join.ensures) (row_more (omega (arith, c.requires.2)) l.invariant)

pub returns : goal.returns
returns c =
    let l = c.loop-a in
    let a = c.args in
    let e : l.a ≡ a.labels = omega arith in
    subst (λ n. RowPlaced a.leads.now a.after a.enter.now n a.from a.rows.now l.rows) e l.invariant
