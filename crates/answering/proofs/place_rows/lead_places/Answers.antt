use Rattle.std.specs.Prelude.{◌≡◌, ◌+◌, ◌^◌, length, set}
use mathlib.Core.Path.{sym, ◌∙◌, subst}
use native.Mathlib.Nat.{one-mul}
use lib.Pow.{shl_exact}
use Rattle.answering.specs.PlaceRows.{LeadPlaces, leads-none, leads-more}
use native.Mathlib.Omega.{arith}
use Rattle.answering.proofs.place_rows.lead_places.Goals as goal

pub loop-p-init : goal.loop-p-init
loop-p-init c = leads-none _ _ _

pub loop-p-preserved : goal.loop-p-preserved
loop-p-preserved c =
    let l = c.loop-p in
    let a = c.args in
    let lead = c.alike_place.ensures in
    let q = c.alike_place.result in
    let word = shl_exact {a = 1} 1 q 64 (omega arith) (omega (arith, lead)) ∙ one-mul (2 ^ q) in
    subst (λ w. LeadPlaces a.follow.now a.accepting (l.p + 1) (set l.leads l.p w)) (sym word)
    (leads-more (omega (arith, c.requires.0)) lead l.invariant)

pub returns : goal.returns
returns c =
    let a = c.args in
    let l = c.loop-p in
    let e : l.p ≡ length a.follow.now = omega arith in
    subst (λ n. LeadPlaces a.follow.now a.accepting n l.leads) e l.invariant
