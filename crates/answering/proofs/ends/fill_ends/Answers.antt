use Rattle.std.specs.Prelude.{◌≡◌, ℕ, ◌+◌, ◌*◌, ◌/◌, ◌<◌, List, length, get_or}
use Rattle.theory.specs.Graph.{Table}
use mathlib.Core.Path.{sym, subst}
use Rattle.answering.specs.Links.{InRange}
use Rattle.answering.specs.Ends.{EndsFit, EndsTo, LinkFits, link_fits, ends-none, ends_more, ends-all}
use native.Mathlib.Omega.{arith}
use Rattle.answering.proofs.ends.fill_ends.Goals as goal

-- A triple that was read has its place.
link-read : {t : Table} {k N i : ℕ} {before ends : List ℕ} {x a y : ℕ} → InRange k N t → EndsFit k N before → length ends ≡ length before
    → i < length t / 3 → x ≡ get_or t (3 * i) 0 → a ≡ get_or t (3 * i + 1) 0 → y ≡ get_or t (3 * i + 2) 0 → LinkFits t k N i ends x a y
link-read r f e l p q s = link_fits r f e l (sym p, sym q, sym s)

pub loop-at-init : goal.loop-at-init
loop-at-init c = ends-none c.requires.2

pub overflow_mul-sizes : goal.overflow_mul-sizes
overflow_mul-sizes c =
    let f = (link-read c.requires.0 c.requires.1 c.loop-at.auto.ends (omega arith) c.from-x.ensures c.from-a.ensures c.from-y.ensures).row in
    omega arith

pub overflow_add-sizes : goal.overflow_add-sizes
overflow_add-sizes c =
    let f = (link-read c.requires.0 c.requires.1 c.loop-at.auto.ends (omega arith) c.from-x.ensures c.from-a.ensures c.from-y.ensures).row in
    omega arith

pub put-requires : goal.put-requires
put-requires c =
    (link-read c.requires.0 c.requires.1 c.loop-at.auto.ends (omega arith) c.from-x.ensures c.from-a.ensures c.from-y.ensures).fits

pub loop-at-preserved : goal.loop-at-preserved
loop-at-preserved c =
    let l = c.loop-at in
    let e = c.put.ensures in
    let f = link-read c.requires.0 c.requires.1 l.auto.ends (omega arith) c.from-x.ensures c.from-a.ensures c.from-y.ensures in
    subst (EndsTo _ _ _ _) (sym e) (ends_more f l.invariant)

pub returns : goal.returns
returns c = ends-all (omega arith) c.loop-at.invariant
