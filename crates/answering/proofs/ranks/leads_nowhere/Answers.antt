use Rattle.std.specs.Prelude.{◌≡◌}
use mathlib.Core.Bool.{false≢true}
use mathlib.Core.Path.{refl, sym, ◌∙◌}
use Rattle.answering.specs.Ranks.{own-next-none, own-next-more}
use native.Mathlib.Omega.{arith}
use Rattle.answering.proofs.ranks.leads_nowhere.Goals as goal

pub returns-then-flags-s-eq1 : goal.returns-then-flags-s-eq1
returns-then-flags-s-eq1 c = (λ e. absurd (false≢true e), λ (d, o). absurd (d c.if-flags-s-eq1.true))

pub loop-v-init : goal.loop-v-init
loop-v-init c =
    let a = c.args in
    own-next-none a.next.now a.s

pub returns-then-from-s : goal.returns-then-from-s
returns-then-from-s c =
    let v = c.loop-v.v in
    (λ e. absurd (false≢true e), λ (d, o). absurd (c.if-from-s.true (c.from.ensures ∙ o v (omega arith))))

pub loop-v-preserved : goal.loop-v-preserved
loop-v-preserved c =
    let a = c.args in
    own-next-more a.next.now a.s c.loop-v.invariant (sym c.from.ensures ∙ c.if-from-s.false)

pub returns : goal.returns
returns c =
    let a = c.args in
    let e : c.loop-v.v ≡ a.lists = omega arith in
    (λ t. (c.if-flags-s-eq1.false, rw e at c.loop-v.invariant), λ o. refl)
