use Rattle.std.specs.Prelude.{◌≡◌}
use mathlib.Core.Bool.{false≢true}
use mathlib.Core.Path.{refl, ◌∙◌, subst}
use Rattle.verdict.specs.FinishingTurns.{EndedBefore, ended-start, ended-turn, ended-finishing}
use native.Mathlib.Omega.{arith}
use borrow.Author.Rules.{rules}
use Rattle.verdict.proofs.passing.finishing.Goals as goal

pub loop-v-init : goal.loop-v-init
loop-v-init c = (refl, ended-start _ _ _ _, λ i. search rules)

pub list_entries-requires : goal.list_entries-requires
list_entries-requires c =
    let l = c.loop-v in
    let s = c in
    (s.requires.0, omega (arith, s.requires.1), s.requires.2, omega (arith, s.requires.3, l.invariant.0))

pub shape_of-ended-then-not-list_entries : goal.shape_of-ended-then-not-list_entries
shape_of-ended-then-not-list_entries c = c.list_entries.ensures.size ∙ c.loop-v.invariant.0

pub returns-then-not-list_entries : goal.returns-then-not-list_entries
returns-then-not-list_entries c = λ e. absurd (false≢true e)

pub loop-v-preserved : goal.loop-v-preserved
loop-v-preserved c =
    let l = c.loop-v in
    let s = c in
    let e = c.list_entries.ensures in (
      e.size ∙ l.invariant.0,
      ended-turn s.args.states s.args.table.now s.args.passes.now l.ended _ l.v s.requires.0
          (e.entries c.if-not-list_entries.false) l.invariant.1,
      λ i. search rules,
    )

pub shape_of-ended : goal.shape_of-ended
shape_of-ended c = c.loop-v.invariant.0

pub returns : goal.returns
returns c =
    let l = c.loop-v in
    let a = c.args in
    let e : l.v ≡ a.lists = omega arith in
    λ t accepting p. ended-finishing a.states a.lists accepting a.table.now a.passes.now l.ended l.invariant.2
    (subst (EndedBefore a.states a.table.now a.passes.now l.ended) e l.invariant.1) p
