use Prim.Native.Nat.{◌-◌}
use mathlib.Core.Path.{refl, sym, ap, ◌∙◌}
use native.Mathlib.Omega.{arith}
use lib.Bits.{bit_and, and_le_r}
use lib.ListN.{get_or, set}
use borrow.Author.Rules.{rules}
use Rattle.theory.specs.Places.{union}
use Rattle.places.specs.declared.members.Members.{Members}
use Rattle.theory.specs.Automaton.{link}
use Rattle.syntax.specs.Link.{link-turn, link-over}
use Rattle.syntax.proofs.sets.link.Goals as goal

pub loop-place-init : goal.loop-place-init
loop-place-init c =
    let a = c.args in
    let e = ap (λ (m : Members). m.rest) c.into_iter-place-iterator.ensures.into_iter_gives ∙ c.members-place-items.ensures in
    rw e (search rules, search rules, omega arith, refl)

pub loop-place-preserved : goal.loop-place-preserved
loop-place-preserved c =
    let (some, is, left) = c.in-Some.ensures.steps in
    let l = c.loop-place in
    let more = c.args.more.0 in
    let rest = l.place-iterator.rest in
    rw left (
      search rules,
      search rules,
      omega (arith, l.invariant.2, and_le_r rest (rest - 1)),
      ap (link (bit_and rest (rest - 1)) more 0) (c.add.ensures ∙ ap (λ i. set l.table i (union (get_or l.table i 0) more)) is)
          ∙ link-turn rest more l.table some l.invariant.2
          ∙ l.invariant.3,
    )

pub returns : goal.returns
returns c =
    let l = c.loop-place in
    let more = c.args.more.0 in
    sym (link-over more l.table) ∙ ap (λ s. link s more 0 l.table) (sym c.in-None.ensures.steps.0) ∙ l.invariant.3
