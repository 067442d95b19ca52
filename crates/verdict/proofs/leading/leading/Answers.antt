use mathlib.Core.Bool.{false≢true}
use mathlib.Core.Path.{refl, ◌∙◌}
use Rattle.verdict.specs.LeadingTurns.{lists-start, lists-turn, lists-end}
use Rattle.std.proofs.Common.{arith}
use Rattle.std.proofs.lemmas.Grind.{common_steps}
use Rattle.verdict.proofs.leading.leading.Goals as goal

pub overflow_mul-lists : goal.overflow_mul-lists
overflow_mul-lists c = omega (arith, c.requires.0.few)

pub loop-v-init : goal.loop-v-init
loop-v-init c =
    let s = c in (
      lists-start s.args.lists s.args.follow.now s.args.sizes.now _ (λ i h. grind (arith, common_steps)),
      refl,
    )

pub list_leading-requires : goal.list_leading-requires
list_leading-requires c =
    let s = c in
    let l = c.loop-v in
    let below = c.loop-v-test.true in
    (omega (arith, below, s.requires.0.few), s.requires.0.small l.v below, omega (arith, below, s.requires.1), omega (arith, below, s.requires.2, l.invariant.1, c.fill.auto.self))

pub returns-then-not-list_leading : goal.returns-then-not-list_leading
returns-then-not-list_leading c = λ e. absurd (false≢true e)

pub loop-v-preserved : goal.loop-v-preserved
loop-v-preserved c =
    let l = c.loop-v in
    let s = c in
    let below = c.loop-v-test.true in (
      lists-turn s.args.lists l.v s.args.follow.now s.args.sizes.now l.before c.list_leading.new.before below
          (c.list_leading.ensures c.if-not-list_leading.false) l.invariant.0,
      c.list_leading.auto.before ∙ l.invariant.1,
    )

pub returns : goal.returns
returns c =
    let l = c.loop-v in
    let s = c in
    λ e. lists-end s.args.lists l.v s.args.follow.now s.args.sizes.now l.before
    (omega (arith, c.loop-v-test.false)) l.invariant.0
