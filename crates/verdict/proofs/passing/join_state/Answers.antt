use Rattle.std.specs.Prelude.{◌-◌}
use mathlib.Core.Path.{refl, ◌∙◌}
use Rattle.verdict.specs.PassingTurns.{joining-start, joining-turn, joining-end, words-few}
use native.Mathlib.Omega.{arith}
use Rattle.std.proofs.lemmas.Bool.{or_parts}
use Rattle.verdict.proofs.passing.join_state.Goals as goal

pub loop-j-init : goal.loop-j-init
loop-j-init c = (refl, joining-start _ _ _ _ _)

pub overflow_mul-k : goal.overflow_mul-k
overflow_mul-k c =
    let s = c in
    omega (arith, words-few s.args.k s.args.t s.requires.0, s.requires.0, s.requires.1)

pub overflow_add-k : goal.overflow_add-k
overflow_add-k c =
    let s = c in
    omega (arith, words-few s.args.k s.args.t s.requires.0, s.requires.0, s.requires.1)

pub overflow_mul-k-in-loop-j : goal.overflow_mul-k-in-loop-j
overflow_mul-k-in-loop-j c =
    let s = c in
    omega (arith, words-few s.args.k s.args.s s.requires.0, s.requires.0, s.requires.2)

pub overflow_add-k-in-loop-j : goal.overflow_add-k-in-loop-j
overflow_add-k-in-loop-j c =
    let s = c in
    omega (arith, words-few s.args.k s.args.s s.requires.0, s.requires.0, s.requires.2)

pub join_word-changed-requires : goal.join_word-changed-requires
join_word-changed-requires c =
    let s = c in
    let l = c.loop-j in
    let some = c.loop-j-test.true in
    (omega (arith, s.requires.3, l.invariant.0, some), omega (arith, s.requires.4, l.invariant.0, some))

pub loop-j-preserved : goal.loop-j-preserved
loop-j-preserved c =
    let s = c in
    let l = c.loop-j in
    let some = c.loop-j-test.true in
    let join-word = c.join_word-changed in (
      join-word.auto.passes ∙ l.invariant.0,
      joining-turn s.args.k s.args.t s.args.s (l.j - 1) l.j _ l.passes _ l.changed join-word.result _
          (omega (arith, some)) (omega (arith, some)) (λ e. or_parts _ _ e) join-word.ensures l.invariant.1,
    )

pub shape_of-passes : goal.shape_of-passes
shape_of-passes c = c.loop-j.invariant.0

pub returns : goal.returns
returns c =
    let a = c.args in
    let l = c.loop-j in
    joining-end a.k a.t a.s l.j _ l.passes l.changed (omega (arith, c.loop-j-test.false)) l.invariant.1
