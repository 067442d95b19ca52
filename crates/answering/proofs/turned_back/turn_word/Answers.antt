use Rattle.std.specs.Prelude.{◌≡◌, ◌+◌, ◌-◌, ◌<◌, length}
use mathlib.Core.Path.{subst}
use native.Mathlib.Nat.{one-mul}
use lib.Bits.{bit_and, and_le_r}
use lib.Count.{count_trailing_zeros, trailing_le}
use Rattle.places.specs.NextPlace.{trailing-here}
use Rattle.places.specs.Followed.{rest-within}
use Rattle.answering.specs.TurnedBack.{WordTurned, turned_none, turned-least}
use native.Mathlib.Omega.{arith}
use borrow.Author.Rules.{rules}
use Rattle.answering.proofs.turned_back.turn_word.Goals as goal

pub loop-p-init : goal.loop-p-init
loop-p-init c =
    let e : c.into_iter-p-iterator.result.rest ≡ c.args.set = search rules in
    rw e (search rules, search rules, omega arith, λ p m. m, λ after w. w)

pub overflow_add-from : goal.overflow_add-from
overflow_add-from c =
    let (some, is, left) = c.in-Some.ensures.steps in
    omega (arith, is, trailing_le 64 c.loop-p.p-iterator.rest, c.requires.1)

pub put-requires : goal.put-requires
put-requires c =
    let (some, is, left) = c.in-Some.ensures.steps in
    let l = c.loop-p in
    let rest = l.p-iterator.rest in
    let h = c.requires.2 _ (l.invariant.3 _ (trailing-here 64 rest some l.invariant.2)) in
    let e = one-mul (c.args.from + count_trailing_zeros 64 rest) in
    rw is (omega (arith, h, c.requires.0))

pub loop-p-preserved : goal.loop-p-preserved
loop-p-preserved c =
    let (some, is, left) = c.in-Some.ensures.steps in
    let l = c.loop-p in
    let rest = l.p-iterator.rest in
    let a = c.args in
    let k = c.requires.0 in
    let v = l.invariant in
    let h = c.requires.2 _ (v.3 _ (trailing-here 64 rest some v.2)) in
    let g : a.from + count_trailing_zeros 64 rest < length l.reached = omega arith in
    rw left (
      search rules,
      search rules,
      omega (arith, v.2, and_le_r rest (rest - 1)),
      rest-within a.set rest v.3 some v.2,
      λ after w. v.4 after
          (turned-least l.reached some v.2 k g
          (subst (λ m. WordTurned (bit_and rest (rest - 1)) a.from a.s m after) (rw is at c.put.ensures) w)),
    )

pub returns : goal.returns
returns c =
    let l = c.loop-p in
    l.invariant.4 l.reached (turned_none _ _ l.reached c.in-None.ensures.steps.0)
