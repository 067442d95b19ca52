use Rattle.std.proofs.Common.{ℕ, List, ◌≡◌, ◌≢◌, ◌^◌, ◌+◌, ◌-◌, ◌*◌, ◌<◌, length, get_or, arith, rules}
use Rattle.std.specs.Int.Count.{count_trailing_zeros}
use lib.Bits.{and_le_r}
use Rattle.theory.specs.Places.{Member}
use Rattle.places.specs.NextPlace.{trailing-here}
use Rattle.places.specs.Followed.{followed-turn, followed-end, rest-within}
use Rattle.places.proofs.joined.join.Goals as goal

-- The word of the place taken is there.
inside : (words : List ℕ) (first apart set rest place : ℕ) → ((p : ℕ) → Member p set → apart * p + first < length words)
    → ((p : ℕ) → Member p rest → Member p set) → rest < 2 ^ 64 → rest ≢ 0 → place ≡ count_trailing_zeros 64 rest
    → apart * place + first < length words
inside words first apart set rest place there within small some is =
    rw is (there (count_trailing_zeros 64 rest) (within _ (trailing-here 64 rest some small)))

pub overflow_mul-all : goal.overflow_mul-all
overflow_mul-all c =
    let (some, is, left) = c.in-Some.ensures.steps in
    let l = c.loop-place in
    omega (arith, inside c.args.words.now c.args.first c.args.apart c.args.set _ _ c.requires l.invariant.3 l.invariant.2 some is)

pub overflow_add-all : goal.overflow_add-all
overflow_add-all c =
    let (some, is, left) = c.in-Some.ensures.steps in
    let l = c.loop-place in
    omega (arith, inside c.args.words.now c.args.first c.args.apart c.args.set _ _ c.requires l.invariant.3 l.invariant.2 some is)

pub offset_bounds-words-apart : goal.offset_bounds-words-apart
offset_bounds-words-apart c =
    let (some, is, left) = c.in-Some.ensures.steps in
    let l = c.loop-place in
    omega (arith, inside c.args.words.now c.args.first c.args.apart c.args.set _ _ c.requires l.invariant.3 l.invariant.2 some is)

pub bounds-words-apart : goal.bounds-words-apart
bounds-words-apart c =
    let (some, is, left) = c.in-Some.ensures.steps in
    let l = c.loop-place in
    inside c.args.words.now c.args.first c.args.apart c.args.set _ _ c.requires l.invariant.3 l.invariant.2 some is

pub loop-place-preserved : goal.loop-place-preserved
loop-place-preserved c =
    let (some, is, left) = c.in-Some.ensures.steps in
    let a = c.args in
    let l = c.loop-place in
    let i = l.invariant in
    let rest = l.place-iterator.rest in
    rw (is, left) (
      search rules,
      search rules,
      omega (arith, i.2, and_le_r rest (rest - 1)),
      rest-within a.set rest i.3 some i.2,
      followed-turn (λ p. get_or a.words.now (a.apart * p + a.first) 0) a.set l.all rest some i.2 i.4,
    )

pub returns : goal.returns
returns c =
    let l = c.loop-place in
    let a = c.args in
    followed-end (λ p. get_or a.words.now (a.apart * p + a.first) 0) a.set l.all l.place-iterator.rest c.in-None.ensures.steps.0 l.invariant.4
