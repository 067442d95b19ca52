-- `follows` meets its contract: the follow sets of the places that the table has entries for are joined.
use Rattle.std.specs.Prelude.{◌≡◌, ℕ, ◌+◌, ◌*◌, length, get_or}
use mathlib.Core.Path.{ap, ◌∙◌, subst}
use native.Mathlib.Omega.{arith}
use Rattle.theory.specs.Places.{Member}
use Rattle.theory.specs.Automaton.{nexts}
use Rattle.theory.specs.PlacesShift.{member-cut}
use Rattle.places.specs.Followed.{nexts-over-word}
use Rattle.places.specs.Joined.{over-same}
use Rattle.finding.specs.StandingBelow.{nexts-below}
use Rattle.finding.proofs.step.follows.Goals as goal

pub join-requires : goal.join-requires
join-requires c = λ p m.
    let a = c.args in
    omega (arith, ((member-cut (length a.follow.now) p a.standing.0).0 (subst (Member p) c.below.ensures m)).0)

pub returns : goal.returns
returns c =
    let b = c.below in
    let a = c.args in
    c.join.ensures
    ∙ over-same (λ p. get_or a.follow.now (1 * p + 0) 0) (λ p. get_or a.follow.now p 0) 64 b.result
    (λ p h. let e : 1 * p + 0 ≡ p = omega arith in ap (λ (i : ℕ). get_or a.follow.now i 0) e)
    ∙ nexts-over-word b.result a.follow.now (omega arith)
    ∙ ap (λ z. nexts z a.follow.now) b.ensures
    ∙ nexts-below a.standing.0 a.follow.now
