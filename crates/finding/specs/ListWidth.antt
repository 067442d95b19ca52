-- The labels of a list's automaton enter only the list's own places, which are as many as it has follow sets.
use Rattle.std.specs.Prelude.{◌≡◌, ℕ, suc, ◌^◌, ◌<◌, length}
use Rattle.std.proofs.Common.{ap, subst, sym, arith}
use Rattle.theory.specs.Path.{Label}
use Rattle.theory.specs.Expression.{Expression}
use Rattle.theory.specs.Standing.{size}
use Rattle.theory.specs.Occurrences.{labelled-within}
use Rattle.theory.specs.PlacesLaws.{members-below}
use Rattle.theory.specs.Automaton.{labelled, glushkov}
use Rattle.theory.proofs.AutomatonLaws.{member-labelled, length-follows}

pub glushkov-width : (e : Expression) → length (glushkov e).follow ≡ suc (size e)
unfolding glushkov
glushkov-width e = ap suc (length-follows 1 e)

pub glushkov-enters : (e : Expression) (a : Label) → (glushkov e).enter a < 2 ^ length (glushkov e).follow
unfolding glushkov
glushkov-enters e a =
    subst (λ (w : ℕ). labelled 1 e a < 2 ^ w) (sym (glushkov-width e))
    (members-below (suc (size e)) (labelled 1 e a) (λ y m. omega (arith, labelled-within 1 e y a ((member-labelled 1 e a y).0 m))))
