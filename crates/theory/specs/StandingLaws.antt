-- The standing after a path of two parts (Automaton): the second part goes on from the standing after the first.
use Rattle.std.specs.Prelude.{ℕ, [], ◌∷◌, ◌++◌, ◌≡◌, refl}
use Rattle.theory.specs.Path.{Path}
use Rattle.theory.specs.Places.{one}
use Rattle.theory.specs.Automaton.{Automaton, step, standing_from, standing}

pub standing_from-append : (A : Automaton) (s : ℕ) (p q : Path) → standing_from A s (p ++ q) ≡ standing_from A (standing_from A s p) q
unfolding standing_from
standing_from-append A s [] q = refl
standing_from-append A s (a ∷ p) q = standing_from-append A (step A s a) p q

pub standing-append : (A : Automaton) (p q : Path) → standing A (p ++ q) ≡ standing_from A (standing A p) q
unfolding standing
standing-append A p q = standing_from-append A (one 0) p q
