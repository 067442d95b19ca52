-- The standings of an automaton over all paths of k labels (document 01, "Standing"), by exploration: numbered from 0 by their first paths.
use Rattle.std.specs.Prelude.{ℕ, suc, true, false, List, [], ◌∷◌, ◌==◌, slice_index, eqb}
use Rattle.std.proofs.Math.Option.{some}
use Rattle.theory.specs.Places.{one}
use Rattle.theory.specs.Automaton.{Automaton, step}
use Rattle.theory.specs.Exploration.{System, Entry, Exploration, explore}

-- The standings of the automaton A as a system over the labels below k.
abbrev pub standing_system : Automaton → ℕ → System ℕ
standing_system A k = record { same = eqb; start = one 0; step = λ s a. some (step A s a); symbols = k }

unfoldable pub standings : Automaton → ℕ → ℕ → Exploration ℕ
standings A k limit = explore (standing_system A k) limit

-- The values of entries, in their order.
unfoldable pub values : {A : Type 0} → List (Entry A) → List A
values [] = []
values (e ∷ l) = e.value ∷ values l

-- The place of a number in a list, counted from i; the list's length, so counted, where it is not there.
unfoldable pub place_from : ℕ → ℕ → List ℕ → ℕ
place_from i x [] = i
place_from i x (y ∷ l) = elim (y == x) [ true ↦ i | false ↦ place_from (suc i) x l ]

unfoldable pub place_of : ℕ → List ℕ → ℕ
place_of x l = place_from 0 x l

-- The number of the standing that the label a leads to from the standing number i.
unfoldable pub move : Automaton → List ℕ → ℕ → ℕ → ℕ
move A found i a = place_of (step A (slice_index found i) a) found
