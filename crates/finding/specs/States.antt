-- The states of list words (document 01, "State"): sets of query standings, here sets of standing numbers, by exploration over the lists;
-- which of them accept; and the first accepted word.
use Rattle.std.specs.Prelude.{ℕ, Bool, true, false, List, [], ◌∷◌, reverse, length, ◌==◌, slice_index, slice_index_or, eqb}
use Rattle.std.proofs.Math.Option.{Option, some, none}
use Rattle.theory.specs.Word.{Word}
use Rattle.theory.specs.Places.{one, intersection, collect, union_over}
use Rattle.theory.specs.Automaton.{Automaton, accepts}
use Rattle.theory.specs.Exploration.{System, Entry, Exploration, explore}

-- The state that the list v leads to: the union of the images of the standings in X. There are m standings.
unfoldable pub state_step : List (List ℕ) → ℕ → ℕ → ℕ → ℕ
state_step images m X v = union_over (λ i. slice_index (slice_index_or images v []) i) m X

abbrev pub state_system : List (List ℕ) → ℕ → System ℕ
state_system images m = record { same = eqb; start = one 0; step = λ X v. some (state_step images m X v); symbols = length images }

unfoldable pub states : List (List ℕ) → ℕ → ℕ → Exploration ℕ
states images m limit = explore (state_system images m) limit

-- The numbers of the standings that accept.
unfoldable pub accepting_standings : Automaton → List ℕ → ℕ
accepting_standings A found = collect (λ i. accepts A (slice_index found i)) (length found)

-- A state accepts when all its standings do.
unfoldable pub state_accepts : ℕ → ℕ → Bool
state_accepts accepting X = intersection X accepting == X

-- The word of the first accepting state; none if no state accepts.
unfoldable pub first_accepted : ℕ → List (Entry ℕ) → Option Word
first_accepted accepting [] = none
first_accepted accepting (e ∷ l) = elim (state_accepts accepting e.value) [ true ↦ some (reverse e.trail) | false ↦ first_accepted accepting l ]
