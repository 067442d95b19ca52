-- An automaton as plain data: its follow sets, the places that each label enters, and its accepting places.
use Rattle.std.specs.Prelude.{ℕ, List, slice_index}
use Rattle.theory.specs.Automaton.{Automaton}

abbrev pub plain : List ℕ → List ℕ → ℕ → Automaton
plain follow enter accepting = record { follow = follow; enter = λ a. slice_index enter a; accepting = accepting }
