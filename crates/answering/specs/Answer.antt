-- The two machines that answers go by: the standings of an expression over the job's labels, and the states of a rewriting over its lists.
use Rattle.std.specs.Prelude.{ℕ, List, length, nat_eq, slice_index}
use Rattle.theory.specs.Places.{collect}
use Rattle.theory.specs.Automaton.{Automaton}
use Rattle.finding.specs.Standings.{move}
use Rattle.finding.specs.States.{accepting_standings}
use Rattle.finding.specs.Rewritten.{Rewritten, next_state}
use Rattle.answering.specs.Product.{Machine}

-- The standings of an automaton, given as the list of those found.
abbrev pub link_machine : Automaton → List ℕ → Machine
link_machine A found = record { states = length found; next = move A found; accepting = accepting_standings A found }

-- The states of a rewriting.
abbrev pub list_machine : Rewritten → Machine
list_machine R =
    record { states = R.states; next = next_state R; accepting = collect (λ q. nat_eq (slice_index R.flags q) 1) R.states }
