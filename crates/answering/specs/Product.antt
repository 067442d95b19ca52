-- Recordings together with the states of a deterministic automaton, over a table: which are reached from a start, and which recordings
-- are then marked. Answers from links take the standings of an expression as states, answers from lists the states of a rewriting. A node
-- is the number m × recording + state, where the automaton has m states.
use Rattle.std.specs.Prelude.{ℕ, zero, suc, ◌+◌, ◌*◌, ◌/◌, ◌%◌, ◌^◌, Bool, true, false, not, List, [], ◌∷◌, ◌==◌}
use Rattle.theory.specs.Graph.{Table}
use Rattle.theory.specs.Places.{none, one, union, intersection, when}
use Rattle.theory.specs.Closure.{closure}

-- A deterministic automaton with numbered states: how many there are, the next state for a symbol, and the set of accepting states. State 0
-- is its start.
pub record Machine : Type 0 where
  pub states : ℕ
  pub next : ℕ → ℕ → ℕ
  pub accepting : ℕ

-- The nodes one link away from the recording x in the state s.
unfoldable pub along : Machine → Table → ℕ → ℕ → ℕ
along M [] x s = none
along M (u ∷ []) x s = none
along M (u ∷ (a ∷ [])) x s = none
along M (u ∷ (a ∷ (y ∷ t))) x s = union (when (u == x) (one (M.states * y + M.next s a))) (along M t x s)

unfoldable pub next_nodes : Machine → Table → ℕ → ℕ
next_nodes M t n = along M t (n / M.states) (n % M.states)

-- All nodes reached from the recording x in state 0, of N recordings.
unfoldable pub reached_nodes : Machine → ℕ → Table → ℕ → ℕ
reached_nodes M N t x = closure (next_nodes M t) (M.states * N) (M.states * N) (one (M.states * x))

-- The recording y is reached in an accepting state.
unfoldable pub marked : Machine → ℕ → ℕ → Bool
marked M nodes y = not (intersection (nodes / 2 ^ (M.states * y) % 2 ^ M.states) M.accepting == 0)

-- A mark for each recording from y on, n of them: 1 where it is reached in an accepting state, else 0.
unfoldable pub marks_from : Machine → ℕ → ℕ → ℕ → List ℕ
marks_from M nodes zero y = []
marks_from M nodes (suc n) y = elim (marked M nodes y) [ true ↦ 1 | false ↦ 0 ] ∷ marks_from M nodes n (suc y)

unfoldable pub marks : Machine → ℕ → Table → ℕ → List ℕ
marks M N t x = let nodes = reached_nodes M N t x in marks_from M nodes N 0
