-- The loop's invariant: the numbers collected are those of the first i standings that meet the accepting places.
use Rattle.std.specs.Prelude.{◌≡◌, ℕ, ◌≤◌, Bool, List, [], get_or}
use Rattle.theory.specs.Automaton.{accepts}
use Rattle.theory.specs.Places.{collect}
use Rattle.finding.specs.Plain.{plain}
use Rattle.finding.proofs.flags.accepting_standings.Given as goal

-- The standing number k meets the accepting places.
abbrev pub meets : List ℕ → ℕ → ℕ → Bool
meets found accepting k = accepts (plain [] [] accepting) (get_or found k 0)

abbrev pub invariant-loop-i : goal.invariant-loop-i
invariant-loop-i l =
    (l.count ≤ 64) × (l.numbers ≡ collect (meets l.found l.accepting.0) l.i)
