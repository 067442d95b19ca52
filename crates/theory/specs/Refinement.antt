-- The classes of a table's states, computed by rounds (Moore's refinement). A list of classes has a number for each state: the first state
-- of its class.
use Rattle.std.specs.Prelude.{ℕ, zero, suc, Bool, true, false, List, ◌∷◌, get_or}
use Rattle.theory.specs.Deterministic.{Deterministic}
use Rattle.theory.specs.NumberLists.{tabulate}
use Rattle.theory.specs.Leader.{leader}

-- The class of the state q.
abbrev pub class_at : List ℕ → ℕ → ℕ
class_at s q = get_or s q 0

-- A flag as a number, 1 where it accepts.
unfoldable pub flag_number : Bool → ℕ
flag_number true = 1
flag_number false = 0

-- What a round compares: the flag, the class, and the classes of the next states.
unfoldable pub signature : Deterministic → List ℕ → ℕ → List ℕ
signature D s q = flag_number (D.accepting q) ∷ class_at s q ∷ tabulate (λ v. class_at s (D.next q v)) D.symbols

-- The states of one class that differ in what a round compares are put apart.
unfoldable pub round : Deterministic → List ℕ → List ℕ
round D s = tabulate (leader (signature D s)) D.states

-- So many rounds, from all states in one class.
unfoldable pub rounds : Deterministic → ℕ → List ℕ
rounds D zero = tabulate (λ q. 0) D.states
rounds D (suc n) = round D (rounds D n)

-- As many rounds as there are states: nothing changes any more.
unfoldable pub classes : Deterministic → List ℕ
classes D = rounds D D.states
