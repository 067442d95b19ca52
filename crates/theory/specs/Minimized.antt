-- The smallest table for the words of a table, computed: its states are the classes, numbered by their first members.
use Rattle.std.specs.Prelude.{ℕ, List, eqb}
use Rattle.theory.specs.Deterministic.{Deterministic}
use Rattle.theory.specs.FirstBelow.{first_below}
use Rattle.theory.specs.Leaders.{leaders}
use Rattle.theory.specs.Quotient.{quotient}
use Rattle.theory.specs.Refinement.{class_at, classes}

-- The number of the class of q, where c names the classes by their first members: how many classes begin before it.
unfoldable pub class_number : (ℕ → ℕ) → ℕ → ℕ
class_number c q = leaders c (c q)

-- The first state below n of the class numbered k.
unfoldable pub first_member : (ℕ → ℕ) → ℕ → ℕ → ℕ
first_member c n k = first_below (λ q. eqb (class_number c q) k) n

-- The quotient by the classes in the list s.
unfoldable pub merged : Deterministic → List ℕ → Deterministic
merged D s = quotient D (class_number (class_at s)) (leaders (class_at s) D.states) (first_member (class_at s) D.states)

-- The table merged by the classes that the rounds end in.
unfoldable pub minimized : Deterministic → Deterministic
minimized D = merged D (classes D)
