-- Reachability under a relation (document 01 uses it twice: recordings with standings over links, standings with list places over
-- labels), and its computation over numbered nodes.
use Rattle.std.specs.Prelude.{ℕ, zero, suc, true, false, eqb}
use Rattle.theory.specs.Places.{union, union_over}

-- `Reaches R x y`: finitely many steps of R, perhaps none, lead from x to y.
pub data Reaches {A : Type 0} (R : A → A → Type 0) : A → A → Type 0 where
  here : {x : A} → Reaches R x x
  onward : {x y z : A} → R x y → Reaches R y z → Reaches R x z

-- The set of nodes, with all that is reached from it in at most `rounds` steps. The nodes are numbered below n, and `next` gives the set
-- of nodes one step from a node. It ends at the first round that adds nothing.
unfoldable pub closure : (ℕ → ℕ) → ℕ → ℕ → ℕ → ℕ
closure next n zero s = s
closure next n (suc rounds) s =
    let t = union s (union_over next n s) in
    elim (eqb t s) [ true ↦ s | false ↦ closure next n rounds t ]
