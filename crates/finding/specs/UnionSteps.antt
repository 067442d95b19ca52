-- The union over a set (theory, union_over): past places that are not in it, and of the entries of a table.
use Rattle.std.specs.Prelude.{◌≡◌, ℕ, ◌<◌, ◌≤◌, List, length, slice_index}
use Rattle.std.proofs.Common.{subst, arith}
use Rattle.std.proofs.Math.Decide.{dec_lt}
use Rattle.std.proofs.Math.ListN.{get_or-eq_default}
use Rattle.theory.specs.Places.{Member, union_over}
use Rattle.theory.specs.PlacesLaws.{member-none, member-union_over, equal-members}
use Rattle.theory.specs.Automaton.{nexts}
use Rattle.theory.proofs.AutomatonLaws.{member-nexts}

-- Where s has no place from p on and below r, those below r lead where those below p do.
pub union_over-skip : (next : ℕ → ℕ) (s p r : ℕ) → p ≤ r → ((i : ℕ) → p ≤ i → i < r → ¬ Member i s) → union_over next p s ≡ union_over next r s
union_over-skip next s p r h none = equal-members (union_over next p s) (union_over next r s) λ y. (
  λ m. let (x, l, a, b) = (member-union_over next p s y).0 m in (member-union_over next r s y).1 (x, omega arith, a, b),
  λ m. let (x, l, a, b) = (member-union_over next r s y).0 m in (member-union_over next p s y).1 (x, low x l a (dec_lt x p), a, b),
)
  where
    low : (x : ℕ) → x < r → Member x s → Dec (x < p) → x < p
    low x l a (yes k) = k
    low x l a (no k) = absurd (none x (omega arith) l a)

-- A table has nothing beyond its end.
pub nexts-over : (s : ℕ) (t : List ℕ) (m : ℕ) → length t ≤ m → nexts s t ≡ union_over (λ x. slice_index t x) m s
nexts-over s t m h = equal-members (nexts s t) (union_over (λ x. slice_index t x) m s) λ y. (
  λ k. let (x, l, a, b) = (member-nexts s t y).0 k in (member-union_over (λ x. slice_index t x) m s y).1 (x, omega arith, a, b),
  λ k. let (x, l, a, b) = (member-union_over (λ x. slice_index t x) m s y).0 k in (member-nexts s t y).1 (x, inside y x b (dec_lt x (length t)), a, b),
)
  where
    inside : (y x : ℕ) → Member y (slice_index t x) → Dec (x < length t) → x < length t
    inside y x b (yes l) = l
    inside y x b (no l) = absurd (member-none y (subst (Member y) (get_or-eq_default t 0 (omega arith)) b))
