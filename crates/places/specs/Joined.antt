-- Unions of words that stand in lent memory, `apart` words from one another.
use Rattle.std.specs.Prelude.{ℕ, ◌+◌, ◌*◌, ◌<◌, List, ◌≡◌, get_or}
use Rattle.std.proofs.Common.{sym, ap, subst, arith}
use Rattle.theory.specs.Places.{Member, union_over}
use Rattle.theory.specs.PlacesLaws.{member-union_over, equal-members}

-- The union of the words of the places of a set.
abbrev pub joined : List ℕ → ℕ → ℕ → ℕ → ℕ
joined words first apart set = union_over (λ p. get_or words (apart * p + first) 0) 64 set

-- The union of the same sets.
pub over-same : (f g : ℕ → ℕ) (n s : ℕ) → ((x : ℕ) → x < n → f x ≡ g x) → union_over f n s ≡ union_over g n s
over-same f g n s same = equal-members (union_over f n s) (union_over g n s) λ y. (
  λ m. let (x, l, a, b) = (member-union_over f n s y).0 m in (member-union_over g n s y).1 (x, l, a, subst (Member y) (same x l) b),
  λ m. let (x, l, a, b) = (member-union_over g n s y).0 m in (member-union_over f n s y).1 (x, l, a, subst (Member y) (sym (same x l)) b),
)

-- Words that stand side by side.
pub joined-beside : (words : List ℕ) (first set : ℕ) → joined words first 1 set ≡ union_over (λ p. get_or words (first + p) 0) 64 set
joined-beside words first set =
    over-same (λ p. get_or words (1 * p + first) 0) (λ p. get_or words (first + p) 0) 64 set
    λ p h. let e : 1 * p + first ≡ first + p = omega arith in ap (λ (i : ℕ). get_or words i 0) e
