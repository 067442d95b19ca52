-- More laws of the union of sets of places: it is associative, and moving up goes through it.
use Rattle.std.specs.Prelude.{ℕ, ◌*◌, ◌^◌, ◌⊎◌, ◌≡◌}
use Rattle.std.proofs.Common.{inl, inr, sym, ap₂, ◌∙◌, add-zero, pow_pos}
use Rattle.std.proofs.lemmas.Nat.{or_block}
use Rattle.theory.specs.Places.{Member, union}
use Rattle.theory.specs.PlacesLaws.{member_union, equal-members}

pub union_assoc : (a b c : ℕ) → union (union a b) c ≡ union a (union b c)
union_assoc a b c = equal-members (union (union a b) c) (union a (union b c)) λ i. (
  λ m. there i ((member_union i (union a b) c).0 m),
  λ m. back i ((member_union i a (union b c)).0 m),
)
  where
    left : (i : ℕ) → Member i a ⊎ Member i b → Member i (union a (union b c))
    left i (inl m) = (member_union i a (union b c)).1 (inl m)
    left i (inr m) = (member_union i a (union b c)).1 (inr ((member_union i b c).1 (inl m)))

    there : (i : ℕ) → Member i (union a b) ⊎ Member i c → Member i (union a (union b c))
    there i (inl m) = left i ((member_union i a b).0 m)
    there i (inr m) = (member_union i a (union b c)).1 (inr ((member_union i b c).1 (inr m)))

    right : (i : ℕ) → Member i b ⊎ Member i c → Member i (union (union a b) c)
    right i (inl m) = (member_union i (union a b) c).1 (inl ((member_union i a b).1 (inr m)))
    right i (inr m) = (member_union i (union a b) c).1 (inr m)

    back : (i : ℕ) → Member i a ⊎ Member i (union b c) → Member i (union (union a b) c)
    back i (inl m) = (member_union i (union a b) c).1 (inl ((member_union i a b).1 (inl m)))
    back i (inr m) = right i ((member_union i b c).0 m)

-- A union moved up is the union of what is moved up.
pub union-up : (k a b : ℕ) → union a b * 2 ^ k ≡ union (a * 2 ^ k) (b * 2 ^ k)
union-up k a b =
    sym (add-zero (union a b * 2 ^ k))
    ∙ sym (or_block k a b 0 0 (pow_pos k) (pow_pos k))
    ∙ ap₂ union (add-zero (a * 2 ^ k)) (add-zero (b * 2 ^ k))
