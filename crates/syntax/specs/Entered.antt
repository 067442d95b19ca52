-- The table of the places that each label may enter.
use Rattle.std.specs.Prelude.{ℕ, zero, suc, ◌+◌, ◌<◌, List, [], ◌∷◌, ◌⊎◌, ◌≡◌, refl, length, get_or, set}
use Rattle.std.proofs.Common.{inl, inr, sym, ap, ap₂, ◌∙◌, add-zero, arith, eq-eqb, ne_eqb}
use Rattle.std.specs.Int.Bits.{or_zero_r}
use Rattle.theory.specs.Expression.{Expression, label}
use Rattle.theory.specs.Places.{Member, one, union, when}
use Rattle.theory.specs.PlacesLaws.{member_union, equal-members}
use Rattle.theory.specs.Automaton.{labelled}

-- The table with the places of e, numbered from k on, added: the entries are those of the labels from a on.
unfoldable pub entered : ℕ → Expression → ℕ → List ℕ → List ℕ
entered k e a [] = []
entered k e a (s ∷ t) = union s (labelled k e a) ∷ entered k e (suc a) t

pub length-entered : (k : ℕ) (e : Expression) (a : ℕ) (t : List ℕ) → length (entered k e a t) ≡ length t
unfolding entered
length-entered k e a [] = refl
length-entered k e a (s ∷ t) = ap suc (length-entered k e (suc a) t)

-- Nothing is added for an expression without occurrences.
pub entered-nothing : (k : ℕ) (e : Expression) (a : ℕ) (t : List ℕ) → ((b : ℕ) → labelled k e b ≡ 0) → entered k e a t ≡ t
unfolding entered
entered-nothing k e a [] h = refl
entered-nothing k e a (s ∷ t) h = ap₂ ◌∷◌ (ap (λ x. union s x) (h a) ∙ or_zero_r s) (entered-nothing k e (suc a) t h)

-- Two expressions with the same labelled places.
pub entered-same : (k : ℕ) (d e : Expression) (a : ℕ) (t : List ℕ) → ((b : ℕ) → labelled k d b ≡ labelled k e b)
    → entered k d a t ≡ entered k e a t
unfolding entered
entered-same k d e a [] h = refl
entered-same k d e a (s ∷ t) h = ap₂ ◌∷◌ (ap (λ x. union s x) (h a)) (entered-same k d e (suc a) t h)

pub union_assoc : (s t u : ℕ) → union (union s t) u ≡ union s (union t u)
union_assoc s t u = equal-members (union (union s t) u) (union s (union t u)) (λ i. (there i, back i))
  where
    left : (i : ℕ) → Member i (union s t) ⊎ Member i u → Member i s ⊎ Member i (union t u)
    left i (inl m) = inner ((member_union i s t).0 m)
      where
        inner : Member i s ⊎ Member i t → Member i s ⊎ Member i (union t u)
        inner (inl x) = inl x
        inner (inr x) = inr ((member_union i t u).1 (inl x))
    left i (inr m) = inr ((member_union i t u).1 (inr m))

    right : (i : ℕ) → Member i s ⊎ Member i (union t u) → Member i (union s t) ⊎ Member i u
    right i (inl m) = inl ((member_union i s t).1 (inl m))
    right i (inr m) = inner ((member_union i t u).0 m)
      where
        inner : Member i t ⊎ Member i u → Member i (union s t) ⊎ Member i u
        inner (inl x) = inl ((member_union i s t).1 (inr x))
        inner (inr x) = inr x

    there : (i : ℕ) → Member i (union (union s t) u) → Member i (union s (union t u))
    there i m = (member_union i s (union t u)).1 (left i ((member_union i (union s t) u).0 m))

    back : (i : ℕ) → Member i (union s (union t u)) → Member i (union (union s t) u)
    back i m = (member_union i (union s t) u).1 (right i ((member_union i s (union t u)).0 m))

-- Two parts, the places of the right part numbered from j on, one after the other.
pub entered-both : (k j : ℕ) (l r e : Expression) (a : ℕ) (t : List ℕ)
    → ((b : ℕ) → labelled k e b ≡ union (labelled k l b) (labelled j r b)) → entered j r a (entered k l a t) ≡ entered k e a t
unfolding entered
entered-both k j l r e a [] h = refl
entered-both k j l r e a (s ∷ t) h =
    ap₂ ◌∷◌ (union_assoc s (labelled k l a) (labelled j r a) ∙ ap (λ x. union s x) (sym (h a))) (entered-both k j l r e (suc a) t h)

-- One occurrence: the entry of its label gets its place.
pub entered-label : (k a i : ℕ) (t : List ℕ) → entered k (label (a + i)) a t ≡ set t i (union (get_or t i 0) (one k))
unfolding entered labelled
entered-label k a i [] = refl
entered-label k a zero (s ∷ t) =
    ap₂ ◌∷◌ (ap (λ b. union s (when b (one k))) (eq-eqb a (a + 0) (sym (add-zero a)))) (beyond (suc a) t (omega arith))
  where
    beyond : (b : ℕ) (t : List ℕ) → a + 0 < b → entered k (label (a + 0)) b t ≡ t
    beyond b [] h = refl
    beyond b (s ∷ t) h =
        ap₂ ◌∷◌ (ap (λ c. union s (when c (one k))) (ne_eqb b (a + 0) (omega arith)) ∙ or_zero_r s) (beyond (suc b) t (omega arith))
entered-label k a (suc i) (s ∷ t) =
    ap₂ ◌∷◌ (ap (λ b. union s (when b (one k))) (ne_eqb a (a + suc i) (omega arith)) ∙ or_zero_r s)
    (ap (λ n. entered k (label n) (suc a) t) (omega arith) ∙ entered-label k (suc a) i t)
