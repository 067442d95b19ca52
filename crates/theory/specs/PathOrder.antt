-- The order of paths is a strict total order: no path comes before itself, it is transitive, and of two paths one comes first.
use Rattle.std.specs.Prelude.{ℕ, ◌<◌, ◌⊎◌, ◌≡◌, refl, length}
use mathlib.Core.List.{[], ◌∷◌, head-eq_of_cons-eq, tail-eq_of_cons-eq}
use Rattle.std.proofs.Common.{inl, inr, sym, lt_trans, arith}
use Rattle.std.proofs.Math.Decide.{dec_lt}
use Rattle.theory.specs.Path.{Path, LabelOrder, here, later, Before}

-- Of two numbers, they are equal or one is less.
pub compared : (m n : ℕ) → (m ≡ n) ⊎ ((m < n) ⊎ (n < m))
compared m n = side (dec_lt m n) (dec_lt n m)
  where
    side : Dec (m < n) → Dec (n < m) → (m ≡ n) ⊎ ((m < n) ⊎ (n < m))
    side (yes h) d = inr (inl h)
    side (no h) (yes k) = inr (inr k)
    side (no h) (no k) = inl (omega arith)

pub label-irreflexive : {p q : Path} → LabelOrder p q → ¬ (p ≡ q)
label-irreflexive (here h) e = let same = head-eq_of_cons-eq e in omega arith
label-irreflexive (later h) e = label-irreflexive h (tail-eq_of_cons-eq e)

pub label-transitive : {p q r : Path} → LabelOrder p q → LabelOrder q r → LabelOrder p r
label-transitive (here h) (here k) = here (lt_trans h k)
label-transitive (here h) (later k) = here h
label-transitive (later h) (here k) = here k
label-transitive (later h) (later k) = later (label-transitive h k)

pub label-total : (p q : Path) → length p ≡ length q → (p ≡ q) ⊎ (LabelOrder p q ⊎ LabelOrder q p)
label-total [] [] e = inl refl
label-total [] (b ∷ q) e = absurd (omega arith)
label-total (a ∷ p) [] e = absurd (omega arith)
label-total (a ∷ p) (b ∷ q) e = side (compared a b) (label-total p q (omega arith))
  where
    side : (a ≡ b) ⊎ ((a < b) ⊎ (b < a)) → (p ≡ q) ⊎ (LabelOrder p q ⊎ LabelOrder q p)
        → (a ∷ p ≡ b ∷ q) ⊎ (LabelOrder (a ∷ p) (b ∷ q) ⊎ LabelOrder (b ∷ q) (a ∷ p))
    side (inr (inl h)) r = inr (inl (here h))
    side (inr (inr h)) r = inr (inr (here h))
    side (inl h) (inl k) = inl (cc)
    side (inl h) (inr (inl k)) = inr (inl (rw h (later k)))
    side (inl h) (inr (inr k)) = inr (inr (rw h (later k)))

pub before-irreflexive : (p : Path) → ¬ Before p p
before-irreflexive p (inl h) = omega arith
before-irreflexive p (inr h) = label-irreflexive h.1 refl

pub before-transitive : (p q r : Path) → Before p q → Before q r → Before p r
before-transitive p q r (inl h) (inl k) = inl (omega arith)
before-transitive p q r (inl h) (inr k) = inl (omega arith)
before-transitive p q r (inr h) (inl k) = inl (omega arith)
before-transitive p q r (inr h) (inr k) = inr (omega arith, label-transitive h.1 k.1)

pub before-total : (p q : Path) → (p ≡ q) ⊎ (Before p q ⊎ Before q p)
before-total p q = side (compared (length p) (length q))
  where
    same : length p ≡ length q → (p ≡ q) ⊎ (LabelOrder p q ⊎ LabelOrder q p) → (p ≡ q) ⊎ (Before p q ⊎ Before q p)
    same e (inl h) = inl h
    same e (inr (inl h)) = inr (inl (inr (e, h)))
    same e (inr (inr h)) = inr (inr (inr (sym e, h)))

    side : (length p ≡ length q) ⊎ ((length p < length q) ⊎ (length q < length p)) → (p ≡ q) ⊎ (Before p q ⊎ Before q p)
    side (inl e) = same e (label-total p q e)
    side (inr (inl h)) = inr (inl (inl h))
    side (inr (inr h)) = inr (inr (inl h))

-- Nothing comes before the empty path.
pub nothing-before : (p : Path) → ¬ Before p []
nothing-before p (inl h) = omega arith
nothing-before [] (inr h) = label-irreflexive h.1 refl
nothing-before (a ∷ p) (inr h) = omega arith

-- Of two paths neither comes after the other: they are one.
pub first-both : {p q : Path} → (p ≡ q) ⊎ Before p q → (q ≡ p) ⊎ Before q p → p ≡ q
first-both (inl e) r = e
first-both (inr h) (inl e) = sym e
first-both {p} {q} (inr h) (inr k) = absurd (before-irreflexive p (before-transitive p q p h k))
