-- Lists of numbers: the values of a function, and whether two lists are equal.
use Rattle.std.specs.Prelude.{ℕ, zero, suc, ◌<◌, Bool, true, false, ◌≡◌, refl, eqb, length, get_or}
use mathlib.Core.List.{List, [], ◌∷◌, head-eq_of_cons-eq, tail-eq_of_cons-eq}
use Rattle.std.proofs.Common.{ap, arith, eqb-true, eq-eqb}

-- The values of f at the numbers below n.
unfoldable pub tabulate : (ℕ → ℕ) → ℕ → List ℕ
tabulate f zero = []
tabulate f (suc n) = f zero ∷ tabulate (λ i. f (suc i)) n

pub tabulate-length : (f : ℕ → ℕ) (n : ℕ) → length (tabulate f n) ≡ n
unfolding tabulate
tabulate-length f zero = refl
tabulate-length f (suc n) = ap suc (tabulate-length (λ i. f (suc i)) n)

pub tabulate-at : (f : ℕ → ℕ) (n i : ℕ) → i < n → get_or (tabulate f n) i 0 ≡ f i
unfolding tabulate
tabulate-at f zero i h = absurd (omega arith)
tabulate-at f (suc n) zero h = refl
tabulate-at f (suc n) (suc i) h = tabulate-at (λ j. f (suc j)) n i (omega arith)

pub tabulate-same : (f g : ℕ → ℕ) (n : ℕ) → ((i : ℕ) → i < n → f i ≡ g i) → tabulate f n ≡ tabulate g n
unfolding tabulate
tabulate-same f g zero h = refl
tabulate-same f g (suc n) h =
    let rest = tabulate-same (λ i. f (suc i)) (λ i. g (suc i)) n (λ i l. h (suc i) (omega arith)) in
    λ i. h zero (omega arith) i ∷ rest i

-- Whether the two lists are equal.
unfoldable pub equal : List ℕ → List ℕ → Bool
equal [] [] = true
equal [] (y ∷ t) = false
equal (x ∷ s) [] = false
equal (x ∷ s) (y ∷ t) = elim (eqb x y) [ true ↦ equal s t | false ↦ false ]

pub equal-same : (s t : List ℕ) → equal s t ≡ true → s ≡ t
unfolding equal
equal-same [] [] e = refl
equal-same [] (y ∷ t) e = absurd (let z : ◌≡◌ {A = ℕ} 0 1 = cc in omega arith)
equal-same (x ∷ s) [] e = absurd (let z : ◌≡◌ {A = ℕ} 0 1 = cc in omega arith)
equal-same (x ∷ s) (y ∷ t) e = go (eqb x y) refl (equal-same s t) e
  where
    go : (b : Bool) → eqb x y ≡ b → (equal s t ≡ true → s ≡ t) → elim b [ true ↦ equal s t | false ↦ false ] ≡ true → x ∷ s ≡ y ∷ t
    go true d ih e = let head = eqb-true x y d in let tail = ih e in λ i. head i ∷ tail i
    go false d ih e = absurd (let z : ◌≡◌ {A = ℕ} 0 1 = cc in omega arith)

pub same-equal : (s t : List ℕ) → s ≡ t → equal s t ≡ true
unfolding equal
same-equal [] [] e = refl
same-equal [] (y ∷ t) e = absurd (let z : ◌≡◌ {A = ℕ} 0 1 = cc in omega arith)
same-equal (x ∷ s) [] e = absurd (let z : ◌≡◌ {A = ℕ} 0 1 = cc in omega arith)
same-equal (x ∷ s) (y ∷ t) e = rw (eq-eqb x y (head-eq_of_cons-eq e), equal) (same-equal s t (tail-eq_of_cons-eq e))
