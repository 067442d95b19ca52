-- Search below a bound.
use Rattle.std.specs.Prelude.{ℕ, zero, suc, ◌≤◌, ◌<◌, Bool, true, false, ◌≡◌, refl}
use Rattle.std.proofs.Common.{arith}

-- The first number below n that passes the test, and n where there is none.
unfoldable pub first_below : (ℕ → Bool) → ℕ → ℕ
first_below test zero = zero
first_below test (suc n) = elim (test zero) [ true ↦ zero | false ↦ suc (first_below (λ i. test (suc i)) n) ]

pub first-at-most : (test : ℕ → Bool) (n : ℕ) → first_below test n ≤ n
unfolding first_below
first-at-most test zero = omega arith
first-at-most test (suc n) = go (test zero) (first_below (λ i. test (suc i)) n) (first-at-most (λ i. test (suc i)) n)
  where
    go : (b : Bool) (f : ℕ) → f ≤ n → elim b [ true ↦ zero | false ↦ suc f ] ≤ suc n
    go true f h = omega arith
    go false f h = omega arith

-- What is found passes the test ..
pub first_passes : (test : ℕ → Bool) (n : ℕ) → first_below test n < n → test (first_below test n) ≡ true
unfolding first_below
first_passes test zero h = absurd (omega arith)
first_passes test (suc n) h = go (test zero) refl (first_passes (λ i. test (suc i)) n) h
  where
    go : (b : Bool) {f : ℕ} → test zero ≡ b → (f < n → test (suc f) ≡ true) → elim b [ true ↦ zero | false ↦ suc f ] < suc n
        → test (elim b [ true ↦ zero | false ↦ suc f ]) ≡ true
    go true e ih h = e
    go false e ih h = ih (omega arith)

-- .. and nothing before it does.
pub first-least : (test : ℕ → Bool) (n i : ℕ) → test i ≡ true → first_below test n ≤ i
unfolding first_below
first-least test zero i e = omega arith
first-least test (suc n) zero e = rw (e, first_below) (omega arith)
first-least test (suc n) (suc i) e = go (test zero) (first_below (λ j. test (suc j)) n) (first-least (λ j. test (suc j)) n i e)
  where
    go : (b : Bool) (f : ℕ) → f ≤ i → elim b [ true ↦ zero | false ↦ suc f ] ≤ suc i
    go true f h = omega arith
    go false f h = omega arith

-- What is found below m is found below a greater bound.
pub first-kept : (test : ℕ → Bool) (m n : ℕ) → m ≤ n → first_below test m < m → first_below test n ≡ first_below test m
first-kept test m n h l =
    let f : ℕ = first_below test m in
    let g : ℕ = first_below test n in
    let up : g ≤ f = first-least test n f (first_passes test m l) in
    let down : f ≤ g = first-least test m g (first_passes test n (omega arith)) in
    omega arith

-- Tests that agree below n find the same there.
pub first-same : (f g : ℕ → Bool) (n : ℕ) → ((i : ℕ) → i < n → f i ≡ g i) → first_below f n ≡ first_below g n
unfolding first_below
first-same f g zero h = refl
first-same f g (suc n) h =
    let head = h zero (omega arith) in
    let rest = first-same (λ i. f (suc i)) (λ i. g (suc i)) n (λ i l. h (suc i) (omega arith)) in
    λ i. elim (head i) [ true ↦ zero | false ↦ suc (rest i) ]
