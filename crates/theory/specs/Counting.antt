-- Maps between the numbers below m and the numbers below n: an injective one has m ≤ n, and an increasing one goes nowhere down.
use Rattle.std.specs.Prelude.{ℕ, zero, suc, ◌≤◌, ◌<◌, ◌≡◌}
use Rattle.std.proofs.Math.Decide.{ℕ_discrete}
use Rattle.std.proofs.Common.{arith}

-- x, or l in the place of n.
moved : (l x n : ℕ) → Dec (x ≡ n) → ℕ
moved l x n (yes e) = l
moved l x n (no e) = x

moved-below : (l x n : ℕ) (d : Dec (x ≡ n)) → x < suc n → l < suc n → ¬ (x ≡ l) → moved l x n d < n
unfolding moved
moved-below l x n (yes e) h k f = omega arith
moved-below l x n (no e) h k f = omega arith

moved-injective : (l x y n : ℕ) (d : Dec (x ≡ n)) (e : Dec (y ≡ n)) → ¬ (x ≡ l) → ¬ (y ≡ l) → moved l x n d ≡ moved l y n e → x ≡ y
unfolding moved
moved-injective l x y n (yes d) (yes e) f g q = omega arith
moved-injective l x y n (yes d) (no e) f g q = omega arith
moved-injective l x y n (no d) (yes e) f g q = omega arith
moved-injective l x y n (no d) (no e) f g q = q

-- The pigeonhole principle.
pub pigeonhole : (m n : ℕ) (f : (i : ℕ) → i < m → ℕ) → ((i : ℕ) (h : i < m) → f i h < n)
    → ((i j : ℕ) (h : i < m) (k : j < m) → f i h ≡ f j k → i ≡ j) → m ≤ n
pigeonhole zero n f below injective = omega arith
pigeonhole (suc m) zero f below injective = absurd (omega (arith, below zero (omega arith)))
pigeonhole (suc m) (suc n) f below injective =
    let fits : m ≤ n = pigeonhole m n other
    (λ i h. moved-below top (f i (under i h)) n (ℕ_discrete (f i (under i h)) n) (below i (under i h)) (below m end) (apart i h))
    (λ i j h k q. injective i j (under i h) (under j k)
    (moved-injective top (f i (under i h)) (f j (under j k)) n (ℕ_discrete (f i (under i h)) n) (ℕ_discrete (f j (under j k)) n)
    (apart i h) (apart j k) q)) in
    omega arith
  where
    end : m < suc m
    end = omega arith

    under : (i : ℕ) → i < m → i < suc m
    under i h = omega arith

    top : ℕ
    top = f m end

    apart : (i : ℕ) (h : i < m) → ¬ (f i (under i h) ≡ top)
    apart i h q = let same : i ≡ m = injective i m (under i h) end q in omega arith

    other : (i : ℕ) → i < m → ℕ
    other i h = moved top (f i (under i h)) n (ℕ_discrete (f i (under i h)) n)

pub increasing : {m : ℕ} (f : (i : ℕ) → i < m → ℕ) → ((i j : ℕ) (h : i < m) (k : j < m) → i < j → f i h < f j k)
    → (i : ℕ) (h : i < m) → i ≤ f i h
increasing f up zero h = omega arith
increasing {m} f up (suc i) h =
    let k : i < m = omega arith in
    omega (arith, increasing f up i k, up i (suc i) k h (omega arith))
