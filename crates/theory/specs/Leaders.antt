-- Partitions c whose classes are named by their first members: their leaders are the numbers q with c q ≡ q.
use Rattle.std.specs.Prelude.{ℕ, zero, suc, ◌≤◌, ◌<◌, true, false, ◌≡◌, eqb}
use Rattle.std.proofs.Common.{sym, ap, ◌∙◌, arith, eq-eqb, ne_eqb}
use Rattle.std.proofs.Math.Decide.{ℕ_discrete, dec_lt}

-- Each class of the numbers below n is named by its first member.
pub record Led (n : ℕ) (c : ℕ → ℕ) : Type 0 where
  pub at_most : (q : ℕ) → q < n → c q ≤ q
  pub leads : (q : ℕ) → q < n → c (c q) ≡ c q

pub led-below : {n : ℕ} {c : ℕ → ℕ} → Led n c → (m : ℕ) → m ≤ n → Led m c
led-below L m h = record { at_most = λ q l. L.at_most q (omega arith); leads = λ q l. L.leads q (omega arith) }

-- A partition that agrees with c below n.
pub led-agree : {n : ℕ} {c d : ℕ → ℕ} → Led n c → ((q : ℕ) → q < n → c q ≡ d q) → Led n d
led-agree {n} {c} {d} L same =
    record {
      at_most = λ q h. omega (arith, same q h, L.at_most q h);
      leads = λ q h.
          let k : c q < n = omega (arith, L.at_most q h) in
          ap d (sym (same q h)) ∙ sym (same (c q) k) ∙ L.leads q h ∙ same q h;
    }

-- The number of leaders below n.
unfoldable pub leaders : (ℕ → ℕ) → ℕ → ℕ
leaders c zero = zero
leaders c (suc n) = elim (eqb (c n) n) [ true ↦ suc (leaders c n) | false ↦ leaders c n ]

pub leaders-one : (c : ℕ → ℕ) (n : ℕ) → c n ≡ n → leaders c (suc n) ≡ suc (leaders c n)
unfolding leaders
leaders-one c n e = rw (eq-eqb (c n) n e, leaders)

pub leaders-none : (c : ℕ → ℕ) (n : ℕ) → ¬ (c n ≡ n) → leaders c (suc n) ≡ leaders c n
unfolding leaders
leaders-none c n e = rw (ne_eqb (c n) n e, leaders)

pub leaders-at-most : (c : ℕ → ℕ) (n : ℕ) → leaders c n ≤ n
unfolding leaders
leaders-at-most c zero = omega arith
leaders-at-most c (suc n) = go (ℕ_discrete (c n) n) (leaders-at-most c n)
  where
    go : Dec (c n ≡ n) → leaders c n ≤ n → leaders c (suc n) ≤ suc n
    go (yes e) h = omega (arith, leaders-one c n e)
    go (no e) h = omega (arith, leaders-none c n e)

pub leaders-rise : (c : ℕ → ℕ) (m n : ℕ) → m ≤ n → leaders c m ≤ leaders c n
leaders-rise c m zero h = let same : m ≡ zero = omega arith in rw same (omega arith)
leaders-rise c m (suc n) h = go (ℕ_discrete m (suc n)) (ℕ_discrete (c n) n) (leaders-rise c m n)
  where
    go : Dec (m ≡ suc n) → Dec (c n ≡ n) → (m ≤ n → leaders c m ≤ leaders c n) → leaders c m ≤ leaders c (suc n)
    go (yes e) d ih = rw e (omega arith)
    go (no e) (yes d) ih = omega (arith, leaders-one c n d, ih (omega arith))
    go (no e) (no d) ih = omega (arith, leaders-none c n d, ih (omega arith))

-- A leader counts.
pub leaders-below : (c : ℕ → ℕ) (q n : ℕ) → q < n → c q ≡ q → leaders c q < leaders c n
leaders-below c q n h e = omega (arith, leaders-one c q e, leaders-rise c (suc q) n (omega arith))

-- The k-th leader.
pub leaders-at : (c : ℕ → ℕ) (k n : ℕ) → k < leaders c n → (q : ℕ) × (q < n) × (c q ≡ q) × (leaders c q ≡ k)
unfolding leaders
leaders-at c k zero h = absurd (omega arith)
leaders-at c k (suc n) h = go (dec_lt k (leaders c n)) (ℕ_discrete (c n) n) (leaders-at c k n)
  where
    go : Dec (k < leaders c n) → Dec (c n ≡ n) → (k < leaders c n → (q : ℕ) × (q < n) × (c q ≡ q) × (leaders c q ≡ k))
        → (q : ℕ) × (q < suc n) × (c q ≡ q) × (leaders c q ≡ k)
    go (yes l) d ih = let (q, a, b, e) = ih l in (q, omega arith, b, e)
    go (no l) (yes d) ih = (n, omega arith, d, omega (arith, leaders-one c n d))
    go (no l) (no d) ih = absurd (omega (arith, leaders-none c n d))

-- Where d has the leaders of c among its own, there are no fewer ..
pub leaders-more : (c d : ℕ → ℕ) (n : ℕ) → ((q : ℕ) → q < n → c q ≡ q → d q ≡ q) → leaders c n ≤ leaders d n
unfolding leaders
leaders-more c d zero h = omega arith
leaders-more c d (suc n) h = go (ℕ_discrete (c n) n) (leaders-more c d n (λ q l. h q (omega arith)))
  where
    go : Dec (c n ≡ n) → leaders c n ≤ leaders d n → leaders c (suc n) ≤ leaders d (suc n)
    go (yes e) ih = omega (arith, leaders-one c n e, leaders-one d n (h n (omega arith) e))
    go (no e) ih = omega (arith, leaders-none c n e, leaders-rise d n (suc n) (omega arith))

-- .. and where there are no more, no others.
pub leaders-same : (c d : ℕ → ℕ) (n : ℕ) → ((q : ℕ) → q < n → c q ≡ q → d q ≡ q) → leaders d n ≤ leaders c n
    → (q : ℕ) → q < n → d q ≡ q → c q ≡ q
leaders-same c d zero h l q k e = absurd (omega arith)
leaders-same c d (suc n) h l q k e =
    go (ℕ_discrete q n) (ℕ_discrete (c n) n) (ℕ_discrete (d n) n) (λ m f. leaders-same c d n (λ r i. h r (omega arith)) m q (omega arith) e)
  where
    less : leaders c n ≤ leaders d n
    less = leaders-more c d n (λ r m. h r (omega arith))

    go : Dec (q ≡ n) → Dec (c n ≡ n) → Dec (d n ≡ n) → (leaders d n ≤ leaders c n → ¬ (q ≡ n) → c q ≡ q) → c q ≡ q
    go (yes f) (yes a) b rest = rw f a
    go (yes f) (no a) (yes b) rest = absurd (omega (arith, less, leaders-none c n a, leaders-one d n b))
    go (yes f) (no a) (no b) rest = absurd (b (rw f at e))
    go (no f) (yes a) b rest = rest (omega (arith, leaders-one c n a, leaders-one d n (h n (omega arith) a))) f
    go (no f) (no a) b rest = rest (omega (arith, leaders-none c n a, leaders-rise d n (suc n) (omega arith))) f

-- Partitions that agree below n have as many leaders there.
pub leaders-agree : (c d : ℕ → ℕ) (n : ℕ) → ((q : ℕ) → q < n → c q ≡ d q) → leaders c n ≡ leaders d n
leaders-agree c d n same =
    omega (arith, leaders-more c d n (λ q h e. sym (same q h) ∙ e), leaders-more d c n (λ q h e. same q h ∙ e))
