-- The laws of reachability and of its computation (Closure): over n nodes, n rounds find exactly what is reached. Each round that changes
-- the set adds a member, and there are at most n members.
use Prim.Native.Nat.{ℕ, zero, suc, ◌+◌, ◌*◌, ◌/◌, ◌%◌, ◌^◌, ◌≤◌, ◌<◌}
use Rattle.std.specs.Prelude.{◌↔◌, ◌≢◌, ◌⊎◌, ◌≡◌}
use Rattle.std.proofs.Common.{inl, inr, sym, ap, subst, pow-suc, arith, eq-eqb, ne_eqb}
use Rattle.std.proofs.Math.Decide.{ℕ_discrete}
use Rattle.std.specs.Int.Count.{ones_in}
use Rattle.theory.specs.Places.{Member, union, union_over}
use Rattle.theory.specs.PlacesLaws.{member-zero, member-suc, member_below, members-below, member_union, member-union_over, union-below}
use Rattle.theory.specs.PlacesLaws.{union_over-below}
use Rattle.theory.specs.Closure.{Reaches, here, onward, closure}

pub reaches-trans : {A : Type 0} {R : A → A → Type 0} {x y z : A} → Reaches R x y → Reaches R y z → Reaches R x z
reaches-trans here q = q
reaches-trans (onward r p) q = onward r (reaches-trans p q)

-- One more step at the end.
pub reaches_step : {A : Type 0} {R : A → A → Type 0} {x y z : A} → Reaches R x y → R y z → Reaches R x z
reaches_step p r = reaches-trans p (onward r here)

-- What holds at the start and is kept by each step holds wherever the steps lead.
pub closed-under : {A : Type 0} {R : A → A → Type 0} (X : A → Type 0) → ((x y : A) → X x → R x y → X y) → {x y : A} → X x
    → Reaches R x y → X y
closed-under X keep a here = a
closed-under X keep a (onward {x = x} {y = y} r p) = closed-under X keep (keep x y a r) p

-- The number of members below n.

count-at-most : (n s : ℕ) → ones_in n s ≤ n
unfolding ones_in
count-at-most zero s = omega arith
count-at-most (suc n) s = omega (arith, count-at-most n (s / 2))

count-full : (n s i : ℕ) → n ≤ ones_in n s → i < n → Member i s
unfolding ones_in
count-full zero s i h l = absurd (omega arith)
count-full (suc n) s zero h l = (member-zero s).1 (omega (arith, count-at-most n (s / 2)))
count-full (suc n) s (suc i) h l = (member-suc i s).1 (count-full n (s / 2) i (omega arith) (omega arith))

count-more : (n s t : ℕ) → s < 2 ^ n → t < 2 ^ n → ((i : ℕ) → Member i s → Member i t) → s ≢ t → ones_in n s < ones_in n t
unfolding ones_in
count-more zero s t hs ht h d = absurd (omega arith)
count-more (suc n) s t hs ht h d =
    let ps : s < 2 ^ n * 2 = rw (pow-suc 2 n) at hs in
    let pt : t < 2 ^ n * 2 = rw (pow-suc 2 n) at ht in
    go (ℕ_discrete (s / 2) (t / 2)) (ℕ_discrete (s % 2) 1)
    (count-more n (s / 2) (t / 2) (omega arith) (omega arith) (λ i m. (member-suc i t).0 (h (suc i) ((member-suc i s).1 m))))
  where
    low : Dec (s % 2 ≡ 1) → s % 2 ≤ t % 2
    low (yes e) = omega (arith, (member-zero t).0 (h 0 ((member-zero s).1 e)))
    low (no e) = omega arith

    go : Dec (s / 2 ≡ t / 2) → Dec (s % 2 ≡ 1) → (s / 2 ≢ t / 2 → ones_in n (s / 2) < ones_in n (t / 2))
        → s % 2 + ones_in n (s / 2) < t % 2 + ones_in n (t / 2)
    go (yes e) b ih = omega (arith, low b, ap (ones_in n) e)
    go (no e) b ih = omega (arith, low b, ih e)

-- The set with all that is one step from it, and the two ways a round of the closure goes.

abbrev pub round : (ℕ → ℕ) → ℕ → ℕ → ℕ
round next n s = union s (union_over next n s)

pub closure-same : (next : ℕ → ℕ) (n rounds s : ℕ) → round next n s ≡ s → closure next n (suc rounds) s ≡ s
unfolding closure
closure-same next n rounds s e = rw (eq-eqb (round next n s) s e, closure)

pub closure-more : (next : ℕ → ℕ) (n rounds s : ℕ) → round next n s ≢ s
    → closure next n (suc rounds) s ≡ closure next n rounds (round next n s)
unfolding closure
closure-more next n rounds s d = rw (ne_eqb (round next n s) s d, closure)

-- The closure holds the set, and nothing but what is reached from the set.

pub closure-keeps : (next : ℕ → ℕ) (n rounds s x : ℕ) → Member x s → Member x (closure next n rounds s)
unfolding closure
closure-keeps next n zero s x m = m
closure-keeps next n (suc rounds) s x m =
    go (ℕ_discrete (round next n s) s)
    (closure-keeps next n rounds (round next n s) x ((member_union x s (union_over next n s)).1 (inl m)))
  where
    go : Dec (round next n s ≡ s) → Member x (closure next n rounds (round next n s)) → Member x (closure next n (suc rounds) s)
    go (yes e) ih = rw (closure-same next n rounds s e) m
    go (no d) ih = rw (closure-more next n rounds s d) ih

pub closure-reached : (next : ℕ → ℕ) (n rounds s y : ℕ) → Member y (closure next n rounds s)
    → (x : ℕ) × Member x s × Reaches (λ u v. Member v (next u)) x y
unfolding closure
closure-reached next n zero s y m = (y, m, here)
closure-reached next n (suc rounds) s y m = go (ℕ_discrete (round next n s) s) (closure-reached next n rounds (round next n s) y) m
  where
    back : (z : ℕ) → Member z s ⊎ Member z (union_over next n s) → Reaches (λ u v. Member v (next u)) z y
        → (x : ℕ) × Member x s × Reaches (λ u v. Member v (next u)) x y
    back z (inl a) p = (z, a, p)
    back z (inr a) p = let r = (member-union_over next n s z).0 a in (r.0, r.2, onward r.3 p)

    go : Dec (round next n s ≡ s)
        → (Member y (closure next n rounds (round next n s)) → (x : ℕ) × Member x (round next n s) × Reaches (λ u v. Member v (next u)) x y)
        → Member y (closure next n (suc rounds) s) → (x : ℕ) × Member x s × Reaches (λ u v. Member v (next u)) x y
    go (yes e) ih a = (y, rw (closure-same next n rounds s e) at a, here)
    go (no d) ih a =
        let r = ih (rw (closure-more next n rounds s d) at a) in
        back r.0 ((member_union r.0 s (union_over next n s)).0 r.1) r.2

-- With as many rounds as there are nodes outside the set, the closure is closed under steps.

module _ (next : ℕ → ℕ) (n : ℕ) (within : (x : ℕ) → x < n → next x < 2 ^ n) where
  round-below : (s : ℕ) → s < 2 ^ n → round next n s < 2 ^ n
  round-below s h = union-below n s (union_over next n s) h (union_over-below next n n s within)

  pub closure-closed : (rounds s : ℕ) → s < 2 ^ n → n ≤ rounds + ones_in n s
      → (x y : ℕ) → Member x (closure next n rounds s) → Member y (next x) → Member y (closure next n rounds s)
  unfolding closure
  closure-closed zero s hs h x y a b =
      count-full n s y (omega arith) (member_below n (next x) y (within x (member_below n s x hs a)) b)
  closure-closed (suc rounds) s hs h x y a b = go (ℕ_discrete (round next n s) s) (closure-closed rounds (round next n s) (round-below s hs)) a
    where
      go : Dec (round next n s ≡ s)
          → (n ≤ rounds + ones_in n (round next n s) → (x y : ℕ) → Member x (closure next n rounds (round next n s)) → Member y (next x)
          → Member y (closure next n rounds (round next n s)))
          → Member x (closure next n (suc rounds) s) → Member y (closure next n (suc rounds) s)
      go (yes e) ih c =
          let m : Member x s = rw (closure-same next n rounds s e) at c in
          let l : Member y (union_over next n s) = (member-union_over next n s y).1 (x, member_below n s x hs m, m, b) in
          let k : Member y (round next n s) = (member_union y s (union_over next n s)).1 (inr l) in
          rw (closure-same next n rounds s e) (subst (Member y) e k)
      go (no d) ih c =
          let m = count-more n s (round next n s) hs (round-below s hs) (λ i a. (member_union i s (union_over next n s)).1 (inl a)) (λ e. d (sym e)) in
          rw (closure-more next n rounds s d) (ih (omega arith) x y (rw (closure-more next n rounds s d) at c) b)

pub closure-exactly : (next : ℕ → ℕ) (n s : ℕ) → s < 2 ^ n → ((x : ℕ) → x < n → next x < 2 ^ n)
    → (y : ℕ) → Member y (closure next n n s) ↔ ((x : ℕ) × Member x s × Reaches (λ u v. Member v (next u)) x y)
closure-exactly next n s h within y = (
  closure-reached next n n s y,
  λ r. closed-under (λ z. Member z (closure next n n s)) (closure-closed next n within n s h (omega arith))
      (closure-keeps next n n s r.0 r.1) r.2,
)

pub closure-below : (next : ℕ → ℕ) (n rounds s : ℕ) → s < 2 ^ n → ((x : ℕ) → x < n → next x < 2 ^ n) → closure next n rounds s < 2 ^ n
closure-below next n rounds s h within = members-below n (closure next n rounds s) (λ y m. low y (closure-reached next n rounds s y m))
  where
    low : (y : ℕ) → ((x : ℕ) × Member x s × Reaches (λ u v. Member v (next u)) x y) → y < n
    low y r = closed-under (λ z. z < n) (λ u v l m. member_below n (next u) v (within u l) m) (member_below n s r.0 h r.1) r.2
