-- Refinement by splitting: each class c is named by its first state, and the states that differ from the first of their class in the flag
-- or in the classes of their next states leave it together.
use Rattle.std.specs.Prelude.{ℕ, ◌+◌, ◌≤◌, ◌<◌, ◌⊎◌, ◌≡◌, refl}
use mathlib.Core.List.{[], ◌∷◌, head-eq_of_cons-eq}
use Rattle.std.proofs.Common.{inl, inr, sym, ap, ◌∙◌, arith}
use Rattle.std.proofs.Math.Decide.{dec_le}
use Rattle.theory.specs.Path.{nothing}
use Rattle.theory.specs.Deterministic.{Deterministic, run, Complete, SameFrom}
use Rattle.theory.specs.DeterministicLaws.{same_next}
use Rattle.theory.specs.Classes.{Coarse, Stable}
use Rattle.theory.specs.ClassesLaws.{stable-same}
use Rattle.theory.specs.Leader.{leader, leader-at-most, leader-key, leader-same}
use Rattle.theory.specs.Leaders.{Led, leaders, leaders-same}

-- Two states agree in the flag and in the classes of their next states.
pub record Alike (D : Deterministic) (c : ℕ → ℕ) (q r : ℕ) : Type 0 where
  pub flag : D.accepting q ≡ D.accepting r
  pub next : (v : ℕ) → v < D.symbols → c (D.next q v) ≡ c (D.next r v)

-- A class goes by its first state: the first with the same key.
abbrev pub first_with : (ℕ → ℕ) → ℕ → ℕ
first_with key = leader (λ q. key q ∷ [])

pub first-led : (n : ℕ) (key : ℕ → ℕ) → Led n (first_with key)
first-led n key =
    record {
      at_most = λ q h. leader-at-most (λ r. key r ∷ []) q;
      leads = λ q h. leader-same (λ r. key r ∷ []) _ q (leader-key (λ r. key r ∷ []) q);
    }

pub first-same : (key : ℕ → ℕ) (q r : ℕ) → key q ≡ key r → first_with key q ≡ first_with key r
first-same key q r e = leader-same (λ s. key s ∷ []) q r (ap (λ k. k ∷ []) e)

pub first_key : (key : ℕ → ℕ) (q : ℕ) → key (first_with key q) ≡ key q
first_key key q = head-eq_of_cons-eq (leader-key (λ s. key s ∷ []) q)

-- Keys that are coarse make coarse classes.
pub first-coarse : (D : Deterministic) (key : ℕ → ℕ) → Coarse D key → Coarse D (first_with key)
first-coarse D key A q r h k s = first-same key q r (A q r h k s)

-- The keys of a split: a state that is like the first of its class keeps the number of the class, another has that number and b more, where
-- the numbers of classes are below b.
pub record Keyed (D : Deterministic) (c : ℕ → ℕ) (b : ℕ) (key : ℕ → ℕ) : Type 0 where
  pub below : (q : ℕ) → q < D.states → c q < b
  pub at : (q : ℕ) → q < D.states → ((key q ≡ c q) × Alike D c (c q) q) ⊎ ((key q ≡ b + c q) × (¬ Alike D c (c q) q))

module _ {D : Deterministic} {c key : ℕ → ℕ} {b : ℕ} (K : Keyed D c b key) where
  -- The keys are below twice the bound of classes.
  pub split_below : (q : ℕ) → q < D.states → key q < b + b
  split_below q h = go (K.at q h)
    where
      go : ((key q ≡ c q) × Alike D c (c q) q) ⊎ ((key q ≡ b + c q) × (¬ Alike D c (c q) q)) → key q < b + b
      go (inl (e, a)) = omega (arith, K.below q h)
      go (inr (e, a)) = omega (arith, K.below q h)

  -- States with the same continuations are split alike.
  pub split-coarse : Complete D → Coarse D c → Coarse D key
  unfolding run
  split-coarse C A q r h k s = go (K.at q h) (K.at r k)
    where
      same : c q ≡ c r
      same = A q r h k s

      -- What is like the first of the class is like it for both.
      over : (q r : ℕ) → q < D.states → r < D.states → SameFrom D q r → c q ≡ c r → Alike D c (c q) q → Alike D c (c r) r
      over q r h k s e a =
          rw (sym e) (record {
            flag = a.flag ∙ s [] nothing;
            next = λ v l. a.next v l ∙ A (D.next q v) (D.next r v) (C.next q v h l) (C.next r v k l) (same_next D q r v s l);
          })

      go : ((key q ≡ c q) × Alike D c (c q) q) ⊎ ((key q ≡ b + c q) × (¬ Alike D c (c q) q))
          → ((key r ≡ c r) × Alike D c (c r) r) ⊎ ((key r ≡ b + c r) × (¬ Alike D c (c r) r)) → key q ≡ key r
      go (inl (e, a)) (inl (f, d)) = omega (arith, same)
      go (inl (e, a)) (inr (f, d)) = absurd (d (over q r h k s same a))
      go (inr (e, a)) (inl (f, d)) = absurd (a (over r q k h (λ w i. sym (s w i)) (sym same) d))
      go (inr (e, a)) (inr (f, d)) = omega (arith, same)

  -- The first of a class stays the first of its class.
  split-keeps : Led D.states c → (q : ℕ) → q < D.states → c q ≡ q → first_with key q ≡ q
  split-keeps L q h e = side (K.at q h)
    where
      l : ℕ
      l = first_with key q

      up : l ≤ q
      up = leader-at-most (λ r. key r ∷ []) q

      within : l < D.states
      within = omega (arith, up)

      like : Alike D c (c q) q
      like = rw e (record { flag = refl; next = λ v h. refl })

      side : ((key q ≡ c q) × Alike D c (c q) q) ⊎ ((key q ≡ b + c q) × (¬ Alike D c (c q) q)) → l ≡ q
      side (inr (f, d)) = absurd (d like)
      side (inl (f, d)) = further (K.at l within)
        where
          further : ((key l ≡ c l) × Alike D c (c l) l) ⊎ ((key l ≡ b + c l) × (¬ Alike D c (c l) l)) → l ≡ q
          further (inl (g, a)) = omega (arith, up, first_key key q, e, L.at_most l within)
          further (inr (g, a)) = absurd (omega (arith, first_key key q, K.below q h))

  -- Where a state leaves its class there are more classes.
  pub split-more : Led D.states c → (q : ℕ) → q < D.states → key q ≡ b + c q
      → leaders c D.states < leaders (first_with key) D.states
  split-more L q h e = side (dec_le (leaders (first_with key) D.states) (leaders c D.states))
    where
      l : ℕ
      l = first_with key q

      within : l < D.states
      within = omega (arith, leader-at-most (λ r. key r ∷ []) q)

      side : Dec (leaders (first_with key) D.states ≤ leaders c D.states) → leaders c D.states < leaders (first_with key) D.states
      side (no m) = omega arith
      side (yes m) =
          let old : c l ≡ l = leaders-same c (first_with key) D.states (split-keeps L) m l within ((first-led D.states key).leads q h) in
          let kept : key l ≡ b + c q = first_key key q ∙ e in
          absurd (go old kept (K.at l within))
        where
          go : c l ≡ l → key l ≡ b + c q → ((key l ≡ c l) × Alike D c (c l) l) ⊎ ((key l ≡ b + c l) × (¬ Alike D c (c l) l)) → ⊥
          go old kept (inl (f, a)) = omega (arith, K.below l within)
          go old kept (inr (f, a)) = a (rw old (record { flag = refl; next = λ v h. refl }))

-- Where each state is like the first of its class, the classes are stable.
pub alike-stable : {D : Deterministic} {c : ℕ → ℕ} → ((q : ℕ) → q < D.states → Alike D c (c q) q) → Stable D c
alike-stable {D} {c} a =
    record {
      flag = λ q r h k e. sym (a q h).flag ∙ ap D.accepting e ∙ (a r k).flag;
      next = λ q r v h k l e. sym ((a q h).next v l) ∙ ap (λ s. c (D.next s v)) e ∙ (a r k).next v l;
    }

-- Two partitions with first states as names that are coarse and stable are one.
pub led-unique : {D : Deterministic} {c d : ℕ → ℕ} → Complete D → Led D.states c → Coarse D c → Stable D c
    → Led D.states d → Coarse D d → Stable D d → (q : ℕ) → q < D.states → c q ≡ d q
led-unique {D} {c} {d} C L A S M B T q h =
    omega (arith, least C L A M T, least C M B L S)
  where
    least : {c d : ℕ → ℕ} → Complete D → Led D.states c → Coarse D c → Led D.states d → Stable D d → c q ≤ d q
    least {c} {d} C L A M T =
        let k : d q < D.states = omega (arith, M.at_most q h) in
        let same : c (d q) ≡ c q = A (d q) q k h (stable-same C T (d q) q k h (M.leads q h)) in
        omega (arith, L.at_most (d q) k)
