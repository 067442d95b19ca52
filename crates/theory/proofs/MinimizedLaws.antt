-- The minimized table accepts the same words, no complete table with fewer states does, and it is the only one in document 01's numbering.
use Prim.Native.Nat.{ℕ, ◌≤◌, ◌<◌}
use Rattle.std.specs.Prelude.{◌≡◌, refl, ◌↔◌, ◌⊎◌}
use Rattle.std.proofs.Common.{sym, subst, ◌∙◌, inl, inr, arith}
use Rattle.std.proofs.Math.Path.{ap, ap₂}
use Rattle.std.proofs.Math.Decide.{dec_lt}
use Rattle.std.proofs.Math.Dec.{eqb}
use Rattle.std.proofs.Math.ListN.{get_or-eq_default}
use borrow.Author.Tests.{eqb-true, eq-eqb}
use Rattle.theory.specs.Path.{Below}
use Rattle.theory.specs.PathOrder.{compared}
use Rattle.theory.specs.Deterministic.{Deterministic, Complete, SameFrom, SameWords, Reached, Minimal, Numbered, Canonical, Agree}
use Rattle.theory.specs.DeterministicLaws.{same-words-back, same-words-trans, agree-accepting, agree-words}
use Rattle.theory.specs.Classes.{Coarse, Stable}
use Rattle.theory.specs.FirstBelow.{first_passes, first-least, first-kept, first-same}
use Rattle.theory.specs.Leaders.{Led, leaders, leaders-at-most, leaders-rise, leaders-below, leaders-at, leaders-agree}
use Rattle.theory.specs.Quotient.{Named, quotient}
use Rattle.theory.specs.QuotientLaws as Q
use Rattle.theory.specs.Refinement.{class_at, classes}
use Rattle.theory.proofs.RefinementLaws.{classes-length, classes-led, classes-coarse, classes-stable}
use Rattle.theory.proofs.ClassesOnly.{classes-only}
use Rattle.theory.specs.Minimized.{class_number, first_member, merged, minimized}

module _ {n : ℕ} {c : ℕ → ℕ} (L : Led n c) where
  first-least-member : (q k : ℕ) → class_number c q ≡ k → first_member c n k ≤ q
  unfolding first_member
  first-least-member q k e = first-least (λ q. eqb (class_number c q) k) n q (eq-eqb (class_number c q) k e)

  first-state : (k : ℕ) → k < leaders c n → first_member c n k < n
  unfolding class_number
  first-state k h =
      let (q, l, e, f) = leaders-at c k n h in
      omega (arith, first-least-member q k (ap (leaders c) e ∙ f))

  first-number : (k : ℕ) → k < leaders c n → class_number c (first_member c n k) ≡ k
  unfolding first_member
  first-number k h = eqb-true _ k (first_passes (λ q. eqb (class_number c q) k) n (first-state k h))

  -- The first member is a leader.
  first-leader : (k : ℕ) → k < leaders c n → c (first_member c n k) ≡ first_member c n k
  unfolding class_number
  first-leader k h =
      let f : ℕ = first_member c n k in
      let l : f < n = first-state k h in
      omega (arith, L.at_most f l, first-least-member (c f) k (ap (leaders c) (L.leads f l) ∙ first-number k h))

  -- The numbers name the classes in the order of their first members.
  pub numbers-named : Named n (class_number c) (leaders c n) (first_member c n)
  unfolding class_number
  numbers-named =
      record {
        within = λ q h. leaders-below c (c q) n (omega (arith, L.at_most q h)) (L.leads q h);
        state = first-state;
        member = first-number;
        least = λ q h. first-least-member q (class_number c q) refl;
        ordered = ordered;
      }
    where
      ordered : (j k : ℕ) → j < k → k < leaders c n → first_member c n j < first_member c n k
      ordered j k l h = go (dec_lt f g)
        where
          f : ℕ
          f = first_member c n j

          g : ℕ
          g = first_member c n k

          at : (i : ℕ) → i < leaders c n → leaders c (first_member c n i) ≡ i
          at i m = ap (leaders c) (sym (first-leader i m)) ∙ first-number i m

          go : Dec (f < g) → f < g
          go (yes m) = m
          go (no m) = absurd (omega (arith, leaders-rise c g f (omega arith), at j (omega arith), at k h))

  -- States with one number are in one class.
  number-class : (q r : ℕ) → q < n → r < n → class_number c q ≡ class_number c r → c q ≡ c r
  unfolding class_number
  number-class q r h k e = go (compared (c q) (c r))
    where
      go : (c q ≡ c r) ⊎ ((c q < c r) ⊎ (c r < c q)) → c q ≡ c r
      go (inl d) = d
      go (inr (inl l)) = absurd (omega (arith, leaders-below c (c q) (c r) l (L.leads q h)))
      go (inr (inr l)) = absurd (omega (arith, leaders-below c (c r) (c q) l (L.leads r k)))

  -- The class that begins with q has q as its first member.
  pub first-of-leader : (q : ℕ) → q < n → c q ≡ q → first_member c n (class_number c q) ≡ q
  first-of-leader q h e =
      let k = numbers-named.within q h in
      sym (first-leader (class_number c q) k)
      ∙ number-class (first_member c n (class_number c q)) q (first-state (class_number c q) k) h (first-number (class_number c q) k)
      ∙ e

  -- Further states change nothing in the first members of these classes.
  pub first-member-kept : (m k : ℕ) → n ≤ m → k < leaders c n → first_member c m k ≡ first_member c n k
  unfolding first_member
  first-member-kept m k h l = first-kept (λ q. eqb (class_number c q) k) n m h (first-state k l)

  -- A partition that agrees with c below n has the same numbers and first members there.
  module _ {d : ℕ → ℕ} (same : (q : ℕ) → q < n → c q ≡ d q) where
    pub number-agree : (q : ℕ) → q < n → class_number c q ≡ class_number d q
    unfolding class_number
    number-agree q h =
        leaders-agree c d (c q) (λ r l. same r (omega (arith, L.at_most q h))) ∙ ap (leaders d) (same q h)

    pub first-member-agree : (k : ℕ) → first_member c n k ≡ first_member d n k
    unfolding first_member
    first-member-agree k =
        first-same (λ q. eqb (class_number c q) k) (λ q. eqb (class_number d q) k) n (λ q h. ap (λ i. eqb i k) (number-agree q h))

pub numbers-coarse : (D : Deterministic) (c : ℕ → ℕ) → Coarse D c → Coarse D (class_number c)
unfolding class_number
numbers-coarse D c A q r h k s = ap (leaders c) (A q r h k s)

pub numbers-stable : {D : Deterministic} {c : ℕ → ℕ} → Led D.states c → Stable D c → Stable D (class_number c)
unfolding class_number
numbers-stable {c = c} L S =
    record {
      flag = λ q r h k e. S.flag q r h k (number-class L q r h k e);
      next = λ q r v h k l e. ap (leaders c) (S.next q r v h k l (number-class L q r h k e));
    }

-- Merging brings no more states, and no number above that of the states.
pub minimized-fewer : (D : Deterministic) → (minimized D).states ≤ D.states
unfolding minimized merged quotient
minimized-fewer D = leaders-at-most (class_at (classes D)) D.states

pub minimized-next : (D : Deterministic) (k v : ℕ) → (minimized D).next k v ≤ (minimized D).states
unfolding minimized merged quotient class_number
minimized-next D k v = leaders-rise (class_at (classes D)) (class_at (classes D) q) D.states (side (dec_lt q D.states))
  where
    q : ℕ
    q = D.next (first_member (class_at (classes D)) D.states k) v

    side : Dec (q < D.states) → class_at (classes D) q ≤ D.states
    side (yes h) = omega (arith, (classes-led D).at_most q h)
    side (no h) = omega (arith, get_or-eq_default (classes D) 0 {n = q} (omega (arith, classes-length D)))

module _ {D : Deterministic} (C : Complete D) where
  coarse : Coarse D (class_number (class_at (classes D)))
  coarse = numbers-coarse D (class_at (classes D)) (classes-coarse D C)

  stable : Stable D (class_number (class_at (classes D)))
  stable = numbers-stable (classes-led D) (classes-stable D)

  pub minimized-words : SameWords D (minimized D)
  unfolding minimized merged
  minimized-words = Q.quotient-words C coarse stable (numbers-named (classes-led D))

  pub minimized-complete : Complete (minimized D)
  unfolding minimized merged
  minimized-complete = Q.quotient-complete C coarse stable (numbers-named (classes-led D))

  pub minimized-minimal : Reached D → Minimal (minimized D)
  unfolding minimized merged
  minimized-minimal R = Q.quotient-minimal C coarse stable (numbers-named (classes-led D)) R

  pub minimized-canonical : Numbered D → Canonical (minimized D)
  unfolding minimized merged
  minimized-canonical W = Q.quotient-canonical C coarse stable (numbers-named (classes-led D)) W

  pub minimized-unique : {E : Deterministic} → Numbered D → Canonical E → SameWords D E → Agree (minimized D) E
  unfolding minimized merged
  minimized-unique W G s = Q.quotient-unique C coarse stable (numbers-named (classes-led D)) W G s

-- Tables that agree are minimized alike.
module _ {D E : Deterministic} (C : Complete D) (A : Agree D E) where
  agree-complete : Complete E
  agree-complete =
      record {
        start = subst (λ n. 0 < n) A.states C.start;
        next = λ q v h l.
            let i : q < D.states = omega (arith, A.states) in
            let j : v < D.symbols = omega (arith, A.symbols) in
            omega (arith, A.next q v i j, C.next q v i j, A.states);
      }

  agree-same-from : (q r : ℕ) → q < D.states → r < D.states → SameFrom E q r → SameFrom D q r
  agree-same-from q r h k s w b =
      agree-accepting C A q h b ∙ s w (subst (λ n. Below n w) A.symbols b) ∙ sym (agree-accepting C A r k b)

  same-classes : classes D ≡ classes E
  same-classes =
      classes-only E (classes D) (classes-length D ∙ A.states) agree-complete
      (subst (λ n. Led n (class_at (classes D))) A.states (classes-led D))
      (λ q r h k s.
      let i : q < D.states = omega (arith, A.states) in
      let j : r < D.states = omega (arith, A.states) in
      classes-coarse D C q r i j (agree-same-from q r i j s))
      (record {
        flag = λ q r h k e.
            let i : q < D.states = omega (arith, A.states) in
            let j : r < D.states = omega (arith, A.states) in
            sym (A.accepting q i) ∙ (classes-stable D).flag q r i j e ∙ A.accepting r j;
        next = λ q r v h k l e.
            let i : q < D.states = omega (arith, A.states) in
            let j : r < D.states = omega (arith, A.states) in
            let m : v < D.symbols = omega (arith, A.symbols) in
            ap (class_at (classes D)) (sym (A.next q v i m))
            ∙ (classes-stable D).next q r v i j m e
            ∙ ap (class_at (classes D)) (A.next r v j m);
      })

  pub minimized-agrees : Agree (minimized D) (minimized E)
  unfolding minimized merged quotient
  minimized-agrees =
      record {
        states = ap₂ (λ s n. leaders (class_at s) n) same-classes A.states;
        symbols = A.symbols;
        next = λ k v h l.
            ap (class_number (class_at (classes D)))
            (A.next (first_member (class_at (classes D)) D.states k) v (first-state (classes-led D) k h) l)
            ∙ ap₂ (λ s n. class_number (class_at s) (E.next (first_member (class_at s) n k) v)) same-classes A.states;
        accepting = λ k h.
            A.accepting (first_member (class_at (classes D)) D.states k) (first-state (classes-led D) k h)
            ∙ ap₂ (λ s n. E.accepting (first_member (class_at s) n k)) same-classes A.states;
      }

-- Two tables accept the same words exactly when their minimized tables are the same.
pub minimized-exactly : {D E : Deterministic} → Complete D → Complete E → Numbered D → Numbered E
    → SameWords D E ↔ Agree (minimized D) (minimized E)
minimized-exactly C F M N = (
  λ s. minimized-unique C M (minimized-canonical F N) (same-words-trans s (minimized-words F)),
  λ a. same-words-trans (minimized-words C)
      (same-words-trans (agree-words (minimized-canonical C M).complete a) (same-words-back (minimized-words F))),
)
