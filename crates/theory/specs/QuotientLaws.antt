-- The quotient by classes that are coarse and stable accepts the same words, is the smallest table that does, and keeps the numbering by
-- first words: the states stand in the order of these already, so the classes do by their first members.
use Prim.Native.Nat.{ℕ, ◌≤◌, ◌<◌}
use mathlib.Core.List.{List}
use Rattle.std.specs.Prelude.{◌⊎◌, ◌≡◌}
use Rattle.std.proofs.Common.{inl, inr, ◌∙◌, arith}
use Rattle.std.proofs.Math.Path.{refl, sym, ap, subst}
use Rattle.std.proofs.Math.Decide.{ℕ_discrete}
use Rattle.theory.specs.Path.{Below, Before, nothing, next}
use Rattle.theory.specs.PathOrder.{before-transitive}
use Rattle.theory.specs.Deterministic.{Deterministic, run, Complete, SameFrom, SameWords, Agree}
use Rattle.theory.specs.Deterministic.{Reached, Apart, Minimal, Numbered, Canonical}
use Rattle.theory.specs.DeterministicLaws.{run-within, same-words-back, same-words-trans}
use Rattle.theory.specs.Minimal.{apart-minimal, numbered-unique}
use Rattle.theory.specs.Classes.{Coarse, Stable}
use Rattle.theory.specs.Quotient.{Named, quotient}

module _ {D : Deterministic} {c first : ℕ → ℕ} {m : ℕ}
    (C : Complete D) (A : Coarse D c) (S : Stable D c) (N : Named D.states c m first) where
  -- The class of the start is 0.
  start-class : c 0 ≡ 0
  start-class = side (ℕ_discrete (c 0) 0)
    where
      side : Dec (c 0 ≡ 0) → c 0 ≡ 0
      side (yes e) = e
      side (no e) = absurd (omega (arith, N.least 0 C.start, N.ordered 0 (c 0) (omega arith) (N.within 0 C.start)))

  -- The first member of a state's class is in its class.
  first-class : (q : ℕ) → q < D.states → c (first (c q)) ≡ c q
  first-class q h = N.member (c q) (N.within q h)

  -- From the class of a state, a word leads to the class of the state to which it leads.
  pub quotient-run : (q : ℕ) {w : List ℕ} → q < D.states → Below D.symbols w → run (quotient D c m first) (c q) w ≡ c (run D q w)
  unfolding run quotient
  quotient-run q h nothing = refl
  quotient-run q h (next {a} {p} l b) =
      let step = S.next (first (c q)) q a (N.state (c q) (N.within q h)) h l (first-class q h) in
      ap (λ k. run (quotient D c m first) k p) step ∙ quotient-run (D.next q a) (C.next q a h l) b

  quotient-flag : (q : ℕ) → q < D.states → (quotient D c m first).accepting (c q) ≡ D.accepting q
  unfolding quotient
  quotient-flag q h = S.flag (first (c q)) q (N.state (c q) (N.within q h)) h (first-class q h)

  -- What is accepted from a class is what is accepted from its states.
  quotient-accepting : (q : ℕ) {w : List ℕ} → q < D.states → Below D.symbols w
      → (quotient D c m first).accepting (run (quotient D c m first) (c q) w) ≡ D.accepting (run D q w)
  quotient-accepting q {w} h b = ap (quotient D c m first).accepting (quotient-run q h b) ∙ quotient-flag (run D q w) (run-within C h b)

  -- A word leads to the class of the state to which it leads.
  quotient-from-start : {w : List ℕ} → Below D.symbols w → run (quotient D c m first) 0 w ≡ c (run D 0 w)
  quotient-from-start {w} b = ap (λ k. run (quotient D c m first) k w) (sym start-class) ∙ quotient-run 0 C.start b

  pub quotient-words : SameWords D (quotient D c m first)
  unfolding quotient
  quotient-words =
      record {
        symbols = refl;
        words = λ w b.
            let same = ap (quotient D c m first).accepting (quotient-from-start b)
            ∙ quotient-flag (run D 0 w) (run-within C C.start b) in
            (λ t. same ∙ t, λ t. sym same ∙ t);
      }

  pub quotient-complete : Complete (quotient D c m first)
  unfolding quotient
  quotient-complete =
      record {
        start = subst (λ k. k < m) start-class (N.within 0 C.start);
        next = λ k v h l. N.within (D.next (first k) v) (C.next (first k) v (N.state k h) l);
      }

  pub quotient-apart : Apart (quotient D c m first)
  unfolding quotient
  quotient-apart j k h l s = sym (N.member j h) ∙ A (first j) (first k) (N.state j h) (N.state k l) same ∙ N.member k l
    where
      from : (k : ℕ) {w : List ℕ} → k < m → Below D.symbols w
          → (quotient D c m first).accepting (run (quotient D c m first) k w) ≡ D.accepting (run D (first k) w)
      from k {w} h b =
          subst (λ i. (quotient D c m first).accepting (run (quotient D c m first) i w) ≡ D.accepting (run D (first k) w)) (N.member k h)
          (quotient-accepting (first k) (N.state k h) b)

      same : SameFrom D (first j) (first k)
      same w b = sym (from j h b) ∙ s w b ∙ from k l b

  pub quotient-reached : Reached D → Reached (quotient D c m first)
  unfolding quotient
  quotient-reached R k h =
      let (w, b, e) = R (first k) (N.state k h) in
      (w, b, quotient-from-start b ∙ ap c e ∙ N.member k h)

  pub quotient-minimal : Reached D → Minimal (quotient D c m first)
  quotient-minimal R = apart-minimal quotient-complete (quotient-reached R) quotient-apart

  pub quotient-numbered : Numbered D → Numbered (quotient D c m first)
  unfolding quotient
  quotient-numbered W =
      record {
        word = λ k. W.word (first k);
        reached = λ k h.
            let (b, e) = W.reached (first k) (N.state k h) in
            (b, quotient-from-start b ∙ ap c e ∙ N.member k h);
        least = λ k w h b e. least k w h b (sym (quotient-from-start b) ∙ e);
        ordered = λ j k l h. W.ordered (first j) (first k) (N.ordered j k l h) (N.state k h);
      }
    where
      least : (k : ℕ) (w : List ℕ) → k < m → Below D.symbols w → c (run D 0 w) ≡ k
          → (W.word (first k) ≡ w) ⊎ Before (W.word (first k)) w
      least k w h b e = side (ℕ_discrete (first k) q) (W.least q w l b refl)
        where
          q : ℕ
          q = run D 0 w

          l : q < D.states
          l = run-within C C.start b

          side : Dec (first k ≡ q) → (W.word q ≡ w) ⊎ Before (W.word q) w → (W.word (first k) ≡ w) ⊎ Before (W.word (first k)) w
          side (yes d) r = rw d r
          side (no d) r =
              let least = subst (λ i. first i ≤ q) e (N.least q l) in
              let before = W.ordered (first k) q (omega arith) l in
              further before r
            where
              further : Before (W.word (first k)) (W.word q) → (W.word q ≡ w) ⊎ Before (W.word q) w
                  → (W.word (first k) ≡ w) ⊎ Before (W.word (first k)) w
              further f (inl e) = inr (subst (Before (W.word (first k))) e f)
              further f (inr g) = inr (before-transitive _ _ w f g)

  pub quotient-canonical : Numbered D → Canonical (quotient D c m first)
  quotient-canonical W = record { complete = quotient-complete; apart = quotient-apart; numbered = quotient-numbered W }

  -- Every canonical table for the same words is the quotient.
  pub quotient-unique : {E : Deterministic} → Numbered D → Canonical E → SameWords D E → Agree (quotient D c m first) E
  quotient-unique W G s = numbered-unique (quotient-canonical W) G (same-words-trans (same-words-back quotient-words) s)
