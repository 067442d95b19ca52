-- A table whose states are all reached and apart is the smallest for its words, and where the states are numbered by their first words
-- it is the only one.
use Rattle.std.specs.Prelude.{ℕ, ◌≤◌, ◌<◌, List, [], ◌∷◌, ◌++◌, ◌⊎◌, ◌≡◌, refl}
use Rattle.std.proofs.Common.{inl, inr, subst, ◌∙◌, arith}
use Rattle.std.proofs.Math.Path.{sym, ap}
use Rattle.std.proofs.Math.Decide.{dec_le}
use Rattle.theory.specs.Path.{Below, Before, nothing, next}
use Rattle.theory.specs.PathOrder.{compared, before-irreflexive, before-transitive, first-both}
use Rattle.theory.specs.PathsBelow.{below-append}
use Rattle.theory.specs.Counting.{pigeonhole, increasing}
use Rattle.theory.specs.Deterministic.{Deterministic, run, Complete, SameWords, Reached, Apart, Minimal, Canonical, Agree}
use Rattle.theory.specs.DeterministicLaws.{run-append, run-within, same-words-flag, same-words-back, same-words-below, same-end-apart}

-- Words to the states of D lead to as many states of another table for the same words.
pub apart-minimal : {D : Deterministic} → Complete D → Reached D → Apart D → Minimal D
apart-minimal {D} C R A E F s =
    pigeonhole D.states E.states (λ q h. run E 0 (R q h).0)
    (λ q h. run-within F F.start (same-words-below s (R q h).1))
    (λ q r h k e. sym (R q h).2 ∙ same-end-apart C A s (R q h).1 (R r k).1 e ∙ (R r k).2)

module _ {D E : Deterministic} (F : Canonical D) (G : Canonical E) (s : SameWords D E) where
  -- The state of E to which the first word of a state of D leads.
  place : ℕ → ℕ
  place q = run E 0 (F.numbered.word q)

  place-below : (q : ℕ) → q < D.states → Below E.symbols (F.numbered.word q)
  place-below q h = same-words-below s (F.numbered.reached q h).0

  place-within : (q : ℕ) → q < D.states → place q < E.states
  unfolding place
  place-within q h = run-within G.complete G.complete.start (place-below q h)

  -- It has the same first word.
  place-word : (q : ℕ) → q < D.states → G.numbered.word (place q) ≡ F.numbered.word q
  unfolding place
  place-word q h =
      let (b, e) = F.numbered.reached q h in
      let (c, d) = G.numbered.reached (place q) (place-within q h) in
      let below = same-words-below (same-words-back s) c in
      let back = same-end-apart F.complete F.apart s below b d ∙ e in
      first-both (G.numbered.least (place q) (F.numbered.word q) (place-within q h) (place-below q h) refl)
      (F.numbered.least q (G.numbered.word (place q)) h below back)

  place-increasing : (q r : ℕ) → q < D.states → r < D.states → q < r → place q < place r
  place-increasing q r h k l = side (compared (place q) (place r))
    where
      before : Before (F.numbered.word q) (F.numbered.word r)
      before = F.numbered.ordered q r l k

      side : (place q ≡ place r) ⊎ ((place q < place r) ⊎ (place r < place q)) → place q < place r
      side (inl e) =
          let same = sym (place-word r k) ∙ ap G.numbered.word (sym e) ∙ place-word q h in
          absurd (before-irreflexive _ (subst (Before (F.numbered.word q)) same before))
      side (inr (inl g)) = g
      side (inr (inr g)) =
          let after : Before (F.numbered.word r) (F.numbered.word q) =
          rw (place-word q h, place-word r k) at (G.numbered.ordered (place r) (place q) g (place-within q h)) in
          absurd (before-irreflexive _ (before-transitive _ _ (F.numbered.word q) before after))

  place_up : (q : ℕ) → q < D.states → q ≤ place q
  place_up q h = increasing (λ i l. place i) place-increasing q h

  states-within : D.states ≤ E.states
  states-within = side (dec_le D.states E.states)
    where
      side : Dec (D.states ≤ E.states) → D.states ≤ E.states
      side (yes h) = h
      side (no h) =
          let more : E.states < D.states = omega arith in
          absurd (omega (arith, place_up E.states more, place-within E.states more))

module _ {D E : Deterministic} (F : Canonical D) (G : Canonical E) (s : SameWords D E) where
  -- The states have the same numbers ..
  place_same : (q : ℕ) → q < D.states → place F G s q ≡ q
  unfolding place
  place_same q h =
      let t = same-words-back s in
      let back : place G F t (place F G s q) ≡ q = ap (run D 0) (place-word F G s q h) ∙ (F.numbered.reached q h).1 in
      omega (arith, back, place_up F G s q h, place_up G F t (place F G s q) (place-within F G s q h))

  -- .. so every word leads to the same number.
  same-state : (w : List ℕ) → Below D.symbols w → run E 0 w ≡ run D 0 w
  unfolding place
  same-state w b =
      let h = run-within F.complete F.complete.start b in
      let (c, e) = F.numbered.reached (run D 0 w) h in
      let back = same-end-apart G.complete G.apart (same-words-back s) (same-words-below s c) (same-words-below s b) e in
      sym back ∙ place_same (run D 0 w) h

  pub numbered-unique : Agree D E
  unfolding place run
  numbered-unique =
      record {
        states = omega (arith, states-within F G s, states-within G F (same-words-back s));
        symbols = s.symbols;
        next = λ q v h l. following q v (F.numbered.reached q h) (place_same q h) l;
        accepting = λ q h.
            let (b, e) = F.numbered.reached q h in
            ap D.accepting (sym e) ∙ same-words-flag s b ∙ ap E.accepting (place_same q h);
      }
    where
      following : (q v : ℕ) → Below D.symbols (F.numbered.word q) × (run D 0 (F.numbered.word q) ≡ q)
          → run E 0 (F.numbered.word q) ≡ q → v < D.symbols → D.next q v ≡ E.next q v
      following q v (b, e) d l =
          ap (λ p. D.next p v) (sym e)
          ∙ sym (run-append D 0 (F.numbered.word q) (v ∷ []))
          ∙ sym (same-state (F.numbered.word q ++ (v ∷ [])) (below-append b (next l nothing)))
          ∙ run-append E 0 (F.numbered.word q) (v ∷ [])
          ∙ ap (λ p. E.next p v) d
