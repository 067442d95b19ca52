-- The level of a state: the length of its shortest accepted continuation. What a table of levels has to show, so that states with the same
-- continuations have one level.
use Rattle.std.specs.Prelude.{ℕ, suc, ◌≤◌, ◌<◌, true, List, ◌∷◌, ◌≡◌, length}
use Rattle.std.proofs.Common.{sym, ap, subst, ◌∙◌, arith}
use Rattle.std.proofs.Math.Decide.{ℕ_discrete, dec_lt}
use Rattle.theory.specs.Path.{Below, nothing, next}
use Rattle.theory.specs.Deterministic.{Deterministic, run, Complete, SameFrom}
use Rattle.theory.specs.Classes.{Coarse}

-- A continuation of q that is accepted and has so many symbols.
pub record Continued (D : Deterministic) (q n : ℕ) : Type 0 where
  pub word : List ℕ
  pub below : Below D.symbols word
  pub long : length word ≡ n
  pub accepted : D.accepting (run D q word) ≡ true

-- f gives each state a level of at most `most`, which stands for more than can be told. As far as levels are known: an accepting state has
-- level 0, and a level below `most` is the length of an accepted continuation.
pub record Known (D : Deterministic) (most : ℕ) (f : ℕ → ℕ) : Type 0 where
  pub within : (q : ℕ) → q < D.states → f q ≤ most
  pub flagged : (q : ℕ) → q < D.states → D.accepting q ≡ true → f q ≡ 0
  pub continued : (q : ℕ) → q < D.states → f q < most → Continued D q (f q)

-- No level is more than one above that of a next state.
abbrev pub Settled : Deterministic → (ℕ → ℕ) → Type 0
Settled D f = (q v : ℕ) → q < D.states → v < D.symbols → f q ≤ suc (f (D.next q v))

-- What is known stays known where the level of a state falls to one more than that of a next state.
pub known-lowered : (D : Deterministic) {most s v : ℕ} {f g : ℕ → ℕ} → Known D most f → s < D.states → v < D.symbols
    → D.next s v < D.states → g s ≡ suc (f (D.next s v)) → g s < f s → ((q : ℕ) → ¬ (q ≡ s) → g q ≡ f q) → Known D most g
unfolding run
known-lowered D {most} {s} {v} {f} {g} K h k m e l o =
    record {
      within = λ q i. bound q i (ℕ_discrete q s);
      flagged = λ q i t. flag q i t (ℕ_discrete q s);
      continued = λ q i j. word q i j (ℕ_discrete q s);
    }
  where
    bound : (q : ℕ) → q < D.states → Dec (q ≡ s) → g q ≤ most
    bound q i (yes d) = rw d (omega (arith, K.within s h))
    bound q i (no d) = omega (arith, o q d, K.within q i)

    flag : (q : ℕ) → q < D.states → D.accepting q ≡ true → Dec (q ≡ s) → g q ≡ 0
    flag q i t (yes d) = absurd (omega (arith, K.flagged s h (sym (ap D.accepting d) ∙ t)))
    flag q i t (no d) = o q d ∙ K.flagged q i t

    word : (q : ℕ) → q < D.states → g q < most → Dec (q ≡ s) → Continued D q (g q)
    word q i j (no d) = subst (Continued D q) (sym (o q d)) (K.continued q i (omega (arith, o q d)))
    word q i j (yes d) =
        let c = K.continued (D.next s v) m (omega (arith, K.within s h)) in
        rw d (record {
          word = v ∷ c.word;
          below = next k c.below;
          long = ap suc c.long ∙ sym e;
          accepted = c.accepted;
        })

module _ {D : Deterministic} {most : ℕ} {f : ℕ → ℕ} (C : Complete D) (K : Known D most f) (S : Settled D f) where
  -- A level is no more than the length of an accepted continuation.
  level-least : (q : ℕ) {w : List ℕ} → q < D.states → Below D.symbols w → D.accepting (run D q w) ≡ true → f q ≤ length w
  unfolding run
  level-least q h nothing t = omega (arith, K.flagged q h t)
  level-least q h (next {a} {p} l b) t =
      omega (arith, S q a h l, level-least (D.next q a) (C.next q a h l) b t)

  level-at-most : (q r : ℕ) → q < D.states → r < D.states → SameFrom D q r → f q ≤ f r
  level-at-most q r h k s = side (dec_lt (f r) most)
    where
      side : Dec (f r < most) → f q ≤ f r
      side (yes l) =
          let c = K.continued r k l in
          omega (arith, c.long, level-least q h c.below (s c.word c.below ∙ c.accepted))
      side (no l) = omega (arith, K.within q h)

  -- States with the same continuations have one level.
  pub level-coarse : Coarse D f
  level-coarse q r h k s =
      omega (arith, level-at-most q r h k s, level-at-most r q k h (λ w b. sym (s w b)))
