-- The construction of document 001, section 2: over any deterministic automaton, each list takes a set of states to the states after its
-- paths (its image); the images folded over a list word give exactly the states after the paths that the word spells. So a word is sound
-- exactly when all those states accept.
use Rattle.std.specs.Prelude.{ℕ, [], ◌∷◌, ◌++◌, ◌↔◌, ◌≡◌, refl}
use Rattle.std.proofs.Common.{sym, ◌∙◌, ap, subst}
use Rattle.theory.specs.Path.{Label, Path, Language}
use Rattle.theory.specs.Word.{Word, Spells, nothing, name}

-- The state that a path leads to, the automaton's step being given.
abbrev pub after : {S : Type 0} → (S → Label → S) → S → Path → S
after step s [] = s
after step s (a ∷ p) = after step (step s a) p

pub after-append : {S : Type 0} (step : S → Label → S) (s : S) (p q : Path) → after step s (p ++ q) ≡ after step (after step s p) q
after-append step s [] q = refl
after-append step s (a ∷ p) q = after-append step (step s a) p q

-- The image of a set of states under a language: the states after its paths.
abbrev pub Image : {S : Type 0} → (S → Label → S) → Language → (S → Type 0) → S → Type 0
Image {S} step L X t = (s : S) × (p : Path) × X s × L p × (after step s p ≡ t)

-- The images of a word's lists, one after the other.
abbrev pub Images : {S : Type 0} → (S → Label → S) → (ℕ → Language) → Word → (S → Type 0) → S → Type 0
Images step lists [] X t = X t
Images step lists (v ∷ w) X t = Images step lists w (Image step (lists v) X) t

-- The states after the paths that a word spells.
abbrev pub States : {S : Type 0} → (S → Label → S) → (ℕ → Language) → Word → (S → Type 0) → S → Type 0
States {S} step lists w X t = (s : S) × (p : Path) × X s × Spells lists w p × (after step s p ≡ t)

module _ {S : Type 0} (step : S → Label → S) (lists : ℕ → Language) where
  images-to : (w : Word) (X : S → Type 0) (t : S) → Images step lists w X t → States step lists w X t
  images-to [] X t h = (t, [], h, nothing, refl)
  images-to (v ∷ w) X t h = join (images-to w (Image step (lists v) X) t h)
    where
      join : States step lists w (Image step (lists v) X) t → States step lists (v ∷ w) X t
      join (m, r, (s, u, x, l, e), k, f) =
          (s, u ++ r, x, name u r refl l k, after-append step s u r ∙ ap (λ z. after step z r) e ∙ f)

  images-from : (w : Word) (X : S → Type 0) (t s : S) (p : Path) → X s → Spells lists w p → after step s p ≡ t → Images step lists w X t
  images-from [] X t s p x nothing e = subst X e x
  images-from (v ∷ w) X t s p x (name u r q l k) e =
      images-from w (Image step (lists v) X) t (after step s u) r (s, u, x, l, refl) k
      (sym (after-append step s u r) ∙ ap (after step s) (sym q) ∙ e)

  pub images-exactly : (w : Word) (X : S → Type 0) (t : S) → Images step lists w X t ↔ States step lists w X t
  images-exactly w X t = (images-to w X t, λ (s, p, x, k, e). images-from w X t s p x k e)

  -- Q is the language of the automaton whose accepting states are F. A word spells paths of Q alone exactly when all states after them are
  -- in F.
  module _ (start : S) (F : S → Type 0) (Q : Language) (recognizes : (p : Path) → Q p ↔ F (after step start p)) where
    pub sound-images : (w : Word) → ((p : Path) → Spells lists w p → Q p) ↔ ((t : S) → Images step lists w (λ s. start ≡ s) t → F t)
    sound-images w = (to, from)
      where
        to : ((p : Path) → Spells lists w p → Q p) → (t : S) → Images step lists w (λ s. start ≡ s) t → F t
        to sound t h = reach (images-to w (λ s. start ≡ s) t h)
          where
            reach : States step lists w (λ s. start ≡ s) t → F t
            reach (s, p, b, k, e) = subst F (ap (λ z. after step z p) b ∙ e) ((recognizes p).0 (sound p k))

        from : ((t : S) → Images step lists w (λ s. start ≡ s) t → F t) → (p : Path) → Spells lists w p → Q p
        from all p k = (recognizes p).1 (all (after step start p) (images-from w (λ s. start ≡ s) _ start p refl k refl))
