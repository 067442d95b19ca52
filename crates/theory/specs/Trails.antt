-- Trails: words with the last symbol first, as an exploration keeps them. On trails both the order of words and where a word leads to are
-- one recursion each.
use Rattle.std.specs.Prelude.{ℕ, suc, ◌<◌, ◌⊎◌, ◌≡◌, length}
use mathlib.Core.List.{List, [], ◌∷◌, reverse, reverse_aux}
use Rattle.std.proofs.Common.{inl, inr, sym, ◌∙◌, ap, lt_trans, arith}
use Rattle.std.proofs.Math.Option.{Option, some, none, some-injective, none-ne-some}
use Rattle.std.proofs.Math.Path.{refl, subst}
use Rattle.std.proofs.Math.ListN.{length-reverse_aux}
use Rattle.theory.specs.Path.{Path, Below, nothing, next, LabelOrder, here, later, Before}
use Rattle.theory.specs.Exploration.{System, Entry, run}
use Rattle.theory.specs.Explored.{Reached, entry_at}

-- The order of the words of two trails: the shorter first, then the word whose symbols before the last come first, then by the last.
pub data Earlier : List ℕ → List ℕ → Type 0 where
  shorter : {b : ℕ} {u : List ℕ} → Earlier [] (b ∷ u)
  front : {a b : ℕ} {t u : List ℕ} → Earlier t u → Earlier (a ∷ t) (b ∷ u)
  last : {a b : ℕ} {t : List ℕ} → a < b → Earlier (a ∷ t) (b ∷ t)

abbrev pub NotLater : List ℕ → List ℕ → Type 0
NotLater t u = (t ≡ u) ⊎ Earlier t u

pub earlier-transitive : {t u s : List ℕ} → Earlier t u → Earlier u s → Earlier t s
earlier-transitive shorter (front k) = shorter
earlier-transitive shorter (last k) = shorter
earlier-transitive (front h) (front k) = front (earlier-transitive h k)
earlier-transitive (front h) (last k) = front h
earlier-transitive (last h) (front k) = front k
earlier-transitive (last h) (last k) = last (lt_trans h k)

-- One more symbol behind each keeps the order.
pub not-later-front : {a : ℕ} {t u : List ℕ} → NotLater t u → NotLater (a ∷ t) (a ∷ u)
not-later-front {a} (inl e) = inl (ap (λ s. a ∷ s) e)
not-later-front (inr h) = inr (front h)

pub not-later-transitive : {t u s : List ℕ} → NotLater t u → NotLater u s → NotLater t s
not-later-transitive (inl e) (inl d) = inl (e ∙ d)
not-later-transitive (inl e) (inr k) = inr (rw e k)
not-later-transitive (inr h) (inl d) = inr (rw d at h)
not-later-transitive (inr h) (inr k) = inr (earlier-transitive h k)

label-behind : (t : List ℕ) {p q : Path} → LabelOrder p q → LabelOrder (reverse_aux t p) (reverse_aux t q)
label-behind [] h = h
label-behind (a ∷ t) h = label-behind t (later h)

before-behind : {t u : List ℕ} → Earlier t u → (p q : Path) → length p ≡ length q → Before (reverse_aux t p) (reverse_aux u q)
before-behind (shorter {b} {u}) p q e = inl (omega (arith, length-reverse_aux u (b ∷ q)))
before-behind (front {a} {b} h) p q e = before-behind h (a ∷ p) (b ∷ q) (ap suc e)
before-behind (last {a} {b} {t} h) p q e =
    inr (omega (arith, length-reverse_aux t (a ∷ p), length-reverse_aux t (b ∷ q)), label-behind t (here h))

-- What the order of trails says of their words.
pub earlier-before : {t u : List ℕ} → Earlier t u → Before (reverse t) (reverse u)
earlier-before h = before-behind h [] [] refl

-- The trail of the i-th entry found.
abbrev pub trail_at : {A : Type 0} → System A → List (Entry A) → ℕ → List ℕ
trail_at S found i = (entry_at S found i).trail

-- The trail leads from the start to the value.
pub data Leads {A : Type 0} (S : System A) : List ℕ → A → Type 0 where
  started : {v : A} → S.start ≡ v → Leads S [] v
  stepped : {a : ℕ} {t : List ℕ} {u v : A} → Leads S t u → a < S.symbols → S.step u a ≡ some v → Leads S (a ∷ t) v

module _ {A : Type 0} (S : System A) where
  run_step : (u : A) (a : ℕ) (w : List ℕ) {v : A} → S.step u a ≡ some v → run S u (a ∷ w) ≡ run S v w
  unfolding run
  run_step u a w e = rw (run, e)

  reached-behind : {t : List ℕ} {u v : A} (w : List ℕ) → Leads S t u → Below S.symbols w → run S u w ≡ some v
      → Reached S v (reverse_aux t w)
  reached-behind {v} w (started e) b r = (b, subst (λ x. run S x w ≡ some v) (sym e) r)
  reached-behind w (stepped {a = a} {u = u} h l e) b r = reached-behind (a ∷ w) h (next l b) (run_step u a w e ∙ r)

  -- A trail leads to a value exactly where its word reaches the value.
  pub leads-reached : {t : List ℕ} {v : A} → Leads S t v → Reached S v (reverse t)
  unfolding run
  leads-reached h = reached-behind [] h nothing refl

  leads-behind : {t : List ℕ} {u v : A} {w : List ℕ} → Leads S t u → Below S.symbols w → run S u w ≡ some v → Leads S (reverse_aux w t) v
  unfolding run
  leads-behind {t} {u} {v} h nothing r = subst (Leads S t) (some-injective u v r) h
  leads-behind {t} {u} {v} h (next {a} {p} l b) r = after (S.step u a) refl r (λ x e. leads-behind {t = a ∷ t} (stepped h l e) b)
    where
      after : (o : Option A) → S.step u a ≡ o → elim o [ none ↦ none | some x ↦ run S x p ] ≡ some v
          → ((x : A) → S.step u a ≡ some x → run S x p ≡ some v → Leads S (reverse_aux p (a ∷ t)) v) → Leads S (reverse_aux p (a ∷ t)) v
      after none e q onward = absurd (none-ne-some v q)
      after (some x) e q onward = onward x e q

  pub reached-leads : {v : A} {w : List ℕ} → Reached S v w → Leads S (reverse w) v
  reached-leads r = leads-behind (started refl) r.0 r.1
