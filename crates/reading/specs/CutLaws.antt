-- Laws of the three small tools of reading: `cut_at` cuts at the first byte b, `after` gives what comes after an opening word, `fresh`
-- tests for a proper name that is not in the table.
use Rattle.std.specs.Prelude.{ℕ, Bool, true, false, not, List, [], ◌∷◌, ◌++◌, ◌↔◌, ◌≢◌, ◌≡◌, refl, ltb, length}
use Rattle.std.proofs.Math.Bool.{and-eq-true_iff}
use Rattle.std.proofs.Common.{true≢false, sym, ap, ap₂, ◌∙◌, arith, eq-eqb, ne_eqb, ltb-false, le-ltb}
use Rattle.std.proofs.Math.Option.{Option, some, none, none-ne-some}
use Rattle.std.proofs.Math.Decide.{ℕ_discrete}
use Rattle.std.proofs.lemmas.Bool.{not-true}
use Rattle.syntax.specs.Byte.{Bytes}
use Rattle.syntax.specs.Name.{is_name, find}
use Rattle.syntax.specs.NameLaws.{is-name-exactly, find-known, find_none}
use Rattle.reading.specs.Refusing.{Without, Fresh}
use Rattle.reading.specs.Read.{Cut, cut, uncut, cut_at, after, fresh}
use Rattle.reading.specs.WithoutLaws.{without-nil, without-cons, without-head, without-tail}

-- What a cut says of the text: where it is cut, or that it has no byte b.
abbrev CutOf : ℕ → Bytes → Cut → Type 0
CutOf b s (cut l r) = (s ≡ l ++ (b ∷ r)) × Without b l
CutOf b s uncut = Without b s

-- A cut of the text with one more byte in front, which is not b.
abbrev pub onward : ℕ → Cut → Cut
onward c x = elim x [ cut l r ↦ cut (c ∷ l) r | uncut ↦ uncut ]

pub cut-here : (b c : ℕ) (s : Bytes) → c ≡ b → cut_at b (c ∷ s) ≡ cut [] s
unfolding cut_at
cut-here b c s e = rw (eq-eqb c b e, cut_at)

pub cut_later : (b c : ℕ) (s : Bytes) → c ≢ b → cut_at b (c ∷ s) ≡ onward c (cut_at b s)
unfolding cut_at
cut_later b c s n = rw (ne_eqb c b n, cut_at)

onward-of : (b c : ℕ) (s : Bytes) → c ≢ b → (x : Cut) → CutOf b s x → CutOf b (c ∷ s) (onward c x)
onward-of b c s n (cut l r) h = (ap (λ t. c ∷ t) h.0, without-cons b c l n h.1)
onward-of b c s n uncut h = without-cons b c s n h

cut_of : (b : ℕ) (s : Bytes) → CutOf b s (cut_at b s)
unfolding cut_at
cut_of b [] = without-nil b
cut_of b (c ∷ s) = go (ℕ_discrete c b) (cut_of b s)
  where
    go : Dec (c ≡ b) → CutOf b s (cut_at b s) → CutOf b (c ∷ s) (cut_at b (c ∷ s))
    go (yes e) h = rw (cut-here b c s e) (ap (λ a. a ∷ s) e, without-nil b)
    go (no n) h = rw (cut_later b c s n) (onward-of b c s n (cut_at b s) h)

cut-unique : (b : ℕ) (s : Bytes) (x : Cut) → CutOf b s x → cut_at b s ≡ x
unfolding cut_at
cut-unique b s uncut w = uncut-unique s w
  where
    uncut-unique : (s : Bytes) → Without b s → cut_at b s ≡ uncut
    uncut-unique [] w = refl
    uncut-unique (c ∷ s) w = cut_later b c s (without-head b c s w) ∙ ap (onward c) (uncut-unique s (without-tail b c s w))
cut-unique b s (cut l r) h = ap (cut_at b) h.0 ∙ at l h.1
  where
    at : (l : Bytes) → Without b l → cut_at b (l ++ (b ∷ r)) ≡ cut l r
    at [] w = cut-here b b r refl
    at (c ∷ l) w = cut_later b c (l ++ (b ∷ r)) (without-head b c l w) ∙ ap (onward c) (at l (without-tail b c l w))

pub cut-exactly : (b : ℕ) (s l r : Bytes) → (cut_at b s ≡ cut l r) ↔ ((s ≡ l ++ (b ∷ r)) × Without b l)
cut-exactly b s l r = (λ e. rw e at (cut_of b s), cut-unique b s (cut l r))

pub uncut-exactly : (b : ℕ) (s : Bytes) → (cut_at b s ≡ uncut) ↔ Without b s
uncut-exactly b s = (λ e. rw e at (cut_of b s), cut-unique b s uncut)

-- What comes after a word, by the first byte of each.
pub after_same : (a b : ℕ) (w s : Bytes) → a ≡ b → after (a ∷ w) (b ∷ s) ≡ after w s
unfolding after
after_same a b w s e = rw (eq-eqb a b e, after)

pub after-other : (a b : ℕ) (w s : Bytes) → a ≢ b → after (a ∷ w) (b ∷ s) ≡ none
unfolding after
after-other a b w s n = rw (ne_eqb a b n, after)

pub after-exactly : (w s r : Bytes) → (after w s ≡ some r) ↔ (s ≡ w ++ r)
unfolding after
after-exactly w s r = (there w s, λ e. ap (after w) e ∙ back w)
  where
    more : (a b : ℕ) (w s : Bytes) → Dec (a ≡ b) → (after w s ≡ some r → s ≡ w ++ r) → after (a ∷ w) (b ∷ s) ≡ some r
        → b ∷ s ≡ a ∷ (w ++ r)
    more a b w s (yes h) t e = ap₂ (λ x y. x ∷ y) (sym h) (t (sym (after_same a b w s h) ∙ e))
    more a b w s (no n) t e = absurd (none-ne-some r (sym (after-other a b w s n) ∙ e))

    there : (w s : Bytes) → after w s ≡ some r → s ≡ w ++ r
    there [] s e = cc
    there (a ∷ w) [] e = absurd (none-ne-some r e)
    there (a ∷ w) (b ∷ s) e = more a b w s (ℕ_discrete a b) (there w s) e

    back : (w : Bytes) → after w (w ++ r) ≡ some r
    back [] = refl
    back (a ∷ w) = after_same a a w (w ++ r) refl ∙ back w

pub after_none : (w s : Bytes) → (after w s ≡ none) ↔ ((r : Bytes) → s ≢ w ++ r)
after_none w s = (λ e r h. none-ne-some r (sym e ∙ (after-exactly w s r).1 h), λ n. go (after w s) refl n)
  where
    go : (x : Option Bytes) → after w s ≡ x → ((r : Bytes) → s ≢ w ++ r) → after w s ≡ none
    go none e n = e
    go (some r) e n = absurd (n r ((after-exactly w s r).0 e))

pub fresh-exactly : (n : Bytes) (names : List Bytes) → (fresh n names ≡ true) ↔ Fresh n names
unfolding fresh
fresh-exactly n names = (there, back)
  where
    split : (fresh n names ≡ true) ↔ ((is_name n ≡ true) × (not (ltb (find n 0 names) (length names)) ≡ true))
    split = and-eq-true_iff (is_name n) (not (ltb (find n 0 names) (length names)))

    there : fresh n names ≡ true → Fresh n names
    there e = (
      (is-name-exactly n).0 (split.0 e).0,
      λ i l same.
          let h = ltb-false (find n 0 names) (length names) (not-true _ (split.0 e).1) in
          let k = find-known n names i l same in
          omega arith,
    )

    back : Fresh n names → fresh n names ≡ true
    back f =
        split.1
        ((is-name-exactly n).1 f.0, ap not (le-ltb (find n 0 names) (length names) (omega (arith, find_none n names f.1))))

pub fresh-not : (n : Bytes) (names : List Bytes) → (fresh n names ≡ false) ↔ (¬ Fresh n names)
fresh-not n names = (λ e f. true≢false (sym ((fresh-exactly n names).1 f) ∙ e), λ h. go (fresh n names) refl h)
  where
    go : (b : Bool) → fresh n names ≡ b → ¬ Fresh n names → fresh n names ≡ false
    go true e h = absurd (h ((fresh-exactly n names).0 e))
    go false e h = e
