-- The laws of marks from words (Marks): a word in common, and the marks one after the other.
use Rattle.std.specs.Prelude.{◌≡◌, ℕ, zero, suc, ◌+◌, ◌*◌, ◌<◌, ◌≤◌, Bool, true, false, not, ◌||◌, List, [], ◌∷◌, ◌++◌, length, drop, set, ◌==◌, slice_index, slice_set}
use Rattle.std.proofs.lemmas.Bool.{false≢true, eqb-false}
use Rattle.std.proofs.Common.{append_assoc, sym, ap₂, ◌∙◌, subst, add-zero, add-one, drop-cons, ne_eqb}
use Rattle.std.specs.Prelude.{refl}
use Rattle.std.proofs.Math.Path.{ap}
use Rattle.std.proofs.Math.Decide.{ℕ_discrete}
use native.Mathlib.Omega.{arith}
use Rattle.std.proofs.lemmas.Nat.{and_le_r}
use Rattle.std.specs.Int.Bits.{or_zero_l, or_add_and}
use Rattle.std.proofs.lemmas.List.{set_at}
use Rattle.std.specs.Int.{from_bool}
use Rattle.theory.specs.Places.{union, intersection}
use Rattle.answering.specs.Marked.{ones}
use Rattle.answering.specs.MarksLaws.{mark_of}
use Rattle.answering.specs.Marks.{meets, marks_of}

-- A word in common.

-- What is joined is 0 exactly when both parts are.
union-some : (s t : ℕ) → (not (s == 0) || not (t == 0)) ≡ not (union s t == 0)
union-some s t = go (ℕ_discrete s 0)
  where
    go : Dec (s ≡ 0) → (not (s == 0) || not (t == 0)) ≡ not (union s t == 0)
    go (yes e) = rw (e, or_zero_l t)
    go (no d) = rw (ne_eqb s 0 d, ne_eqb (union s t) 0 (λ e. omega (arith, or_add_and s t, and_le_r s t)))

-- The words in common are joined one after the other.
pub meets-next : (l m : List ℕ) (base n common : ℕ) → meets l m base n ≡ not (common == 0)
    → meets l m base (n + 1) ≡ not (union common (intersection (slice_index l (base + n)) (slice_index m n)) == 0)
unfolding meets
meets-next l m base n common e = rw add-one (rw e (union-some common (intersection (slice_index l (base + n)) (slice_index m n))))

-- Where each recording has one word.
pub meets_word : (l m : List ℕ) (y : ℕ) → meets l m (1 * y) 1 ≡ not (intersection (slice_index l y) (slice_index m 0) == 0)
unfolding meets
meets_word l m y = ap (λ i. not (intersection (slice_index l i) (slice_index m 0) == 0)) (omega arith)

-- The mark is 1 where something is in common.
pub mark-told : (b : Bool) → from_bool b ≡ mark_of b
mark-told true = refl
mark-told false = refl

or-true : (a : Bool) → (a || true) ≡ true
or-true true = refl
or-true false = refl

pub meets_at : (l m : List ℕ) (base n k : ℕ) → k < n → ¬ (intersection (slice_index l (base + k)) (slice_index m k) ≡ 0) → meets l m base n ≡ true
unfolding meets
meets_at l m base zero k h d = absurd (omega arith)
meets_at l m base (suc n) k h d = go (ℕ_discrete k n) (meets_at l m base n k)
  where
    go : Dec (k ≡ n) → (k < n → ¬ (intersection (slice_index l (base + k)) (slice_index m k) ≡ 0) → meets l m base n ≡ true)
        → (meets l m base n || not (intersection (slice_index l (base + n)) (slice_index m n) == 0)) ≡ true
    go (yes e) more =
        let f : ¬ (intersection (slice_index l (base + n)) (slice_index m n) ≡ 0) = subst
        (λ k. ¬ (intersection (slice_index l (base + k)) (slice_index m k) ≡ 0)) e d in
        rw (ne_eqb (intersection (slice_index l (base + n)) (slice_index m n)) 0 f) (or-true (meets l m base n))
    go (no e) more = rw (more (omega arith) d)

pub meets-where : (l m : List ℕ) (base n : ℕ) → meets l m base n ≡ true
    → (k : ℕ) × (k < n) × ¬ (intersection (slice_index l (base + k)) (slice_index m k) ≡ 0)
unfolding meets
meets-where l m base zero e = absurd (false≢true e)
meets-where l m base (suc n) e =
    go (meets l m base n) refl (intersection (slice_index l (base + n)) (slice_index m n) == 0) refl (meets-where l m base n) e
  where
    go : (a : Bool) → meets l m base n ≡ a → (b : Bool) → (intersection (slice_index l (base + n)) (slice_index m n) == 0) ≡ b
        → (meets l m base n ≡ true → (k : ℕ) × (k < n) × ¬ (intersection (slice_index l (base + k)) (slice_index m k) ≡ 0))
        → (meets l m base n || not (intersection (slice_index l (base + n)) (slice_index m n) == 0)) ≡ true
        → (k : ℕ) × (k < suc n) × ¬ (intersection (slice_index l (base + k)) (slice_index m k) ≡ 0)
    go true f b g more e = let (k, h, d) = more f in (k, omega arith, d)
    go false f false g more e = (n, omega arith, eqb-false _ 0 g)
    go false f true g more e = absurd (false≢true (rw (f, g) at e))

-- The marks one after the other.

pub length-marks_of : (w : ℕ) (l m : List ℕ) (n y : ℕ) → length (marks_of w l m n y) ≡ n
unfolding marks_of
length-marks_of w l m zero y = refl
length-marks_of w l m (suc n) y = ap suc (length-marks_of w l m n (suc y))

marks-snoc : (w : ℕ) (l m : List ℕ) (n y : ℕ)
    → marks_of w l m (suc n) y ≡ marks_of w l m n y ++ (mark_of (meets l m (w * (y + n)) w) ∷ [])
unfolding marks_of
marks-snoc w l m zero y = ap (λ z. mark_of (meets l m (w * z) w) ∷ []) (sym (add-zero y))
marks-snoc w l m (suc n) y =
    ap (λ t. mark_of (meets l m (w * y) w) ∷ t)
    (marks-snoc w l m n (suc y) ∙ ap (λ z. marks_of w l m n (suc y) ++ (mark_of (meets l m (w * z) w) ∷ [])) (omega arith))

ones-append : (a b : List ℕ) → ones (a ++ b) ≡ ones a + ones b
unfolding ones
ones-append [] b = omega arith
ones-append (x ∷ a) b = omega (arith, ones-append a b)

module _ (w : ℕ) (l m : List ℕ) (y : ℕ) (v : ℕ) (e : v ≡ mark_of (meets l m (w * y) w)) where
  marks-more : marks_of w l m (y + 1) 0 ≡ marks_of w l m y 0 ++ (v ∷ [])
  marks-more = rw (add-one, e) (marks-snoc w l m y 0 ∙ ap (λ z. marks_of w l m y 0 ++ (mark_of (meets l m (w * z) w) ∷ [])) (omega arith))

  -- One more mark is stored ..
  pub marks-stored : (old new : List ℕ) → y < length old → new ≡ marks_of w l m y 0 ++ drop y old
      → slice_set new y v ≡ marks_of w l m (y + 1) 0 ++ drop (y + 1) old
  marks-stored old new h f =
      ap (λ t. set t y v) (f ∙ ap (λ t. marks_of w l m y 0 ++ t) (drop-cons old y 0 h))
      ∙ set_at (marks_of w l m y 0) (slice_index old y) (drop (suc y) old) v y (length-marks_of w l m y 0)
      ∙ sym (append_assoc (marks_of w l m y 0) (v ∷ []) (drop (suc y) old))
      ∙ ap₂ (λ a b. a ++ b) (sym marks-more) (ap (λ n. drop n old) (sym (add-one y)))

  -- .. and counted.
  pub marks-counted : (count : ℕ) → count ≡ ones (marks_of w l m y 0) → count + v ≡ ones (marks_of w l m (y + 1) 0)
  unfolding ones
  marks-counted count f =
      let a = ones-append (marks_of w l m y 0) (v ∷ []) in
      let b : ones (marks_of w l m (y + 1) 0) ≡ ones (marks_of w l m y 0 ++ (v ∷ [])) = ap ones marks-more in
      omega arith

mark-at-most : (b : Bool) → mark_of b ≤ 1
mark-at-most true = omega arith
mark-at-most false = omega arith

pub mark-small : {m : ℕ} (b : Bool) → m ≡ mark_of b → m ≤ 1
mark-small b e = subst (λ n. n ≤ 1) (sym e) (mark-at-most b)
