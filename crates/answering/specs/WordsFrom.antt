-- A run of words from a place on, as the words of a recording (Pairs): whether some of them is not zero, and that they have become zero.
use Rattle.std.specs.Prelude.{◌≡◌, ℕ, zero, suc, ◌+◌, ◌*◌, ◌/◌, ◌%◌, ◌<◌, ◌≤◌, Bool, true, false, ◌⊎◌, List, [], ◌∷◌, slice_index, slice_set}
use Rattle.std.proofs.Common.{inl, inr, sym, ap, ◌∙◌, mul-le-mul_left, mul-suc, arith, get_or-set_other}
use Rattle.std.specs.Prelude.{refl}
use Rattle.std.proofs.Math.Path.{subst}
use Rattle.std.proofs.Math.Decide.{ℕ_discrete, dec_lt}
use Rattle.theory.specs.Places.{Member}
use Rattle.theory.specs.PlacesLaws.{member-none}
use Rattle.answering.specs.ProductLaws.{node-below}
use Rattle.answering.specs.Pairs.{place, Has}

-- Some of the n words from `base` on is not zero.
abbrev pub SomeFrom : List ℕ → ℕ → ℕ → Type 0
SomeFrom words base n = (k : ℕ) × (k < n) × ¬ (slice_index words (base + k) ≡ 0)

-- Whether some of them is not zero.
pub record AnyFrom (words : List ℕ) (base n : ℕ) (r : Bool) : Type 0 where
  pub some : r ≡ true → SomeFrom words base n
  pub nothing : r ≡ false → (k : ℕ) → k < n → slice_index words (base + k) ≡ 0

-- The n words from `base` on have become zero, and no other word has changed.
pub record Zeroed (base n : ℕ) (before after : List ℕ) : Type 0 where
  pub zeros : (k : ℕ) → k < n → slice_index after (base + k) ≡ 0
  pub others : (i : ℕ) → (i < base) ⊎ (base + n ≤ i) → slice_index after i ≡ slice_index before i

-- Zeros stored one after the other.

pub zeroed-none : (base : ℕ) (l : List ℕ) → Zeroed base 0 l l
zeroed-none base l = record { zeros = λ k h. absurd (omega arith); others = λ i h. refl }

-- A zero that is stored is there, also beyond the end.
stored-zero : (l : List ℕ) (i : ℕ) → slice_index (slice_set l i 0) i ≡ 0
stored-zero [] i = refl
stored-zero (x ∷ l) zero = refl
stored-zero (x ∷ l) (suc i) = stored-zero l i

pub zeroed-more : {base n : ℕ} {before after : List ℕ} → Zeroed base n before after → Zeroed base (n + 1) before (slice_set after (base + n) 0)
zeroed-more {base} {n} {before} {after} z = record { zeros = λ k h. at k h (ℕ_discrete k n); others = λ i h. other i h }
  where
    at : (k : ℕ) → k < n + 1 → Dec (k ≡ n) → slice_index (slice_set after (base + n) 0) (base + k) ≡ 0
    at k h (yes e) = rw e (stored-zero after (base + n))
    at k h (no e) = get_or-set_other after (base + n) (base + k) 0 0 (λ d. e (omega arith)) ∙ z.zeros k (omega arith)

    other : (i : ℕ) → (i < base) ⊎ (base + (n + 1) ≤ i) → slice_index (slice_set after (base + n) 0) i ≡ slice_index before i
    other i (inl h) = get_or-set_other after (base + n) i 0 0 (λ e. omega arith) ∙ z.others i (inl h)
    other i (inr h) = get_or-set_other after (base + n) i 0 0 (λ e. omega arith) ∙ z.others i (inr (omega arith))

-- The words of different recordings lie apart.
pub apart : (w x y k : ℕ) → ¬ (y ≡ x) → k < w → (w * y + k < w * x) ⊎ (w * x + w ≤ w * y + k)
apart w x y k d h = go (dec_lt y x)
  where
    go : Dec (y < x) → (w * y + k < w * x) ⊎ (w * x + w ≤ w * y + k)
    go (yes l) = inl (node-below w x l h)
    go (no l) =
        let m : w * suc x ≤ w * y = mul-le-mul_left w (omega arith) in
        let e : w * suc x ≡ w * x + w = mul-suc w x in
        inr (omega arith)

-- Where nothing of a recording is pending, none of its states is.
pub none-pending : (w : ℕ) (l : List ℕ) (y s : ℕ) → s < 64 * w → ¬ SomeFrom l (w * y) w → ¬ Has w l y s
unfolding Has
none-pending w l y s h d m = d (s / 64, omega arith, λ z. member-none (s % 64) (subst (Member (s % 64)) z m))

-- Taking a recording's words away leaves those of every other.
module _ {w : ℕ} (x : ℕ) {P P' : List ℕ} (z : Zeroed (w * x) w P P') where
  pub zeroed-other : (y s : ℕ) → s < 64 * w → ¬ (y ≡ x) → Has w P y s → Has w P' y s
  unfolding Has
  zeroed-other y s h d m = subst (Member (s % 64)) (sym (z.others (place w y s) (apart w x y (s / 64) d (omega arith)))) m

  pub zeroed-back : (y s : ℕ) → s < 64 * w → Has w P' y s → Has w P y s
  unfolding Has
  zeroed-back y s h m = go (ℕ_discrete y x)
    where
      go : Dec (y ≡ x) → Member (s % 64) (slice_index P (place w y s))
      go (yes e) =
          absurd (member-none (s % 64) (subst (Member (s % 64)) (ap (λ y. slice_index P' (place w y s)) e ∙ z.zeros (s / 64) (omega arith)) m))
      go (no e) = subst (Member (s % 64)) (z.others (place w y s) (apart w x y (s / 64) e (omega arith))) m
