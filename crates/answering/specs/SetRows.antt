-- Rows of words, each a set of states, united with one another.
use Rattle.std.specs.Prelude.{◌≡◌, ℕ, ◌+◌, ◌-◌, ◌*◌, ◌/◌, ◌%◌, ◌^◌, ◌<◌, ◌≤◌, Bool, true, false, ◌⊎◌, List, length, drop, bit_and, bit_xor, slice_index, slice_index_or, slice_set}
use Rattle.std.proofs.Math.Logic.{inl, inr}
use Rattle.std.specs.Prelude.{refl}
use Rattle.std.proofs.Common.{sym, ap, ◌∙◌, arith, length-drop, get_or-set_same, get_or-set_other, get_or-drop, ext_get_or}
use Rattle.std.proofs.Math.Path.{subst}
use Rattle.std.proofs.Math.Decide.{ℕ_discrete, dec_lt}
use Rattle.theory.specs.Places.{Member, union}
use Rattle.theory.specs.PlacesLaws.{member-none, member_union, member_below, not_none, dec_member}
use Rattle.theory.specs.PlacesWithin.{member-without}
use Rattle.answering.specs.Pairs.{place, Has, row_below}
use Rattle.answering.specs.WordsFrom.{SomeFrom, apart}

-- The word number k of those from `from` on.
abbrev pub word_of : List ℕ → ℕ → ℕ → ℕ
word_of sets from k = slice_index sets (from + k)

-- Its members that the word of `known` from `base` on lacks.
abbrev pub new_of : List ℕ → ℕ → List ℕ → ℕ → ℕ → ℕ
new_of sets from known base k = bit_xor (word_of sets from k) (bit_and (word_of sets from k) (word_of known base k))

-- The n words from `base` on have got the members of the words `new`, and no other word has changed.
pub record United (base n : ℕ) (new : ℕ → ℕ) (before after : List ℕ) : Type 0 where
  pub here : (k : ℕ) → k < n → slice_index after (base + k) ≡ union (slice_index before (base + k)) (new k)
  pub others : (i : ℕ) → (i < base) ⊎ (base + n ≤ i) → slice_index after i ≡ slice_index before i

-- Some of the n words from `from` on has a member that the word of `known` from `base` on lacks.
pub record SomeNew (base n : ℕ) (sets : List ℕ) (from : ℕ) (known : List ℕ) : Type 0 where
  pub word : ℕ
  pub inside : word < n
  pub bit : ℕ
  pub small : bit < 64
  pub had : Member bit (word_of sets from word)
  pub lacked : ¬ Member bit (word_of known base word)

-- Whether some has.
pub record Brings (base n : ℕ) (sets : List ℕ) (from : ℕ) (known : List ℕ) (r : Bool) : Type 0 where
  pub some : r ≡ true → SomeNew base n sets from known
  pub nothing : r ≡ false → (k : ℕ) → k < n → (i : ℕ) → Member i (word_of sets from k) → Member i (word_of known base k)

-- A word with new members, and one without.

pub some-new : {base n : ℕ} {sets : List ℕ} {from : ℕ} {known : List ℕ} (k : ℕ) → k < n → word_of sets from k < 2 ^ 64
    → ¬ (new_of sets from known base k ≡ 0) → SomeNew base n sets from known
some-new {base} {n} {sets} {from} {known} k h small d =
    let (i, m) = not_none (new_of sets from known base k) d in
    let (a, b) = (member-without (word_of sets from k) (word_of known base k) i).0 m in
    record { word = k; inside = h; bit = i; small = member_below 64 (word_of sets from k) i small a; had = a; lacked = b }

pub none-new : (s t : ℕ) → bit_xor s (bit_and s t) ≡ 0 → (i : ℕ) → Member i s → Member i t
none-new s t e i m = go (dec_member i t)
  where
    go : Dec (Member i t) → Member i t
    go (yes d) = d
    go (no d) = absurd (member-none i (subst (Member i) e ((member-without s t i).1 (m, d))))

-- Words are united one after the other.

pub united-none : (base : ℕ) (new : ℕ → ℕ) (l : List ℕ) → United base 0 new l l
united-none base new l = record { here = λ k h. absurd (omega arith); others = λ i h. refl }

pub united-more : {base n : ℕ} {new : ℕ → ℕ} {before after : List ℕ} → United base n new before after → base + n < length after
    → United base (n + 1) new before (slice_set after (base + n) (union (slice_index after (base + n)) (new n)))
united-more {base} {n} {new} {before} {after} u l = record { here = λ k h. at k h (ℕ_discrete k n); others = λ i h. other i h }
  where
    word : ℕ
    word = union (slice_index after (base + n)) (new n)

    at : (k : ℕ) → k < n + 1 → Dec (k ≡ n) → slice_index (slice_set after (base + n) word) (base + k) ≡ union (slice_index before (base + k)) (new k)
    at k h (yes e) =
        rw e (get_or-set_same after (base + n) word 0 l ∙ ap (λ z. union z (new n)) (u.others (base + n) (inr (omega arith))))
    at k h (no e) = get_or-set_other after (base + n) (base + k) word 0 (λ d. e (omega arith)) ∙ u.here k (omega arith)

    other : (i : ℕ) → (i < base) ⊎ (base + (n + 1) ≤ i) → slice_index (slice_set after (base + n) word) i ≡ slice_index before i
    other i (inl h) = get_or-set_other after (base + n) i word 0 (λ e. omega arith) ∙ u.others i (inl h)
    other i (inr h) = get_or-set_other after (base + n) i word 0 (λ e. omega arith) ∙ u.others i (inr (omega arith))

-- The row of the recording y has got the states of the words.

module _ {w : ℕ} (y : ℕ) {new : ℕ → ℕ} {P P' : List ℕ} (u : United (w * y) w new P P') where
  pub united-kept : (i s : ℕ) → Member s (slice_index P i) → Member s (slice_index P' i)
  united-kept i s m = go (dec_lt i (w * y)) (dec_lt i (w * y + w))
    where
      go : Dec (i < w * y) → Dec (i < w * y + w) → Member s (slice_index P' i)
      go (yes l) d = subst (Member s) (sym (u.others i (inl l))) m
      go (no l) (no k) = subst (Member s) (sym (u.others i (inr (omega arith)))) m
      go (no l) (yes k) =
          let e : w * y + (i - w * y) ≡ i = omega arith in
          let h : slice_index_or P' i 0 ≡ union (slice_index P i) (new (i - w * y)) = rw e at (u.here (i - w * y) (omega arith)) in
          subst (Member s) (sym h) ((member_union s (slice_index P i) (new (i - w * y))).1 (inl m))

  pub united-has : (z s : ℕ) → Has w P z s → Has w P' z s
  unfolding Has
  united-has z s m = united-kept (place w z s) (s % 64) m

  pub united-new : (s : ℕ) → s < 64 * w → Member (s % 64) (new (s / 64)) → Has w P' y s
  unfolding Has
  united-new s l m =
      subst (Member (s % 64)) (sym (u.here (s / 64) (omega arith)))
      ((member_union (s % 64) (slice_index P (place w y s)) (new (s / 64))).1 (inr m))

  pub united-there : (z s : ℕ) → s < 64 * w → Has w P' z s → Has w P z s ⊎ ((z ≡ y) × Member (s % 64) (new (s / 64)))
  unfolding Has
  united-there z s l m = go (ℕ_discrete z y)
    where
      split : z ≡ y → Member (s % 64) (slice_index P (place w y s)) ⊎ Member (s % 64) (new (s / 64))
          → Member (s % 64) (slice_index P (place w z s)) ⊎ ((z ≡ y) × Member (s % 64) (new (s / 64)))
      split e (inl a) = inl (subst (λ z. Member (s % 64) (slice_index P (place w z s))) (sym e) a)
      split e (inr a) = inr (e, a)

      go : Dec (z ≡ y) → Member (s % 64) (slice_index P (place w z s)) ⊎ ((z ≡ y) × Member (s % 64) (new (s / 64)))
      go (yes e) =
          split e
          ((member_union (s % 64) (slice_index P (place w y s)) (new (s / 64))).0
          (subst (Member (s % 64)) (u.here (s / 64) (omega arith)) (subst (λ z. Member (s % 64) (slice_index P' (place w z s))) e m)))
      go (no e) = inl (subst (Member (s % 64)) (u.others (place w z s) (apart w y z (s / 64) e (omega arith))) m)

  -- Rows that are not all zero.

  pub united-some : (z : ℕ) → SomeFrom P (w * z) w → SomeFrom P' (w * z) w
  united-some z (k, l, d) =
      let (i, m) = not_none (slice_index P (w * z + k)) d in
      (k, l, λ e. member-none i (subst (Member i) e (united-kept (w * z + k) i m)))

  pub united-back : (z : ℕ) → SomeFrom P' (w * z) w → (z ≡ y) ⊎ SomeFrom P (w * z) w
  united-back z (k, l, d) = go (ℕ_discrete z y)
    where
      go : Dec (z ≡ y) → (z ≡ y) ⊎ SomeFrom P (w * z) w
      go (yes e) = inl e
      go (no e) = inr (k, l, λ q. d (u.others (w * z + k) (apart w y z k e l) ∙ q))

  -- Nothing has changed behind the recordings.
  pub united-beyond : (N : ℕ) → y < N → length P' ≡ length P → drop (w * N) P' ≡ drop (w * N) P
  united-beyond N h e =
      let l = row_below w N h in
      ext_get_or 0 (drop (w * N) P') (drop (w * N) P) (length-drop (w * N) P' ∙ ap (λ n. n - w * N) e ∙ sym (length-drop (w * N) P))
      (λ i k. get_or-drop (w * N) P' i 0 ∙ u.others (w * N + i) (inr (omega arith)) ∙ sym (get_or-drop (w * N) P i 0))
