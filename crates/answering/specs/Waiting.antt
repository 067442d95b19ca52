-- The recordings that wait for their links to be followed. Pending are pairs of a recording and a state whose links have not been followed
-- yet; a stack holds each recording with something pending, once.
use Rattle.std.specs.Prelude.{◌≡◌, ℕ, suc, ◌+◌, ◌-◌, ◌*◌, ◌<◌, ◌≤◌, ◌⊎◌, List, length, replicate, slice_index, slice_index_or, slice_set}
use Rattle.std.proofs.Common.{inl, inr, sym, ap, ◌∙◌, subst, length-set, get_or-set_same, get_or-set_other}
use Rattle.std.proofs.Math.Decide.{ℕ_discrete, dec_lt}
use native.Mathlib.Omega.{arith}
use Rattle.std.proofs.lemmas.List.{length-replicate}
use Rattle.theory.specs.Counting.{pigeonhole}
use Rattle.answering.specs.Pairs.{zero-at}
use Rattle.answering.specs.WordsFrom.{SomeFrom, Zeroed, apart}

-- The first h numbers of the stack are the recordings below N with something pending, each once; there is room for N of them, and one
-- place more.
pub record Waiting (w N : ℕ) (pending stack : List ℕ) (h : ℕ) : Type 0 where
  pub words : w * N ≤ length pending
  pub slots : N < length stack
  pub below : (i : ℕ) → i < h → slice_index stack i < N
  pub once : (i j : ℕ) → i < h → j < h → slice_index stack i ≡ slice_index stack j → i ≡ j
  pub some : (i : ℕ) → i < h → SomeFrom pending (w * slice_index stack i) w
  pub listed : (y : ℕ) → y < N → SomeFrom pending (w * y) w → (i : ℕ) × (i < h) × (slice_index stack i ≡ y)

-- Nothing is pending in zeros, and the stack is empty.
pub waiting_none : (w N n m : ℕ) → w * N ≤ n → N < m → Waiting w N (replicate n 0) (replicate m 0) 0
waiting_none w N n m h k = record {
  words = let e = length-replicate {A = ℕ} n 0 in omega arith;
  slots = let e = length-replicate {A = ℕ} m 0 in omega arith;
  below = λ i l. absurd (omega arith);
  once = λ i j l. absurd (omega arith);
  some = λ i l. absurd (omega arith);
  listed = λ y l (i, b, d). absurd (d (zero-at n (w * y + i)));
}

-- The stack has room.

module _ {w N : ℕ} {P S : List ℕ} {h : ℕ} (v : Waiting w N P S h) where
  pub waiting-most : h ≤ N
  waiting-most = pigeonhole h N (λ i l. slice_index S i) (λ i l. v.below i l) (λ i j l m q. v.once i j l m q)

  -- The stack with one more recording on it.
  onto : (y i : ℕ) → Dec (i < h) → ℕ
  onto y i (yes l) = slice_index S i
  onto y i (no l) = y

  onto-below : (y i : ℕ) (d : Dec (i < h)) → y < N → onto y i d < N
  unfolding onto
  onto-below y i (yes l) k = v.below i l
  onto-below y i (no l) k = k

  onto-once : (y : ℕ) → ¬ SomeFrom P (w * y) w → (i j : ℕ) (d : Dec (i < h)) (e : Dec (j < h)) → i < suc h → j < suc h
      → onto y i d ≡ onto y j e → i ≡ j
  unfolding onto
  onto-once y n i j (yes l) (yes k) a b q = v.once i j l k q
  onto-once y n i j (yes l) (no k) a b q = absurd (n (subst (λ y. SomeFrom P (w * y) w) q (v.some i l)))
  onto-once y n i j (no l) (yes k) a b q = absurd (n (subst (λ y. SomeFrom P (w * y) w) (sym q) (v.some j k)))
  onto-once y n i j (no l) (no k) a b q = omega arith

  pub waiting-free : (y : ℕ) → y < N → ¬ SomeFrom P (w * y) w → h < N
  waiting-free y k n =
      pigeonhole (suc h) N (λ i l. onto y i (dec_lt i h)) (λ i l. onto-below y i (dec_lt i h) k)
      (λ i j l m q. onto-once y n i j (dec_lt i h) (dec_lt j h) l m q)

-- What stands behind the stack does not matter.
pub waiting-same : {w N : ℕ} {P S S' : List ℕ} {h : ℕ} → Waiting w N P S h → N < length S'
    → ((i : ℕ) → i < h → slice_index S' i ≡ slice_index S i) → Waiting w N P S' h
waiting-same {w} {N} {P} {S} {S'} {h} v long same = record {
  words = v.words;
  slots = long;
  below = λ i l. subst (λ z. z < N) (sym (same i l)) (v.below i l);
  once = λ i j l m q. v.once i j l m (sym (same i l) ∙ q ∙ same j m);
  some = λ i l. subst (λ z. SomeFrom P (w * z) w) (sym (same i l)) (v.some i l);
  listed = λ z l f. let (i, m, q) = v.listed z l f in (i, m, same i m ∙ q);
}

pub waiting-behind : {w N : ℕ} {P S : List ℕ} {h : ℕ} (y : ℕ) → Waiting w N P S h → Waiting w N P (slice_set S h y) h
waiting-behind {S = S} {h = h} y v =
    waiting-same v (let e = length-set S h y in let l = v.slots in omega arith)
    (λ i l. get_or-set_other S h i y 0 (λ e. omega arith))

-- More is pending at one recording.

module _ {w N : ℕ} {P P' S : List ℕ} {h : ℕ} (v : Waiting w N P S h) (y : ℕ) (k : y < N) (long : length P' ≡ length P)
    (more : (z : ℕ) → SomeFrom P (w * z) w → SomeFrom P' (w * z) w)
    (only : (z : ℕ) → SomeFrom P' (w * z) w → (z ≡ y) ⊎ SomeFrom P (w * z) w) where
  -- The recording is on the stack already ..
  pub row_stays : SomeFrom P (w * y) w → Waiting w N P' S h
  row_stays m = record {
    words = let l = v.words in omega arith;
    slots = v.slots;
    below = v.below;
    once = v.once;
    some = λ i l. more (slice_index S i) (v.some i l);
    listed = λ z l f. on z l (only z f);
  }
    where
      on : (z : ℕ) → z < N → (z ≡ y) ⊎ SomeFrom P (w * z) w → (i : ℕ) × (i < h) × (slice_index S i ≡ z)
      on z l (inl e) = v.listed z l (subst (λ z. SomeFrom P (w * z) w) (sym e) m)
      on z l (inr f) = v.listed z l f

  -- .. or comes onto it.
  pub row-push : SomeFrom P' (w * y) w → ¬ SomeFrom P (w * y) w → Waiting w N P' (slice_set S h y) (h + 1)
  row-push own n = record {
    words = let l = v.words in omega arith;
    slots = let e = length-set S h y in let l = v.slots in omega arith;
    below = λ i l. below' i l (ℕ_discrete i h);
    once = λ i j l m q. once' i j l m (ℕ_discrete i h) (ℕ_discrete j h) q;
    some = λ i l. some' i l (ℕ_discrete i h);
    listed = λ z l f. on z l (only z f);
  }
    where
      top : slice_index_or (slice_set S h y) h 0 ≡ y
      top = get_or-set_same S h y 0 (let f = waiting-free v y k n in let l = v.slots in omega arith)

      under : (i : ℕ) → ¬ (i ≡ h) → slice_index (slice_set S h y) i ≡ slice_index S i
      under i e = get_or-set_other S h i y 0 e

      below' : (i : ℕ) → i < h + 1 → Dec (i ≡ h) → slice_index (slice_set S h y) i < N
      below' i l (yes e) = subst (λ z. z < N) (sym (ap (λ i. slice_index (slice_set S h y) i) e ∙ top)) k
      below' i l (no e) = subst (λ z. z < N) (sym (under i e)) (v.below i (omega arith))

      fresh : (i : ℕ) → i < h → ¬ (slice_index S i ≡ y)
      fresh i l q = n (subst (λ y. SomeFrom P (w * y) w) q (v.some i l))

      once' : (i j : ℕ) → i < h + 1 → j < h + 1 → Dec (i ≡ h) → Dec (j ≡ h) → slice_index (slice_set S h y) i ≡ slice_index (slice_set S h y) j → i ≡ j
      once' i j l m (yes e) (yes f) q = e ∙ sym f
      once' i j l m (yes e) (no f) q =
          absurd (fresh j (omega arith) (sym (under j f) ∙ sym q ∙ ap (λ i. slice_index (slice_set S h y) i) e ∙ top))
      once' i j l m (no e) (yes f) q =
          absurd (fresh i (omega arith) (sym (under i e) ∙ q ∙ ap (λ i. slice_index (slice_set S h y) i) f ∙ top))
      once' i j l m (no e) (no f) q = v.once i j (omega arith) (omega arith) (sym (under i e) ∙ q ∙ under j f)

      some' : (i : ℕ) → i < h + 1 → Dec (i ≡ h) → SomeFrom P' (w * slice_index (slice_set S h y) i) w
      some' i l (yes e) = subst (λ z. SomeFrom P' (w * z) w) (sym (ap (λ i. slice_index (slice_set S h y) i) e ∙ top)) own
      some' i l (no e) =
          subst (λ z. SomeFrom P' (w * z) w) (sym (under i e)) (more (slice_index S i) (v.some i (omega arith)))

      on : (z : ℕ) → z < N → (z ≡ y) ⊎ SomeFrom P (w * z) w → (i : ℕ) × (i < h + 1) × (slice_index (slice_set S h y) i ≡ z)
      on z l (inl e) = (h, omega arith, top ∙ sym e)
      on z l (inr f) =
          let (i, m, q) = v.listed z l f in
          let d : ¬ (i ≡ h) = λ e. omega arith in
          (i, omega arith, under i d ∙ q)

-- The recording on top of the stack is taken off, and its pending words with it.
pub waiting-pop : {w N : ℕ} {P P' S : List ℕ} {h : ℕ} → Waiting w N P S (h + 1) → length P' ≡ length P
    → Zeroed (w * slice_index S h) w P P' → Waiting w N P' S h
waiting-pop {w} {N} {P} {P'} {S} {h} v e z = record {
  words = let l = v.words in omega arith;
  slots = v.slots;
  below = λ i l. v.below i (omega arith);
  once = λ i j l m q. v.once i j (omega arith) (omega arith) q;
  some = λ i l. some' i l (v.some i (omega arith));
  listed = λ y l f. listed' y l f;
}
  where
    x : ℕ
    x = slice_index S h

    other : (i : ℕ) → i < h → ¬ (slice_index S i ≡ x)
    other i l q = let f : i ≡ h = v.once i h (omega arith) (omega arith) q in omega arith

    some' : (i : ℕ) → i < h → SomeFrom P (w * slice_index S i) w → SomeFrom P' (w * slice_index S i) w
    some' i l (k, m, d) = (k, m, λ q. d (sym (z.others (w * slice_index S i + k) (apart w x (slice_index S i) k (other i l) m)) ∙ q))

    listed' : (y : ℕ) → y < N → SomeFrom P' (w * y) w → (i : ℕ) × (i < h) × (slice_index S i ≡ y)
    listed' y l (k, m, d) = go (ℕ_discrete y x)
      where
        go : Dec (y ≡ x) → (i : ℕ) × (i < h) × (slice_index S i ≡ y)
        go (yes f) = absurd (d (ap (λ y. slice_index P' (w * y + k)) f ∙ z.zeros k m))
        go (no f) =
            let (i, n, q) = v.listed y l (k, m, λ o. d (z.others (w * y + k) (apart w x y k f m) ∙ o)) in
            let u : ¬ (i ≡ h) = λ r. f (sym q ∙ ap (λ i. slice_index S i) r) in
            (i, omega arith, q)

-- The recording at the front is taken, and its pending words with it.
pub waiting-front : {w N : ℕ} {P P' S S' : List ℕ} {h : ℕ} → Waiting w N P S (h + 1) → N < length S'
    → ((i : ℕ) → slice_index S' i ≡ slice_index S (1 + i)) → length P' ≡ length P → Zeroed (w * slice_index S 0) w P P' → Waiting w N P' S' h
waiting-front {w} {N} {P} {P'} {S} {S'} {h} v long next e z = record {
  words = let l = v.words in omega arith;
  slots = long;
  below = λ i l. subst (λ z. z < N) (sym (next i)) (v.below (1 + i) (omega arith));
  once = λ i j l m q.
      let f : 1 + i ≡ 1 + j = v.once (1 + i) (1 + j) (omega arith) (omega arith) (sym (next i) ∙ q ∙ next j) in omega arith;
  some = λ i l.
      let m = some' (1 + i) (omega arith) (omega arith) (v.some (1 + i) (omega arith)) in
      subst (λ z. SomeFrom P' (w * z) w) (sym (next i)) m;
  listed = λ y l f. listed' y l f;
}
  where
    x : ℕ
    x = slice_index S 0

    other : (i : ℕ) → 0 < i → i < h + 1 → ¬ (slice_index S i ≡ x)
    other i p l q = let f : i ≡ 0 = v.once i 0 l (omega arith) q in omega arith

    some' : (i : ℕ) → 0 < i → i < h + 1 → SomeFrom P (w * slice_index S i) w → SomeFrom P' (w * slice_index S i) w
    some' i p l (k, m, d) = (k, m, λ q. d (sym (z.others (w * slice_index S i + k) (apart w x (slice_index S i) k (other i p l) m)) ∙ q))

    listed' : (y : ℕ) → y < N → SomeFrom P' (w * y) w → (i : ℕ) × (i < h) × (slice_index S' i ≡ y)
    listed' y l (k, m, d) = go (ℕ_discrete y x)
      where
        go : Dec (y ≡ x) → (i : ℕ) × (i < h) × (slice_index S' i ≡ y)
        go (yes f) = absurd (d (ap (λ y. slice_index P' (w * y + k)) f ∙ z.zeros k m))
        go (no f) =
            let (i, n, q) = v.listed y l (k, m, λ o. d (z.others (w * y + k) (apart w x y k f m) ∙ o)) in
            let u : ¬ (i ≡ 0) = λ r. f (sym q ∙ ap (λ i. slice_index S i) r) in
            let r : 1 + (i - 1) ≡ i = omega arith in
            (i - 1, omega arith, next (i - 1) ∙ ap (λ i. slice_index S i) r ∙ q)
