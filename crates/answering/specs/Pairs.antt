-- Pairs of a recording and a state as bits of words: the state s of the recording y is bit s % 64 of the word w × y + s / 64, where each
-- recording has w words.
use Rattle.std.specs.Prelude.{◌≡◌, ℕ, zero, suc, ◌+◌, ◌-◌, ◌*◌, ◌/◌, ◌%◌, ◌<◌, ◌≤◌, ◌⊎◌, List, [], ◌∷◌, ◌++◌, length, replicate, slice_index, slice_set}
use Rattle.std.proofs.Common.{inl, inr, sym, ◌∙◌, subst, mul-suc, mul-le-mul_left, arith, get_or-set_same, get_or-set_other}
use Rattle.std.specs.Prelude.{refl}
use Rattle.std.proofs.Math.Decide.{ℕ_discrete}
use Rattle.std.specs.Int.Count.{ones_in}
use Rattle.std.proofs.lemmas.List.{length-replicate, get_or-replicate}
use Rattle.std.proofs.Math.ListN.{get_or-append}
use Rattle.theory.specs.Places.{Member, one, union}
use Rattle.theory.specs.PlacesLaws.{member-none, member_union, member-one, member-zero, member-suc}
use Rattle.answering.specs.ProductLaws.{same-node, node-below}

-- The place of the state s of the recording y.
abbrev pub place : ℕ → ℕ → ℕ → ℕ
place w y s = w * y + s / 64

-- The recording y has the state s.
unfoldable pub Has : ℕ → List ℕ → ℕ → ℕ → Type 0
Has w l y s = Member (s % 64) (slice_index l (place w y s))

-- The recording y gets the state s.
unfoldable pub put : ℕ → List ℕ → ℕ → ℕ → List ℕ
put w l y s = slice_set l (place w y s) (union (slice_index l (place w y s)) (one (s % 64)))

pub place-below : (w N : ℕ) {y s : ℕ} → y < N → s < 64 * w → place w y s < w * N
place-below w N h k = node-below w N h (omega arith)

-- The words of a recording lie within those of all.
pub row_below : (w N : ℕ) {y : ℕ} → y < N → w * y + w ≤ w * N
row_below w N {y} h =
    let m : w * suc y ≤ w * N = mul-le-mul_left w h in
    let e : w * suc y ≡ w * y + w = mul-suc w y in
    omega arith

-- Zeros hold no pair.

pub zero-at : (n i : ℕ) → ◌≡◌ {A = ℕ} (slice_index (replicate n 0) i) 0
zero-at zero i = refl
zero-at (suc n) zero = refl
zero-at (suc n) (suc i) = zero-at n i

pub zeros-idle : (w n y s : ℕ) → ¬ Has w (replicate n 0) y s
unfolding Has
zeros-idle w n y s m = member-none (s % 64) (subst (Member (s % 64)) (zero-at n (place w y s)) m)

pub zeros-none : (w n : ℕ) (l : List ℕ) (y s : ℕ) → place w y s < n → ¬ Has w (replicate n 0 ++ l) y s
unfolding Has
zeros-none w n l y s h m =
    member-none (s % 64)
    (subst (Member (s % 64))
    (get_or-append (replicate n 0) l 0 (place w y s) (subst (λ k. place w y s < k) (sym (length-replicate n 0)) h) ∙ get_or-replicate n
    (place w y s) 0 0 h) m)

-- The pairs of the words after one more.

-- The word at each place: the pair's own word has one more member, every other is as it was.
put_same : (w : ℕ) (l : List ℕ) (y s : ℕ) → place w y s < length l
    → slice_index (put w l y s) (place w y s) ≡ union (slice_index l (place w y s)) (one (s % 64))
unfolding put
put_same w l y s h = get_or-set_same l (place w y s) (union (slice_index l (place w y s)) (one (s % 64))) 0 h

pub put_other : (w : ℕ) (l : List ℕ) (y s i : ℕ) → ¬ (i ≡ place w y s) → slice_index (put w l y s) i ≡ slice_index l i
unfolding put
put_other w l y s i h = get_or-set_other l (place w y s) i _ 0 h

module _ (w : ℕ) (l : List ℕ) (y s : ℕ) (h : place w y s < length l) where
  put-member : Member (s % 64) (slice_index (put w l y s) (place w y s))
  put-member =
      subst (Member (s % 64)) (sym (put_same w l y s h))
      ((member_union (s % 64) (slice_index l (place w y s)) (one (s % 64))).1 (inr ((member-one (s % 64) (s % 64)).1 refl)))

  put-kept : (i j : ℕ) → Member j (slice_index l i) → Member j (slice_index (put w l y s) i)
  put-kept i j m = go (ℕ_discrete i (place w y s))
    where
      go : Dec (i ≡ place w y s) → Member j (slice_index (put w l y s) i)
      go (yes e) =
          subst (λ i. Member j (slice_index (put w l y s) i)) (sym e)
          (subst (Member j) (sym (put_same w l y s h))
          ((member_union j (slice_index l (place w y s)) (one (s % 64))).1 (inl (subst (λ i. Member j (slice_index l i)) e m))))
      go (no e) = subst (Member j) (sym (put_other w l y s i e)) m

module _ (w : ℕ) (l : List ℕ) (y s : ℕ) (k : s < 64 * w) (h : place w y s < length l) where
  pub has-put-there : (z t : ℕ) → t < 64 * w → Has w (put w l y s) z t → Has w l z t ⊎ ((z ≡ y) × (t ≡ s))
  unfolding Has
  has-put-there z t g m = go (ℕ_discrete (place w z t) (place w y s))
    where
      word : ℕ
      word = slice_index l (place w y s)

      split : place w z t ≡ place w y s → Member (t % 64) word ⊎ Member (t % 64) (one (s % 64))
          → Member (t % 64) (slice_index l (place w z t)) ⊎ ((z ≡ y) × (t ≡ s))
      split e (inl a) = inl (subst (λ i. Member (t % 64) (slice_index l i)) (sym e) a)
      split e (inr a) =
          let (f, q) = same-node w {r = t / 64} {s = s / 64} (omega arith) (omega arith) e in
          let r : t % 64 ≡ s % 64 = (member-one (t % 64) (s % 64)).0 a in
          inr (f, omega arith)

      go : Dec (place w z t ≡ place w y s) → Member (t % 64) (slice_index l (place w z t)) ⊎ ((z ≡ y) × (t ≡ s))
      go (yes e) =
          split e
          ((member_union (t % 64) word (one (s % 64))).0
          (subst (Member (t % 64)) (put_same w l y s h) (subst (λ i. Member (t % 64) (slice_index (put w l y s) i)) e m)))
      go (no e) = inl (subst (Member (t % 64)) (put_other w l y s (place w z t) e) m)

  pub has-put-new : Has w (put w l y s) y s
  unfolding Has
  has-put-new = put-member w l y s h

  pub has-put-kept : (z t : ℕ) → Has w l z t → Has w (put w l y s) z t
  unfolding Has
  has-put-kept z t m = put-kept w l y s h (place w z t) (t % 64) m

-- How many pairs there is room for.

bits_in : List ℕ → ℕ
bits_in [] = 0
bits_in (x ∷ l) = ones_in 64 x + bits_in l

pub room : List ℕ → ℕ
room l = 64 * length l - bits_in l

ones_at_most : (n s : ℕ) → ones_in n s ≤ n
unfolding ones_in
ones_at_most zero s = omega arith
ones_at_most (suc n) s = omega (arith, ones_at_most n (s / 2))

bits-at-most : (l : List ℕ) → bits_in l ≤ 64 * length l
unfolding bits_in
bits-at-most [] = omega arith
bits-at-most (x ∷ l) = omega (arith, bits-at-most l, ones_at_most 64 x)

-- Words that have all members of others have as many at least; one that has more leaves less room.

ones-kept : (n v u : ℕ) → ((i : ℕ) → Member i v → Member i u) → ones_in n v ≤ ones_in n u
unfolding ones_in
ones-kept zero v u h = omega arith
ones-kept (suc n) v u h =
    let e : v % 2 ≡ 1 → u % 2 ≡ 1 = λ q. (member-zero u).0 (h 0 ((member-zero v).1 q)) in
    let r = ones-kept n (v / 2) (u / 2) (λ i m. (member-suc i u).0 (h (suc i) ((member-suc i v).1 m))) in
    low e r (ℕ_discrete (v % 2) 1)
  where
    low : (v % 2 ≡ 1 → u % 2 ≡ 1) → ones_in n (v / 2) ≤ ones_in n (u / 2) → Dec (v % 2 ≡ 1)
        → v % 2 + ones_in n (v / 2) ≤ u % 2 + ones_in n (u / 2)
    low e r (yes q) = let p = e q in omega arith
    low e r (no q) = omega arith

ones-new : (n v u k : ℕ) → k < n → ((i : ℕ) → Member i v → Member i u) → ¬ Member k v → Member k u → ones_in n v < ones_in n u
unfolding ones_in
ones-new zero v u k l h d m = absurd (omega arith)
ones-new (suc n) v u zero l h d m =
    let a : ¬ (v % 2 ≡ 1) = λ q. d ((member-zero v).1 q) in
    let b : u % 2 ≡ 1 = (member-zero u).0 m in
    let r = ones-kept n (v / 2) (u / 2) (λ i m. (member-suc i u).0 (h (suc i) ((member-suc i v).1 m))) in
    omega arith
ones-new (suc n) v u (suc k) l h d m =
    let e : v % 2 ≡ 1 → u % 2 ≡ 1 = λ q. (member-zero u).0 (h 0 ((member-zero v).1 q)) in
    let r =
    ones-new n (v / 2) (u / 2) k (omega arith) (λ i m. (member-suc i u).0 (h (suc i) ((member-suc i v).1 m)))
    (λ q. d ((member-suc k v).1 q)) ((member-suc k u).0 m) in
    low e r (ℕ_discrete (v % 2) 1)
  where
    low : (v % 2 ≡ 1 → u % 2 ≡ 1) → ones_in n (v / 2) < ones_in n (u / 2) → Dec (v % 2 ≡ 1)
        → v % 2 + ones_in n (v / 2) < u % 2 + ones_in n (u / 2)
    low e r (yes q) = let p = e q in omega arith
    low e r (no q) = omega arith

bits-kept : (l m : List ℕ) → length l ≡ length m → ((i j : ℕ) → Member j (slice_index l i) → Member j (slice_index m i)) → bits_in l ≤ bits_in m
unfolding bits_in
bits-kept [] m e h = omega arith
bits-kept (x ∷ l) [] e h = absurd (omega arith)
bits-kept (x ∷ l) (y ∷ m) e h =
    let a = ones-kept 64 x y (λ j. h 0 j) in
    let b = bits-kept l m (omega arith) (λ i j. h (suc i) j) in
    omega arith

bits-new : (l m : List ℕ) → length l ≡ length m → ((i j : ℕ) → Member j (slice_index l i) → Member j (slice_index m i)) → (i j : ℕ) → i < length l
    → j < 64 → ¬ Member j (slice_index l i) → Member j (slice_index m i) → bits_in l < bits_in m
unfolding bits_in
bits-new [] m e h i j k b d n = absurd (omega arith)
bits-new (x ∷ l) [] e h i j k b d n = absurd (omega arith)
bits-new (x ∷ l) (y ∷ m) e h zero j k b d n =
    let a = ones-new 64 x y j b (λ j. h 0 j) d n in
    let b = bits-kept l m (omega arith) (λ i j. h (suc i) j) in
    omega arith
bits-new (x ∷ l) (y ∷ m) e h (suc i) j k b d n =
    let a = ones-kept 64 x y (λ j. h 0 j) in
    let c = bits-new l m (omega arith) (λ i j. h (suc i) j) i j (omega arith) b d n in
    omega arith

pub room-less : (l m : List ℕ) → length m ≡ length l → ((i j : ℕ) → Member j (slice_index l i) → Member j (slice_index m i)) → (i j : ℕ)
    → i < length l → j < 64 → ¬ Member j (slice_index l i) → Member j (slice_index m i) → room m < room l
unfolding room
room-less l m e h i j k b d n =
    let a = bits-new l m (sym e) h i j k b d n in
    let c = bits-at-most m in
    omega arith
