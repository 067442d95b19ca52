-- The laws of sets as lists of words (Words), for any number of words.
use Rattle.std.specs.Prelude.{ℕ, suc, ◌+◌, ◌*◌, ◌-◌, ◌/◌, ◌%◌, ◌^◌, ◌≤◌, ◌<◌, List, [], ◌∷◌, ◌↔◌, ◌≢◌, ◌⊎◌, ◌≡◌, refl, length, get_or, set}
use Rattle.std.proofs.Common.{inl, inr, sym, ap, ap₂, ◌∙◌, subst, le_refl, arith, length-set, get_or-set_same, get_or-set_other}
use Rattle.std.proofs.Math.Decide.{ℕ_discrete, dec_lt}
use Rattle.std.specs.Int.Bits.{bit_and, bit_xor}
use Rattle.std.proofs.lemmas.Nat.{or_shifted}
use Rattle.std.proofs.Math.ListN.{get_or-eq_default}
use Rattle.std.proofs.Math.Pow.{high, low}
use Rattle.theory.specs.Places.{Member, intersection}
use Rattle.theory.specs.PlacesLaws.{member-none, member_below, members-below, member_union, member-intersection}
use Rattle.theory.specs.PlacesLaws.{no-members, not_none}
use Rattle.theory.specs.PlacesShift.{member-up, member-up-from}
use Rattle.theory.specs.PlacesWithin.{within-at-most, member-without}
use Rattle.places.specs.Words.{number_of, Words, Without}

-- Place by place: a number in blocks of 64 bits.

member-low : (N w i : ℕ) → w < 2 ^ 64 → i < 64 → Member i (N * 2 ^ 64 + w) ↔ Member i w
member-low N w i h l = (
  λ m. side ((member_union i (N * 2 ^ 64) w).0 (subst (Member i) (sym (or_shifted N 64 w h)) m)),
  λ m. subst (Member i) (or_shifted N 64 w h) ((member_union i (N * 2 ^ 64) w).1 (inr m)),
)
  where
    side : Member i (N * 2 ^ 64) ⊎ Member i w → Member i w
    side (inl m) = absurd (omega (arith, member-up-from 64 i N m))
    side (inr m) = m

member-high : (N w j : ℕ) → w < 2 ^ 64 → Member (64 + j) (N * 2 ^ 64 + w) ↔ Member j N
member-high N w j h = (
  λ m. side ((member_union (64 + j) (N * 2 ^ 64) w).0 (subst (Member (64 + j)) (sym (or_shifted N 64 w h)) m)),
  λ m. subst (Member (64 + j)) (or_shifted N 64 w h) ((member_union (64 + j) (N * 2 ^ 64) w).1 (inl ((member-up 64 j N).1 m))),
)
  where
    side : Member (64 + j) (N * 2 ^ 64) ⊎ Member (64 + j) w → Member j N
    side (inl m) = (member-up 64 j N).0 m
    side (inr m) = absurd (omega (arith, member_below 64 w (64 + j) h m))

-- A place is in the set exactly where its bit is in its word.
pub member-number : (l : List ℕ) → Words l → (i : ℕ) → Member i (number_of l) ↔ Member (i % 64) (get_or l (i / 64) 0)
unfolding number_of
member-number [] h i = (λ m. absurd (member-none i m), λ m. absurd (member-none (i % 64) m))
member-number (w ∷ l) h i = go (dec_lt i 64) (λ j. member-number l (λ k. h (suc k)) j)
  where
    go : Dec (i < 64) → ((j : ℕ) → Member j (number_of l) ↔ Member (j % 64) (get_or l (j / 64) 0))
        → Member i (number_of l * 2 ^ 64 + w) ↔ Member (i % 64) (get_or (w ∷ l) (i / 64) 0)
    go (yes k) ih =
        let p : i % 64 ≡ i = omega arith in
        let q : i / 64 ≡ 0 = omega arith in
        rw (p, q) (member-low (number_of l) w i (h 0) k)
    go (no k) ih =
        let j = i - 64 in
        let e : i ≡ 64 + j = omega arith in
        let p : i % 64 ≡ j % 64 = omega arith in
        let q : i / 64 ≡ suc (j / 64) = omega arith in
        let a = member-high (number_of l) w j (h 0) in
        let b = ih j in
        rw (p, q) (
          λ m. b.0 (a.0 (subst (λ z. Member z (number_of l * 2 ^ 64 + w)) e m)),
          λ m. subst (λ z. Member z (number_of l * 2 ^ 64 + w)) (sym e) (a.1 (b.1 m)),
        )

pub number-below : (l : List ℕ) → Words l → number_of l < 2 ^ (64 * length l)
number-below l h = members-below (64 * length l) (number_of l) (λ i m. inside i ((member-number l h i).0 m) (dec_lt (i / 64) (length l)))
  where
    inside : (i : ℕ) → Member (i % 64) (get_or l (i / 64) 0) → Dec (i / 64 < length l) → i < 64 * length l
    inside i m (yes k) = omega arith
    inside i m (no k) = absurd (member-none (i % 64) (subst (Member (i % 64)) (get_or-eq_default l 0 (omega arith)) m))

-- Equal numbers are equal words.
pub number_same : (l m : List ℕ) → Words l → Words m → length l ≡ length m → number_of l ≡ number_of m → l ≡ m
unfolding number_of
number_same [] [] h k s e = refl
number_same [] (y ∷ m) h k s e = absurd (omega arith)
number_same (x ∷ l) [] h k s e = absurd (omega arith)
number_same (x ∷ l) (y ∷ m) h k s e =
    let p : x ≡ y = sym (low (number_of l) 64 (h 0)) ∙ ap (λ n. n % 2 ^ 64) e ∙ low (number_of m) 64 (k 0) in
    let q : number_of l ≡ number_of m = sym (high (number_of l) 64 (h 0)) ∙ ap (λ n. n / 2 ^ 64) e ∙ high (number_of m) 64 (k 0) in
    ap₂ (λ z t. z ∷ t) p (number_same l m (λ i. h (suc i)) (λ i. k (suc i)) (omega arith) q)

-- Word by word: the places of one set that are not in another, and whether two sets have a place in common.

pub number-without : (l m r : List ℕ) → Words l → Words m → ((k : ℕ) → get_or r k 0 ≡ bit_xor (get_or l k 0) (bit_and (get_or l k 0) (get_or m k 0)))
    → Without (number_of l) (number_of m) (number_of r)
number-without l m r hl hm e i = (
  λ x.
      let (y, z) = (at (i / 64) (i % 64)).0 ((member-number r hr i).0 x) in
      ((member-number l hl i).1 y, λ q. z ((member-number m hm i).0 q)),
  λ (y, z). (member-number r hr i).1 ((at (i / 64) (i % 64)).1 ((member-number l hl i).0 y, λ q. z ((member-number m hm i).1 q))),
)
  where
    at : (k b : ℕ) → Member b (get_or r k 0) ↔ (Member b (get_or l k 0) × ¬ Member b (get_or m k 0))
    at k b = rw (e k) (member-without (get_or l k 0) (get_or m k 0) b)

    hr : Words r
    hr k = omega (arith, hl k, within-at-most (get_or r k 0) (get_or l k 0) (λ b x. ((at k b).0 x).0))

-- No word has a place in common: the sets have none.
pub number-apart : (l m : List ℕ) → Words l → Words m → ((k : ℕ) → intersection (get_or l k 0) (get_or m k 0) ≡ 0)
    → intersection (number_of l) (number_of m) ≡ 0
number-apart l m hl hm e = no-members (intersection (number_of l) (number_of m)) λ i x.
    let (y, z) = (member-intersection i (number_of l) (number_of m)).0 x in
    member-none (i % 64) (subst (Member (i % 64)) (e (i / 64))
    ((member-intersection (i % 64) (get_or l (i / 64) 0) (get_or m (i / 64) 0)).1 ((member-number l hl i).0 y, (member-number m hm i).0 z)))

-- A word has a place in common: so have the sets.
pub number-meets : (l m : List ℕ) → Words l → Words m → (k : ℕ) → intersection (get_or l k 0) (get_or m k 0) ≢ 0
    → intersection (number_of l) (number_of m) ≢ 0
number-meets l m hl hm k d e =
    let (b, x) = not_none (intersection (get_or l k 0) (get_or m k 0)) d in
    let (y, z) = (member-intersection b (get_or l k 0) (get_or m k 0)).0 x in
    let low : b < 64 = member_below 64 (get_or l k 0) b (hl k) y in
    let p : (64 * k + b) % 64 ≡ b = omega arith in
    let q : (64 * k + b) / 64 ≡ k = omega arith in
    member-none (64 * k + b) (subst (Member (64 * k + b)) e
    ((member-intersection (64 * k + b) (number_of l) (number_of m)).1
    ((member-number l hl (64 * k + b)).1 (rw (p, q) y), (member-number m hm (64 * k + b)).1 (rw (p, q) z))))

-- A loop that puts f of the words of l and m into r has done the first i.
pub record Joined (f : ℕ → ℕ → ℕ) (l m r : List ℕ) (i : ℕ) : Type 0 where
  pub size : length r ≡ length l
  pub done : (k : ℕ) → k < i → get_or r k 0 ≡ f (get_or l k 0) (get_or m k 0)
  pub left : (k : ℕ) → i ≤ k → get_or r k 0 ≡ get_or l k 0

pub joined-none : (f : ℕ → ℕ → ℕ) (l m : List ℕ) → Joined f l m l 0
joined-none f l m = record { size = refl; done = λ k h. absurd (omega arith); left = λ k h. refl }

pub joined-next : (f : ℕ → ℕ → ℕ) (l m r : List ℕ) (i : ℕ) → i < length r → Joined f l m r i → Joined f l m (set r i (f (get_or r i 0) (get_or m i 0))) (i + 1)
joined-next f l m r i h s =
    record {
      size = length-set r i (f (get_or r i 0) (get_or m i 0)) ∙ s.size;
      done = λ k b. at k b (ℕ_discrete k i);
      left = λ k b. get_or-set_other r i k (f (get_or r i 0) (get_or m i 0)) 0 (λ e. omega arith) ∙ s.left k (omega arith);
    }
  where
    at : (k : ℕ) → k < i + 1 → Dec (k ≡ i) → get_or (set r i (f (get_or r i 0) (get_or m i 0))) k 0 ≡ f (get_or l k 0) (get_or m k 0)
    at k b (yes e) =
        rw e (get_or-set_same r i (f (get_or r i 0) (get_or m i 0)) 0 h ∙ ap (λ x. f x (get_or m i 0)) (s.left i (le_refl i)))
    at k b (no e) = get_or-set_other r i k (f (get_or r i 0) (get_or m i 0)) 0 e ∙ s.done k (omega arith)

pub joined-all : (f : ℕ → ℕ → ℕ) (l m r : List ℕ) (i : ℕ) → f 0 0 ≡ 0 → length l ≤ i → length m ≤ i → Joined f l m r i
    → (k : ℕ) → get_or r k 0 ≡ f (get_or l k 0) (get_or m k 0)
joined-all f l m r i z hl hm s k = go (dec_lt k i)
  where
    go : Dec (k < i) → get_or r k 0 ≡ f (get_or l k 0) (get_or m k 0)
    go (yes b) = s.done k b
    go (no b) =
        get_or-eq_default r 0 (omega (arith, s.size))
        ∙ sym (ap₂ f (get_or-eq_default l 0 (omega arith)) (get_or-eq_default m 0 (omega arith)) ∙ z)

-- The words passed by have no place in common, and there are no more words.
pub words-apart : (l m : List ℕ) (i : ℕ) → length l ≤ i → length m ≤ i
    → ((k : ℕ) → k < i → intersection (get_or l k 0) (get_or m k 0) ≡ 0) → (k : ℕ) → intersection (get_or l k 0) (get_or m k 0) ≡ 0
words-apart l m i hl hm h k = go (dec_lt k i)
  where
    go : Dec (k < i) → intersection (get_or l k 0) (get_or m k 0) ≡ 0
    go (yes b) = h k b
    go (no b) = ap₂ intersection (get_or-eq_default l 0 (omega arith)) (get_or-eq_default m 0 (omega arith))
