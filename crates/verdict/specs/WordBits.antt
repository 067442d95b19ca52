-- Single places of a word, words that were cleared, and sets that stand in their first words.
use Rattle.std.specs.Prelude.{◌≡◌, ℕ, zero, suc, ◌+◌, ◌*◌, ◌/◌, ◌%◌, ◌^◌, ◌<◌, ◌≤◌, List, [], ◌∷◌, ◌++◌, length, take, drop, replicate, bit_and, slice_index}
use Rattle.std.specs.Prelude.{refl}
use Rattle.std.proofs.Common.{sym, ap, ◌∙◌, subst, one-mul, arith, lit<, pow-add, pow_pos, shl_exact}
use Rattle.std.proofs.Math.Decide.{dec_lt}
use Rattle.std.proofs.lemmas.Nat.{and_mask}
use Rattle.std.proofs.lemmas.List.{length-take-le, length-append, length-drop}
use Rattle.std.proofs.Math.ListN.{get_or-append}
use Rattle.theory.specs.Places.{Member, one}
use Rattle.theory.specs.PlacesLaws.{member-none, member-zero, members-below}
use Rattle.places.specs.Words.{number_of, Words}
use Rattle.places.specs.WordsLaws.{member-number}

-- A bit of a word is the set of one place.
pub one_bit : (q : ℕ) → q < 64 → (1 * 2 ^ q) % 2 ^ 64 ≡ one q
one_bit q h = shl_exact 1 q 64 (lit< tt) (omega arith) ∙ one-mul (2 ^ q)

-- The test of place 0.

pub first-here : (s : ℕ) → bit_and s 1 ≡ 1 → Member 0 s
first-here s e = (member-zero s).1 (sym (and_mask s 1) ∙ e)

pub first-none : (s : ℕ) → ¬ (bit_and s 1 ≡ 1) → ¬ Member 0 s
first-none s d m = d (and_mask s 1 ∙ (member-zero s).0 m)

-- The first n words, where as many zeros stand in front.
pub zeros-front : (n : ℕ) (l zeros back : List ℕ) → n ≤ length l → length zeros ≡ length (take n l)
    → ((i : ℕ) → i < length zeros → slice_index zeros i ≡ 0) → (i : ℕ) → i < n → slice_index (zeros ++ back) i ≡ 0
zeros-front n l zeros back room size zs i h =
    let inside : i < length zeros = omega (arith, length-take-le n l room) in
    get_or-append zeros back 0 i inside ∙ zs i inside

pub zeros_size : (n : ℕ) (l zeros : List ℕ) → n ≤ length l → length zeros ≡ length (take n l) → length (zeros ++ drop n l) ≡ length l
zeros_size n l zeros room size = omega (arith, length-append zeros (drop n l), length-take-le n l room, length-drop n l)

-- The words above the lowest stand in one word less.
rest_below : (l : List ℕ) (w k : ℕ) → number_of l * 2 ^ 64 + w < 2 ^ (64 * suc k) → number_of l < 2 ^ (64 * k)
rest_below l w k h =
    let e : 64 * suc k ≡ 64 + 64 * k = omega arith in
    omega (arith, ap (λ z. 2 ^ z) e ∙ pow-add 2 64 (64 * k))

-- The words past all places of a set have none.
pub number_past : (l : List ℕ) (k : ℕ) → number_of l < 2 ^ (64 * k) → number_of (drop k l) ≡ 0
unfolding number_of
number_past [] zero h = refl
number_past [] (suc k) h = refl
number_past (w ∷ l) zero h = omega arith
number_past (w ∷ l) (suc k) h = number_past l k (rest_below l w k h)

-- Words that are all zero have no place.
pub number-zeros : (n : ℕ) → number_of (replicate n 0) ≡ 0
unfolding number_of
number-zeros zero = refl
number-zeros (suc k) = omega (arith, number-zeros k)

-- Sets that stand in their first n words are equal where these words are.
pub number_short : (n : ℕ) (l m : List ℕ) → number_of l < 2 ^ (64 * n) → number_of m < 2 ^ (64 * n)
    → ((j : ℕ) → j < n → slice_index l j ≡ slice_index m j) → number_of l ≡ number_of m
unfolding number_of
number_short zero l m h k e = omega arith
number_short (suc n) [] [] h k e = refl
number_short (suc n) [] (y ∷ m) h k e =
    omega (arith, e 0 (omega arith), number_short n [] m (pow_pos (64 * n)) (rest_below m y n k) (λ j b. e (suc j) (omega arith)))
number_short (suc n) (x ∷ l) [] h k e =
    omega (arith, e 0 (omega arith), number_short n l [] (rest_below l x n h) (pow_pos (64 * n)) (λ j b. e (suc j) (omega arith)))
number_short (suc n) (x ∷ l) (y ∷ m) h k e =
    omega (arith, e 0 (omega arith), number_short n l m (rest_below l x n h) (rest_below m y n k) (λ j b. e (suc j) (omega arith)))

-- A set stands in its first n words where the others are zero.
pub number-within : (n : ℕ) (l : List ℕ) → Words l → ((j : ℕ) → n ≤ j → slice_index l j ≡ 0) → number_of l < 2 ^ (64 * n)
number-within n l words zeros = members-below (64 * n) (number_of l) (λ i m. inside i ((member-number l words i).0 m) (dec_lt (i / 64) n))
  where
    inside : (i : ℕ) → Member (i % 64) (slice_index l (i / 64)) → Dec (i / 64 < n) → i < 64 * n
    inside i m (yes k) = omega arith
    inside i m (no k) = absurd (member-none (i % 64) (subst (Member (i % 64)) (zeros (i / 64) (omega arith)) m))
