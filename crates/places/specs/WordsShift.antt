-- Places of one word added to a list of words, at a word or anywhere (Words).
use Rattle.std.specs.Prelude.{ℕ, zero, suc, ◌+◌, ◌*◌, ◌-◌, ◌/◌, ◌%◌, ◌^◌, ◌≤◌, ◌<◌, List, [], ◌∷◌, ◌≡◌, ltb, length, get_or, set}
use Rattle.std.proofs.Common.{sym, ap, ◌∙◌, mul_assoc, add-zero, mul-one, one-mul, mod-lt, arith, lit<, pow_pos, pow-add, shl_exact, shr-shr, lt-ltb, le-ltb}
use Rattle.std.proofs.Math.Decide.{dec_lt}
use Rattle.std.proofs.lemmas.Nat.{or_block, or_shifted, or_comm, or_mod, shl-shr}
use Rattle.std.specs.Int.Bits.{or_zero_r}
use Rattle.std.proofs.Math.Pow.{split}
use Rattle.theory.specs.Places.{one, union, when}
use Rattle.theory.specs.PlacesLaws.{no-members}
use Rattle.theory.specs.PlacesShift.{member-up-from, member-cut}
use Rattle.places.specs.UnionLaws.{union-up}
use Rattle.places.specs.Words.{number_of, Words}

-- The places of x added to the word j.
pub number-add : (l : List ℕ) → Words l → (j x : ℕ) → j < length l → x < 2 ^ 64
    → number_of (set l j (union (get_or l j 0) x)) ≡ union (number_of l) (x * 2 ^ (64 * j))
unfolding number_of
number-add [] h j x k b = absurd (omega arith)
number-add (w ∷ l) h zero x k b =
    sym (or_block 64 (number_of l) 0 w x (h 0) b ∙ ap (λ n. n * 2 ^ 64 + union w x) (or_zero_r (number_of l)))
    ∙ ap (union (number_of l * 2 ^ 64 + w)) (omega arith)
number-add (w ∷ l) h (suc j) x k b =
    ap (λ n. n * 2 ^ 64 + w) (number-add l (λ i. h (suc i)) j x (omega arith) b)
    ∙ ap (λ n. union (number_of l) (x * 2 ^ (64 * j)) * 2 ^ 64 + n) (sym (or_zero_r w))
    ∙ sym (or_block 64 (number_of l) (x * 2 ^ (64 * j)) w 0 (h 0) (pow_pos 64))
    ∙ ap (union (number_of l * 2 ^ 64 + w)) up
  where
    up : x * 2 ^ (64 * j) * 2 ^ 64 + 0 ≡ x * 2 ^ (64 * suc j)
    up =
        let e : 64 * j + 64 ≡ 64 * suc j = omega arith in
        add-zero (x * 2 ^ (64 * j) * 2 ^ 64) ∙ mul_assoc x (2 ^ (64 * j)) (2 ^ 64) ∙ ap (λ n. x * n) (sym (pow-add 2 (64 * j) 64))
        ∙ ap (λ n. x * 2 ^ n) e

-- A word cut at n words: the word itself below, nothing beyond.

pub word-inside : (n j x : ℕ) → j < n → x < 2 ^ 64 → (x * 2 ^ (64 * j)) % 2 ^ (64 * n) ≡ x * 2 ^ (64 * j)
word-inside n j x h b = shl_exact 64 (64 * j) (64 * n) b (omega arith)

pub set_beyond : (w k x : ℕ) → w ≤ k → (x * 2 ^ k) % 2 ^ w ≡ 0
set_beyond w k x h = no-members ((x * 2 ^ k) % 2 ^ w) λ i m.
    let (l, u) = (member-cut w i (x * 2 ^ k)).0 m in
    omega (arith, member-up-from k i x u)

-- A set of one word moved up by any number of places is in two words.
pub shifted-words : (x j b : ℕ) → b ≤ 64
    → x * 2 ^ (64 * j + b) ≡ union (((x * 2 ^ b) % 2 ^ 64) * 2 ^ (64 * j)) ((x / 2 ^ (64 - b)) * 2 ^ (64 * (j + 1)))
shifted-words x j b h =
    ap (λ n. x * n) (ap (λ n. 2 ^ n) (let e : 64 * j + b ≡ b + 64 * j = omega arith in e) ∙ pow-add 2 b (64 * j))
    ∙ sym (mul_assoc x (2 ^ b) (2 ^ (64 * j)))
    ∙ ap (λ n. n * 2 ^ (64 * j)) (sym (split (x * 2 ^ b) 64) ∙ sym (or_shifted (x * 2 ^ b / 2 ^ 64) 64 ((x * 2 ^ b) % 2 ^ 64) (mod-lt (x * 2 ^ b) (pow_pos 64))))
    ∙ union-up (64 * j) (x * 2 ^ b / 2 ^ 64 * 2 ^ 64) ((x * 2 ^ b) % 2 ^ 64)
    ∙ or_comm (x * 2 ^ b / 2 ^ 64 * 2 ^ 64 * 2 ^ (64 * j)) (((x * 2 ^ b) % 2 ^ 64) * 2 ^ (64 * j))
    ∙ ap (union (((x * 2 ^ b) % 2 ^ 64) * 2 ^ (64 * j))) (ap (λ n. n * 2 ^ 64 * 2 ^ (64 * j)) upper ∙ above)
  where
    upper : x * 2 ^ b / 2 ^ 64 ≡ x / 2 ^ (64 - b)
    upper =
        let e : 64 ≡ b + (64 - b) = omega arith in
        ap (λ n. x * 2 ^ b / 2 ^ n) e ∙ sym (shr-shr (x * 2 ^ b) b (64 - b)) ∙ ap (λ n. n / 2 ^ (64 - b)) (shl-shr x b)

    above : x / 2 ^ (64 - b) * 2 ^ 64 * 2 ^ (64 * j) ≡ x / 2 ^ (64 - b) * 2 ^ (64 * (j + 1))
    above =
        let e : 64 + 64 * j ≡ 64 * (j + 1) = omega arith in
        mul_assoc (x / 2 ^ (64 - b)) (2 ^ 64) (2 ^ (64 * j)) ∙ ap (λ n. x / 2 ^ (64 - b) * n) (sym (pow-add 2 64 (64 * j)) ∙ ap (λ n. 2 ^ n) e)

-- The same, cut at w: where the set starts with a word, and where it does not.

pub shifted_even : (w x s : ℕ) → x < 2 ^ 64 → s % 64 ≡ 0 → (((x * 2 ^ (s % 64)) % 2 ^ 64) * 2 ^ (64 * (s / 64))) % 2 ^ w ≡ (x * 2 ^ s) % 2 ^ w
shifted_even w x s h e =
    let p : 64 * (s / 64) ≡ s = omega arith in
    ap (λ n. (((x * 2 ^ n) % 2 ^ 64) * 2 ^ (64 * (s / 64))) % 2 ^ w) e
    ∙ ap (λ n. (n * 2 ^ (64 * (s / 64))) % 2 ^ w) (shl_exact 64 0 64 h (omega arith) ∙ mul-one x)
    ∙ ap (λ n. (x * 2 ^ n) % 2 ^ w) p

pub shifted-odd : (w x s : ℕ)
    → union ((((x * 2 ^ (s % 64)) % 2 ^ 64) * 2 ^ (64 * (s / 64))) % 2 ^ w) (((x / 2 ^ (64 - s % 64)) * 2 ^ (64 * (s / 64 + 1))) % 2 ^ w)
    ≡ (x * 2 ^ s) % 2 ^ w
shifted-odd w x s =
    let p : 64 * (s / 64) + s % 64 ≡ s = omega arith in
    sym (or_mod (((x * 2 ^ (s % 64)) % 2 ^ 64) * 2 ^ (64 * (s / 64))) ((x / 2 ^ (64 - s % 64)) * 2 ^ (64 * (s / 64 + 1))) w)
    ∙ ap (λ n. n % 2 ^ w) (sym (shifted-words x (s / 64) (s % 64) (omega arith)) ∙ ap (λ n. x * 2 ^ n) p)

-- The set of one place, cut at w.
pub one-cut : (w i : ℕ) → (1 * 2 ^ i) % 2 ^ w ≡ when (ltb i w) (one i)
one-cut w i = go (dec_lt i w)
  where
    go : Dec (i < w) → (1 * 2 ^ i) % 2 ^ w ≡ when (ltb i w) (one i)
    go (yes h) = shl_exact 1 i w (lit< tt) (omega arith) ∙ one-mul (2 ^ i) ∙ sym (ap (λ b. when b (one i)) (lt-ltb i w h))
    go (no h) = set_beyond w i 1 (omega arith) ∙ sym (ap (λ b. when b (one i)) (le-ltb i w (omega arith)))
