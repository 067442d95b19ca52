-- Numbers in base ten, as bytes, without leading zeros; and the laws that say so.
use Rattle.std.specs.Prelude.{ℕ, zero, suc, ◌+◌, ◌/◌, ◌%◌, ◌≤◌, ◌<◌, Bool, true, false, List, [], ◌∷◌, ◌++◌, ◌≡◌, refl, ltb}
use Rattle.std.proofs.Common.{sym, ◌∙◌, arith, lt-ltb, le-ltb, ltb-true, ltb-false}
use Rattle.std.proofs.Math.Path.{ap}
use Rattle.output.specs.Put.{Writing, put, puts, puts-last}

-- The byte of a digit: `0` is 48.
abbrev pub digit : ℕ → ℕ
digit d = 48 + d

-- The digits of n, the most significant first, at most k of them.
unfoldable pub digits : ℕ → ℕ → List ℕ
digits zero n = []
digits (suc k) n = elim (ltb n 10) [ true ↦ digit n ∷ [] | false ↦ digits k (n / 10) ++ (digit (n % 10) ∷ []) ]

unfoldable pub decimal : ℕ → List ℕ
decimal n = digits (suc n) n

digits_last : (k n : ℕ) → n < 10 → digits (suc k) n ≡ digit n ∷ []
unfolding digits
digits_last k n h = rw (lt-ltb n 10 h, digits)

digits_more : (k n : ℕ) → 10 ≤ n → digits (suc k) n ≡ digits k (n / 10) ++ (digit (n % 10) ∷ [])
unfolding digits
digits_more k n h = rw (le-ltb n 10 h, digits)

-- More of them than there are change nothing.
digits-enough : (k m n : ℕ) → n < k → n < m → digits k n ≡ digits m n
digits-enough zero m n h l = absurd (omega arith)
digits-enough (suc k) zero n h l = absurd (omega arith)
digits-enough (suc k) (suc m) n h l = by (ltb n 10) refl (digits-enough k m (n / 10))
  where
    by : (b : Bool) → ltb n 10 ≡ b → (n / 10 < k → n / 10 < m → digits k (n / 10) ≡ digits m (n / 10))
        → digits (suc k) n ≡ digits (suc m) n
    by true e ih = let s : n < 10 = ltb-true n 10 e in digits_last k n s ∙ sym (digits_last m n s)
    by false e ih =
        let s : 10 ≤ n = ltb-false n 10 e in
        digits_more k n s ∙ (ap (λ (d : List ℕ). d ++ (digit (n % 10) ∷ [])) (ih (omega arith) (omega arith)) ∙ sym (digits_more m n s))

-- A number below ten is one digit; of any other, the last digit stands behind the others.
pub decimal-last : (n : ℕ) → n < 10 → decimal n ≡ digit n ∷ []
unfolding decimal
decimal-last n h = digits_last n n h

pub decimal-more : (n : ℕ) → 10 ≤ n → decimal n ≡ decimal (n / 10) ++ (digit (n % 10) ∷ [])
unfolding decimal
decimal-more n h =
    digits_more n n h ∙ ap (λ (d : List ℕ). d ++ (digit (n % 10) ∷ [])) (digits-enough n (suc (n / 10)) (n / 10) (omega arith) (omega arith))

-- A number put digit by digit.
module _ (w : Writing) (n : ℕ) {v : Writing} where
  pub puts-digit : n < 10 → v ≡ put w (digit n) → v ≡ puts w (decimal n)
  unfolding puts
  puts-digit h e = e ∙ ap (puts w) (sym (decimal-last n h))

  pub puts-digits : {u : Writing} → 10 ≤ n → v ≡ puts w (decimal (n / 10)) → u ≡ put v (digit (n % 10)) → u ≡ puts w (decimal n)
  puts-digits h e f = puts-last w (decimal (n / 10)) (digit (n % 10)) e f ∙ ap (puts w) (sym (decimal-more n h))
