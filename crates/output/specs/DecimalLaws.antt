-- What `decimal` means: its digits stand for the number and do not lead with a zero, but for 0 itself; a number below 10^k has at most k.
use Rattle.std.specs.Prelude.{ℕ, zero, suc, ◌+◌, ◌*◌, ◌-◌, ◌/◌, ◌%◌, ◌^◌, ◌≤◌, ◌<◌, List, [], ◌∷◌, ◌++◌, ◌≡◌, refl, length, get_or}
use Rattle.std.proofs.Common.{sym, ap, ◌∙◌, subst, pow-suc, arith, length-append}
use Rattle.std.proofs.Math.Decide.{dec_lt}
use Rattle.std.proofs.Math.ListN.{get_or-append}
use Rattle.std.proofs.Math.Seq.{get_or-append_seam}
use Rattle.output.specs.Decimal.{digit, decimal, decimal-last, decimal-more}

-- The number that digits stand for, behind those of n.
unfoldable pub value : ℕ → List ℕ → ℕ
value n [] = n
value n (d ∷ l) = value (10 * n + (d - 48)) l

value-last : (n : ℕ) (l : List ℕ) (d : ℕ) → value n (l ++ (d ∷ [])) ≡ 10 * value n l + (d - 48)
unfolding value
value-last n [] d = refl
value-last n (e ∷ l) d = value-last (10 * n + (e - 48)) l d

pub record IsDecimal (n : ℕ) (l : List ℕ) : Type 0 where
  pub stands : value 0 l ≡ n
  pub digits : (i : ℕ) → i < length l → (48 ≤ get_or l i 0) × (get_or l i 0 ≤ 57)
  pub some : 0 < length l
  pub leading : 0 < n → 48 < get_or l 0 0

one-digit : (n : ℕ) → n < 10 → IsDecimal n (digit n ∷ [])
unfolding value
one-digit n h =
    record {
      stands = omega arith;
      digits = at;
      some = omega arith;
      leading = λ p. omega arith;
    }
  where
    at : (i : ℕ) → i < 1 → (48 ≤ get_or (digit n ∷ []) i 0) × (get_or (digit n ∷ []) i 0 ≤ 57)
    at zero l = (omega arith, omega arith)
    at (suc i) l = absurd (omega arith)

more-digits : (n : ℕ) (l : List ℕ) → 10 ≤ n → IsDecimal (n / 10) l → IsDecimal n (l ++ (digit (n % 10) ∷ []))
more-digits n l h d =
    let last : List ℕ = digit (n % 10) ∷ [] in
    record {
      stands = value-last 0 l (digit (n % 10)) ∙ omega (arith, d.stands);
      digits = λ i k. at i (dec_lt i (length l)) (omega (arith, length-append l last));
      some = omega (arith, length-append l last);
      leading = λ p. omega (arith, get_or-append l last 0 0 d.some, d.leading (omega arith));
    }
  where
    at : (i : ℕ) → Dec (i < length l) → i < suc (length l)
        → (48 ≤ get_or (l ++ (digit (n % 10) ∷ [])) i 0) × (get_or (l ++ (digit (n % 10) ∷ [])) i 0 ≤ 57)
    at i (yes s) k =
        let e = get_or-append l (digit (n % 10) ∷ []) 0 i s in
        let b = d.digits i s in
        (omega arith, omega arith)
    at i (no s) k =
        let z : i ≡ length l = omega arith in
        let e = ap (λ (j : ℕ). get_or (l ++ (digit (n % 10) ∷ [])) j 0) z ∙ get_or-append_seam l (digit (n % 10)) [] 0 in
        (omega arith, omega arith)

decimal-below : (k n : ℕ) → n < k → IsDecimal n (decimal n)
decimal-below zero n h = absurd (omega arith)
decimal-below (suc k) n h = by (dec_lt n 10) (decimal-below k (n / 10))
  where
    by : Dec (n < 10) → (n / 10 < k → IsDecimal (n / 10) (decimal (n / 10))) → IsDecimal n (decimal n)
    by (yes s) ih = subst (IsDecimal n) (sym (decimal-last n s)) (one-digit n s)
    by (no s) ih =
        let m : 10 ≤ n = omega arith in
        subst (IsDecimal n) (sym (decimal-more n m)) (more-digits n (decimal (n / 10)) m (ih (omega arith)))

pub decimal-exactly : (n : ℕ) → IsDecimal n (decimal n)
decimal-exactly n = decimal-below (suc n) n (omega arith)

pub decimal-length : (k n : ℕ) → n < 10 ^ suc k → length (decimal n) ≤ suc k
decimal-length zero n h = omega (arith, ap length (decimal-last n h))
decimal-length (suc k) n h = by (dec_lt n 10) (decimal-length k (n / 10))
  where
    by : Dec (n < 10) → (n / 10 < 10 ^ suc k → length (decimal (n / 10)) ≤ suc k) → length (decimal n) ≤ suc (suc k)
    by (yes s) ih = omega (arith, ap length (decimal-last n s))
    by (no s) ih =
        let e = decimal-more n (omega arith) in
        let p : 10 ^ suc (suc k) ≡ 10 ^ suc k * 10 = pow-suc 10 (suc k) in
        omega (arith, ap length e, length-append (decimal (n / 10)) (digit (n % 10) ∷ []), ih (omega arith))
