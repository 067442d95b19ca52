-- Why what is put is a listed text.
use Rattle.std.specs.Prelude.{ℕ, zero, suc, ◌+◌, ◌-◌, ◌≤◌, ◌<◌, List, [], ◌∷◌, ◌++◌, ◌≡◌, refl, length}
use Rattle.std.proofs.Common.{sym, ap, ◌∙◌, append_assoc, add-one, arith}
use Rattle.std.proofs.lemmas.List.{append-nil}
use Rattle.syntax.specs.Byte.{Bytes}
use Rattle.listed.specs.Cases.{Case, p7, cases}
use Rattle.listed.specs.Texts.{text_at, proved_text, repeated, letter, dot_letter, sequence_of, sequence_text, optional_text}

-- The bytes once more.
repeated-suc : (n : ℕ) (s : Bytes) → repeated n s ++ s ≡ repeated (suc n) s
unfolding repeated
repeated-suc zero s = sym (append-nil s)
repeated-suc (suc n) s = append_assoc s (repeated n s) s ∙ ap (λ (t : Bytes). s ++ t) (repeated-suc n s)

pub repeated-more : (n : ℕ) (s : Bytes) → repeated n s ++ s ≡ repeated (n + 1) s
repeated-more n s = rw add-one (repeated-suc n s)

-- No a is no byte, and others are an `a` and the rest with dots.
pub no-letter : (n : ℕ) → n ≡ 0 → [] ≡ sequence_of n
unfolding sequence_of
no-letter n e = ap sequence_of (sym e)

pub letters : (n : ℕ) → 0 < n → letter ++ repeated (n - 1) dot_letter ≡ sequence_of n
unfolding sequence_of
letters zero h = absurd (omega arith)
letters (suc n) h = let e : suc n - 1 ≡ n = omega arith in rw e

-- The text of a number.
pub same-text : (n k : ℕ) → n ≡ k → proved_text k ≡ proved_text n
same-text n k e = ap proved_text (sym e)

-- Numbers beside 1 to 8 have none.
text-beyond : (l : List Case) (n : ℕ) → length l ≤ n → text_at l n ≡ []
text-beyond [] n h = refl
text-beyond (c ∷ l) zero h = absurd (omega arith)
text-beyond (c ∷ l) (suc n) h = text-beyond l n (omega arith)

pub no-text : (n : ℕ) → (0 < n → 8 < n) → [] ≡ proved_text n
unfolding proved_text
no-text zero h = refl
no-text (suc n) h = sym (text-beyond cases n (omega (arith, h (omega arith))))

-- P7 is one of the texts with the lists `a` and `a?`.
pub optional-p7 : optional_text 3 ≡ p7
unfolding optional_text sequence_text sequence_of repeated
optional-p7 = refl
