-- A part that is written (Outcome): the zeros behind what is written do not change what is read from it.
use Rattle.std.specs.Prelude.{◌≡◌, ℕ, zero, suc, ◌+◌, ◌-◌, ◌<◌, ◌≤◌, List, [], ◌∷◌, ◌++◌, length, drop, replicate, slice_index}
use Rattle.std.proofs.Common.{append-nil, sym, ap, ◌∙◌, arith, length-append, length-drop, drop_at, get_or-drop, ext_get_or}
use Rattle.std.specs.Prelude.{refl}
use Rattle.std.proofs.Math.Decide.{dec_lt}
use Rattle.std.proofs.lemmas.List.{length-replicate}
use Rattle.std.proofs.Math.ListN.{get_or-append}
use Rattle.std.proofs.Math.Seq.{drop-length}
use Rattle.finding.specs.Named.{written}

zeros-read : (n i : ℕ) → ◌≡◌ {A = ℕ} (slice_index (replicate n 0) i) 0
zeros-read zero i = refl
zeros-read (suc n) zero = refl
zeros-read (suc n) (suc i) = zeros-read n i

zeros-behind : (xs : List ℕ) (n i : ℕ) → slice_index (xs ++ replicate n 0) i ≡ slice_index xs i
zeros-behind [] n i = zeros-read n i
zeros-behind (x ∷ xs) n zero = refl
zeros-behind (x ∷ xs) n (suc i) = zeros-behind xs n i

-- Within the part, whatever stands behind it.
pub written-within : (n : ℕ) (xs lent : List ℕ) (i : ℕ) → i < n → slice_index (written n xs lent) i ≡ slice_index xs i
written-within n xs lent i h =
    get_or-append (xs ++ replicate (n - length xs) 0) (drop n lent) 0 i
    (omega (arith, length-append xs (replicate (n - length xs) 0), length-replicate {A = ℕ} (n - length xs) 0))
    ∙ zeros-behind xs (n - length xs) i

-- Anywhere, where nothing stands behind the part.
pub written_read : (n : ℕ) (xs lent : List ℕ) (i : ℕ) → length lent ≡ n → slice_index (written n xs lent) i ≡ slice_index xs i
written_read n xs lent i e =
    ap (λ d. slice_index ((xs ++ replicate (n - length xs) 0) ++ d) i) (ap (λ k. drop k lent) (sym e) ∙ drop-length lent)
    ∙ (ap (λ l. slice_index l i) (append-nil (xs ++ replicate (n - length xs) 0)) ∙ zeros-behind xs (n - length xs) i)

-- What lies behind the part stays, and so does the length.
pub written_behind : (n : ℕ) (xs lent : List ℕ) → length xs ≤ n → drop n (written n xs lent) ≡ drop n lent
written_behind n xs lent h =
    drop_at (xs ++ replicate (n - length xs) 0) (drop n lent) n
    (omega (arith, length-append xs (replicate (n - length xs) 0), length-replicate {A = ℕ} (n - length xs) 0))

pub written-length : (n : ℕ) (xs lent : List ℕ) → length xs ≤ n → n ≤ length lent → length (written n xs lent) ≡ length lent
written-length n xs lent h k =
    omega (
      arith,
      length-append (xs ++ replicate (n - length xs) 0) (drop n lent),
      length-append xs (replicate (n - length xs) 0),
      length-replicate {A = ℕ} (n - length xs) 0,
      length-drop n lent,
    )

-- Written again, the part holds what is written last.
pub written-again : (n : ℕ) (xs ys lent : List ℕ) → length xs ≤ n → written n ys (written n xs lent) ≡ written n ys lent
written-again n xs ys lent h = ap (λ d. (ys ++ replicate (n - length ys) 0) ++ d) (written_behind n xs lent h)

-- A buffer that holds what is written, zeros in the rest of the part, and behind it what was lent.
pub written-only : (n : ℕ) (xs lent after : List ℕ) → length xs ≤ n → n ≤ length lent → length after ≡ length lent
    → ((i : ℕ) → i < n → slice_index after i ≡ slice_index xs i) → ((i : ℕ) → n ≤ i → slice_index after i ≡ slice_index lent i) → after ≡ written n xs lent
written-only n xs lent after fits room sized within behind =
    ext_get_or 0 after (written n xs lent) (sized ∙ sym (written-length n xs lent fits room)) (λ i h. side i (dec_lt i n))
  where
    dropped : (l : List ℕ) (i : ℕ) → n ≤ i → slice_index (drop n l) (i - n) ≡ slice_index l i
    dropped l i h =
        let e : n + (i - n) ≡ i = omega arith in
        get_or-drop n l (i - n) 0 ∙ ap (λ j. slice_index l j) e

    side : (i : ℕ) → Dec (i < n) → slice_index after i ≡ slice_index (written n xs lent) i
    side i (yes h) = within i h ∙ sym (written-within n xs lent i h)
    side i (no h) =
        behind i (omega arith)
        ∙ sym (dropped lent i (omega arith))
        ∙ ap (λ d. slice_index d (i - n)) (sym (written_behind n xs lent fits))
        ∙ dropped (written n xs lent) i (omega arith)
