-- The table that an exploration of a system of numbers makes, in rows of w: for each number found and each symbol the place of the number
-- that it leads to. The list of the numbers found only grows, so what is entered stays right.
use Rattle.std.specs.Prelude.{◌≡◌, ℕ, suc, ◌+◌, ◌*◌, ◌/◌, ◌%◌, ◌<◌, ◌≤◌, List, [], ◌∷◌, ◌++◌, length, slice_index, slice_set}
use Rattle.std.proofs.Common.{sym, ap, ◌∙◌, mul_comm, mul-suc, mul-le-mul_left, arith, length-append, get_or-set_same, get_or-set_other}
use Rattle.std.proofs.Math.Decide.{ℕ_discrete, dec_lt}
use Rattle.std.proofs.Math.Arith.{digits_div, digits_mod}
use Rattle.std.proofs.Math.ListN.{get_or-append}
use Rattle.finding.specs.Standings.{place_of}
use Rattle.finding.specs.PlaceOfLaws.{place-append}

-- The place of the number that the symbol a leads to from the number found at i.
abbrev pub leads_to : (ℕ → ℕ → ℕ) → List ℕ → ℕ → ℕ → ℕ
leads_to next found i a = place_of (next (slice_index found i) a) found

-- Of a table in rows of w, the entries before `done` for the symbols below k are right.
pub record Tabled (next : ℕ → ℕ → ℕ) (w k done : ℕ) (found table : List ℕ) : Type 0 where
  pub entry : (i a : ℕ) → a < k → w * i + a < done → slice_index table (w * i + a) ≡ leads_to next found i a
  pub inside : (i a : ℕ) → a < k → w * i + a < done → leads_to next found i a < length found

-- Places in rows of w.

pub same_place : (w i a j b : ℕ) → a < w → b < w → w * i + a ≡ w * j + b → (i ≡ j) × (a ≡ b)
same_place w i a j b h l e =
    let f : i * w + a ≡ j * w + b = ap (λ z. z + a) (mul_comm i w) ∙ e ∙ ap (λ z. z + b) (mul_comm w j) in (
      sym (digits_div i h) ∙ ap (λ z. z / w) f ∙ digits_div j l,
      sym (digits_mod i h) ∙ ap (λ z. z % w) f ∙ digits_mod j l,
    )

row_below : (w i a n : ℕ) → w * i + a < w * n → i < n
row_below w i a n h = go (dec_lt i n)
  where
    go : Dec (i < n) → i < n
    go (yes l) = l
    go (no l) = let m : w * n ≤ w * i = mul-le-mul_left w (omega arith) in absurd (omega arith)

pub row_within : (w i n : ℕ) → i < n → w * i + w ≤ w * n
row_within w i n h = let m : w * suc i ≤ w * n = mul-le-mul_left w h in omega (arith, mul-suc w i)

-- The table, with a number found more, and with an entry more.

module _ {next : ℕ → ℕ → ℕ} {w k : ℕ} where
  pub tabled-none : (found table : List ℕ) → Tabled next w k (w * 0) found table
  tabled-none found table = record { entry = λ i a h l. absurd (none i a l); inside = λ i a h l. absurd (none i a l) }
    where
      none : (i a : ℕ) → w * i + a < w * 0 → ⊥
      none i a l = omega (arith, row_below w i a 0 l)

  pub tabled-grow : {done : ℕ} {found table : List ℕ} (x : ℕ) → done ≤ w * length found → Tabled next w k done found table
      → Tabled next w k done (found ++ (x ∷ [])) table
  tabled-grow {done} {found} {table} x h t =
      record {
        entry = λ i a l m. t.entry i a l m ∙ sym (same i a l m);
        inside = λ i a l m. omega (arith, same i a l m, t.inside i a l m, length-append found (x ∷ []));
      }
    where
      same : (i a : ℕ) → a < k → w * i + a < done → leads_to next (found ++ (x ∷ [])) i a ≡ leads_to next found i a
      same i a l m =
          ap (λ z. place_of (next z a) (found ++ (x ∷ []))) (get_or-append found (x ∷ []) 0 i (row_below w i a (length found) (omega arith)))
          ∙ place-append (next (slice_index found i) a) found (x ∷ []) (t.inside i a l m)

  pub tabled-more : {found table : List ℕ} (i a : ℕ) → a < k → k ≤ w → w * i + a < length table → leads_to next found i a < length found
      → Tabled next w k (w * i + a) found table → Tabled next w k (w * i + suc a) found (slice_set table (w * i + a) (leads_to next found i a))
  tabled-more {found} {table} i a h l room found_in t =
      record {
        entry = λ j b m n. at j b m n (ℕ_discrete (w * j + b) (w * i + a));
        inside = λ j b m n. in-at j b m n (ℕ_discrete (w * j + b) (w * i + a));
      }
    where
      at : (j b : ℕ) → b < k → w * j + b < w * i + suc a → Dec (w * j + b ≡ w * i + a)
          → slice_index (slice_set table (w * i + a) (leads_to next found i a)) (w * j + b) ≡ leads_to next found j b
      at j b m n (yes e) =
          let p = same_place w j b i a (omega arith) (omega arith) e in
          rw (p.0, p.1) (get_or-set_same table (w * i + a) (leads_to next found i a) 0 room)
      at j b m n (no d) = get_or-set_other table (w * i + a) (w * j + b) (leads_to next found i a) 0 d ∙ t.entry j b m (omega arith)

      in-at : (j b : ℕ) → b < k → w * j + b < w * i + suc a → Dec (w * j + b ≡ w * i + a) → leads_to next found j b < length found
      in-at j b m n (yes e) = let p = same_place w j b i a (omega arith) (omega arith) e in rw (p.0, p.1) found_in
      in-at j b m n (no d) = t.inside j b m (omega arith)

  -- A row ends where its symbols end.
  pub tabled-row : {found table : List ℕ} (i : ℕ) → k ≤ w → Tabled next w k (w * i + k) found table → Tabled next w k (w * suc i) found table
  tabled-row {found} {table} i h t =
      record { entry = λ j b m n. t.entry j b m (back j b m n); inside = λ j b m n. t.inside j b m (back j b m n) }
    where
      back : (j b : ℕ) → b < k → w * j + b < w * suc i → w * j + b < w * i + k
      back j b m n =
          let l : j < suc i = row_below w j b (suc i) n in
          let o : w * j ≤ w * i = mul-le-mul_left w (omega arith) in
          omega arith
