-- Find's table and flags (Find): the entry at 16 × state + list is the number of the next state, so the table, followed from a state by a
-- word, ends at the number of the set that the word leads to.
use Rattle.std.specs.Prelude.{◌≡◌, ℕ, zero, suc, ◌+◌, ◌-◌, ◌*◌, ◌<◌, ◌≤◌, Bool, true, false, ◌⊎◌, ◌↔◌, List, [], ◌∷◌, ◌++◌, map, length, replicate, ◌==◌, slice_index}
use Rattle.std.proofs.Common.{true≢false, append_assoc, inl, inr, ◌∙◌, ap₂, add-zero, zero-add, eq-eqb, ne_eqb, get_or-append-add}
use Rattle.std.proofs.Math.Path.{refl, sym, ap}
use native.Mathlib.Omega.{arith}
use Rattle.std.proofs.Math.ListN.{length-append, length-replicate, get_or-replicate, get_or-append}
use Rattle.theory.specs.Path.{Below, nothing, next}
use Rattle.theory.specs.Word.{Word}
use Rattle.theory.specs.Exploration.{Entry}
use Rattle.theory.specs.Explored.{Explored}
use Rattle.theory.specs.DistinctWords.{get_or-map-below}
use Rattle.finding.specs.Standings.{values, place_of}
use Rattle.finding.specs.States.{state_step, state_system, state_accepts}
use Rattle.finding.specs.Find.{row_width, row, rows, flag}
use Rattle.finding.specs.Finds.{followed}
use Rattle.finding.specs.Numbers.{step-place}
use Rattle.finding.specs.StatesLaws.{state_from}

-- The rows of the table.
module _ (images : List (List ℕ)) (m : ℕ) (found : List ℕ) where
  length-row : (X n v : ℕ) → length (row images m found X n v) ≡ n
  unfolding row
  length-row X zero v = refl
  length-row X (suc n) v = ap suc (length-row X n (suc v))

  get_or-row : (X n v i : ℕ) → i < n → slice_index (row images m found X n v) i ≡ place_of (state_step images m X (v + i)) found
  unfolding row
  get_or-row X zero v i h = absurd (omega arith)
  get_or-row X (suc n) v zero h = rw (add-zero v)
  get_or-row X (suc n) v (suc i) h =
      let e : suc v + i ≡ v + suc i = omega arith in
      get_or-row X n (suc v) i (omega arith) ∙ ap (λ u. place_of (state_step images m X u) found) e

  -- A row with zeros up to its width.
  full : ℕ → List ℕ
  full X = row images m found X (length images) 0 ++ replicate (row_width - length images) 0

  rows_next : (X : ℕ) (l : List ℕ) → rows images m found (X ∷ l) ≡ full X ++ rows images m found l
  unfolding rows full
  rows_next X l =
      sym (append_assoc (row images m found X (length images) 0) (replicate (row_width - length images) 0) (rows images m found l))

  full-used : (X v : ℕ) → v < length images → slice_index (full X) v ≡ place_of (state_step images m X v) found
  unfolding full
  full-used X v h =
      get_or-append (row images m found X (length images) 0) (replicate (row_width - length images) 0) 0 v
      (omega (arith, length-row X (length images) 0))
      ∙ (get_or-row X (length images) 0 v h ∙ ap (λ k. place_of (state_step images m X k) found) (zero-add v))

  full-unused : (X v : ℕ) → length images ≤ v → v < row_width → slice_index (full X) v ≡ 0
  unfolding full
  full-unused X v h l =
      let e : v ≡ length (row images m found X (length images) 0) + (v - length images) = omega (arith, length-row X (length images) 0) in
      ap (λ k. slice_index (full X) k) e
      ∙ (get_or-append-add (row images m found X (length images) 0) (replicate (row_width - length images) 0) (v - length images) 0
      ∙ get_or-replicate (row_width - length images) (v - length images) 0 0 (omega arith))

  -- Where a row has room for all lists.
  module _ (fits : length images ≤ row_width) where
    length-full : (X : ℕ) → length (full X) ≡ row_width
    unfolding full
    length-full X =
        omega (
          arith,
          length-append (row images m found X (length images) 0) (replicate (row_width - length images) 0),
          length-row X (length images) 0,
          length-replicate {A = ℕ} (row_width - length images) 0,
        )

    pub length-rows : (l : List ℕ) → length (rows images m found l) ≡ row_width * length l
    unfolding rows
    length-rows [] = refl
    length-rows (X ∷ l) =
        omega (arith, ap length (rows_next X l), length-append (full X) (rows images m found l), length-full X, length-rows l)

    rows_at : (l : List ℕ) (s v : ℕ) → s < length l → v < row_width
        → slice_index (rows images m found l) (row_width * s + v) ≡ slice_index (full (slice_index l s)) v
    rows_at [] s v h k = absurd (omega arith)
    rows_at (X ∷ l) zero v h k =
        let e : row_width * 0 + v ≡ v = omega arith in
        ap₂ (λ t i. slice_index t i) (rows_next X l) e ∙ get_or-append (full X) (rows images m found l) 0 v (omega (arith, length-full X))
    rows_at (X ∷ l) (suc s) v h k =
        let e : row_width * suc s + v ≡ length (full X) + (row_width * s + v) = omega (arith, length-full X) in
        ap₂ (λ t i. slice_index t i) (rows_next X l) e
        ∙ (get_or-append-add (full X) (rows images m found l) (row_width * s + v) 0 ∙ rows_at l s v (omega arith) k)

    -- The entry for the state s and the list v is the place of the next state, and behind the lists a row has zeros.
    pub rows-used : (l : List ℕ) (s v : ℕ) → s < length l → v < length images
        → slice_index (rows images m found l) (row_width * s + v) ≡ place_of (state_step images m (slice_index l s) v) found
    rows-used l s v h k = rows_at l s v h (omega arith) ∙ full-used (slice_index l s) v k

    pub rows-unused : (l : List ℕ) (s v : ℕ) → s < length l → length images ≤ v → v < row_width
        → slice_index (rows images m found l) (row_width * s + v) ≡ 0
    rows-unused l s v h k b = rows_at l s v h b ∙ full-unused (slice_index l s) v k b

-- A flag is 0 or 1.
pub flag-value : (b : Bool) → (flag b ≡ 0) ⊎ (flag b ≡ 1)
unfolding flag
flag-value true = inr refl
flag-value false = inl refl

-- Two such flags are the same where they accept alike.
pub flag_same : (a b : ℕ) → (a ≡ 0) ⊎ (a ≡ 1) → (b ≡ 0) ⊎ (b ≡ 1) → (a == 1) ≡ (b == 1) → a ≡ b
flag_same a b (inl x) (inl y) e = x ∙ sym y
flag_same a b (inr x) (inr y) e = x ∙ sym y
flag_same a b (inl x) (inr y) e = absurd (true≢false (sym (eq-eqb b 1 y) ∙ sym e ∙ ne_eqb a 1 (λ z. omega arith)))
flag_same a b (inr x) (inl y) e = absurd (true≢false (sym (eq-eqb a 1 x) ∙ e ∙ ne_eqb b 1 (λ z. omega arith)))

pub flag-exactly : (b : Bool) → (flag b ≡ 1) ↔ (b ≡ true)
unfolding flag
flag-exactly true = (λ e. refl, λ e. refl)
flag-exactly false = (λ e. absurd (omega arith), λ e. ap flag e)

module _ (images : List (List ℕ)) (m : ℕ) (l : List (Entry ℕ)) (x : Explored (state_system images m) l)
    (fits : length images ≤ row_width) where
  -- Following the table by a word.
  pub followed-state : (s : ℕ) (w : Word) → s < length (values l) → Below (length images) w
      → (followed (rows images m (values l) (values l)) s w < length (values l))
      × (slice_index (values l) (followed (rows images m (values l) (values l)) s w) ≡ state_from images m (slice_index (values l) s) w)
  unfolding followed state_from
  followed-state s [] h nothing = (h, refl)
  followed-state s (v ∷ w) h (next b c) =
      let X : ℕ = state_step images m (slice_index (values l) s) v in
      let (g, e) = step-place x s v X h b refl in
      let (i, d) = followed-state (place_of X (values l)) w g c in
      rw (rows-used images m (values l) fits (values l) s v h b) (i, d ∙ ap (λ Y. state_from images m Y w) e)

-- The flag of a state.
pub get_or-flags : (accepting : ℕ) (states : List ℕ) (s : ℕ) → s < length states
    → slice_index (map (λ X. flag (state_accepts accepting X)) states) s ≡ flag (state_accepts accepting (slice_index states s))
get_or-flags accepting states s h = get_or-map-below (λ X. flag (state_accepts accepting X)) states s 0 0 h
