-- The place of a number in a list (Standings, place_of): one element at a time, its range, and its place in a longer list.
use Rattle.std.specs.Prelude.{◌≡◌, ℕ, suc, ◌+◌, ◌<◌, ◌≤◌, ◌≢◌, List, [], ◌∷◌, ◌++◌, length, slice_index, cond, ◌==◌, nat_lt, position, Some, None}
use Rattle.std.specs.Prelude.{refl}
use Rattle.std.specs.List.{position_or_len}
use Rattle.std.proofs.Common.{sym, ap, ◌∙◌, arith, eq-eqb, ne_eqb, lt-ltb, le-ltb}
use Rattle.std.proofs.lemmas.List.Recursion.{is_position_or_len}
use Rattle.std.proofs.Math.Decide.{ℕ_discrete, dec_lt}
use Rattle.finding.specs.Standings.{place_from, place_of}

pub place-first : (i x y : ℕ) (l : List ℕ) → y ≡ x → place_from i x (y ∷ l) ≡ i
unfolding place_from
place-first i x y l e = rw (eq-eqb y x e, place_from)

pub place-later : (i x y : ℕ) (l : List ℕ) → y ≢ x → place_from i x (y ∷ l) ≡ place_from (suc i) x l
unfolding place_from
place-later i x y l d = rw (ne_eqb y x d, place_from)

-- The place is found exactly where it is inside the list.

pub place-low : (i x : ℕ) (l : List ℕ) → i ≤ place_from i x l
unfolding place_from
place-low i x [] = omega arith
place-low i x (y ∷ l) = go (ℕ_discrete y x) (place-low (suc i) x l)
  where
    go : Dec (y ≡ x) → suc i ≤ place_from (suc i) x l → i ≤ place_from i x (y ∷ l)
    go (yes e) h = rw (place-first i x y l e) (omega arith)
    go (no d) h = rw (place-later i x y l d) (omega arith)

place-high : (i x : ℕ) (l : List ℕ) → place_from i x l ≤ i + length l
unfolding place_from
place-high i x [] = omega arith
place-high i x (y ∷ l) = go (ℕ_discrete y x) (place-high (suc i) x l)
  where
    go : Dec (y ≡ x) → place_from (suc i) x l ≤ suc i + length l → place_from i x (y ∷ l) ≤ i + suc (length l)
    go (yes e) h = rw (place-first i x y l e) (omega arith)
    go (no d) h = rw (place-later i x y l d) (omega arith)

pub place-within : (x : ℕ) (l : List ℕ) → place_of x l ≤ length l
unfolding place_of
place-within x l = omega (arith, place-high 0 x l)

-- It is the position at which the number is met, or the list's length.

place-shift : (i x : ℕ) (l : List ℕ) → place_from (suc i) x l ≡ suc (place_from i x l)
unfolding place_from
place-shift i x [] = refl
place-shift i x (y ∷ l) = go (ℕ_discrete y x) (place-shift (suc i) x l)
  where
    go : Dec (y ≡ x) → place_from (suc (suc i)) x l ≡ suc (place_from (suc i) x l) → place_from (suc i) x (y ∷ l) ≡ suc (place_from i x (y ∷ l))
    go (yes e) h = rw (place-first (suc i) x y l e, place-first i x y l e) refl
    go (no d) h = rw (place-later (suc i) x y l d, place-later i x y l d) h

place-position : (x : ℕ) (l : List ℕ) → place_of x l ≡ position_or_len (λ y. y == x) l
unfolding place_of place_from
place-position x = is_position_or_len (place_of x) (λ y. y == x) refl step
  where
    step : (y : ℕ) (l : List ℕ) → place_of x (y ∷ l) ≡ cond (y == x) 0 (1 + place_of x l)
    step y l = go (ℕ_discrete y x)
      where
        go : Dec (y ≡ x) → place_of x (y ∷ l) ≡ cond (y == x) 0 (1 + place_of x l)
        go (yes e) = rw (eq-eqb y x e) (place-first 0 x y l e)
        go (no d) = rw (ne_eqb y x d) (omega (arith, place-later 0 x y l d, place-shift 0 x l))

pub place-met : (x : ℕ) (l : List ℕ) (i : ℕ) → position (λ y. y == x) l ≡ Some i → (i < length l) × (i ≡ place_of x l)
place-met x l i e = go (dec_lt (place_of x l) (length l))
  where
    at : position (λ y. y == x) l ≡ cond (nat_lt (place_of x l) (length l)) (Some (place_of x l)) None
    at = ap (λ p. cond (nat_lt p (length l)) (Some p) None) (sym (place-position x l))

    go : Dec (place_of x l < length l) → (i < length l) × (i ≡ place_of x l)
    go (yes h) =
        let d : place_of x l ≡ i = (let f = rw (lt-ltb (place_of x l) (length l) h) at (sym at ∙ e) in cc) in
        (omega arith, sym d)
    go (no n) = absurd (let f = rw (le-ltb (place_of x l) (length l) (omega arith)) at (sym at ∙ e) in cc)

pub place-unmet : (x : ℕ) (l : List ℕ) → position (λ y. y == x) l ≡ None → length l ≤ place_of x l
place-unmet x l e = go (dec_lt (place_of x l) (length l))
  where
    at : position (λ y. y == x) l ≡ cond (nat_lt (place_of x l) (length l)) (Some (place_of x l)) None
    at = ap (λ p. cond (nat_lt p (length l)) (Some p) None) (sym (place-position x l))

    go : Dec (place_of x l < length l) → length l ≤ place_of x l
    go (yes h) = absurd (let f = rw (lt-ltb (place_of x l) (length l) h) at (sym at ∙ e) in cc)
    go (no n) = omega arith

-- A number that is not in the list has the list's length for its place.
absent-from : (i x : ℕ) (l : List ℕ) → ((j : ℕ) → j < length l → slice_index l j ≢ x) → place_from i x l ≡ i + length l
unfolding place_from
absent-from i x [] f = omega arith
absent-from i x (y ∷ l) f =
    place-later i x y l (f 0 (omega arith)) ∙ absent-from (suc i) x l (λ j h. f (suc j) (omega arith)) ∙ omega arith

pub place-absent : (x : ℕ) (l : List ℕ) → ((j : ℕ) → j < length l → slice_index l j ≢ x) → place_of x l ≡ length l
unfolding place_of
place-absent x l f = absent-from 0 x l f ∙ omega arith

-- What is put behind a list leaves the places in it as they are.
place_kept : (i x : ℕ) (l m : List ℕ) → place_from i x l < i + length l → place_from i x (l ++ m) ≡ place_from i x l
unfolding place_from
place_kept i x [] m h = absurd (omega arith)
place_kept i x (y ∷ l) m h = go (ℕ_discrete y x) (place_kept (suc i) x l m)
  where
    go : Dec (y ≡ x) → (place_from (suc i) x l < suc i + length l → place_from (suc i) x (l ++ m) ≡ place_from (suc i) x l)
        → place_from i x (y ∷ (l ++ m)) ≡ place_from i x (y ∷ l)
    go (yes e) ih = place-first i x y (l ++ m) e ∙ sym (place-first i x y l e)
    go (no d) ih = place-later i x y (l ++ m) d ∙ ih (omega (arith, place-later i x y l d)) ∙ sym (place-later i x y l d)

pub place-append : (x : ℕ) (l m : List ℕ) → place_of x l < length l → place_of x (l ++ m) ≡ place_of x l
unfolding place_of
place-append x l m h = place_kept 0 x l m (omega arith)

place-behind : (i x : ℕ) (l : List ℕ) → place_from i x l ≡ i + length l → place_from i x (l ++ (x ∷ [])) ≡ i + length l
unfolding place_from
place-behind i x [] e = place-first i x x [] refl ∙ omega arith
place-behind i x (y ∷ l) e = go (ℕ_discrete y x) (place-behind (suc i) x l)
  where
    go : Dec (y ≡ x) → (place_from (suc i) x l ≡ suc i + length l → place_from (suc i) x (l ++ (x ∷ [])) ≡ suc i + length l)
        → place_from i x (y ∷ (l ++ (x ∷ []))) ≡ i + suc (length l)
    go (yes d) ih = absurd (omega (arith, place-first i x y l d))
    go (no d) ih =
        place-later i x y (l ++ (x ∷ [])) d ∙ ih (omega (arith, place-later i x y l d)) ∙ omega arith

-- A number that is not in the list, put behind it, has the list's length for its place.
pub place-new : (x : ℕ) (l : List ℕ) → place_of x l ≡ length l → place_of x (l ++ (x ∷ [])) ≡ length l
unfolding place_of
place-new x l e = omega (arith, place-behind 0 x l (omega arith))
