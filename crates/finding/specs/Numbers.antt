-- The numbers of what an exploration has found: the values of entries, and the place of a value in a list without duplicates.
use Rattle.std.specs.Prelude.{◌≡◌, ℕ, zero, suc, ◌+◌, ◌<◌, Bool, true, false, List, [], ◌∷◌, ◌++◌, length, get_or, ◌==◌, slice_index, slice_index_or}
use Rattle.std.proofs.Math.Option.{some}
use Rattle.std.specs.Prelude.{refl}
use Rattle.std.proofs.Common.{sym, ◌∙◌, ap, arith, eqb-true}
use Rattle.std.proofs.lemmas.Bool.{eqb-false}
use Rattle.theory.specs.Exploration.{System, Entry}
use Rattle.theory.specs.Explored.{value_at, Explored}
use Rattle.theory.specs.ExploredLaws.{explored-start, found-step}
use Rattle.finding.specs.Standings.{values, place_from, place_of}

pub length-values : {A : Type 0} (l : List (Entry A)) → length (values l) ≡ length l
unfolding values
length-values [] = refl
length-values (e ∷ l) = ap suc (length-values l)

pub values-append : {A : Type 0} (l m : List (Entry A)) → values (l ++ m) ≡ values l ++ values m
unfolding values
values-append [] m = refl
values-append (e ∷ l) m = ap (λ t. e.value ∷ t) (values-append l m)

pub get_or-values : {A : Type 0} (l : List (Entry A)) (i : ℕ) (d : A) (e : Entry A) → i < length l → slice_index_or (values l) i d ≡ (get_or l i e).value
unfolding values
get_or-values [] i d e h = absurd (omega arith)
get_or-values (x ∷ l) zero d e h = refl
get_or-values (x ∷ l) (suc i) d e h = get_or-values l i d e (omega arith)

-- No number stands twice in the list.
abbrev pub NoDuplicates : List ℕ → Type 0
NoDuplicates l = (i j : ℕ) → i < length l → j < length l → slice_index l i ≡ slice_index l j → i ≡ j

-- A number of the list is found, at a place of the list ..
place_from-finds : (k x : ℕ) (l : List ℕ) (j : ℕ) → j < length l → slice_index l j ≡ x
    → (i : ℕ) × (place_from k x l ≡ k + i) × (i < length l) × (slice_index l i ≡ x)
unfolding place_from
place_from-finds k x [] j h e = absurd (omega arith)
place_from-finds k x (y ∷ l) j h e = side (y == x) refl j h e (place_from-finds (suc k) x l)
  where
    side : (b : Bool) → (y == x) ≡ b → (j : ℕ) → j < suc (length l) → slice_index (y ∷ l) j ≡ x
        → ((j : ℕ) → j < length l → slice_index l j ≡ x → (i : ℕ) × (place_from (suc k) x l ≡ suc k + i) × (i < length l) × (slice_index l i ≡ x))
        → (i : ℕ) × (elim b [ true ↦ k | false ↦ place_from (suc k) x l ] ≡ k + i) × (i < suc (length l)) × (slice_index (y ∷ l) i ≡ x)
    side true t j h e later = (0, omega arith, omega arith, eqb-true y x t)
    side false t zero h e later = absurd (eqb-false y x t e)
    side false t (suc j) h e later = let (i, p, b, g) = later j (omega arith) e in (suc i, omega arith, omega arith, g)

-- .. where it stands.
pub place_of-finds : (x : ℕ) (l : List ℕ) (j : ℕ) → j < length l → slice_index l j ≡ x → (place_of x l < length l) × (slice_index l (place_of x l) ≡ x)
unfolding place_of
place_of-finds x l j h e =
    let (i, p, b, g) = place_from-finds 0 x l j h e in
    let q : place_from 0 x l ≡ i = omega arith in
    (omega arith, ap (λ z. slice_index l z) q ∙ g)

-- Where no number stands twice, the place found is the place where the number stands.
pub place_of-only : (x : ℕ) (l : List ℕ) (j : ℕ) → NoDuplicates l → j < length l → slice_index l j ≡ x → place_of x l ≡ j
place_of-only x l j distinct h e =
    let (b, g) = place_of-finds x l j h e in
    distinct (place_of x l) j b h (g ∙ sym e)

-- Of an exploration of numbers that tells all: the values have no duplicates, every number reached has a place among them, and so has
-- what a step leads to.
module _ {S : System ℕ} {l : List (Entry ℕ)} (x : Explored S l) where
  pub value-at : (i : ℕ) → i < length (values l) → slice_index (values l) i ≡ value_at S l i
  value-at i h = get_or-values l i 0 _ (omega (arith, length-values l))

  pub values-distinct : NoDuplicates (values l)
  values-distinct i j h k e =
      x.distinct i j (omega (arith, length-values l)) (omega (arith, length-values l)) (sym (value-at i h) ∙ e ∙ value-at j k)

  pub values-start : (0 < length (values l)) × (slice_index (values l) 0 ≡ S.start)
  values-start =
      let (h, v, _) = explored-start x in
      let b : 0 < length (values l) = omega (arith, length-values l) in
      (b, value-at 0 b ∙ v)

  found-place : (v i : ℕ) → i < length l → value_at S l i ≡ v
      → (place_of v (values l) < length (values l)) × (slice_index (values l) (place_of v (values l)) ≡ v)
  found-place v i h e =
      let k : i < length (values l) = omega (arith, length-values l) in
      place_of-finds v (values l) i k (value-at i k ∙ e)

  pub step-place : (i a v : ℕ) → i < length (values l) → a < S.symbols → S.step (slice_index (values l) i) a ≡ some v
      → (place_of v (values l) < length (values l)) × (slice_index (values l) (place_of v (values l)) ≡ v)
  step-place i a v h b s =
      let k : i < length l = omega (arith, length-values l) in
      let (j, g, e) = found-step x k b (ap (λ u. S.step u a) (sym (value-at i h)) ∙ s) in
      found-place v j g e
