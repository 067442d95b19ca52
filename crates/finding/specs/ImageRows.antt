-- The images of lists in lent memory, at 64 × list + standing: for each list the row of the images of the standings.
use Rattle.std.specs.Prelude.{◌≡◌, ℕ, zero, suc, ◌+◌, ◌*◌, ◌<◌, List, [], ◌∷◌, length, take, drop, slice_index_or}
use Rattle.std.specs.Prelude.{refl}
use Rattle.std.proofs.Common.{ap, sym, ◌∙◌, add-zero, arith, length-take}
use Rattle.theory.specs.Automaton.{nexts}
use Rattle.finding.specs.States.{state_step}
use Rattle.finding.specs.UnionSteps.{nexts-over}

-- The rows of n lists from v on, for m standings.
unfoldable pub image_rows_from : List ℕ → ℕ → ℕ → ℕ → List (List ℕ)
image_rows_from images m zero v = []
image_rows_from images m (suc n) v = take m (drop (64 * v) images) ∷ image_rows_from images m n (suc v)

unfoldable pub image_rows : List ℕ → ℕ → ℕ → List (List ℕ)
image_rows images m n = image_rows_from images m n 0

length_from : (images : List ℕ) (m n v : ℕ) → length (image_rows_from images m n v) ≡ n
unfolding image_rows_from
length_from images m zero v = refl
length_from images m (suc n) v = ap suc (length_from images m n (suc v))

pub length-image_rows : (images : List ℕ) (m n : ℕ) → length (image_rows images m n) ≡ n
unfolding image_rows
length-image_rows images m n = length_from images m n 0

row_from : (images : List ℕ) (m n v i : ℕ) → i < n → slice_index_or (image_rows_from images m n v) i [] ≡ take m (drop (64 * (v + i)) images)
unfolding image_rows_from
row_from images m zero v i h = absurd (omega arith)
row_from images m (suc n) v zero h = rw add-zero
row_from images m (suc n) v (suc i) h =
    let e : suc v + i ≡ v + suc i = omega arith in
    row_from images m n (suc v) i (omega arith) ∙ ap (λ k. take m (drop (64 * k) images)) e

pub image-row : (images : List ℕ) (m n v : ℕ) → v < n → slice_index_or (image_rows images m n) v [] ≡ take m (drop (64 * v) images)
unfolding image_rows
image-row images m n v h =
    let e : 0 + v ≡ v = omega arith in
    row_from images m n 0 v h ∙ ap (λ k. take m (drop (64 * k) images)) e

-- The step of a state reads the row of its list.
pub state-row : (images : List ℕ) (m n v X : ℕ) → v < n → nexts X (take m (drop (64 * v) images)) ≡ state_step (image_rows images m n) m X v
unfolding state_step
state-row images m n v X h =
    ap (nexts X) (sym (image-row images m n v h)) ∙ nexts-over X row m (omega (arith, ap length (image-row images m n v h), length-take m (drop (64 * v) images)))
  where
    row : List ℕ
    row = slice_index_or (image_rows images m n) v []
