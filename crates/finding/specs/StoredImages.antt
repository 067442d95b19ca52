-- The images of lists as they are stored, a row of 64 for each list: the rows are the table of images (ListImage).
use Rattle.std.specs.Prelude.{◌≡◌, ℕ, suc, ◌+◌, ◌*◌, ◌<◌, List, [], ◌∷◌, length, take, drop, slice_index_or}
use Rattle.std.proofs.Math.Path.{refl, ap, ap₂}
use Rattle.std.proofs.Common.{◌∙◌}
use native.Mathlib.Omega.{arith}
use Rattle.theory.specs.Automaton.{Automaton}
use Rattle.finding.specs.ListImage.{images_from, image_table}
use Rattle.finding.specs.ImageRows.{image_rows_from, image_rows}

-- The rows from number v on are filled for the lists.
abbrev pub Rowed : Automaton → List ℕ → ℕ → List Automaton → List ℕ → ℕ → Type 0
Rowed A found k lists images v = (i : ℕ) (B : Automaton) → i < length lists
    → take (length found) (drop (64 * (v + i)) images) ≡ images_from A found k (slice_index_or lists i B) (length found) 0

module _ (A : Automaton) (found : List ℕ) (k : ℕ) (images : List ℕ) where
  rows-from : (lists : List Automaton) (v : ℕ) → Rowed A found k lists images v
      → image_rows_from images (length found) (length lists) v ≡ image_table A found k lists
  unfolding image_rows_from image_table
  rows-from [] v f = refl
  rows-from (B ∷ l) v f =
      let e : v ≡ v + 0 = omega arith in
      ap₂ {A = List ℕ} {B = List (List ℕ)} ◌∷◌ (ap (λ w. take (length found) (drop (64 * w) images)) e ∙ f 0 B (omega arith))
      (rows-from l (suc v) (λ i C h. ap (λ w. take (length found) (drop (64 * w) images)) (shift i) ∙ f (suc i) C (omega arith)))
    where
      shift : (i : ℕ) → suc v + i ≡ v + suc i
      shift i = omega arith

  pub image-rows : (lists : List Automaton) → Rowed A found k lists images 0
      → image_rows images (length found) (length lists) ≡ image_table A found k lists
  unfolding image_rows
  image-rows lists f = rows-from lists 0 f
