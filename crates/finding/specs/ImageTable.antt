-- The table of images (ListImage) for the lists of a job: its entry at a list and a standing is the standing's image under that list.
use Rattle.std.specs.Prelude.{◌≡◌, ℕ, zero, suc, ◌+◌, ◌^◌, ◌<◌, ◌↔◌, List, [], ◌∷◌, map, length, slice_index, slice_index_or}
use Rattle.std.specs.Prelude.{refl}
use Rattle.std.proofs.Common.{◌∙◌, ap, add-zero, zero-add, arith}
use Rattle.std.proofs.Math.Decide.{dec_lt}
use Rattle.std.proofs.lemmas.List.{length-map}
use Rattle.std.proofs.Math.ListN.{get_or-map, get_or-eq_default}
use Rattle.theory.specs.Path.{Path}
use Rattle.theory.specs.Expression.{empty}
use Rattle.theory.specs.Job.{Job, WellFormed, ListPath}
use Rattle.theory.specs.Places.{Member}
use Rattle.theory.specs.PlacesLaws.{member-none, none_below, collect-below}
use Rattle.theory.specs.Automaton.{Automaton, glushkov, standing_from, accepts}
use Rattle.finding.specs.ListImage.{image, images_from, image_table, places_at, reached_nodes}
use Rattle.finding.specs.Numbering.{Numbering}
use Rattle.finding.specs.ImageLaws.{image-exactly}

pub get_or-images_from : (A : Automaton) (found : List ℕ) (k : ℕ) (B : Automaton) (n i j : ℕ) → j < n
    → slice_index (images_from A found k B n i) j ≡ image A found k B (i + j)
unfolding images_from
get_or-images_from A found k B zero i j h = absurd (omega arith)
get_or-images_from A found k B (suc n) i zero h = rw (add-zero i)
get_or-images_from A found k B (suc n) i (suc j) h =
    let e : suc i + j ≡ i + suc j = omega arith in
    get_or-images_from A found k B n (suc i) j (omega arith) ∙ ap (image A found k B) e

pub length-image_table : (A : Automaton) (found : List ℕ) (k : ℕ) (lists : List Automaton)
    → length (image_table A found k lists) ≡ length lists
unfolding image_table
length-image_table A found k [] = refl
length-image_table A found k (B ∷ l) = ap suc (length-image_table A found k l)

pub get_or-image_table : (A : Automaton) (found : List ℕ) (k : ℕ) (lists : List Automaton) (v i : ℕ) (B : Automaton) → v < length lists
    → i < length found → slice_index (slice_index_or (image_table A found k lists) v []) i ≡ image A found k (slice_index_or lists v B) i
unfolding image_table
get_or-image_table A found k [] v i B h b = absurd (omega arith)
get_or-image_table A found k (C ∷ l) zero i B h b = get_or-images_from A found k C (length found) 0 i b ∙ ap (image A found k C) (zero-add i)
get_or-image_table A found k (C ∷ l) (suc v) i B h b = get_or-image_table A found k l v i B (omega arith) b

pub image-below : (A : Automaton) (found : List ℕ) (k : ℕ) (B : Automaton) (i : ℕ) → image A found k B i < 2 ^ length found
unfolding image
image-below A found k B i = collect-below (λ j. accepts B (places_at B (reached_nodes A found k B i) j)) (length found)

-- The images of a job's lists, over numbered standings of its query.
abbrev pub job_images : Job → List ℕ → List (List ℕ)
job_images J found = image_table (glushkov J.query) found J.labels (map glushkov J.lists)

pub length-job_images : (J : Job) (found : List ℕ) → length (job_images J found) ≡ length J.lists
length-job_images J found =
    length-image_table (glushkov J.query) found J.labels (map glushkov J.lists) ∙ length-map J.lists glushkov

module _ (J : Job) (found : List ℕ) where
  -- The entry at a list of the job ..
  listed : (v i : ℕ) → v < length J.lists → i < length found
      → slice_index (slice_index_or (job_images J found) v []) i ≡ image (glushkov J.query) found J.labels (glushkov (slice_index_or J.lists v empty)) i
  listed v i h b =
      get_or-image_table (glushkov J.query) found J.labels (map glushkov J.lists) v i (glushkov empty)
      (omega (arith, length-map J.lists glushkov)) b
      ∙ ap (λ B. image (glushkov J.query) found J.labels B i) (get_or-map glushkov J.lists v empty)

  -- .. and beyond its lists.
  unlisted : (v i : ℕ) → ¬ (v < length J.lists) → slice_index (slice_index_or (job_images J found) v []) i ≡ 0
  unlisted v i h =
      ap (λ r. slice_index r i) (get_or-eq_default (job_images J found) [] (omega (arith, length-job_images J found)))

  pub job_images-below : (v i : ℕ) → i < length found → slice_index (slice_index_or (job_images J found) v []) i < 2 ^ length found
  job_images-below v i b = side (dec_lt v (length J.lists))
    where
      side : Dec (v < length J.lists) → slice_index (slice_index_or (job_images J found) v []) i < 2 ^ length found
      side (yes h) = rw (listed v i h b) (image-below (glushkov J.query) found J.labels (glushkov (slice_index_or J.lists v empty)) i)
      side (no h) = rw (unlisted v i h) (none_below (length found))

  -- The standing j is in the image of the standing i under the list v exactly when a path of the list leads from i to j.
  pub member-job_images : WellFormed J → Numbering (glushkov J.query) J.labels found
      → (v i j : ℕ) → i < length found → j < length found
      → Member j (slice_index (slice_index_or (job_images J found) v []) i)
      ↔ ((p : Path) × ListPath J v p × (standing_from (glushkov J.query) (slice_index found i) p ≡ slice_index found j))
  member-job_images formed N v i j b c = side (dec_lt v (length J.lists))
    where
      side : Dec (v < length J.lists) → Member j (slice_index (slice_index_or (job_images J found) v []) i)
          ↔ ((p : Path) × ListPath J v p × (standing_from (glushkov J.query) (slice_index found i) p ≡ slice_index found j))
      side (yes h) =
          let m = image-exactly N (slice_index_or J.lists v empty) (formed.lists v h) i j b c in
          rw (listed v i h b)
          (λ a. let (p, l, e) = m.0 a in (p, (h, l), e), λ (p, (_, l), e). m.1 (p, l, e))
      side (no h) = rw (unlisted v i h) (λ a. absurd (member-none j a), λ (p, (g, _), e). absurd (h g))
