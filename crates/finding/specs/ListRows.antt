-- What the code for the images of all lists promises: a row of 64 for each list, and how its loop over the lists keeps it.
use Rattle.std.specs.Prelude.{◌≡◌, ℕ, suc, ◌+◌, ◌-◌, ◌*◌, ◌^◌, ◌<◌, ◌≤◌, ◌≢◌, ◌⊎◌, List, ◌++◌, length, take, drop, slice_index, slice_index_or}
use Rattle.std.proofs.Common.{inl, inr, sym, ap, ◌∙◌, subst, mul-le-mul_left, arith, length-take, length-drop, take-take}
use Rattle.std.specs.Prelude.{refl}
use Rattle.std.proofs.Math.Decide.{dec_lt, ℕ_discrete}
use Rattle.theory.specs.Automaton.{Automaton}
use Rattle.reading.specs.RowLaws.{put, length-put, row_put, other-put, put_back, take-agree}
use Rattle.finding.specs.Standings.{move}
use Rattle.finding.specs.Plain.{plain}
use Rattle.finding.specs.ListImage.{images_from, image_table}
use Rattle.finding.specs.ImageRows.{image_rows}
use Rattle.finding.specs.ImageSearch.{Tables, tables, Fitting}
use Rattle.finding.specs.ImageNodes.{Holds}
use Rattle.finding.specs.ImagesTold.{ImagesTold}
use Rattle.finding.specs.StoredAutomata.{Stored}
use Rattle.finding.specs.StoredImages.{image-rows}

-- One row.

-- The row v is filled with the images of a list, and the other rows stay.
pub record FilledRow (D : Tables) (accepting v : ℕ) (images images' : List ℕ) : Type 0 where
  pub others : D.count ≤ 64 → (w : ℕ) → w ≢ v → take D.count (drop (64 * w) images') ≡ take D.count (drop (64 * w) images)
  pub row : Fitting D → (A : Automaton) (found : List ℕ) → Holds A found D
      → take D.count (drop (64 * v) images') ≡ images_from A found D.labels (plain D.follow D.enter accepting) D.count 0

module _ (D : Tables) (accepting v : ℕ) (images row' : List ℕ) (k : ℕ) (wide : k ≡ 64) (room : 64 * v + 64 ≤ length images)
    (size : length row' ≡ 64) (told : ImagesTold D accepting (take k (drop (64 * v) images)) row') where
  apart : (w i : ℕ) → w ≢ v → i < 64 → Dec (w < v) → (64 * w + i < 64 * v) ⊎ (64 * v + length row' ≤ 64 * w + i)
  apart w i d h (yes b) = inl (omega arith)
  apart w i d h (no b) = inr (omega (arith, above))
    where
      above : v < w
      above = side (dec_lt v w)
        where
          side : Dec (v < w) → v < w
          side (yes c) = c
          side (no c) = absurd (d (omega arith))

  -- The row comes back from being lent.
  pub row-filled : FilledRow D accepting v images (take (64 * v) images ++ (row' ++ drop k (drop (64 * v) images)))
  row-filled =
      subst (FilledRow D accepting v images) (sym (put_back (64 * v) k row' images (size ∙ sym wide)))
      (record {
        others = λ c w d.
            take-agree D.count (64 * w) (put (64 * v) row' images) images (length-put (64 * v) row' images (omega arith))
            (λ i h. other-put (64 * v) row' images (omega arith) (64 * w + i) (apart w i d (omega arith) (dec_lt w v)));
        row = λ f A found h.
            sym (take-take D.count (length row') (drop (64 * v) (put (64 * v) row' images)) (omega (arith, f.standings)))
            ∙ (ap (take D.count) (row_put (64 * v) row' images (omega arith))
            ∙ told.images f (omega (arith, f.standings, length-take k (drop (64 * v) images), length-drop (64 * v) images)) A found h);
      })

-- The rows of the lists.

-- The tables of a job, and the moves of its query's standings.
pub record JobTables : Type 0 where
  pub moves : List ℕ
  pub count : ℕ
  pub labels : ℕ
  pub follow : List ℕ
  pub enter : List ℕ
  pub sizes : List ℕ
  pub accepting : List ℕ

abbrev pub job_tables : List ℕ → ℕ → ℕ → List ℕ → List ℕ → List ℕ → List ℕ → JobTables
job_tables moves count labels follow enter sizes accepting =
    record { moves = moves; count = count; labels = labels; follow = follow; enter = enter; sizes = sizes; accepting = accepting }

-- The moves are those of the standings `found` of A, which stay among them.
pub record Moves (A : Automaton) (found : List ℕ) (T : JobTables) : Type 0 where
  pub size : length found ≡ T.count
  pub moved : (j a : ℕ) → j < T.count → a < T.labels → slice_index T.moves (32 * j + a) ≡ move A found j a
  pub inside : (j a : ℕ) → j < T.count → a < T.labels → move A found j a < T.count

-- The tables have the automaton B at number x.
abbrev pub Has : JobTables → ℕ → Automaton → Type 0
Has T x B = Stored T.follow T.enter T.sizes T.accepting x B

-- Row v of the images is that of the list v.
abbrev pub ListRow : JobTables → ℕ → List ℕ → Type 0
ListRow T v images = (A : Automaton) (found : List ℕ) (B : Automaton) → Moves A found T → Has T (suc v) B
    → take T.count (drop (64 * v) images) ≡ images_from A found T.labels B T.count 0

-- Some words are enough for the pairs of a standing and a place of the list v.
abbrev pub Paired : ℕ → List ℕ → ℕ → ℕ → Type 0
Paired count sizes v words = slice_index sizes (v + 1) ≤ 63 → count * (slice_index sizes (v + 1) + 1) ≤ words

pub paired-most : (count most : ℕ) (sizes : List ℕ) (v words : ℕ) → slice_index sizes (v + 1) ≤ most → count * (most + 1) ≤ words
    → Paired count sizes v words
paired-most count most sizes v words h k small =
    omega (arith, mul-le-mul_left {m = slice_index sizes (v + 1) + 1} {n = most + 1} count (omega arith))

pub paired-any : (count : ℕ) (sizes : List ℕ) (v : ℕ) → count ≤ 64 → Paired count sizes v 4096
paired-any count sizes v h small =
    omega (arith, mul-le-mul_left {m = slice_index sizes (v + 1) + 1} {n = 64} count (omega arith))

pub paired-more : (count : ℕ) (sizes : List ℕ) (v words room : ℕ) → words ≤ room → Paired count sizes v words → Paired count sizes v room
paired-more count sizes v words room h p small = omega (arith, p small)

-- How long the part of a table is that holds a list of so many occurrences.
pub part_length : (from size : ℕ) (l : List ℕ) → from + (size + 1) ≤ length l
    → length (take (from + size + 1 - from) (drop from l)) ≡ size + 1
part_length from size l h = simp (length-take, length-drop) (omega arith)

pub record ListTold (T : JobTables) (v : ℕ) (images images' : List ℕ) : Type 0 where
  pub others : T.count ≤ 64 → (w : ℕ) → w ≢ v → take T.count (drop (64 * w) images') ≡ take T.count (drop (64 * w) images)
  pub row : T.count ≤ 64 → T.labels ≤ 32 → ListRow T v images'

abbrev pub search_tables : JobTables → ℕ → Tables
search_tables T x =
    tables T.moves T.count T.labels (take (suc (slice_index T.sizes x)) (drop (64 * x) T.follow)) (take 32 (drop (32 * x) T.enter))

module _ (T : JobTables) (v : ℕ) (images images' : List ℕ) where
  -- A row that has no room is not of an automaton.
  pub list-refused : 63 < slice_index T.sizes (suc v) → ListTold T v images images
  list-refused h =
      record { others = λ c w d. refl; row = λ c l A found B m s. absurd (omega (arith, s.fits)) }

  list-filled : 32 * suc v + 32 ≤ length T.enter
      → FilledRow (search_tables T (suc v)) (slice_index T.accepting (suc v)) v images images' → ListTold T v images images'
  list-filled room f =
      record {
        others = f.others;
        row = λ c l A found B m s.
            f.row (fitting c l B s) A found (holds A found B m s)
            ∙ ap (λ C. images_from A found T.labels C T.count 0) s.same;
      }
    where
      fitting : T.count ≤ 64 → T.labels ≤ 32 → (B : Automaton) → Has T (suc v) B → Fitting (search_tables T (suc v))
      fitting c l B s =
          record {
            standings = c;
            row = l;
            enters = omega (arith, length-take 32 (drop (32 * suc v) T.enter), length-drop (32 * suc v) T.enter);
            places = omega (arith, s.fits, length-take (suc (slice_index T.sizes (suc v))) (drop (64 * suc v) T.follow));
          }

      holds : (A : Automaton) (found : List ℕ) (B : Automaton) → Moves A found T → Has T (suc v) B → Holds A found (search_tables T (suc v))
      holds A found B m s =
          record {
            size = m.size;
            moved = m.moved;
            inside = m.inside;
            start = subst (λ (C : Automaton). 0 < length C.follow) (sym s.same) s.start;
            within = λ a h. subst (λ (C : Automaton). C.enter a < 2 ^ length C.follow) (sym s.same) (s.within a);
          }

  -- With the parts of the tables as they are lent.
  Parts : ℕ → ℕ → ℕ → Type 0
  Parts x m n =
      FilledRow (tables T.moves T.count T.labels (take m (drop (64 * x) T.follow)) (take n (drop (32 * x) T.enter)))
      (slice_index T.accepting x) v images images'

  pub list-told : (x m n : ℕ) → x ≡ suc v → m ≡ suc (slice_index T.sizes x) → n ≡ 32 → 32 * suc v + 32 ≤ length T.enter
      → FilledRow (tables T.moves T.count T.labels (take m (drop (64 * x) T.follow)) (take n (drop (32 * x) T.enter)))
      (slice_index T.accepting x) v images images'
      → ListTold T v images images'
  unfolding Parts
  list-told x m n p q r room f =
      list-filled room
      (subst (λ y. Parts y (suc (slice_index T.sizes y)) 32) p (subst (Parts x (suc (slice_index T.sizes x))) r (subst (λ k. Parts x k n) q f)))

-- The rows of the lists below v are in their places.
pub record ListsDone (T : JobTables) (v : ℕ) (images : List ℕ) : Type 0 where
  pub done : T.count ≤ 64 → T.labels ≤ 32 → (w : ℕ) → w < v → ListRow T w images

pub lists-none : (T : JobTables) (images : List ℕ) → ListsDone T 0 images
lists-none T images = record { done = λ c l w h. absurd (omega arith) }

pub lists-more : (T : JobTables) (v : ℕ) (images images' : List ℕ) → ListsDone T v images → ListTold T v images images'
    → ListsDone T (v + 1) images'
lists-more T v images images' s t = record { done = λ c l w h. at c l w h (ℕ_discrete w v) }
  where
    at : T.count ≤ 64 → T.labels ≤ 32 → (w : ℕ) → w < v + 1 → Dec (w ≡ v) → ListRow T w images'
    at c l w h (yes e) = subst (λ u. ListRow T u images') (sym e) (t.row c l)
    at c l w h (no d) = λ A found B m b. t.others c w d ∙ s.done c l w (omega arith) A found B m b

-- The images of all lists: for any lists that the tables hold behind the query, the rows are the table of their images.
pub record ImagesOf (T : JobTables) (lists : ℕ) (images : List ℕ) : Type 0 where
  pub table : T.count ≤ 64 → T.labels ≤ 32 → (A : Automaton) (found : List ℕ) (Bs : List Automaton) → Moves A found T
      → length Bs ≡ lists → ((v : ℕ) (B : Automaton) → v < lists → Has T (suc v) (slice_index_or Bs v B))
      → image_rows images T.count lists ≡ image_table A found T.labels Bs

pub images-of : (T : JobTables) (lists : ℕ) (images : List ℕ) → ListsDone T lists images → ImagesOf T lists images
images-of T lists images s = record { table = there }
  where
    there : T.count ≤ 64 → T.labels ≤ 32 → (A : Automaton) (found : List ℕ) (Bs : List Automaton) → Moves A found T
        → length Bs ≡ lists → ((v : ℕ) (B : Automaton) → v < lists → Has T (suc v) (slice_index_or Bs v B))
        → image_rows images T.count lists ≡ image_table A found T.labels Bs
    there c l A found Bs m e h =
        ap (λ n. image_rows images n lists) (sym m.size)
        ∙ (ap (λ n. image_rows images (length found) n) (sym e)
        ∙ image-rows A found T.labels images Bs (λ i B b. row i B (omega arith)))
      where
        row : (i : ℕ) (B : Automaton) → i < lists
            → take (length found) (drop (64 * (0 + i)) images) ≡ images_from A found T.labels (slice_index_or Bs i B) (length found) 0
        row i B b =
            let z : 0 + i ≡ i = omega arith in
            ap (λ u. take (length found) (drop (64 * u) images)) z
            ∙ (ap (λ n. take n (drop (64 * i) images)) m.size
            ∙ (s.done c l i b A found (slice_index_or Bs i B) m (h i B b)
            ∙ ap (λ n. images_from A found T.labels (slice_index_or Bs i B) n 0) (sym m.size)))
