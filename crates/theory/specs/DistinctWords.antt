-- Words with pairwise different values. Of a system whose steps are all defined: it exceeds a limit exactly where one more such word than
-- the limit is there, and an exploration that tells all has found as many such words as values.
use Rattle.std.specs.Prelude.{ℕ, zero, suc, ◌<◌, ◌↔◌, ◌≡◌, refl, get_or}
use mathlib.Core.List.{List, [], ◌∷◌, map, reverse, reverse-reverse}
use Rattle.std.proofs.Math.Option.{some, some-injective}
use Rattle.std.proofs.Math.Path.{sym, ap, subst}
use Rattle.std.proofs.Common.{◌∙◌, arith}
use Rattle.std.proofs.Math.ListN.{length, length-map}
use Rattle.theory.specs.Path.{Below}
use Rattle.theory.specs.Exploration.{System, Entry, run}
use Rattle.theory.specs.Explored.{Reached, entry_at, value_at, word_at, Explored, Exceeds}

-- n words over k symbols, no two of them the same.
pub record DistinctWords (Same : List ℕ → List ℕ → Type 0) (k n : ℕ) : Type 0 where
  pub words : List (List ℕ)
  pub count : length words ≡ n
  pub below : (i : ℕ) → i < n → Below k (get_or words i [])
  pub distinct : (i j : ℕ) → i < n → j < n → Same (get_or words i []) (get_or words j []) → i ≡ j

-- Every word over k symbols is the same as one of these.
pub record CountsWords (Same : List ℕ → List ℕ → Type 0) (k n : ℕ) : Type 0 where
  pub some : DistinctWords Same k n
  pub all : (w : List ℕ) → Below k w → (i : ℕ) × (i < n) × Same w (get_or some.words i [])

-- An entry of a mapped list, whatever stands behind the list's end.
pub get_or-map-below : {A B : Type 0} (f : A → B) (l : List A) (i : ℕ) (d : A) (e : B) → i < length l → get_or (map f l) i e ≡ f (get_or l i d)
get_or-map-below f [] i d e h = absurd (omega arith)
get_or-map-below f (x ∷ l) zero d e h = refl
get_or-map-below f (x ∷ l) (suc i) d e h = get_or-map-below f l i d e (omega arith)

-- The words of entries.
words_of : {A : Type 0} → List (Entry A) → List (List ℕ)
words_of found = map (λ e. reverse e.trail) found

get_or-words_of : {A : Type 0} (S : System A) (found : List (Entry A)) (i : ℕ) → i < length found
    → get_or (words_of found) i [] ≡ word_at S found i
unfolding words_of
get_or-words_of S found i h = get_or-map-below (λ e. reverse e.trail) found i _ [] h

module _ {A : Type 0} (S : System A) (value : List ℕ → A) (total : (w : List ℕ) → run S S.start w ≡ some (value w)) where
  -- A word leads to its value and to no other.
  pub reached-value : {v : A} {w : List ℕ} → Reached S v w → value w ≡ v
  reached-value {v} {w} r = some-injective (value w) v (sym (total w) ∙ r.1)

  -- Entries with different values, each with a word that leads to its value, have different words.
  entries-words : (found : List (Entry A)) → ((i : ℕ) → i < length found → Reached S (value_at S found i) (word_at S found i))
      → ((i j : ℕ) → i < length found → j < length found → value_at S found i ≡ value_at S found j → i ≡ j)
      → DistinctWords (λ v w. value v ≡ value w) S.symbols (length found)
  entries-words found words distinct =
      record {
        words = words_of found;
        count = unfold words_of in length-map found (λ e. reverse e.trail);
        below = λ i h. subst (Below S.symbols) (sym (get_or-words_of S found i h)) (words i h).0;
        distinct = λ i j h k e. distinct i j h k (sym (at i h) ∙ e ∙ at j k);
      }
    where
      at : (i : ℕ) → i < length found → value (get_or (words_of found) i []) ≡ value_at S found i
      at i h = ap value (get_or-words_of S found i h) ∙ reached-value (words i h)

  -- Where all that is reached is found, there are exactly as many values as entries.
  pub explored-counts : {found : List (Entry A)} → Explored S found → CountsWords (λ v w. value v ≡ value w) S.symbols (length found)
  unfolding entries-words
  explored-counts {found} x = record { some = entries-words found x.words x.distinct; all = every }
    where
      every : (w : List ℕ) → Below S.symbols w → (i : ℕ) × (i < length found) × (value w ≡ value (get_or (words_of found) i []))
      every w b =
          let (i, h, e) = x.reached (value w) w (b, total w) in
          (i, h, sym (ap value (get_or-words_of S found i h) ∙ reached-value (x.words i h) ∙ e))

  -- The limit is exceeded exactly where one more word than the limit is there, no two of the words having one value.
  pub exceeds-exactly : (limit : ℕ) → Exceeds S limit ↔ DistinctWords (λ v w. value v ≡ value w) S.symbols (suc limit)
  exceeds-exactly limit = (λ y. subst (DistinctWords _ S.symbols) y.count (entries-words y.found y.words y.distinct), back)
    where
      entry : List ℕ → Entry A
      entry w = record { value = value w; trail = reverse w }

      back : DistinctWords (λ v w. value v ≡ value w) S.symbols (suc limit) → Exceeds S limit
      back d =
          record {
            found = map entry d.words;
            count = length-map d.words entry ∙ d.count;
            words = λ i h. subst (λ e. Reached S e.value (reverse e.trail)) (sym (at i h)) (leads i h);
            distinct = λ i j h k e.
                d.distinct i j (under i h) (under j k) (sym (ap (λ e. e.value) (at i h)) ∙ e ∙ ap (λ e. e.value) (at j k));
          }
        where
          under : (i : ℕ) → i < length (map entry d.words) → i < suc limit
          under i h = omega (arith, length-map d.words entry, d.count)

          at : (i : ℕ) → i < length (map entry d.words) → entry_at S (map entry d.words) i ≡ entry (get_or d.words i [])
          at i h = get_or-map-below entry d.words i [] _ (omega (arith, length-map d.words entry))

          leads : (i : ℕ) → i < length (map entry d.words)
              → Reached S (value (get_or d.words i [])) (reverse (reverse (get_or d.words i [])))
          leads i h =
              subst (Reached S (value (get_or d.words i []))) (sym (reverse-reverse (get_or d.words i [])))
              (d.below i (under i h), total (get_or d.words i []))
