-- The search over the places of an automaton (Plain), by its steps: the next places of a place over a label are those that follow the place
-- and that the label enters. What this search promises.
use Rattle.std.specs.Prelude.{◌≡◌, ℕ, ◌*◌, ◌<◌, ◌≤◌, ◌↔◌, List, length, drop, slice_index}
use Rattle.std.specs.Prelude.{refl}
use Rattle.std.proofs.Common.{sym, ◌∙◌, subst, one-mul, arith}
use Rattle.std.proofs.Math.Decide.{dec_le}
use Rattle.theory.specs.Graph.{Table}
use Rattle.theory.specs.Places.{Member}
use Rattle.finding.specs.Cleared.{Cleared}
use Rattle.answering.specs.Links.{SortedByFrom}
use Rattle.answering.specs.Cleared.{cleared-beyond}
use Rattle.answering.specs.Pairs.{Has}
use Rattle.answering.specs.SetSearch.{SetFound, begins, onward}
use Rattle.answering.specs.SetSearchRun.{SetSizes, SetStarting, SetAllFound, set-starting}

-- The place t is one of the next places of s over the label a.
abbrev pub PlaceStep : List ℕ → List ℕ → ℕ → ℕ → ℕ → Type 0
PlaceStep follow enter s a t = Member t (slice_index follow s) × Member t (slice_index enter a)

-- How many places are searched: at most 64, and all that the automaton has below 64.
pub record PlaceCount (follow : List ℕ) (places : ℕ) : Type 0 where
  pub most : places ≤ 64
  pub fits : places ≤ length follow
  pub all : (p : ℕ) → p < length follow → p < 64 → p < places

-- The sizes fit: labels with their words, the start among the recordings, and a lent word for each of these.
pub record PlacesSearchable (enter : List ℕ) (labels N start : ℕ) (reached : List ℕ) : Type 0 where
  pub few-labels : labels ≤ 32
  pub enters : labels ≤ length enter
  pub few : N ≤ 4096
  pub begins : start < N
  pub room : N ≤ length reached

-- Two places are accepted alike: both, or neither.
abbrev pub AcceptedAlike : ℕ → ℕ → ℕ → Type 0
AcceptedAlike accepting p t = Member p accepting ↔ Member t accepting

-- What the search promises: where the table is sorted, the words hold exactly the pairs found, up to places that are accepted alike.
pub record PlacesSearched (follow enter : List ℕ) (accepting labels : ℕ) (table : Table) (N start : ℕ) (before after : List ℕ) : Type 0 where
  pub places : ℕ
  pub count : PlaceCount follow places
  pub sound : PlacesSearchable enter labels N start before → (y t : ℕ) → y < N → t < 64 * 1 → Has 1 after y t
      → (p : ℕ) × SetFound (PlaceStep follow enter) labels 1 places table N start y p × AcceptedAlike accepting p t
  pub complete : PlacesSearchable enter labels N start before → SortedByFrom table → (y p : ℕ)
      → SetFound (PlaceStep follow enter) labels 1 places table N start y p
      → (t : ℕ) × (t < 64 * 1) × Has 1 after y t × AcceptedAlike accepting p t
  pub beyond : PlacesSearchable enter labels N start before → drop (1 * N) after ≡ drop (1 * N) before
  pub same_length : length after ≡ length before

place-sizes : {follow enter : List ℕ} {labels N start places : ℕ} {reached : List ℕ} → PlaceCount follow places
    → PlacesSearchable enter labels N start reached → SetSizes labels 1 places N start reached
place-sizes {N = N} c f = record {
  some_words = omega arith;
  width = let m = c.most in omega arith;
  few_words = omega arith;
  few-symbols = f.few-labels;
  few = f.few;
  begins = f.begins;
  room = let e = one-mul N in let r = f.room in omega arith;
}

-- A word is cleared for each recording.
one-row : {N : ℕ} {before cleared : List ℕ} → Cleared N before cleared → Cleared (1 * N) before cleared
one-row {N} {before} {cleared} = subst (λ n. Cleared n before cleared) (sym (one-mul N))

pub places-starting : {follow enter : List ℕ} {labels N start places : ℕ} {before cleared : List ℕ} → PlaceCount follow places
    → PlacesSearchable enter labels N start before → Cleared N before cleared → length cleared ≡ length before
    → SetStarting 1 labels places N start cleared
places-starting c f d e = set-starting (place-sizes c f) (one-row d) e

pub places-beyond : {follow enter : List ℕ} {labels N start places : ℕ} {before cleared : List ℕ} → PlaceCount follow places
    → PlacesSearchable enter labels N start before → Cleared N before cleared → drop (1 * N) cleared ≡ drop (1 * N) before
places-beyond c f d = cleared-beyond (one-row d) (place-sizes c f).room

-- Steps over the symbols below k alone play a role.
found_alike : {Step Other : ℕ → ℕ → ℕ → Type 0} {k w states : ℕ} {table : Table} {N start : ℕ}
    → ((s a t : ℕ) → a < k → Step s a t → Other s a t) → {y t : ℕ} → SetFound Step k w states table N start y t
    → SetFound Other k w states table N start y t
found_alike same begins = begins
found_alike same (onward {s = s} {a = a} {t = t} f h l b d i m) = onward (found_alike same f) h l b d i (same s a t b m)

-- What is found is a place below 64.
pub found_below : {Step : ℕ → ℕ → ℕ → Type 0} {k states : ℕ} {table : Table} {N start y t : ℕ}
    → SetFound Step k 1 states table N start y t → t < 64 * 1
found_below begins = omega arith
found_below (onward f h l b d i m) = i

-- The search went by copied words.
pub places-searched : {follow enter : List ℕ} (images : List ℕ) {accepting labels : ℕ} {table : Table} {N start places : ℕ}
    {before cleared after : List ℕ} → PlaceCount follow places → PlacesSearchable enter labels N start before
    → ((a : ℕ) → a < labels → slice_index images a ≡ slice_index enter a) → Cleared N before cleared → length after ≡ length before
    → SetAllFound 1 (PlaceStep follow images) labels places table N start cleared after
    → PlacesSearched follow enter accepting labels table N start before after
places-searched {follow} {enter} images {labels = labels} {places = places} c fit copied d long all = record {
  places = places;
  count = c;
  sound = λ f y t h l m. (t, found_alike there (all.sound y t h l m), (λ i. i, λ i. i));
  complete = λ f sorted y t m. (t, found_below m, all.complete sorted y t (found_alike back m), (λ i. i, λ i. i));
  beyond = λ f. all.beyond ∙ places-beyond c fit d;
  same_length = long;
}
  where
    there : (s a t : ℕ) → a < labels → PlaceStep follow images s a t → PlaceStep follow enter s a t
    there s a t b (n, e) = (n, subst (Member t) (copied a b) e)

    back : (s a t : ℕ) → a < labels → PlaceStep follow enter s a t → PlaceStep follow images s a t
    back s a t b (n, e) = (n, subst (Member t) (sym (copied a b)) e)

-- The places can be counted in any case.
count-places : (follow : List ℕ) → (n : ℕ) × PlaceCount follow n
count-places follow = go (dec_le (length follow) 64)
  where
    go : Dec (length follow ≤ 64) → (n : ℕ) × PlaceCount follow n
    go (yes h) = (length follow, record { most = h; fits = omega arith; all = λ p l b. l })
    go (no h) = (64, record { most = omega arith; fits = omega arith; all = λ p l b. b })

pub places-unsearched : {follow enter : List ℕ} {accepting labels : ℕ} {table : Table} {N start : ℕ} {before : List ℕ}
    → ¬ PlacesSearchable enter labels N start before → PlacesSearched follow enter accepting labels table N start before before
places-unsearched {follow} n =
    let (places, c) = count-places follow in
    record {
      places = places;
      count = c;
      sound = λ f. absurd (n f);
      complete = λ f. absurd (n f);
      beyond = λ f. absurd (n f);
      same_length = refl;
    }
