-- What a loop holds that explores a system of numbers (theory, Exploration): the numbers found, and the table of where each symbol leads
-- (MoveTable). The entries of the exploration have trails besides: what a loop keeps of them is said by a predicate on the entries. What is
-- left gives what the whole gives.
use Rattle.std.specs.Prelude.{◌≡◌, ℕ, suc, ◌+◌, ◌-◌, ◌*◌, ◌<◌, ◌≤◌, true, false, List, [], ◌∷◌, ◌++◌, length, take, ◌≢◌, slice_index, slice_index_or, slice_set, Option, Some, None}
use Rattle.std.proofs.Math.Option.{some}
use Rattle.std.proofs.Math.Path.{refl, sym, ap, subst}
use Rattle.std.proofs.Common.{◌∙◌, add-zero, add-one, take-suc-set, get_or-take, eq-eqb, ne_eqb, eqb}
use Rattle.std.proofs.Math.Decide.{ℕ_discrete}
use Rattle.std.proofs.Math.Nat.{sub-zero, sub_self, mul-suc, mul-le-mul_left}
use native.Mathlib.Omega.{arith}
use Rattle.std.proofs.Math.ListN.{length-append, get_or-append}
use Rattle.std.proofs.Math.Seq.{length-take-le}
use Rattle.theory.specs.Exploration.{System, Entry, Exploration, all, over, known, grow, extend, row, sweep, explore}
use Rattle.theory.specs.Explored.{entry_at}
use Rattle.theory.proofs.ExplorationSteps.{grow-known, grow-new, grow-over, extend-some, row-end, row_on, row-over}
use Rattle.theory.proofs.ExplorationSteps.{sweep-end, sweep-on, sweep-over, explore-some}
use Rattle.finding.specs.Numbers.{length-values, get_or-values, values-append}
use Rattle.finding.specs.Standings.{values, place_from, place_of}
use Rattle.finding.specs.PlaceOfLaws.{place-first, place-later, place-new}
use Rattle.finding.specs.MoveTable.{Tabled, leads_to, row_within, tabled-none, tabled-grow, tabled-more, tabled-row}

-- What is explored: where a symbol leads from a number, the start, how many symbols there are, how many numbers at most, and how wide the
-- rows of the table are.
pub record Task : Type 0 where
  pub next : ℕ → ℕ → ℕ
  pub start : ℕ
  pub symbols : ℕ
  pub limit : ℕ
  pub width : ℕ

abbrev pub system : Task → System ℕ
system T = record { same = eqb; start = T.start; step = λ v a. some (T.next v a); symbols = T.symbols }

abbrev pub explored : Task → Exploration ℕ
explored T = explore (system T) T.limit

-- The first n numbers of `found` are those of the entries so far, of which `Beside` holds; the table is right before `done`; and what is
-- left, `rest`, tells `whole`.
pub record Explores (T : Task) (Beside : List (Entry ℕ) → Type 0) (rest : List (Entry ℕ) → Exploration ℕ) (whole : Exploration ℕ)
    (done n : ℕ) (found table : List ℕ) : Type 0 where
  pub entries : List (Entry ℕ)
  pub held : values entries ≡ take n found
  pub left : rest entries ≡ whole
  pub tabled : Tabled T.next T.width T.symbols done (take n found) table
  pub beside : Beside entries

-- In the row of entry i, with the symbol a next; and in the sweep, with the row of entry i next.
abbrev pub RowLeft : Task → (List (Entry ℕ) → Type 0) → Exploration ℕ → ℕ → ℕ → ℕ → List ℕ → List ℕ → Type 0
RowLeft T Beside whole i a n found table =
    Explores T Beside (λ l. row (system T) T.limit (entry_at (system T) l i) (T.symbols - a) a l) whole (T.width * i + a) n found table

abbrev pub SweepLeft : Task → (List (Entry ℕ) → Type 0) → ℕ → ℕ → List ℕ → List ℕ → Type 0
SweepLeft T Beside i n found table =
    Explores T Beside (λ l. sweep (system T) T.limit (T.limit - i) i l) (explored T) (T.width * i) n found table

-- By what was told: more than the limit, or what holds of the count.
abbrev pub Outcome : Exploration ℕ → Option ℕ → (ℕ → Type 0) → Type 0
Outcome whole (Some n) holds = holds n
Outcome whole None holds = whole ≡ over

pub outcome-all : (whole : Exploration ℕ) {r : Option ℕ} {m : ℕ} (holds : ℕ → Type 0) → r ≡ Some m → Outcome whole r holds → holds m
outcome-all whole holds q o = subst (λ r. Outcome whole r holds) q o

pub outcome-over : (whole : Exploration ℕ) {r : Option ℕ} (holds : ℕ → Type 0) → r ≡ None → Outcome whole r holds → whole ≡ over
outcome-over whole holds q o = subst (λ r. Outcome whole r holds) q o

-- From the symbol a to the symbol b of the row of entry i.
abbrev pub Turns : Task → (List (Entry ℕ) → Type 0) → (List (Entry ℕ) → Type 0) → ℕ → ℕ → ℕ → ℕ → List ℕ → List ℕ → Option ℕ → List ℕ → List ℕ
    → Type 0
Turns T Beside Beside' i a b n found table r found' table' =
    (whole : Exploration ℕ) → RowLeft T Beside whole i a n found table → Outcome whole r (λ m. RowLeft T Beside' whole i b m found' table')

-- The entry of x, which the symbol a leads to from entry i.
abbrev pub entry_of : Task → List (Entry ℕ) → ℕ → ℕ → ℕ → Entry ℕ
entry_of T l i a x = record { value = x; trail = a ∷ (entry_at (system T) l i).trail }

held-count : (n : ℕ) (found : List ℕ) (l : List (Entry ℕ)) → values l ≡ take n found → n ≤ length found → length l ≡ n
held-count n found l h fits = sym (length-values l) ∙ (ap length h ∙ length-take-le n found fits)

module _ (T : Task) where
  -- A value is known exactly where its place is inside.

  known-inside : (i x : ℕ) (l : List (Entry ℕ)) → place_from i x (values l) < i + length l → known (system T) x l ≡ true
  unfolding known values place_from
  known-inside i x [] h = absurd (omega arith)
  known-inside i x (e ∷ l) h = go (ℕ_discrete e.value x) (known-inside (suc i) x l)
    where
      go : Dec (e.value ≡ x) → (place_from (suc i) x (values l) < suc i + length l → known (system T) x l ≡ true)
          → known (system T) x (e ∷ l) ≡ true
      go (yes q) ih = rw (eq-eqb x e.value (sym q), known)
      go (no q) ih = rw (ne_eqb x e.value (λ z. q (sym z)), known) (ih (omega (arith, place-later i x e.value (values l) q)))

  known-outside : (i x : ℕ) (l : List (Entry ℕ)) → place_from i x (values l) ≡ i + length l → known (system T) x l ≡ false
  unfolding known values place_from
  known-outside i x [] h = refl
  known-outside i x (e ∷ l) h = go (ℕ_discrete e.value x) (known-outside (suc i) x l)
    where
      go : Dec (e.value ≡ x) → (place_from (suc i) x (values l) ≡ suc i + length l → known (system T) x l ≡ false)
          → known (system T) x (e ∷ l) ≡ false
      go (yes q) ih = absurd (omega (arith, place-first i x e.value (values l) q))
      go (no q) ih = rw (ne_eqb x e.value (λ z. q (sym z)), known) (ih (omega (arith, place-later i x e.value (values l) q)))

  known-yes : (x : ℕ) (l : List (Entry ℕ)) → place_of x (values l) < length l → known (system T) x l ≡ true
  unfolding place_of
  known-yes x l h = known-inside 0 x l (omega arith)

  known-no : (x : ℕ) (l : List (Entry ℕ)) → place_of x (values l) ≡ length l → known (system T) x l ≡ false
  unfolding place_of
  known-no x l h = known-outside 0 x l (omega arith)

-- The step over the symbol a from entry i, in its three ways: x is the number that it leads to, p its place.
module _ {T : Task} {Beside : List (Entry ℕ) → Type 0} {whole : Exploration ℕ} (i a n x p : ℕ) {found table : List ℕ}
    (s : RowLeft T Beside whole i a n found table) (inside : i < n) (more : a < T.symbols) (fits : n ≤ length found)
    (leads : x ≡ T.next (slice_index found i) a) (place : p ≡ place_of x (take n found)) where
  here : Entry ℕ
  here = entry_at (system T) s.entries i

  new : Entry ℕ
  new = entry_of T s.entries i a x

  count : length s.entries ≡ n
  count = held-count n found s.entries s.held fits

  at : slice_index_or (take n found) i 0 ≡ here.value
  unfolding here
  at = ap (λ l. slice_index l i) (sym s.held) ∙ get_or-values s.entries i 0 (record { value = T.start; trail = [] }) (omega (arith, count))

  target : x ≡ T.next here.value a
  target = leads ∙ ap (λ v. T.next v a) (sym (get_or-take n found i 0 inside) ∙ at)

  same_target : p ≡ leads_to T.next (take n found) i a
  same_target = place ∙ ap (λ v. place_of v (take n found)) (target ∙ ap (λ v. T.next v a) (sym at))

  place-held : place_of x (values s.entries) ≡ p
  place-held = ap (place_of x) s.held ∙ sym place

  extended : extend (system T) T.limit here a s.entries ≡ grow (system T) T.limit new s.entries
  unfolding here new
  extended =
      extend-some (system T) T.limit here a s.entries (T.next here.value a) refl
      ∙ ap (λ v. grow (system T) T.limit (record { value = v; trail = a ∷ here.trail }) s.entries) (sym target)

  -- What is left of the row, its next symbol apart.
  row-whole : row (system T) T.limit here (suc (T.symbols - suc a)) a s.entries ≡ whole
  unfolding here
  row-whole = let q : suc (T.symbols - suc a) ≡ T.symbols - a = omega arith in rw q s.left

  row_next : (l : List (Entry ℕ)) → grow (system T) T.limit new s.entries ≡ all l → entry_at (system T) l i ≡ here
      → row (system T) T.limit (entry_at (system T) l i) (T.symbols - suc a) (suc a) l ≡ whole
  row_next l g e =
      ap (λ h. row (system T) T.limit h (T.symbols - suc a) (suc a) l) e
      ∙ sym (row_on (system T) T.limit here (T.symbols - suc a) a s.entries l (extended ∙ g))
      ∙ row-whole

  -- The number is known.
  pub explores-known : {Beside' : List (Entry ℕ) → Type 0} → T.symbols ≤ T.width → T.width * i + a < length table → p < n
      → ((l : List (Entry ℕ)) → length l ≡ n → Beside l → Beside' l)
      → RowLeft T Beside' whole i (suc a) n found (slice_set table (T.width * i + a) p)
  unfolding here new
  explores-known wide room l keep =
      record {
        entries = s.entries;
        held = s.held;
        left =
            row_next s.entries
            (grow-known (system T) T.limit new s.entries (known-yes T x s.entries (omega (arith, place-held, count)))) refl;
        tabled =
            subst (λ q. Tabled T.next T.width T.symbols (T.width * i + suc a) (take n found) (slice_set table (T.width * i + a) q))
            (sym same_target) (tabled-more i a more wide room (omega (arith, same_target, length-take-le n found fits)) s.tabled);
        beside = keep s.entries count s.beside;
      }

  fresh : p ≡ n → known (system T) x s.entries ≡ false
  fresh l = known-no T x s.entries (place-held ∙ l ∙ sym count)

  -- It is new, and there is room for it.
  pub explores-new : {Beside' : List (Entry ℕ) → Type 0} → T.symbols ≤ T.width → T.width * i + a < length table → p ≡ n → n < T.limit
      → n < length found → ((l : List (Entry ℕ)) → length l ≡ n → Beside l → Beside' (l ++ (entry_of T l i a x ∷ [])))
      → RowLeft T Beside' whole i (suc a) (suc n) (slice_set found n x) (slice_set table (T.width * i + a) p)
  unfolding here new values
  explores-new wide room l below space keep =
      record {
        entries = s.entries ++ (new ∷ []);
        held = values-append s.entries (new ∷ []) ∙ ap (λ v. v ++ (x ∷ [])) s.held ∙ sym (take-suc-set found n x space);
        left =
            row_next (s.entries ++ (new ∷ [])) (grow-new (system T) T.limit new s.entries (fresh l) (omega (arith, count)))
            (get_or-append s.entries (new ∷ []) _ i (omega (arith, count)));
        tabled =
            subst (λ v. Tabled T.next T.width T.symbols (T.width * i + suc a) v (slice_set table (T.width * i + a) p))
            (sym (take-suc-set found n x space))
            (subst (λ q. Tabled T.next T.width T.symbols (T.width * i + suc a) (take n found ++ (x ∷ []))
            (slice_set table (T.width * i + a) q)) (last ∙ sym l)
            (tabled-more i a more wide room (omega (arith, last, length-append (take n found) (x ∷ []), size))
            (tabled-grow x (omega (arith, ap (λ m. T.width * m) size, mul-le-mul_left T.width inside, mul-suc T.width i)) s.tabled)));
        beside = keep s.entries count s.beside;
      }
    where
      size : length (take n found) ≡ n
      size = length-take-le n found fits

      last : leads_to T.next (take n found ++ (x ∷ [])) i a ≡ n
      last =
          ap (λ v. place_of (T.next v a) (take n found ++ (x ∷ []))) (get_or-append (take n found) (x ∷ []) 0 i (omega (arith, size)) ∙ at)
          ∙ ap (λ v. place_of v (take n found ++ (x ∷ []))) (sym target)
          ∙ place-new x (take n found) (sym place ∙ l ∙ sym size)
          ∙ size

  -- It is new, and there is no room.
  pub explores-over : p ≡ n → T.limit ≤ n → whole ≡ over
  unfolding new
  explores-over l h =
      sym row-whole
      ∙ row-over (system T) T.limit here (T.symbols - suc a) a s.entries
      (extended ∙ grow-over (system T) T.limit new s.entries (fresh l) (omega (arith, count)))

-- The start alone is found.
pub sweep-start : {T : Task} {Beside : List (Entry ℕ) → Type 0} (found table : List ℕ) → 0 < T.limit → 0 < length found
    → Beside (record { value = T.start; trail = [] } ∷ []) → SweepLeft T Beside 0 1 (slice_set found 0 T.start) table
unfolding values
sweep-start {T} found table h l b =
    record {
      entries = record { value = T.start; trail = [] } ∷ [];
      held = sym (take-suc-set found 0 T.start l);
      left = rw (sub-zero T.limit) (sym (explore-some (system T) T.limit h));
      tabled = tabled-none (take 1 (slice_set found 0 T.start)) table;
      beside = b;
    }

-- The sweep, by what the row of entry i tells.
module _ {T : Task} {Beside : List (Entry ℕ) → Type 0} (i n : ℕ) {found table : List ℕ} (s : SweepLeft T Beside i n found table)
    (inside : i < n) (within : n ≤ T.limit) (fits : n ≤ length found) where
  first-row : Exploration ℕ
  first-row = row (system T) T.limit (entry_at (system T) s.entries i) T.symbols 0 s.entries

  entered : RowLeft T Beside first-row i 0 n found table
  unfolding first-row
  entered =
      record {
        entries = s.entries;
        held = s.held;
        left = rw (sub-zero T.symbols);
        tabled = rw (add-zero (T.width * i)) s.tabled;
        beside = s.beside;
      }

  within-entries : i < length s.entries
  within-entries = omega (arith, held-count n found s.entries s.held fits)

  sweep-whole : sweep (system T) T.limit (suc (T.limit - suc i)) i s.entries ≡ explored T
  sweep-whole = let q : suc (T.limit - suc i) ≡ T.limit - i = omega arith in rw q s.left

  pub sweep-more : {Beside' : List (Entry ℕ) → Type 0} {m : ℕ} {found' table' : List ℕ} → T.symbols ≤ T.width
      → Turns T Beside Beside' i 0 T.symbols n found table (Some m) found' table' → SweepLeft T Beside' (i + 1) m found' table'
  unfolding first-row
  sweep-more wide told =
      let t = told first-row entered in
      rw (add-one i)
      (record {
        entries = t.entries;
        held = t.held;
        left =
            sym (sweep-on (system T) T.limit (T.limit - suc i) i s.entries t.entries within-entries
            (sym t.left
            ∙ ap (λ k. row (system T) T.limit (entry_at (system T) t.entries i) k T.symbols t.entries) (sub_self T.symbols)
            ∙ row-end (system T) T.limit (entry_at (system T) t.entries i) T.symbols t.entries))
            ∙ sweep-whole;
        tabled = tabled-row i wide t.tabled;
        beside = t.beside;
      })

  pub sweep-exceeds : ((whole : Exploration ℕ) → RowLeft T Beside whole i 0 n found table → whole ≡ over) → explored T ≡ over
  unfolding first-row
  sweep-exceeds told =
      sym sweep-whole
      ∙ sweep-over (system T) T.limit (T.limit - suc i) i s.entries within-entries (told first-row entered)

-- All is found: n numbers, and the table of all steps.
pub record AllFound (T : Task) (Beside : List (Entry ℕ) → Type 0) (n : ℕ) (found table : List ℕ) : Type 0 where
  pub entries : List (Entry ℕ)
  pub told : explored T ≡ all entries
  pub size : length entries ≡ n
  pub numbers : take (length entries) found ≡ values entries
  pub moved : (i a : ℕ) → i < length entries → a < T.symbols → slice_index table (T.width * i + a) ≡ leads_to T.next (values entries) i a
  pub inside : (i a : ℕ) → i < length entries → a < T.symbols → leads_to T.next (values entries) i a < length entries
  pub beside : Beside entries

pub all_found : {T : Task} {Beside : List (Entry ℕ) → Type 0} (i n : ℕ) {found table : List ℕ} → T.symbols ≤ T.width → n ≤ length found
    → n ≤ i → SweepLeft T Beside i n found table → AllFound T Beside n found table
all_found {T} i n {found} {table} wide fits h s =
    record {
      entries = s.entries;
      told = sym s.left ∙ sweep-end (system T) T.limit (T.limit - i) i s.entries (omega (arith, size));
      size = size;
      numbers = ap (λ m. take m found) size ∙ sym s.held;
      moved = λ j a l k. tabled.entry j a k (place j a l k);
      inside = λ j a l k. omega (arith, tabled.inside j a k (place j a l k), length-values s.entries);
      beside = s.beside;
    }
  where
    size : length s.entries ≡ n
    size = held-count n found s.entries s.held fits

    tabled : Tabled T.next T.width T.symbols (T.width * i) (values s.entries) table
    tabled = subst (λ v. Tabled T.next T.width T.symbols (T.width * i) v table) (sym s.held) s.tabled

    place : (j a : ℕ) → j < length s.entries → a < T.symbols → T.width * j + a < T.width * i
    place j a l k = omega (arith, row_within T.width j i (omega (arith, size)))

-- What was told is one.

pub entries-same : (o : Exploration ℕ) (l m : List (Entry ℕ)) → o ≡ all l → o ≡ all m → l ≡ m
entries-same o l m p q = cc

pub not-both : (o : Exploration ℕ) (l : List (Entry ℕ)) → o ≡ all l → o ≢ over
not-both o l p q = let z : ◌≡◌ {A = ℕ} 0 1 = cc in omega arith

pub not-all : (n : ℕ) → Some n ≢ None
not-all n p = let z : ◌≡◌ {A = ℕ} 0 1 = cc in omega arith
