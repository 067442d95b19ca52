-- The classes are numbered, and the rows and flags of their first states put in place, one state after the other.
use Rattle.std.specs.Prelude.{◌≡◌, ℕ, suc, ◌+◌, ◌*◌, ◌<◌, ◌≤◌, List, length, slice_index, slice_index_or, slice_set}
use Rattle.std.specs.Prelude.{refl}
use Rattle.std.proofs.Common.{sym, ◌∙◌, add-one, arith, get_or-set_same, get_or-set_other}
use Rattle.std.proofs.Math.Path.{ap}
use Rattle.std.proofs.Math.Decide.{ℕ_discrete, dec_lt}
use Rattle.std.proofs.Math.ListN.{length-set}
use Rattle.theory.specs.Leaders.{Led, led-below, leaders, leaders-one, leaders-none, leaders-at-most}
use Rattle.theory.specs.Refinement.{class_at}
use Rattle.theory.specs.Minimized.{class_number, first_member}
use Rattle.theory.proofs.MinimizedLaws.{first-of-leader, first-member-kept}
use Rattle.finding.specs.TableLent.{RowLent, TableLent}
use Rattle.finding.specs.MergeTold.{ClassNumbers, RowPut, ClassesPut}

-- The numbers of classes.

pub numbers-none : (classes numbers : List ℕ) → length numbers ≡ 256 → ClassNumbers classes 0 numbers 0
unfolding leaders
numbers-none classes numbers e = record { sized = e; count = refl; at = λ s h. absurd (omega arith) }

module _ {classes : List ℕ} {s : ℕ} {numbers : List ℕ} {r : ℕ} (N : ClassNumbers classes s numbers r) (room : s < 256) where
  number_put : (n : ℕ) → n ≡ class_number (class_at classes) s → (q : ℕ) → q < s + 1
      → slice_index (slice_set numbers s n) q ≡ class_number (class_at classes) q
  number_put n e q h = go (ℕ_discrete q s)
    where
      go : Dec (q ≡ s) → slice_index (slice_set numbers s n) q ≡ class_number (class_at classes) q
      go (yes f) = rw f (get_or-set_same numbers s n 0 (omega (arith, N.sized)) ∙ e)
      go (no f) = get_or-set_other numbers s q n 0 f ∙ N.at q (omega arith)

  -- A new class begins with s.
  pub numbers-first : class_at classes s ≡ s → ClassNumbers classes (s + 1) (slice_set numbers s r) (r + 1)
  unfolding class_number
  numbers-first e =
      record {
        sized = length-set numbers s r ∙ N.sized;
        count = rw (add-one s, leaders-one (class_at classes) s e) (omega (arith, N.count));
        at = number_put r (N.count ∙ ap (leaders (class_at classes)) (sym e));
      }

  -- The class of s begins before it.
  pub numbers-later : {states : ℕ} → Led states (class_at classes) → s < states → ¬ (class_at classes s ≡ s)
      → ClassNumbers classes (s + 1) (slice_set numbers s (slice_index numbers (class_at classes s))) r
  unfolding class_number
  numbers-later L h e =
      let first = class_at classes s in
      let before : first < s = omega (arith, L.at_most s h) in
      record {
        sized = length-set numbers s (slice_index numbers first) ∙ N.sized;
        count = rw (add-one s, leaders-none (class_at classes) s e) N.count;
        at = number_put (slice_index numbers first) (N.at first before ∙ ap (leaders (class_at classes)) (L.leads s h));
      }

-- The row k gets one entry after the other.
module _ {table : List ℕ} {v : ℕ} {numbers : List ℕ} {s k : ℕ} {table' : List ℕ} (P : RowPut table v numbers s k table')
    (h : k ≤ s) where
  -- What is read for the next entry is as it was, since s stands no earlier than k.
  pub row-ahead : slice_index_or table' (16 * s + v) 0 ≡ slice_index table (16 * s + v)
  row-ahead = P.elsewhere (16 * s + v) (λ u l e. omega arith)

  pub row_more : (n : ℕ) → n ≡ slice_index numbers (slice_index table' (16 * s + v)) → 16 * k + v < length table
      → RowPut table (v + 1) numbers s k (slice_set table' (16 * k + v) n)
  row_more n e room =
      record {
        sized = length-set table' (16 * k + v) n ∙ P.sized;
        put = λ u l. put u l (ℕ_discrete u v);
        elsewhere = λ i l.
            get_or-set_other table' (16 * k + v) i n 0 (l v (omega arith)) ∙ P.elsewhere i (λ u m. l u (omega arith));
      }
    where
      put : (u : ℕ) → u < v + 1 → Dec (u ≡ v)
          → slice_index (slice_set table' (16 * k + v) n) (16 * k + u) ≡ slice_index numbers (slice_index table (16 * s + u))
      put u l (yes f) =
          rw f
          (get_or-set_same table' (16 * k + v) n 0 (omega (arith, P.sized))
          ∙ e
          ∙ ap (λ t. slice_index numbers t) row-ahead)
      put u l (no f) = get_or-set_other table' (16 * k + v) (16 * k + u) n 0 (λ g. f (omega arith)) ∙ P.put u (omega arith)

-- The classes get the rows and flags of their first states, one state after the other.

pub classes-none : (table flags : List ℕ) (lists : ℕ) (classes : List ℕ) → ClassesPut table flags lists 0 classes table flags
unfolding leaders
classes-none table flags lists classes =
    record {
      table-sized = refl;
      flags-sized = refl;
      next = λ k v h l. absurd (omega arith);
      flag = λ k h. absurd (omega arith);
      unused = λ i h. refl;
      behind = λ i h. refl;
      flags-behind = λ i h. refl;
    }

module _ {table flags : List ℕ} {lists states : ℕ} {classes : List ℕ} (T : TableLent states lists table flags)
    (L : Led states (class_at classes)) {s : ℕ} {table' flags' : List ℕ} (P : ClassesPut table flags lists s classes table' flags')
    (h : s < states) where
  abbrev c : ℕ → ℕ
  c = class_at classes

  -- The row of s is as it was.
  pub row-waits : RowLent lists table' s
  row-waits =
      record {
        few = T.rows.few;
        state = omega (arith, T.rows.most);
        room = omega (arith, P.table-sized, T.rows.room);
        next = λ v l. omega (arith, P.behind (16 * s + v) (omega arith), T.rows.next s v h l, T.rows.most);
      }

  -- The classes that begin before s keep their first states.
  kept : (k : ℕ) → k < leaders c s → first_member c s k ≡ first_member c (suc s) k
  kept k l = sym (first-member-kept (led-below L s (omega arith)) (suc s) k (omega arith) l)

  next-kept : (k v : ℕ) → k < leaders c s → v < lists
      → slice_index table' (16 * k + v) ≡ class_number c (slice_index table (16 * first_member c (suc s) k + v))
  next-kept k v l m = P.next k v l m ∙ ap (λ q. class_number c (slice_index table (16 * q + v))) (kept k l)

  flag-kept : (k : ℕ) → k < leaders c s → slice_index flags' k ≡ slice_index flags (first_member c (suc s) k)
  flag-kept k l = P.flag k l ∙ ap (λ q. slice_index flags q) (kept k l)

  -- The class of s is one of them.
  pub classes-later : ¬ (class_at classes s ≡ s) → ClassesPut table flags lists (s + 1) classes table' flags'
  classes-later e =
      rw (add-one s)
      record {
        table-sized = P.table-sized;
        flags-sized = P.flags-sized;
        next = λ k v l. next-kept k v (omega (arith, leaders-none c s e));
        flag = λ k l. flag-kept k (omega (arith, leaders-none c s e));
        unused = P.unused;
        behind = λ i l. P.behind i (omega arith);
        flags-behind = λ i l. P.flags-behind i (omega arith);
      }

  -- A new class begins with s; its number is k.
  module _ {numbers : List ℕ} (N : (q : ℕ) → q < states → slice_index numbers q ≡ class_number (class_at classes) q) (e : class_at classes s ≡ s)
      {k : ℕ} (n : k ≡ leaders (class_at classes) s) {table'' : List ℕ} (R : RowPut table' lists numbers s k table'') where
    begins : first_member c (suc s) k ≡ s
    unfolding class_number
    begins = ap (first_member c (suc s)) (n ∙ ap (leaders c) (sym e)) ∙ first-of-leader (led-below L (suc s) (omega arith)) s (omega arith) e

    at_most : k ≤ s
    at_most = omega (arith, leaders-at-most c s)

    next-put : (j v : ℕ) → j < leaders c (suc s) → v < lists → Dec (j < k)
        → slice_index table'' (16 * j + v) ≡ class_number c (slice_index table (16 * first_member c (suc s) j + v))
    next-put j v l m (yes b) = R.elsewhere (16 * j + v) (λ u i f. omega (arith, T.rows.few)) ∙ next-kept j v (omega arith) m
    next-put j v l m (no b) =
        let f : j ≡ k = omega (arith, leaders-one c s e) in
        rw f
        (R.put v m
        ∙ ap (λ q. slice_index numbers q) (P.behind (16 * s + v) (omega arith))
        ∙ N (slice_index table (16 * s + v)) (T.rows.next s v h m)
        ∙ ap (λ q. class_number c (slice_index table (16 * q + v))) (sym begins))

    flag-put : (j : ℕ) → j < leaders c (suc s) → Dec (j < k)
        → slice_index (slice_set flags' k (slice_index flags' s)) j ≡ slice_index flags (first_member c (suc s) j)
    flag-put j l (yes b) = get_or-set_other flags' k j (slice_index flags' s) 0 (λ f. omega arith) ∙ flag-kept j (omega arith)
    flag-put j l (no b) =
        let f : j ≡ k = omega (arith, leaders-one c s e) in
        rw f
        (get_or-set_same flags' k (slice_index flags' s) 0 (omega (arith, P.flags-sized, T.flags-room, T.rows.most, at_most))
        ∙ P.flags-behind s (omega arith)
        ∙ ap (λ q. slice_index flags q) (sym begins))

    pub classes-first : ClassesPut table flags lists (s + 1) classes table'' (slice_set flags' k (slice_index flags' s))
    classes-first =
        rw (add-one s)
        record {
          table-sized = R.sized ∙ P.table-sized;
          flags-sized = length-set flags' k (slice_index flags' s) ∙ P.flags-sized;
          next = λ j v l m. next-put j v l m (dec_lt j k);
          flag = λ j l. flag-put j l (dec_lt j k);
          unused = λ i l. R.elsewhere i (λ v m f. omega (arith, T.rows.few)) ∙ P.unused i l;
          behind = λ i l. R.elsewhere i (λ v m f. omega (arith, T.rows.few, at_most)) ∙ P.behind i (omega arith);
          flags-behind = λ i l.
              get_or-set_other flags' k i (slice_index flags' s) 0 (λ f. omega (arith, at_most)) ∙ P.flags-behind i (omega arith);
        }
