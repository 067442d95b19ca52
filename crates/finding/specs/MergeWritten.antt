-- The rows and flags of the classes, with zeros behind them, are the smallest table's.
use Rattle.std.specs.Prelude.{◌≡◌, ℕ, ◌+◌, ◌-◌, ◌*◌, ◌/◌, ◌%◌, ◌<◌, ◌≤◌, ◌⊎◌, List, length, ◌==◌, slice_index}
use Rattle.std.proofs.Common.{inl, inr, sym, subst, ◌∙◌, arith, get_or-take}
use Rattle.std.proofs.Math.Path.{refl, ap}
use Rattle.std.proofs.Math.Decide.{dec_lt}
use Rattle.std.proofs.Math.ListN.{get_or-eq_default}
use Rattle.theory.specs.Deterministic.{Deterministic}
use Rattle.theory.specs.Leaders.{Led, led-agree, leaders, leaders-agree, leaders-at-most}
use Rattle.theory.specs.Quotient.{quotient}
use Rattle.theory.specs.Refinement.{class_at, classes as classes_of}
use Rattle.theory.proofs.RefinementLaws.{classes-led}
use Rattle.theory.specs.Minimized.{class_number, first_member, merged, minimized}
use Rattle.theory.proofs.MinimizedLaws.{numbers-named, number-agree, first-member-agree}
use Rattle.finding.specs.Find.{flag, deterministic, table_of, flags_of}
use Rattle.finding.specs.Named.{table_part, flags_part, written}
use Rattle.finding.specs.TableOfLaws.{table-length, table-next, table-unused, flags-length, flag_at}
use Rattle.finding.specs.WrittenLaws.{written-only}
use Rattle.finding.specs.ClearedLaws.{cleared_part, part_length, part-before, part-cleared, part-behind}
use Rattle.finding.specs.TableLent.{TableLent}
use Rattle.finding.specs.ClassesTold.{Refined}
use Rattle.finding.specs.MergeTold.{ClassesPut, MergeTold}

flag-byte : (x : ℕ) → (x ≡ 0) ⊎ (x ≡ 1) → flag (x == 1) ≡ x
unfolding flag
flag-byte x (inl e) = rw e
flag-byte x (inr e) = rw e

-- The smallest table by classes that are refined.
module _ {table flags : List ℕ} {lists states : ℕ} {classes : List ℕ} (R : Refined table flags lists states classes) where
  abbrev D : Deterministic
  D = deterministic states lists table flags

  abbrev c : ℕ → ℕ
  c = class_at classes

  same : (q : ℕ) → q < states → class_at (classes_of D) q ≡ c q
  same q h = ap (λ l. slice_index l q) (sym R.classed) ∙ get_or-take states classes q 0 h

  pub refined-led : Led states (class_at classes)
  refined-led = led-agree (classes-led D) same

  merged-symbols : (minimized D).symbols ≡ lists
  unfolding minimized merged quotient
  merged-symbols = refl

  merged-states : (minimized D).states ≡ leaders c states
  unfolding minimized merged quotient
  merged-states = leaders-agree (class_at (classes_of D)) c states same

  module _ (T : TableLent states lists table flags) (k : ℕ) (h : k < leaders c states) where
    first-state : first_member c states k < states
    first-state = (numbers-named refined-led).state k h

    merged-next : (v : ℕ) → v < lists → (minimized D).next k v ≡ class_number c (slice_index table (16 * first_member c states k + v))
    unfolding minimized merged quotient
    merged-next v l =
        ap (λ q. class_number (class_at (classes_of D)) (slice_index table (16 * q + v))) (first-member-agree (classes-led D) same k)
        ∙ number-agree (classes-led D) same (slice_index table (16 * first_member c states k + v))
        (T.rows.next (first_member c states k) v first-state l)

    merged-flag : flag ((minimized D).accepting k) ≡ slice_index flags (first_member c states k)
    unfolding minimized merged quotient
    merged-flag =
        ap (λ q. flag (slice_index flags q == 1)) (first-member-agree (classes-led D) same k)
        ∙ flag-byte (slice_index flags (first_member c states k)) (T.flag (first_member c states k) first-state)

module _ {table flags : List ℕ} {lists states : ℕ} {classes : List ℕ} (T : TableLent states lists table flags)
    (R : Refined table flags lists states classes) {table' flags' : List ℕ} (P : ClassesPut table flags lists states classes table' flags')
    {count : ℕ} (e : count ≡ leaders (class_at classes) states) where
  abbrev M : Deterministic
  M = minimized (deterministic states lists table flags)

  most : count ≤ states
  most = omega (arith, leaders-at-most (class_at classes) states)

  count-is : M.states ≡ count
  count-is = merged-states R ∙ sym e

  table-behind : (i : ℕ) → 16 * count ≤ i → slice_index (table_of M) i ≡ 0
  table-behind i h = get_or-eq_default (table_of M) 0 {n = i} (omega (arith, table-length M, count-is))

  table-row : (k v : ℕ) → k < count → v < 16 → Dec (v < lists) → slice_index table' (16 * k + v) ≡ slice_index (table_of M) (16 * k + v)
  table-row k v h l (yes m) =
      P.next k v (omega arith) m
      ∙ sym (merged-next R T k (omega arith) v m)
      ∙ sym (table-next M k v (omega (arith, count-is)) (omega (arith, merged-symbols R)) (omega (arith, merged-symbols R, T.rows.few)))
  table-row k v h l (no m) =
      P.unused (16 * k + v) (omega arith)
      ∙ T.unused k v (omega (arith, most)) (omega arith) l
      ∙ sym (table-unused M k v (omega (arith, count-is)) (omega (arith, merged-symbols R)) l)

  table-room : 16 * count + 16 * (states - count) ≤ length table'
  table-room = omega (arith, most, P.table-sized, T.rows.room, T.rows.most)

  abbrev table'' : List ℕ
  table'' = cleared_part (16 * count) (16 * (states - count)) table'

  table_at : (i : ℕ) → i < 4096 → Dec (i < 16 * count) → Dec (i < 16 * states) → slice_index table'' i ≡ slice_index (table_of M) i
  table_at i h (yes a) b =
      let split : 16 * (i / 16) + i % 16 ≡ i = omega arith in
      part-before (16 * count) (16 * (states - count)) table' table-room i a
      ∙ subst (λ j. slice_index table' j ≡ slice_index (table_of M) j) split
      (table-row (i / 16) (i % 16) (omega arith) (omega arith) (dec_lt (i % 16) lists))
  table_at i h (no a) (yes b) =
      part-cleared (16 * count) (16 * (states - count)) table' table-room i (omega arith) (omega (arith, most))
      ∙ sym (table-behind i (omega arith))
  table_at i h (no a) (no b) =
      part-behind (16 * count) (16 * (states - count)) table' table-room i (omega (arith, most))
      ∙ P.behind i (omega arith)
      ∙ T.behind i (omega arith) h
      ∙ sym (table-behind i (omega arith))

  table-left : table'' ≡ written table_part (table_of M) table
  table-left =
      written-only table_part (table_of M) table table'' (omega (arith, table-length M, count-is, most, T.rows.most)) T.rows.room
      (part_length (16 * count) (16 * (states - count)) table' table-room ∙ P.table-sized)
      (λ i h. table_at i h (dec_lt i (16 * count)) (dec_lt i (16 * states)))
      (λ i h.
      part-behind (16 * count) (16 * (states - count)) table' table-room i (omega (arith, most, T.rows.most))
      ∙ P.behind i (omega (arith, T.rows.most)))

  flags-beyond : (i : ℕ) → count ≤ i → slice_index (flags_of M) i ≡ 0
  flags-beyond i h = get_or-eq_default (flags_of M) 0 {n = i} (omega (arith, flags-length M, count-is))

  flags-room : count + (states - count) ≤ length flags'
  flags-room = omega (arith, most, P.flags-sized, T.flags-room, T.rows.most)

  abbrev flags'' : List ℕ
  flags'' = cleared_part count (states - count) flags'

  flags-at : (i : ℕ) → i < 256 → Dec (i < count) → Dec (i < states) → slice_index flags'' i ≡ slice_index (flags_of M) i
  flags-at i h (yes a) b =
      part-before count (states - count) flags' flags-room i a
      ∙ P.flag i (omega arith)
      ∙ sym (merged-flag R T i (omega arith))
      ∙ sym (flag_at M i (omega (arith, count-is)))
  flags-at i h (no a) (yes b) =
      part-cleared count (states - count) flags' flags-room i (omega arith) (omega (arith, most)) ∙ sym (flags-beyond i (omega arith))
  flags-at i h (no a) (no b) =
      part-behind count (states - count) flags' flags-room i (omega (arith, most))
      ∙ P.flags-behind i (omega arith)
      ∙ T.flags-behind i (omega arith) h
      ∙ sym (flags-beyond i (omega arith))

  flags-left : flags'' ≡ written flags_part (flags_of M) flags
  flags-left =
      written-only flags_part (flags_of M) flags flags'' (omega (arith, flags-length M, count-is, most, T.rows.most)) T.flags-room
      (part_length count (states - count) flags' flags-room ∙ P.flags-sized) (λ i h. flags-at i h (dec_lt i count) (dec_lt i states))
      (λ i h.
      part-behind count (states - count) flags' flags-room i (omega (arith, most, T.rows.most))
      ∙ P.flags-behind i (omega (arith, T.rows.most)))

  pub merge-told : MergeTold table flags lists states (cleared_part (16 * count) (16 * (states - count)) table')
      (cleared_part count (states - count) flags') count
  merge-told = record { count = sym count-is; next = table-left; flag = flags-left }
