-- Find on the tables of a job, from what is explored to what is merged: the lent table and flags are those of a complete table, and what
-- merging leaves of them is what Find gives.
use Rattle.std.specs.Prelude.{◌≡◌, ℕ, ◌+◌, ◌*◌, ◌<◌, ◌≤◌, List, [], length, nat_eq, slice_index, Result, Ok, Err}
use Rattle.std.proofs.Math.Path.{refl, sym, ap, subst}
use Rattle.std.proofs.Common.{◌∙◌, arith}
use Rattle.std.proofs.Math.ListN.{get_or-eq_default}
use Rattle.theory.specs.Automaton.{Automaton}
use Rattle.theory.specs.Deterministic.{Agree}
use Rattle.theory.specs.Minimized.{minimized}
use Rattle.theory.proofs.MinimizedLaws.{minimized-agrees}
use Rattle.reading.specs.declared.answer.Refused.{Refused}
use Rattle.reading.specs.Answering.{unlined}
use Rattle.finding.specs.declared.answer.Found.{Found as Told}
use Rattle.finding.specs.WordTold.{first_word}
use Rattle.finding.specs.Find.{Rewriting, Found, found, refused, deterministic, table_of, flags_of, merged, merged_found, explore_automata, find_automata}
use Rattle.finding.specs.FoundSizes.{explored-few}
use Rattle.finding.specs.Named.{table_part, flags_part, written}
use Rattle.finding.specs.WrittenLaws.{written-within, written-length, written-again}
use Rattle.finding.specs.Tabled.{Tabled, explored-tabled}
use Rattle.finding.specs.TableLent.{TableLent, rows-complete}
use Rattle.finding.specs.TableOfLaws.{table-agree, flags-agree}
use Rattle.finding.specs.MergeTold.{MergeTold}
use Rattle.finding.specs.ListRows.{job_tables}
use Rattle.finding.specs.Outcome.{Leaving, left, left_by, counted, found_answer}
use Rattle.finding.specs.StatesPart.{clash, Holding, Room}
use Rattle.finding.specs.CoreTold.{HoldsJob, UnmergedTold, CoreTold}

-- The buffers, with a table and its flags written into them.
module _ {lists : ℕ} {R : Rewriting} (t : Tabled lists R) (few : R.states ≤ 256) (table flags : List ℕ) where
  lent-next : (s v : ℕ) → s < R.states → v < 16 → slice_index (written table_part R.table table) (16 * s + v) ≡ slice_index R.table (16 * s + v)
  lent-next s v h k = written-within table_part R.table table (16 * s + v) (omega arith)

  lent-flag : (s : ℕ) → s < R.states → slice_index (written flags_part R.flags flags) s ≡ slice_index R.flags s
  lent-flag s h = written-within flags_part R.flags flags s (omega arith)

  table-lent : lists ≤ 16 → 4096 ≤ length table → 256 ≤ length flags
      → TableLent R.states lists (written table_part R.table table) (written flags_part R.flags flags)
  table-lent wide room marks =
      record {
        rows = record {
          some = t.some;
          most = few;
          few = wide;
          room = omega (arith, written-length table_part R.table table (omega (arith, t.rows)) room);
          next = λ s v h k. rw (lent-next s v h (omega arith)) (t.next s v h k);
        };
        flags-room = omega (arith, written-length flags_part R.flags flags (omega (arith, t.flag-count)) marks);
        flag = λ s h. rw (lent-flag s h) (t.flag-value s h);
        unused = λ s v h k l. lent-next s v h l ∙ t.unused s v h k l;
        behind = λ i h k.
            written-within table_part R.table table i k ∙ get_or-eq_default R.table 0 {n = i} (omega (arith, t.rows));
        flags-behind = λ i h k.
            written-within flags_part R.flags flags i k ∙ get_or-eq_default R.flags 0 {n = i} (omega (arith, t.flag-count));
      }

  -- Read from the buffers, the table is the same.
  lent-agrees : lists ≤ 16
      → Agree (deterministic R.states lists (written table_part R.table table) (written flags_part R.flags flags))
      (deterministic R.states lists R.table R.flags)
  lent-agrees wide =
      record {
        states = refl;
        symbols = refl;
        next = λ s v h k. lent-next s v h (omega arith);
        accepting = λ s h. ap (λ f. nat_eq f 1) (lent-flag s h);
      }

  -- What merging leaves of the buffers.
  merged-left : lists ≤ 16 → 4096 ≤ length table → 256 ≤ length flags → (m : ℕ) (table' flags' : List ℕ)
      → MergeTold (written table_part R.table table) (written flags_part R.flags flags) lists R.states table' flags' m
      → left (Ok (counted R.standings m (first_word R.first))) table' flags'
      ≡ left (found_answer (merged lists R)) (written table_part (table_of (minimized (deterministic R.states lists R.table R.flags))) table)
      (written flags_part (flags_of (minimized (deterministic R.states lists R.table R.flags))) flags)
  merged-left wide room marks m table' flags' told =
      let M = minimized (deterministic R.states lists (written table_part R.table table) (written flags_part R.flags flags)) in
      let agree = minimized-agrees (rows-complete (written flags_part R.flags flags) (table-lent wide room marks).rows) (lent-agrees wide) in
      let count = told.count ∙ agree.states in
      let next = told.next ∙ written-again table_part R.table (table_of M) table (omega (arith, t.rows))
      ∙ ap (λ x. written table_part x table) (table-agree agree) in
      let flag = told.flag ∙ written-again flags_part R.flags (flags_of M) flags (omega (arith, t.flag-count))
      ∙ ap (λ x. written flags_part x flags) (flags-agree agree) in
      λ i. left (Ok (counted R.standings (count i) (first_word R.first))) (next i) (flag i)

module _ {follow enter sizes accepting : List ℕ} {labels lists most_a most_b : ℕ} {table flags : List ℕ} {r : Result Told Refused} {table₁ flags₁ : List ℕ}
    (room : Room labels lists most_b table flags)
    (told : UnmergedTold follow enter sizes accepting labels lists most_a most_b table flags r table₁ flags₁) where
  -- Merging is lent a complete table, where states are told.
  pub found-lent : HoldsJob follow enter sizes accepting labels lists → (a : Told) → r ≡ Ok a → TableLent a.states lists table₁ flags₁
  unfolding left_by
  found-lent J a e = there (explore_automata J.query labels J.listed most_a most_b) refl
    where
      there : (f : Found) → explore_automata J.query labels J.listed most_a most_b ≡ f → TableLent a.states lists table₁ flags₁
      there (refused x) g =
          let same = told.told J.query J.listed J.holding ∙ ap (λ y. left_by y table flags) g in
          let c : Ok a ≡ Err (unlined x) = sym e ∙ ap (λ (o : Leaving). o.answer) same in
          clash (cc)
      there (found R) g =
          let same = told.told J.query J.listed J.holding ∙ ap (λ y. left_by y table flags) g in
          let c : Ok (counted R.standings R.states (first_word R.first)) ≡ Ok a = sym (ap (λ (o : Leaving). o.answer) same) ∙ e in
          let d : counted R.standings R.states (first_word R.first) ≡ a = cc in
          let k : R.states ≡ a.states = ap (λ (t : Told). t.states) d in
          let size = J.holding.size in
          let t : Tabled lists R = subst (λ n. Tabled n R) size
          (explored-tabled J.query labels J.listed most_a most_b R g (omega (arith, room.lists))) in
          let few : R.states ≤ 256 = omega (arith, explored-few J.query labels J.listed most_a most_b R g, room.states) in
          subst (λ n. TableLent n lists table₁ flags₁) k
          (subst (TableLent R.states lists table₁) (sym (ap (λ (o : Leaving). o.flags) same))
          (subst (λ x. TableLent R.states lists x (written flags_part R.flags flags)) (sym (ap (λ (o : Leaving). o.table) same))
          (table-lent t few table flags room.lists room.table room.flags)))

  -- A refusal stays as it is.
  pub core-refused : (e : Refused) → r ≡ Err e
      → CoreTold follow enter sizes accepting labels lists most_a most_b table flags (Err e) table₁ flags₁
  unfolding left_by merged_found find_automata
  core-refused e q =
      record { told = λ A Bs h. there A Bs h (explore_automata A labels Bs most_a most_b) refl }
    where
      there : (A : Automaton) (Bs : List Automaton) → Holding (job_tables [] 0 labels follow enter sizes accepting) A Bs lists
          → (f : Found) → explore_automata A labels Bs most_a most_b ≡ f
          → left (Err e) table₁ flags₁ ≡ left_by (find_automata A labels Bs most_a most_b) table flags
      there A Bs h (refused x) g =
          ap (λ y. left y table₁ flags₁) (sym q) ∙ told.told A Bs h ∙ ap (λ y. left_by y table flags) g
          ∙ ap (λ y. left_by (merged_found (length Bs) y) table flags) (sym g)
      there A Bs h (found R) g =
          let same = told.told A Bs h ∙ ap (λ y. left_by y table flags) g in
          let c : Ok (counted R.standings R.states (first_word R.first)) ≡ Err e = sym (ap (λ (o : Leaving). o.answer) same) ∙ q in
          clash (cc)

  pub core-merged : (a : Told) → r ≡ Ok a → {n : ℕ} {table' flags' : List ℕ} → MergeTold table₁ flags₁ lists a.states table' flags' n
      → CoreTold follow enter sizes accepting labels lists most_a most_b table flags (Ok (counted a.standings n a.first)) table' flags'
  unfolding left_by merged_found find_automata
  core-merged a q {n} {table'} {flags'} m =
      record { told = λ A Bs h. there A Bs h (explore_automata A labels Bs most_a most_b) refl }
    where
      there : (A : Automaton) (Bs : List Automaton) → Holding (job_tables [] 0 labels follow enter sizes accepting) A Bs lists
          → (f : Found) → explore_automata A labels Bs most_a most_b ≡ f
          → left (Ok (counted a.standings n a.first)) table' flags' ≡ left_by (find_automata A labels Bs most_a most_b) table flags
      there A Bs h (refused x) g =
          let same = told.told A Bs h ∙ ap (λ y. left_by y table flags) g in
          let c : Ok a ≡ Err (unlined x) = sym q ∙ ap (λ (o : Leaving). o.answer) same in
          clash (cc)
      there A Bs h (found R) g =
          let same = told.told A Bs h ∙ ap (λ y. left_by y table flags) g in
          let c : Ok a ≡ Ok (counted R.standings R.states (first_word R.first)) = sym q ∙ ap (λ (o : Leaving). o.answer) same in
          let d : a ≡ counted R.standings R.states (first_word R.first) = cc in
          let t : Tabled lists R = subst (λ k. Tabled k R) h.size (explored-tabled A labels Bs most_a most_b R g (omega (arith, h.size, room.lists))) in
          let few : R.states ≤ 256 = omega (arith, explored-few A labels Bs most_a most_b R g, room.states) in
          let b : MergeTold table₁ flags₁ lists R.states table' flags' n =
          subst (λ (k : Told). MergeTold table₁ flags₁ lists k.states table' flags' n) d m in
          let c = subst (λ x. MergeTold (written table_part R.table table) x lists R.states table' flags' n)
          (ap (λ (o : Leaving). o.flags) same)
          (subst (λ x. MergeTold x flags₁ lists R.states table' flags' n) (ap (λ (o : Leaving). o.table) same) b) in
          ap (λ (k : Told). left (Ok (counted k.standings n k.first)) table' flags') d
          ∙ merged-left t few table flags room.lists room.table room.flags n table' flags' c
          ∙ ap (λ k. left_by (found (merged k R)) table flags) (sym h.size)
          ∙ ap (λ y. left_by (merged_found (length Bs) y) table flags) (sym g)
