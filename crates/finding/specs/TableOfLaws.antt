-- A deterministic table written as Find's table and flags: what stands where, and that tables which agree are written alike.
use Rattle.std.specs.Prelude.{◌≡◌, ℕ, ◌+◌, ◌*◌, ◌/◌, ◌%◌, ◌<◌, ◌≤◌, length, slice_index}
use Rattle.std.specs.Prelude.{refl}
use Rattle.std.proofs.Common.{sym, ◌∙◌, lt-ltb, le-ltb}
use Rattle.std.proofs.Math.Path.{ap, ap₂}
use Rattle.std.proofs.Math.Decide.{dec_lt}
use native.Mathlib.Omega.{arith}
use Rattle.std.proofs.Math.ListN.{get_or-eq_default}
use Rattle.theory.specs.Path.{Below, nothing, next}
use Rattle.theory.specs.Word.{Word}
use Rattle.theory.specs.Deterministic.{Deterministic, run, Complete, Agree}
use Rattle.theory.specs.NumberLists.{tabulate, tabulate-length, tabulate-at, tabulate-same}
use Rattle.finding.specs.Find.{row_width, flag, entry_of, table_of, flags_of}
use Rattle.finding.specs.Finds.{followed}

-- An entry for a list, and one behind the lists.
entry_next : (D : Deterministic) (s v : ℕ) → v < D.symbols → entry_of D s v ≡ D.next s v
unfolding entry_of
entry_next D s v h = rw (lt-ltb v D.symbols h, entry_of)

entry-unused : (D : Deterministic) (s v : ℕ) → D.symbols ≤ v → entry_of D s v ≡ 0
unfolding entry_of
entry-unused D s v h = rw (le-ltb v D.symbols h, entry_of)

module _ (D : Deterministic) where
  pub table-length : length (table_of D) ≡ row_width * D.states
  unfolding table_of
  table-length = tabulate-length (λ i. entry_of D (i / row_width) (i % row_width)) (row_width * D.states)

  table_at : (s v : ℕ) → s < D.states → v < row_width → slice_index (table_of D) (row_width * s + v) ≡ entry_of D s v
  unfolding table_of
  table_at s v h k =
      let a : (row_width * s + v) / row_width ≡ s = omega arith in
      let b : (row_width * s + v) % row_width ≡ v = omega arith in
      tabulate-at (λ i. entry_of D (i / row_width) (i % row_width)) (row_width * D.states) (row_width * s + v) (omega arith)
      ∙ ap₂ (entry_of D) a b

  pub table-next : (s v : ℕ) → s < D.states → v < D.symbols → D.symbols ≤ row_width → slice_index (table_of D) (row_width * s + v) ≡ D.next s v
  table-next s v h k fits = table_at s v h (omega arith) ∙ entry_next D s v k

  pub table-unused : (s v : ℕ) → s < D.states → D.symbols ≤ v → v < row_width → slice_index (table_of D) (row_width * s + v) ≡ 0
  table-unused s v h k l = table_at s v h l ∙ entry-unused D s v k

  -- No number of it is above those of the next states.
  pub table-bounded : ((s v : ℕ) → D.next s v ≤ D.states) → (i : ℕ) → slice_index (table_of D) i ≤ D.states
  unfolding table_of
  table-bounded b i = side (dec_lt i (row_width * D.states)) (dec_lt (i % row_width) D.symbols)
    where
      at : i < row_width * D.states → slice_index (table_of D) i ≡ entry_of D (i / row_width) (i % row_width)
      at h = tabulate-at (λ j. entry_of D (j / row_width) (j % row_width)) (row_width * D.states) i h

      side : Dec (i < row_width * D.states) → Dec (i % row_width < D.symbols) → slice_index (table_of D) i ≤ D.states
      side (yes h) (yes k) = omega (arith, at h, entry_next D (i / row_width) (i % row_width) k, b (i / row_width) (i % row_width))
      side (yes h) (no k) = omega (arith, at h, entry-unused D (i / row_width) (i % row_width) (omega arith))
      side (no h) k = omega (arith, get_or-eq_default (table_of D) 0 {n = i} (omega (arith, table-length)))

  pub flags-length : length (flags_of D) ≡ D.states
  unfolding flags_of
  flags-length = tabulate-length (λ s. flag (D.accepting s)) D.states

  pub flag_at : (s : ℕ) → s < D.states → slice_index (flags_of D) s ≡ flag (D.accepting s)
  unfolding flags_of
  flag_at s h = tabulate-at (λ q. flag (D.accepting q)) D.states s h

-- The table, followed by a word, ends where the word leads.
pub table-followed : {D : Deterministic} → Complete D → D.symbols ≤ row_width → (s : ℕ) {w : Word} → s < D.states → Below D.symbols w
    → followed (table_of D) s w ≡ run D s w
unfolding followed run
table-followed C fits s h nothing = refl
table-followed {D} C fits s h (next {a} {p} l b) =
    ap (λ t. followed (table_of D) t p) (table-next D s a h l fits) ∙ table-followed C fits (D.next s a) (C.next s a h l) b

module _ {D E : Deterministic} (A : Agree D E) where
  entry-agree : (s v : ℕ) → s < D.states → entry_of D s v ≡ entry_of E s v
  entry-agree s v h = side (dec_lt v D.symbols)
    where
      side : Dec (v < D.symbols) → entry_of D s v ≡ entry_of E s v
      side (yes k) = entry_next D s v k ∙ A.next s v h k ∙ sym (entry_next E s v (omega (arith, A.symbols)))
      side (no k) = entry-unused D s v (omega arith) ∙ sym (entry-unused E s v (omega (arith, A.symbols)))

  pub table-agree : table_of D ≡ table_of E
  unfolding table_of
  table-agree =
      tabulate-same (λ i. entry_of D (i / row_width) (i % row_width)) (λ i. entry_of E (i / row_width) (i % row_width)) (row_width * D.states)
      (λ i h. entry-agree (i / row_width) (i % row_width) (omega arith))
      ∙ ap (λ n. tabulate (λ i. entry_of E (i / row_width) (i % row_width)) (row_width * n)) A.states

  pub flags-agree : flags_of D ≡ flags_of E
  unfolding flags_of
  flags-agree =
      tabulate-same (λ s. flag (D.accepting s)) (λ s. flag (E.accepting s)) D.states (λ s h. ap flag (A.accepting s h))
      ∙ ap (tabulate (λ s. flag (E.accepting s))) A.states
