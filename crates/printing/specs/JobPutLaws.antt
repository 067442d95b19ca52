-- Why the lines that are put for what Find tells are those of the rewriting: its buffers hold the table and the flags with zeros behind them,
-- and no line reads further.
use Prim.Native.Nat.{ℕ, zero, suc, ◌+◌, ◌*◌, ◌-◌, ◌≤◌}
use mathlib.Core.List.{List, [], ◌∷◌, ◌++◌}
use Rattle.std.proofs.Math.Option.{Option}
use Rattle.std.specs.Prelude.{◌≡◌, length, get_or, Result, Ok, Err}
use Rattle.std.proofs.Math.Path.{refl, sym, ap, ap₂}
use Rattle.std.proofs.Common.{◌∙◌, arith, length-take, length-drop}
use Rattle.std.proofs.Math.ListN.{take, drop}
use Rattle.std.proofs.Math.Seq.{take-length}
use Rattle.theory.specs.Word.{Word}
use Rattle.syntax.specs.declared.refusal.Refusal.{Refusal}
use Rattle.syntax.specs.declared.table.Span.{Span}
use Rattle.syntax.specs.Byte.{Bytes}
use Rattle.syntax.specs.Resolve.{names_at}
use Rattle.reading.specs.Text.{space, query_word, line}
use Rattle.reading.specs.JobText.{NamedJob, job_of}
use Rattle.reading.specs.Read.{job, read}
use Rattle.reading.specs.Tables.{lists_from}
use Rattle.reading.specs.declared.answer.Refused.{Refused}
use Rattle.finding.specs.declared.answer.Found.{Found as Told}
use Rattle.finding.specs.WordTold.{first_word, word_of, word-told}
use Rattle.finding.specs.Find.{Rewriting, Found, found, find, row_width, refused as unfound}
use Rattle.finding.specs.Outcome.{left, find_reply, first_told, told, refused_with, found_answer, left_by}
use Rattle.finding.specs.FoundSizes.{job-sizes}
use Rattle.finding.specs.WrittenLaws.{written_read}
use Rattle.finding.specs.Operation.{outcome, left_by_reading, long-buffers}
use Rattle.output.specs.Decimal.{decimal}
use Rattle.output.specs.Put.{Writing, puts, puts_then}
use Rattle.printing.specs.Lines.{states_word, refusal_line, count_line, sign, nexts, row, rows, first_line, rewriting_lines}
use Rattle.printing.specs.LinesLaws.{same-refusal}
use Rattle.printing.specs.Told.{rewriting_told}
use Rattle.printing.specs.Printed.{judged_at, verdict_lines, printed_found, printed_reading, printed_at}
use Rattle.printing.specs.Printing.{VerdictPut, JobPut}

clash : {A : Type 0} → ◌≡◌ {A = ℕ} 0 1 → A
clash z = absurd (omega arith)

-- The rows depend on what is read from the table and the flags alone.
module _ (table table' flags flags' : List ℕ) (t : (i : ℕ) → get_or table i 0 ≡ get_or table' i 0)
    (f : (i : ℕ) → get_or flags i 0 ≡ get_or flags' i 0) where
  nexts-same : (s n v : ℕ) → nexts table s n v ≡ nexts table' s n v
  unfolding nexts
  nexts-same s zero v = refl
  nexts-same s (suc n) v =
      ap₂ (λ (x : ℕ) (r : Bytes). (space ∷ decimal x) ++ r) (t (row_width * s + v)) (nexts-same s n (suc v))

  row_same : (k s : ℕ) → row table flags k s ≡ row table' flags' k s
  unfolding row
  row_same k s = ap₂ (λ (x : ℕ) (r : Bytes). line (decimal s ++ (space ∷ (sign x ∷ r)))) (f s) (nexts-same s k 0)

  rows_same : (k n s : ℕ) → rows table flags k n s ≡ rows table' flags' k n s
  unfolding rows
  rows_same k zero s = refl
  rows_same k (suc n) s = ap₂ (λ (a b : Bytes). a ++ b) (row_same k s) (rows_same k n (suc s))

-- The lines depend on the counts, the rows and the word.
same_lines : (names : List Bytes) (f : Told) (table flags : List ℕ) (R : Rewriting) → f.standings ≡ R.standings → f.states ≡ R.states
    → ((i : ℕ) → get_or table i 0 ≡ get_or R.table i 0) → ((i : ℕ) → get_or flags i 0 ≡ get_or R.flags i 0) → word_of f.first ≡ R.first
    → rewriting_lines names (rewriting_told f table flags) ≡ rewriting_lines names R
unfolding rewriting_lines
same_lines names f table flags R i s t g word =
    ap₂ (λ (x y : ℕ). count_line query_word x
    ++ (count_line states_word y ++ (rows table flags (length names) y 0 ++ first_line names (word_of f.first)))) i s
    ∙ ap₂ (λ (r : Bytes) (o : Option Word). count_line query_word R.standings ++ (count_line states_word R.states ++ (r ++ first_line names o)))
    (rows_same table R.table flags R.flags t g (length names) R.states 0) word

module _ (text : Bytes) (table flags : List ℕ) (wide : length table ≡ 4096) (long : length flags ≡ 256) (a : Result Told Refused)
    (table' flags' : List ℕ) (left-told : told (left a table' flags') ≡ outcome text table flags) (names : List Span)
    (places : length names ≡ 48) (labels lists allowance : ℕ) (w v : Writing) where
  -- What Find leaves for a job.
  job-left : (J : NamedJob) → read text ≡ job J → told (left a table' flags') ≡ told (left_by (find (job_of J)) table flags)
  unfolding left_by_reading
  job-left J e =
      left-told ∙ ap told (long-buffers text table flags (omega arith) (omega arith) ∙ ap (λ x. left_by_reading x table flags) e)

  printed-job : (J : NamedJob) → read text ≡ job J → printed_at allowance text ≡ printed_found allowance J (find (job_of J))
  unfolding printed_at printed_reading
  printed-job J e = ap (printed_reading allowance) e

  -- By what Find gives for the job.
  of-finding : ((J : NamedJob) → read text ≡ job J → names_at text (take labels names) ≡ J.labels
      → names_at text (take lists (drop lists_from names)) ≡ J.list_names
      → (x : Found) → find (job_of J) ≡ x → told (left a table' flags') ≡ told (left_by x table flags)
      → v ≡ puts w (printed_found allowance J x))
      → JobPut text names labels lists allowance w v
  of-finding h =
      record {
        told = λ J e n k. h J e n k (find (job_of J)) refl (job-left J e) ∙ ap (puts w) (sym (printed-job J e));
      }

  pub unfound-put : (r : Refused) → a ≡ Err r → v ≡ puts w (refusal_line r.refusal r.line)
      → JobPut text names labels lists allowance w v
  unfolding left_by printed_found
  unfound-put r e wrote = of-finding there
    where
      there : (J : NamedJob) → read text ≡ job J → names_at text (take labels names) ≡ J.labels
          → names_at text (take lists (drop lists_from names)) ≡ J.list_names
          → (x : Found) → find (job_of J) ≡ x → told (left a table' flags') ≡ told (left_by x table flags)
          → v ≡ puts w (printed_found allowance J x)
      there J p n k (found R) q b =
          let c : find_reply (Err r) ≡ find_reply (found_answer R) = sym (ap find_reply e) ∙ ap (λ o. o.reply) b in
          let d : [] ≡ R.standings ∷ (R.states ∷ []) = ap (λ y. y.values) c in
          clash (cc)
      there J p n k (unfound s) q b =
          let c : find_reply (Err r) ≡ find_reply (refused_with s 0) = sym (ap find_reply e) ∙ ap (λ o. o.reply) b in
          wrote ∙ ap (puts w) (same-refusal r.refusal s (ap (λ y. y.number) c) (ap (λ y. y.line) c))

  -- The lines of the rewriting, and those of the verdict behind them.
  pub found-put : (f : Told) {u : Writing} (listed labelled : List Span) → a ≡ Ok f
      → listed ≡ take lists (take (length names - lists_from) (drop lists_from names)) → labelled ≡ take labels names
      → (length listed ≤ 16 → f.states ≤ 256 → u ≡ puts w (rewriting_lines (names_at text listed) (rewriting_told f table' flags')))
      → VerdictPut text labelled allowance u v → JobPut text names labels lists allowance w v
  unfolding left_by printed_found rewriting_lines
  found-put t {u} listed labelled e l k wrote judged = of-finding there
    where
      rest : take (length names - lists_from) (drop lists_from names) ≡ drop lists_from names
      rest = ap (λ i. take i (drop lists_from names)) (sym (length-drop lists_from names)) ∙ take-length (drop lists_from names)

      few : length listed ≤ 16
      few =
          omega (
            arith,
            ap length (l ∙ ap (take lists) rest),
            length-take lists (drop lists_from names),
            length-drop lists_from names,
          )

      there : (J : NamedJob) → read text ≡ job J → names_at text (take labels names) ≡ J.labels
          → names_at text (take lists (drop lists_from names)) ≡ J.list_names
          → (x : Found) → find (job_of J) ≡ x → told (left a table' flags') ≡ told (left_by x table flags)
          → v ≡ puts w (printed_found allowance J x)
      there J p f g (unfound r) q b =
          let c : find_reply (Ok t) ≡ find_reply (refused_with r 0) = sym (ap find_reply e) ∙ ap (λ o. o.reply) b in
          let d : t.standings ∷ (t.states ∷ []) ≡ [] = ap (λ y. y.values) c in
          clash (cc)
      there J p f g (found R) q b =
          let c : find_reply (Ok t) ≡ find_reply (found_answer R) = sym (ap find_reply e) ∙ ap (λ o. o.reply) b in
          let d : t.standings ∷ (t.states ∷ []) ≡ R.standings ∷ (R.states ∷ []) = ap (λ y. y.values) c in
          let i : t.standings ≡ R.standings = cc in
          let s : t.states ≡ R.states = cc in
          let N : names_at text listed ≡ J.list_names = ap (names_at text) (l ∙ ap (take lists) rest) ∙ g in
          let lines = wrote few (omega (arith, (job-sizes (job_of J) R q).few-states)) in
          let first : first_told (Ok t) ≡ first_word R.first = ap first_told (sym e) ∙ ap (λ o. o.first) b in
          let word : word_of t.first ≡ R.first = ap word_of first ∙ word-told R.first in
          let whole = ap (λ M. rewriting_lines M (rewriting_told t table' flags')) N
          ∙ same_lines J.list_names t table' flags' R i s
          (λ j. ap (λ o. get_or o.table j 0) b ∙ written_read 4096 R.table table j wide)
          (λ j. ap (λ o. get_or o.flags j 0) b ∙ written_read 256 R.flags flags j long) word in
          puts_then w (rewriting_lines J.list_names R) (verdict_lines J.labels (judged_at allowance (job_of J)))
          (lines ∙ ap (puts w) whole) (judged.told J p (ap (names_at text) k ∙ f))
