-- What is so of every job that is read from a text: its expressions use its own labels alone and have few occurrences, and it has few
-- names, one for each list, and short ones.
use Rattle.std.specs.Prelude.{ℕ, zero, suc, ◌<◌, ◌≤◌, List, [], ◌≡◌, refl, length, get_or}
use Rattle.std.proofs.Common.{ap, arith}
use Rattle.theory.specs.Expression.{Expression, empty}
use Rattle.theory.specs.Standing.{size}
use Rattle.theory.specs.Job.{LabelsBelow, WellFormed}
use Rattle.syntax.specs.Byte.{Bytes}
use Rattle.syntax.specs.Grammar.{Tree}
use Rattle.syntax.specs.Limits.{most_occurrences}
use Rattle.syntax.specs.Resolve.{Resolves}
use Rattle.reading.specs.Text.{most_labels, most_lists}
use Rattle.reading.specs.JobText.{NamedJob, job_of, LabelLines, ListLines, IsJob}
use Rattle.reading.specs.Read.{job, read}
use Rattle.reading.specs.ReadLaws.{read-job}

-- An expression over the labels uses these alone.
resolved-below : {labels : List Bytes} {t : Tree} {e : Expression} → Resolves labels t e → LabelsBelow (length labels) e
resolved-below Resolves.at-empty = tt
resolved-below (Resolves.at_label h s) = h
resolved-below (Resolves.at-alternative l r) = (resolved-below l, resolved-below r)
resolved-below (Resolves.at-sequence l r) = (resolved-below l, resolved-below r)
resolved-below (Resolves.at-star r) = resolved-below r
resolved-below (Resolves.at-optional r) = resolved-below r

-- A list line for each name, and for each expression.
as-many-lists : {labels names : List Bytes} {lists : List Expression} {s : Bytes} → ListLines labels names lists s
    → length lists ≡ length names
as-many-lists ListLines.nothing = refl
as-many-lists (ListLines.next text more n i e r) = ap suc (as-many-lists r)

-- Every list's expression is one over the labels.
lists-expressions : {labels names : List Bytes} {lists : List Expression} {s : Bytes} → ListLines labels names lists s
    → (v : ℕ) → v < length lists → (LabelsBelow (length labels) (get_or lists v empty)) × (size (get_or lists v empty) ≤ most_occurrences)
lists-expressions ListLines.nothing v h = absurd (omega arith)
lists-expressions (ListLines.next text more n i e r) zero h = (resolved-below i.resolves, i.few)
lists-expressions (ListLines.next text more n i e r) (suc v) h = lists-expressions r v (omega arith)

-- Names as document 01 has them: none is longer than 16 bytes.
abbrev pub ShortNames : List Bytes → Type 0
ShortNames names = (i : ℕ) → i < length names → length (get_or names i []) ≤ 16

short-labels : {names : List Bytes} {s : Bytes} → LabelLines names s → ShortNames names
short-labels LabelLines.nothing i h = absurd (omega arith)
short-labels (LabelLines.next more n e r) zero h = n.short
short-labels (LabelLines.next more n e r) (suc j) h = short-labels r j (omega arith)

short-lists : {labels names : List Bytes} {lists : List Expression} {s : Bytes} → ListLines labels names lists s → ShortNames names
short-lists ListLines.nothing i h = absurd (omega arith)
short-lists (ListLines.next text more n i e r) zero h = n.short
short-lists (ListLines.next text more n i e r) (suc j) h = short-lists r j (omega arith)

pub record ReadFacts (J : NamedJob) : Type 0 where
  pub well-formed : WellFormed (job_of J)
  pub some-label : 1 ≤ length J.labels
  pub few-labels : length J.labels ≤ most_labels
  pub few-lists : length J.list_names ≤ most_lists
  pub short-label-names : ShortNames J.labels
  pub short-list-names : ShortNames J.list_names
  pub as_many : length J.lists ≡ length J.list_names
  pub query-fits : size J.query ≤ most_occurrences
  pub lists-fit : (v : ℕ) → v < length J.lists → size (get_or J.lists v empty) ≤ most_occurrences

pub read-facts : (text : Bytes) {J : NamedJob} → read text ≡ job J → ReadFacts J
read-facts text {J} e =
    let j : IsJob text J = (read-job text J).0 e in
    record {
      well-formed =
          record { query = resolved-below j.query.resolves; lists = λ v l. (lists-expressions j.lists v l).0 };
      some-label = j.some-label;
      few-labels = j.few-labels;
      few-lists = j.few-lists;
      short-label-names = short-labels j.labels;
      short-list-names = short-lists j.lists;
      as_many = as-many-lists j.lists;
      query-fits = j.query.few;
      lists-fit = λ v l. (lists-expressions j.lists v l).1;
    }

pub read-well-formed : (text : Bytes) {J : NamedJob} → read text ≡ job J → WellFormed (job_of J)
read-well-formed text e = (read-facts text e).well-formed
