-- How many bytes what is printed has: at most 17,920 for the rows, 4,358 for `first`, 17 for each label of `missed`, and a few for the
-- others.
use Rattle.std.specs.Prelude.{ℕ, ◌+◌, ◌*◌, ◌≤◌, min, Bool, true, false, List, ◌++◌, ◌≡◌, refl, leb, length}
use Rattle.std.proofs.Math.Bool.{and-eq-true_iff}
use Rattle.std.proofs.Math.Option.{Option, some, none}
use Rattle.std.proofs.Common.{arith, leb-true, length-append}
use Rattle.theory.specs.Word.{Word}
use Rattle.syntax.specs.declared.refusal.Refusal.TheVariants.{BadAllowance}
use Rattle.syntax.specs.Byte.{Bytes}
use Rattle.reading.specs.Text.{query_word, line}
use Rattle.reading.specs.JobText.{NamedJob, job_of}
use Rattle.reading.specs.Read.{Reading, job, refused, read}
use Rattle.reading.specs.ReadLaws.{read-line}
use Rattle.reading.specs.ReadFacts.{ShortNames, ReadFacts, read-facts}
use Rattle.finding.specs.Find.{Rewriting, Found, found, find, refused as unfound}
use Rattle.verdict.specs.Verdict.{Verdict, complete, missed, refused as unjudged}
use Rattle.verdict.specs.VerdictJob.{verdict_job}
use Rattle.verdict.specs.VerdictJobLaws.{FewPairs, job-few}
use Rattle.verdict.specs.VerdictOperation.{allowed}
use Rattle.printing.specs.Lines.{states_word, first_word, missed_word, complete_word, pairs_word}
use Rattle.printing.specs.Lines.{count_line, named_line, rows, first_line, rewriting_lines}
use Rattle.printing.specs.LineLengths.{refusal-length, count-length, named-length, rows-length}
use Rattle.finding.specs.FoundSizes.{Sizes, job-sizes}
use Rattle.printing.specs.Printed.{judged_by, judged_at, verdict_lines, printed_found, printed_reading, printed_at}

-- Room for all that is printed with an allowance: a missed path has fewer labels than there are pairs, of which there are at most 4,096.
abbrev pub printed_room : ℕ → ℕ
printed_room allowance = 22320 + 17 * min allowance 4096

first-length : (names : List Bytes) → ShortNames names → (o : Option Word) → ((w : Word) → o ≡ some w → length w ≤ 256)
    → length (first_line names o) ≤ 4358
unfolding first_line
first-length names short none h = omega arith
first-length names short (some w) h = omega (arith, named-length names short first_word w, h w refl)

rewriting-length : (names : List Bytes) → ShortNames names → length names ≤ 16 → (n : ℕ) (R : Rewriting) → Sizes n 64 256 R
    → length (rewriting_lines names R) ≤ 22299
unfolding rewriting_lines
rewriting-length names short few n R small =
    let all : Bytes = rows R.table R.flags (length names) R.states 0 in
    let ending : Bytes = first_line names R.first in
    let counted : Bytes = count_line states_word R.states in
    omega (
      arith,
      length-append (count_line query_word R.standings) (counted ++ (all ++ ending)),
      length-append counted (all ++ ending),
      length-append all ending,
      count-length 2 query_word R.standings (omega (arith, small.few-standings)),
      count-length 2 states_word R.states (omega (arith, small.few-states)),
      rows-length R.table R.flags (λ i. omega (arith, small.entries i, small.few-states)) (length names) few R.states 0 (omega (arith, small.few-states)),
      first-length names short R.first (λ w e. omega (arith, small.short w e)),
      small.few-states,
    )

-- A verdict has at most as many pairs as it is allowed, and its path fewer labels.
verdict-length : (allowance : ℕ) (names : List Bytes) → ShortNames names → (v : Verdict) → allowance ≤ 4096 → FewPairs allowance v
    → length (verdict_lines names v) ≤ 21 + 17 * allowance
unfolding verdict_lines
verdict-length allowance names short (complete n) h few =
    omega (arith, length-append (line complete_word) (count_line pairs_word n), count-length 3 pairs_word n (omega arith))
verdict-length allowance names short (missed p n) h few =
    omega (
      arith,
      length-append (named_line missed_word names p) (count_line pairs_word n),
      named-length names short missed_word p,
      count-length 3 pairs_word n (omega (arith, few.0)),
      few.0,
      few.1,
    )
verdict-length allowance names short (unjudged r) h few = omega (arith, refusal-length r 0 (omega arith))

-- The same where the allowance may be out of range.
judged-length : (allowance : ℕ) (J : NamedJob) → ReadFacts J
    → length (verdict_lines J.labels (judged_at allowance (job_of J))) ≤ 21 + 17 * min allowance 4096
unfolding verdict_lines
judged-length allowance J f = by (allowed allowance) refl
  where
    by : (b : Bool) → allowed allowance ≡ b
        → length (verdict_lines J.labels (judged_by b allowance (job_of J))) ≤ 21 + 17 * min allowance 4096
    by false h = omega (arith, refusal-length BadAllowance 0 (omega arith))
    by true h =
        let most : allowance ≤ 4096 = leb-true allowance 4096 ((and-eq-true_iff (leb 1 allowance) (leb allowance 4096)).0 h).1 in
        let few = job-few (job_of J) f.well-formed (omega (arith, f.as_many, f.few-lists)) allowance in
        omega (arith, verdict-length allowance J.labels f.short-label-names (verdict_job (job_of J) allowance) most few)

pub printed-fits : (allowance : ℕ) (text : Bytes) → length (printed_at allowance text) ≤ printed_room allowance
unfolding printed_at printed_reading printed_found
printed-fits allowance text = by-reading (read text) refl
  where
    by-finding : (J : NamedJob) → read text ≡ job J → (x : Found) → find (job_of J) ≡ x
        → length (printed_found allowance J x) ≤ printed_room allowance
    by-finding J e (unfound r) q = omega (arith, refusal-length r 0 (omega arith))
    by-finding J e (found R) q =
        let f : ReadFacts J = read-facts text e in
        omega (
          arith,
          length-append (rewriting_lines J.list_names R) (verdict_lines J.labels (judged_at allowance (job_of J))),
          rewriting-length J.list_names f.short-list-names f.few-lists _ R (job-sizes (job_of J) R q),
          judged-length allowance J f,
        )

    by-reading : (x : Reading) → read text ≡ x → length (printed_reading allowance x) ≤ printed_room allowance
    by-reading (refused r m) e = omega (arith, refusal-length r m (omega (arith, read-line text r m e)))
    by-reading (job J) e = by-finding J e (find (job_of J)) refl
