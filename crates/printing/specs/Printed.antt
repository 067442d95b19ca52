-- What the program `rewrite` prints for a text (document 01, "The printed form"), byte for byte: it runs Find, then Verdict with allowance
-- 128. The same form for any allowance.
use Rattle.std.specs.Prelude.{ℕ, Bool, true, false, List, ◌++◌}
use Rattle.theory.specs.Job.{Job}
use Rattle.syntax.specs.declared.refusal.Refusal.TheVariants.{BadAllowance}
use Rattle.syntax.specs.Byte.{Bytes}
use Rattle.reading.specs.Text.{line}
use Rattle.reading.specs.JobText.{NamedJob, job_of}
use Rattle.reading.specs.Read.{Reading, job, refused, read}
use Rattle.finding.specs.Find.{Found, found, find, refused as unfound}
use Rattle.verdict.specs.Verdict.{Verdict, complete, missed, refused as unjudged}
use Rattle.verdict.specs.VerdictJob.{verdict_job}
use Rattle.verdict.specs.VerdictOperation.{allowed}
use Rattle.printing.specs.Lines.{complete_word, missed_word, pairs_word, refusal_line, count_line, named_line, rewriting_lines}

-- The pairs that Verdict is allowed by the program `rewrite`.
abbrev pub printed_allowance : ℕ
printed_allowance = 128

-- Verdict with buffers that are long enough: 11 for an allowance out of range, and else the verdict on the job.
abbrev pub judged_by : Bool → ℕ → Job → Verdict
judged_by false allowance J = unjudged BadAllowance
judged_by true allowance J = verdict_job J allowance

abbrev pub judged_at : ℕ → Job → Verdict
judged_at allowance J = judged_by (allowed allowance) allowance J

-- The lines after `first`: the verdict, with the names of the labels.
unfoldable pub verdict_lines : List Bytes → Verdict → Bytes
verdict_lines names (complete n) = line complete_word ++ count_line pairs_word n
verdict_lines names (missed p n) = named_line missed_word names p ++ count_line pairs_word n
verdict_lines names (unjudged r) = refusal_line r 0

-- What is printed for a job, by what Find gives.
unfoldable pub printed_found : ℕ → NamedJob → Found → Bytes
printed_found allowance J (found R) = rewriting_lines J.list_names R ++ verdict_lines J.labels (judged_at allowance (job_of J))
printed_found allowance J (unfound r) = refusal_line r 0

unfoldable pub printed_reading : ℕ → Reading → Bytes
printed_reading allowance (job J) = printed_found allowance J (find (job_of J))
printed_reading allowance (refused r m) = refusal_line r m

unfoldable pub printed_at : ℕ → Bytes → Bytes
printed_at allowance text = printed_reading allowance (read text)

abbrev pub printed : Bytes → Bytes
printed = printed_at printed_allowance
