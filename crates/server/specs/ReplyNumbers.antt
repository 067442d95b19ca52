-- The number of a reply is 0 or that of a refusal, so it is at most 17, whatever an operation is given.
use Rattle.std.specs.Prelude.{ℕ, ◌*◌, ◌≤◌, Bool, ◌&&◌, ◌||◌, List, ◌++◌, eqb, ltb, length, drop, replicate, Result, Ok, Err}
use Rattle.std.proofs.Math.Bool.{true, false}
use native.Mathlib.Omega.{arith}
use Rattle.std.proofs.Math.Dec.{leb}
use Rattle.theory.specs.Job.{Job}
use Rattle.theory.specs.Graph.{Table}
use Rattle.syntax.specs.Byte.{Bytes}
use Rattle.syntax.specs.Number.{number}
use Rattle.syntax.specs.NumberLaws.{number-few}
use Rattle.syntax.specs.Reply.{Reply, refusing}
use Rattle.syntax.specs.declared.refusal.Refusal.TheVariants.{BufferTooShort, BadAllowance, BadRecordings}
use Rattle.reading.specs.JobText.{job_of}
use Rattle.reading.specs.Read.{Reading, job, refused, read}
use Rattle.reading.specs.Answering.{unlined}
use Rattle.reading.specs.declared.answer.Refused.{Refused}
use Rattle.finding.specs.declared.answer.Found.{Found as Told}
use Rattle.finding.specs.Find as found
use Rattle.finding.specs.Outcome.{Leaving, find_reply, left_by as find_left}
use Rattle.verdict.specs.Verdict.{Verdict, complete, missed}
use Rattle.verdict.specs.VerdictJob.{verdict_job}
use Rattle.verdict.specs.VerdictOperation as judging
use Rattle.answering.specs.AnswerJob.{Marking, marked, links_job, lists_job}
use Rattle.answering.specs.LinksOperation.{Outcome, outcome, left_of, by_reading, lent_checked, links_answer}
use Rattle.answering.specs.ListsOperation.{lists_answer}
use Rattle.keeping.specs.Kept.{kept_length}
use Rattle.keeping.specs.KeepOperation as keeping

abbrev pub Few : Reply → Type 0
Few r = r.number ≤ 17

pub find-few : (x : Result Told Refused) → Few (find_reply x)
find-few (Ok f) = omega arith
find-few (Err e) = number-few e.refusal

module _ (text : Bytes) (allowance : ℕ) (table flags path workspace : List ℕ) where
  by-verdict : (v : Verdict) (F : Leaving) → Few (judging.left_by v F allowance table flags path workspace).reply
  by-verdict (complete n) F = omega arith
  by-verdict (missed p n) F = omega arith
  by-verdict (Verdict.refused r) F = number-few r

  by-reading : (x : Reading) → Few (judging.left_by_reading x allowance table flags path workspace).reply
  by-reading (refused r n) = number-few r
  by-reading (job J) = by-verdict (verdict_job (job_of J) allowance) (find_left (found.find (job_of J)) table flags)

  pub verdict-few : Few (judging.outcome text allowance table flags path workspace).reply
  unfolding judging.outcome
  verdict-few = ranged (judging.allowed allowance)
    where
      sized : (b : Bool) → Few (elim b as (λ b. judging.Outcome) [
        | false ↦ judging.left (Err (unlined BufferTooShort)) table flags path workspace
        | true ↦ judging.left_by_reading (read text) allowance table flags path workspace
      ]).reply
      sized true = by-reading (read text)
      sized false = omega arith

      ranged : (b : Bool) → Few (elim b as (λ b. judging.Outcome) [
        | false ↦ judging.left (Err (unlined BadAllowance)) table flags path workspace
        | true ↦ elim (judging.enough allowance table flags path workspace) [
          | false ↦ judging.left (Err (unlined BufferTooShort)) table flags path workspace
          | true ↦ judging.left_by_reading (read text) allowance table flags path workspace
        ]
      ]).reply
      ranged true = sized (judging.enough allowance table flags path workspace)
      ranged false = omega arith

-- Both answers, by what a job gives.
module _ (N words : ℕ) (before workspace : List ℕ) (text : Bytes) (answer : Job → Marking) where
  left-few : (z : Marking) → Few (left_of N words before workspace z).reply
  left-few (marked m) = omega arith
  left-few (Marking.refused r) = side (eqb (number r) 9 || eqb (number r) 10)
    where
      side : (b : Bool) → Few (elim b as (λ b. Outcome) [
        | true ↦ outcome (refusing r 0) (replicate N 0 ++ drop N before) (replicate words 0 ++ drop words workspace)
        | false ↦ outcome (refusing r 0) before workspace
      ]).reply
      side true = number-few r
      side false = number-few r

  read-few : (x : Reading) → Few (by_reading (λ J. left_of N words before workspace (answer J)) before workspace x).reply
  read-few (refused r n) = number-few r
  read-few (job J) = left-few (answer (job_of J))

  lent-few : Few (lent_checked N words before workspace
      (by_reading (λ J. left_of N words before workspace (answer J)) before workspace (read text))).reply
  unfolding lent_checked
  lent-few = ranged (leb 1 N && leb N 4096)
    where
      sized : (b : Bool) → Few (elim b as (λ b. Outcome) [
        | false ↦ outcome (refusing BufferTooShort 0) before workspace
        | true ↦ by_reading (λ J. left_of N words before workspace (answer J)) before workspace (read text)
      ]).reply
      sized true = read-few (read text)
      sized false = omega arith

      ranged : (b : Bool) → Few (elim b as (λ b. Outcome) [
        | false ↦ outcome (refusing BadRecordings 0) before workspace
        | true ↦ elim (leb N (length before) && leb words (length workspace)) [
          | false ↦ outcome (refusing BufferTooShort 0) before workspace
          | true ↦ by_reading (λ J. left_of N words before workspace (answer J)) before workspace (read text)
        ]
      ]).reply
      ranged true = sized (leb N (length before) && leb words (length workspace))
      ranged false = omega arith

pub links-few : (text : Bytes) (N c : ℕ) (t : Table) (x : ℕ) (before workspace : List ℕ)
    → Few (links_answer text N c t x before workspace).reply
unfolding links_answer
links-few text N c t x before workspace = lent-few N N before workspace text (λ J. links_job J N c t x)

pub lists-few : (text : Bytes) (N : ℕ) (t : Table) (x : ℕ) (before workspace : List ℕ)
    → Few (lists_answer text N t x before workspace).reply
unfolding lists_answer
lists-few text N t x before workspace = lent-few N (4 * N) before workspace text (λ J. lists_job J N t x)

pub keep-few : (text out : Bytes) → Few (keeping.outcome text out).reply
unfolding keeping.outcome keeping.left_by_reading keeping.left_by
keep-few text out = measured (ltb (length out) kept_length)
  where
    by-find : (names : List Bytes) (x : found.Found) → Few (keeping.left_by names x out).reply
    by-find names (found.refused r) = number-few r
    by-find names (found.found R) = omega arith

    by-text : (x : Reading) → Few (keeping.left_by_reading x out).reply
    by-text (refused r n) = number-few r
    by-text (job J) = by-find J.list_names (found.find (job_of J))

    measured : (b : Bool) → Few (elim b as (λ b. keeping.Outcome) [
      | true ↦ keeping.left (Err (unlined BufferTooShort)) out
      | false ↦ keeping.left_by_reading (read text) out
    ]).reply
    measured true = omega arith
    measured false = by-text (read text)
