-- Demand 2, of texts and lent memory: a word of list names is accepted exactly when every path it spells is a path of the query; a job text
-- is accepted exactly when the rules have it.
use Rattle.std.specs.Prelude.{ℕ, ◌≤◌, List, [], ◌∷◌, ◌↔◌, ◌≡◌, length, get_or}
use Rattle.theory.specs.Word.{Word}
use Rattle.theory.specs.Job.{Job, IsWord}
use Rattle.theory.specs.Rewriting.{Sound}
use Rattle.syntax.specs.Byte.{Bytes}
use Rattle.syntax.specs.Reply.{given}
use Rattle.reading.specs.JobText.{NamedJob, job_of, IsJob}
use Rattle.reading.specs.Read.{read}
use Rattle.reading.specs.Answering.{reply_of}
use Rattle.finding.specs.Finds.{DistinctStandings, DistinctStates, followed}
use Rattle.finding.specs.Outcome.{Outcome}
use Rattle.finding.specs.Operation.{outcome}
use Rattle.keeping.specs.KeepOperation.{outcome as keep_outcome, Outcome as Keeps}
use Rattle.demands.specs.FindSays.{FindSays}
use Rattle.demands.specs.KeepSays.{KeepSays}

pub record Demand2 : Type 0 where
  -- a job text is accepted exactly when the rules have it, and then Read tells its numbers of labels and lists
  pub accepted : (text : Bytes) → ((reply_of (read text)).number ≡ 0) ↔ ((J : NamedJob) × IsJob text J)
  pub counted : (text : Bytes) (J : NamedJob) → IsJob text J
      → reply_of (read text) ≡ given (length J.labels ∷ (length J.list_names ∷ []))
  -- where Find answers, a word of list names ends at flag 1, in the table as it was left, exactly when every path it spells is a path of
  -- the query
  pub words : (text : Bytes) (table flags : List ℕ) (J : NamedJob) → IsJob text J →
      let o = outcome text table flags in
      o.reply.number ≡ 0 → (w : Word) → IsWord (job_of J) w → (get_or o.flags (followed o.table 0 w) 0 ≡ 1) ↔ Sound (job_of J) w
  -- the text is then a job's, and all else that is told and left is document 01's too
  pub find : (text : Bytes) (table flags : List ℕ) →
      let o = outcome text table flags in
      o.reply.number ≡ 0 → (J : NamedJob) × IsJob text J × FindSays (job_of J) table flags o
  pub determined : (J : Job) (table flags : List ℕ) (o p : Outcome) → FindSays J table flags o → FindSays J table flags p → o ≡ p
  -- on a job, and with buffers that suffice, 9 comes exactly where there are more than 64 standings, 10 exactly where there are not and
  -- there are more than 256 states
  pub standings : (text : Bytes) (table flags : List ℕ) (J : NamedJob) → IsJob text J → 4096 ≤ length table → 256 ≤ length flags
      → ((outcome text table flags).reply.number ≡ 9) ↔ DistinctStandings J.query (length J.labels) 65
  pub states : (text : Bytes) (table flags : List ℕ) (J : NamedJob) → IsJob text J → 4096 ≤ length table → 256 ≤ length flags
      → ((outcome text table flags).reply.number ≡ 10)
      ↔ ((¬ DistinctStandings J.query (length J.labels) 65) × DistinctStates (job_of J) 257)
  -- the same of a kept file, by its bytes
  pub kept : (text out : Bytes) →
      let o = keep_outcome text out in
      o.reply.number ≡ 0 → (J : NamedJob) × IsJob text J × KeepSays J out o
  pub kept-determined : (J : NamedJob) (out : Bytes) (o p : Keeps) → KeepSays J out o → KeepSays J out p → o ≡ p
