-- Demand 3, of texts, numbers and lent memory: every path that any set of sound words spells is yielded; a verdict is complete exactly when
-- every query path is yielded, else it names the first missed path; answers from links and from lists mark exactly what is defined; where
-- the lists are exact, lists never mark more than links, and the same when the verdict is complete.
use Rattle.std.specs.Prelude.{ℕ, ◌≤◌, ◌<◌, List, ◌↔◌, ◌≡◌, length, get_or, take}
use Rattle.theory.specs.Path.{Path}
use Rattle.theory.specs.Word.{Word}
use Rattle.theory.specs.Job.{Job, SpelledBy}
use Rattle.theory.specs.Rewriting.{Sound, Yielded, FirstMissed, Complete}
use Rattle.theory.specs.Graph.{Table, ExactPairs}
use Rattle.syntax.specs.Byte.{Bytes}
use Rattle.reading.specs.JobText.{NamedJob, job_of, IsJob}
use Rattle.verdict.specs.VerdictOperation.{outcome as verdict_outcome, Outcome as Verdicts}
use Rattle.answering.specs.LinksOperation.{links_answer, Outcome as Marks}
use Rattle.answering.specs.ListsOperation.{lists_answer}
use Rattle.demands.specs.VerdictSays.{VerdictSays}
use Rattle.demands.specs.MarksSay.{LinksSay, ListsSay}

-- Nothing is refused.
abbrev pub Judged : Verdicts → Type 0
Judged o = o.reply.number ≡ 0

abbrev pub Marked : Marks → Type 0
Marked o = o.reply.number ≡ 0

pub record Demand3 : Type 1 where
  -- every path that any set of sound words spells is yielded
  pub yields : (text : Bytes) (J : NamedJob) → IsJob text J → (R : Word → Type 0) → ((w : Word) → R w → Sound (job_of J) w)
      → (w : Word) (p : Path) → R w → SpelledBy (job_of J) w p → Yielded (job_of J) p
  -- a verdict is complete, telling the number of distinct pairs and no length, exactly when every query path is yielded; else it names the
  -- first missed path, left in the buffer with zeros behind it
  pub verdict : (text : Bytes) (allowance : ℕ) (table flags path workspace : List ℕ) →
      let o = verdict_outcome text allowance table flags path workspace in
      Judged o → (J : NamedJob) × IsJob text J × VerdictSays (job_of J) allowance table flags path workspace o
  pub complete : (text : Bytes) (allowance : ℕ) (table flags path workspace : List ℕ) (J : NamedJob) → IsJob text J →
      let o = verdict_outcome text allowance table flags path workspace in
      Judged o → (length o.reply.values ≡ 1) ↔ Complete (job_of J)
  pub missed : (text : Bytes) (allowance : ℕ) (table flags path workspace : List ℕ) (J : NamedJob) → IsJob text J →
      let o = verdict_outcome text allowance table flags path workspace in
      let size = get_or o.reply.values 1 0 in
      Judged o → ¬ Complete (job_of J)
      → FirstMissed (job_of J) (take size o.path) × ((i : ℕ) → size ≤ i → i < allowance → get_or o.path i 0 ≡ 0)
  -- answers from links mark exactly the recordings to which a path of the chosen expression leads
  pub links : (text : Bytes) (N chosen : ℕ) (links : Table) (start : ℕ) (marks workspace : List ℕ) →
      let o = links_answer text N chosen links start marks workspace in
      Marked o → (J : NamedJob) × IsJob text J × LinksSay (job_of J) N chosen links start marks workspace o
  -- answers from lists mark exactly those to which an accepted list word leads
  pub lists : (text : Bytes) (N : ℕ) (lists : Table) (start : ℕ) (marks workspace : List ℕ) →
      let o = lists_answer text N lists start marks workspace in
      Marked o → (J : NamedJob) × IsJob text J × ListsSay (job_of J) N lists start marks workspace o
  -- where the lists are exact, lists never mark more than links ..
  pub within : (text : Bytes) (J : NamedJob) → IsJob text J → (N start : ℕ) (links lists : Table) → ExactPairs (job_of J) N links lists
      → (marks workspace marks' workspace' : List ℕ) →
      let a = links_answer text N 0 links start marks workspace in
      let b = lists_answer text N lists start marks' workspace' in
      Marked a → Marked b → (y : ℕ) → y < N → get_or b.marks y 0 ≡ 1 → get_or a.marks y 0 ≡ 1
  -- .. and the same when the verdict is complete
  pub same : (text : Bytes) (J : NamedJob) → IsJob text J → (N start : ℕ) (links lists : Table) → ExactPairs (job_of J) N links lists
      → (marks workspace marks' workspace' : List ℕ) (allowance : ℕ) (table flags path workspace'' : List ℕ) →
      let a = links_answer text N 0 links start marks workspace in
      let b = lists_answer text N lists start marks' workspace' in
      let v = verdict_outcome text allowance table flags path workspace'' in
      Marked a → Marked b → Judged v → length v.reply.values ≡ 1 → take N b.marks ≡ take N a.marks
  -- what is said of a verdict and of marks determines them
  pub determined : (J : Job) (allowance : ℕ) (table flags path workspace : List ℕ) (o q : Verdicts)
      → VerdictSays J allowance table flags path workspace o → VerdictSays J allowance table flags path workspace q → o ≡ q
  pub links-determined : (J : Job) (N chosen : ℕ) (links : Table) (start : ℕ) (marks workspace : List ℕ) (o q : Marks)
      → LinksSay J N chosen links start marks workspace o → LinksSay J N chosen links start marks workspace q → o ≡ q
  pub lists-determined : (J : Job) (N : ℕ) (lists : Table) (start : ℕ) (marks workspace : List ℕ) (o q : Marks)
      → ListsSay J N lists start marks workspace o → ListsSay J N lists start marks workspace q → o ≡ q
