-- `Demand3` holds.
use Rattle.std.specs.Prelude.{ℕ, ◌<◌, List, ◌≡◌, get_or, take}
use Rattle.std.proofs.Common.{sym, ◌∙◌, subst, get_or-take}
use Rattle.theory.specs.Job.{Job}
use Rattle.theory.specs.Rewriting.{Complete}
use Rattle.theory.specs.Graph.{Table, ExactPairs, AnswersFromLinks}
use Rattle.theory.proofs.Answers.{lists-within-links, complete-links-within-lists}
use Rattle.theory.proofs.GreatestRewriting.{sound-yielded}
use Rattle.syntax.specs.Byte.{Bytes}
use Rattle.reading.specs.JobText.{NamedJob, job_of, IsJob}
use Rattle.reading.specs.ReadLaws.{job-unique}
use Rattle.verdict.specs.VerdictOperation.{outcome as verdict_outcome}
use Rattle.answering.specs.TableLaws.{table-ends}
use Rattle.answering.specs.Marked.{query, MarksOf}
use Rattle.answering.specs.MarkedLaws.{chosen-determined, marks-same}
use Rattle.answering.specs.LinksOperation.{links_answer, Outcome as Marks}
use Rattle.answering.specs.ListsOperation.{lists_answer}
use Rattle.demands.specs.VerdictSays.{VerdictSays}
use Rattle.demands.proofs.VerdictSaysLaws.{verdict-says, complete-exactly, missed-left, verdict-determined}
use Rattle.demands.specs.MarksSay.{Reaches, MarksSay, LinksSay, ListsSay}
use Rattle.demands.proofs.MarksSayLaws.{links-say, lists-say, marks-say-determined}
use Rattle.demands.specs.Demand3.{Demand3}

-- The two answers on one job, from the query's links and from lists.
module _ (J : Job) (N start : ℕ) (links lists : Table) (exact : ExactPairs J N links lists) {marks workspace marks' workspace' : List ℕ}
    {a b : Marks} (k : LinksSay J N 0 links start marks workspace a) (l : ListsSay J N lists start marks' workspace' b) where
  query-marks : MarksOf N (AnswersFromLinks J links start) (take N a.marks)
  query-marks =
      subst (λ e. MarksOf N (Reaches e links start) (take N a.marks)) (chosen-determined k.chosen query) k.says.marks

  lists-within : (y : ℕ) → y < N → get_or b.marks y 0 ≡ 1 → get_or a.marks y 0 ≡ 1
  lists-within y h e =
      sym (get_or-take N a.marks y 0 h)
      ∙ (query-marks.exactly y h).1
      (lists-within-links J N links lists exact (table-ends l.table) l.begins
      ((l.says.marks.exactly y h).0 (get_or-take N b.marks y 0 h ∙ e)))

  lists-same : Complete J → take N b.marks ≡ take N a.marks
  lists-same c =
      marks-same l.says.marks query-marks
      (λ y h. (
        lists-within-links J N links lists exact (table-ends l.table) l.begins,
        complete-links-within-lists J N links lists exact (table-ends k.table) c l.begins,
      ))

-- What is said of the job of a text is said of every job that the text is.
of-job : {text : Bytes} (P : NamedJob → Type 0) (J : NamedJob) → IsJob text J → (K : NamedJob) × IsJob text K × P K → P J
of-job P J j (K, k, p) = subst P (job-unique k j) p

pub demand-3 : Demand3
demand-3 =
    record {
      yields = λ text J j. sound-yielded (job_of J);
      verdict = verdict-says;
      complete = λ text allowance table flags path workspace J j z.
          complete-exactly (job_of J) allowance table flags path workspace (verdict_outcome text allowance table flags path workspace)
          (of-job (λ K. VerdictSays (job_of K) allowance table flags path workspace (verdict_outcome text allowance table flags path workspace)) J j
          (verdict-says text allowance table flags path workspace z));
      missed = λ text allowance table flags path workspace J j z.
          missed-left (job_of J) allowance table flags path workspace (verdict_outcome text allowance table flags path workspace)
          (of-job (λ K. VerdictSays (job_of K) allowance table flags path workspace (verdict_outcome text allowance table flags path workspace)) J j
          (verdict-says text allowance table flags path workspace z));
      links = links-say;
      lists = lists-say;
      within = λ text J j N start links lists exact marks workspace marks' workspace' x y.
          lists-within (job_of J) N start links lists exact
          (of-job (λ K. LinksSay (job_of K) N 0 links start marks workspace (links_answer text N 0 links start marks workspace)) J j
          (links-say text N 0 links start marks workspace x))
          (of-job (λ K. ListsSay (job_of K) N lists start marks' workspace' (lists_answer text N lists start marks' workspace')) J j
          (lists-say text N lists start marks' workspace' y));
      same = λ text J j N start links lists exact marks workspace marks' workspace' allowance table flags path workspace'' x y z e.
          lists-same (job_of J) N start links lists exact
          (of-job (λ K. LinksSay (job_of K) N 0 links start marks workspace (links_answer text N 0 links start marks workspace)) J j
          (links-say text N 0 links start marks workspace x))
          (of-job (λ K. ListsSay (job_of K) N lists start marks' workspace' (lists_answer text N lists start marks' workspace')) J j
          (lists-say text N lists start marks' workspace' y))
          ((complete-exactly (job_of J) allowance table flags path workspace'' (verdict_outcome text allowance table flags path workspace'')
          (of-job (λ K. VerdictSays (job_of K) allowance table flags path workspace'' (verdict_outcome text allowance table flags path workspace'')) J j
          (verdict-says text allowance table flags path workspace'' z))).0 e);
      determined = λ J allowance table flags path workspace o q. verdict-determined J allowance table flags path workspace;
      links-determined = λ J N chosen links start marks workspace o q a b.
          marks-say-determined a.says
          (subst (λ e. MarksSay N N (Reaches e links start) marks workspace q) (chosen-determined b.chosen a.chosen) b.says);
      lists-determined = λ J N lists start marks workspace o q a b. marks-say-determined a.says b.says;
    }
