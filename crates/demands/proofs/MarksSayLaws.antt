-- Where an answer is given, it says what MarksSay has; and what that is determines the answer.
use Rattle.std.specs.Prelude.{ℕ, ◌*◌, Bool, ◌&&◌, List, [], ◌∷◌, ◌++◌, ◌≡◌, length, take, drop}
use Rattle.std.proofs.Math.Bool.{true, false}
use Rattle.std.proofs.Math.Path.{refl}
use Rattle.std.proofs.Common.{sym, ap, ap₂, ◌∙◌, subst, arith, take-append-drop, take_at, drop_at}
use Rattle.std.proofs.Math.Dec.{leb}
use Rattle.theory.specs.Job.{Job}
use Rattle.theory.specs.Graph.{Table, AnswersFromLists}
use Rattle.syntax.specs.Byte.{Bytes}
use Rattle.syntax.specs.Reply.{given, refusing}
use Rattle.syntax.specs.declared.refusal.Refusal.TheVariants.{BadRecordings, BufferTooShort}
use Rattle.reading.specs.JobText.{NamedJob, job_of, IsJob}
use Rattle.reading.specs.Read.{Reading, job, refused, read}
use Rattle.reading.specs.ReadLaws.{read-job, read-refused}
use Rattle.reading.specs.ReadFacts.{read-facts}
use Rattle.answering.specs.Marked.{ones}
use Rattle.answering.specs.Marked.{MarksOf}
use Rattle.answering.specs.MarkedLaws.{marks-determined}
use Rattle.answering.specs.AnswerJob.{Marking, marked, links_job, lists_job}
use Rattle.answering.specs.Courses.{LinksCourse, ListsCourse, links-course, lists-course}
use Rattle.answering.specs.LinksOperation.{Outcome, outcome, left_of, by_reading, lent_checked, links_answer}
use Rattle.answering.specs.ListsOperation.{lists_answer}
use Rattle.demands.proofs.ReadListed.{refused-early}
use Rattle.demands.specs.MarksSay.{Reaches, MarksSay, LinksSay, ListsSay}

-- What marks leave.
left-says : (N words : ℕ) (P : ℕ → Type 0) (before workspace m : List ℕ) → MarksOf N P m
    → MarksSay N words P before workspace (left_of N words before workspace (marked m))
left-says N words P before workspace m k =
    let front : take N (m ++ drop N before) ≡ m = take_at m (drop N before) N k.size in
    record {
      marks = subst (MarksOf N P) (sym front) k;
      beyond = drop_at m (drop N before) N k.size;
      told = ap (λ l. given (ones l ∷ [])) (sym front);
      workspace = refl;
    }

-- An answer comes from a text that is read: what is said of the marks of its job is said of the answer.
module _ (text : Bytes) (N words : ℕ) (before workspace : List ℕ) (answer : Job → Marking) (Says : NamedJob → Outcome → Type 0)
    (says : (J : NamedJob) → read text ≡ job J → (left_of N words before workspace (answer (job_of J))).reply.number ≡ 0
    → Says J (left_of N words before workspace (answer (job_of J)))) where
  abbrev more : Reading → Outcome
  more z = by_reading (λ J. left_of N words before workspace (answer J)) before workspace z

  by-text : (z : Reading) → read text ≡ z → (more z).reply.number ≡ 0 → (J : NamedJob) × IsJob text J × Says J (more z)
  by-text (refused r n) e z = absurd (omega (arith, (refused-early ((read-refused text r n).0 e)).0))
  by-text (job J) e z = (J, (read-job text J).0 e, says J e z)

  answer-says : (lent_checked N words before workspace (more (read text))).reply.number ≡ 0
      → (J : NamedJob) × IsJob text J × Says J (lent_checked N words before workspace (more (read text)))
  unfolding lent_checked
  answer-says = ranged (leb 1 N && leb N 4096) (leb N (length before) && leb words (length workspace))
    where
      ranged : (a b : Bool) → (elim a as (λ a. Outcome) [
        | false ↦ outcome (refusing BadRecordings 0) before workspace
        | true ↦ elim b [ false ↦ outcome (refusing BufferTooShort 0) before workspace | true ↦ more (read text) ]
      ]).reply.number ≡ 0 → (J : NamedJob) × IsJob text J × Says J (elim a as (λ a. Outcome) [
        | false ↦ outcome (refusing BadRecordings 0) before workspace
        | true ↦ elim b [ false ↦ outcome (refusing BufferTooShort 0) before workspace | true ↦ more (read text) ]
      ])
      ranged false b z = absurd (omega arith)
      ranged true false z = absurd (omega arith)
      ranged true true z = by-text (read text) refl z

pub links-say : (text : Bytes) (N c : ℕ) (links : Table) (start : ℕ) (marks workspace : List ℕ)
    → (links_answer text N c links start marks workspace).reply.number ≡ 0
    → (J : NamedJob) × IsJob text J
    × LinksSay (job_of J) N c links start marks workspace (links_answer text N c links start marks workspace)
unfolding links_answer
links-say text N c links start marks workspace =
    answer-says text N N marks workspace (λ J. links_job J N c links start)
    (λ J o. LinksSay (job_of J) N c links start marks workspace o)
    (λ J e. course J (links_job (job_of J) N c links start) (links-course (job_of J) N c links start))
  where
    course : (J : NamedJob) (z : Marking) → LinksCourse (job_of J) N c links start z → (left_of N N marks workspace z).reply.number ≡ 0
        → LinksSay (job_of J) N c links start marks workspace (left_of N N marks workspace z)
    course J z (LinksCourse.absent f) q = absurd (omega arith)
    course J z (LinksCourse.bad-table k f) q = absurd (omega arith)
    course J z (LinksCourse.bad-start k p h) q = absurd (omega arith)
    course J z (LinksCourse.many-standings k p h d) q = absurd (omega arith)
    course J z (LinksCourse.marks {e} {m} k p h d o) q =
        record {
          expression = e;
          chosen = k;
          table = p;
          begins = h;
          says = left-says N N (Reaches e links start) marks workspace m o;
        }

pub lists-say : (text : Bytes) (N : ℕ) (lists : Table) (start : ℕ) (marks workspace : List ℕ)
    → (lists_answer text N lists start marks workspace).reply.number ≡ 0
    → (J : NamedJob) × IsJob text J
    × ListsSay (job_of J) N lists start marks workspace (lists_answer text N lists start marks workspace)
unfolding lists_answer
lists-say text N lists start marks workspace =
    answer-says text N (4 * N) marks workspace (λ J. lists_job J N lists start)
    (λ J o. ListsSay (job_of J) N lists start marks workspace o)
    (λ J e.
    let f = read-facts text e in
    course J (lists_job (job_of J) N lists start)
    (lists-course (job_of J) f.well-formed (omega (arith, f.few-lists, f.as_many)) N lists start))
  where
    course : (J : NamedJob) (z : Marking) → ListsCourse (job_of J) N lists start z → (left_of N (4 * N) marks workspace z).reply.number ≡ 0
        → ListsSay (job_of J) N lists start marks workspace (left_of N (4 * N) marks workspace z)
    course J z (ListsCourse.bad-table f) q = absurd (omega arith)
    course J z (ListsCourse.bad-start p h) q = absurd (omega arith)
    course J z (ListsCourse.many-standings p h d) q = absurd (omega arith)
    course J z (ListsCourse.many-states p h n d) q = absurd (omega arith)
    course J z (ListsCourse.marks {m} p h n d o) q =
        record {
          table = p;
          begins = h;
          says = left-says N (4 * N) (AnswersFromLists (job_of J) lists start) marks workspace m o;
        }

pub marks-say-determined : {N words : ℕ} {P : ℕ → Type 0} {marks workspace : List ℕ} {o q : Outcome}
    → MarksSay N words P marks workspace o → MarksSay N words P marks workspace q → o ≡ q
marks-say-determined {N} {o = o} {q = q} a b =
    let e : take N o.marks ≡ take N q.marks = marks-determined a.marks b.marks in
    λ i. record {
      reply = (a.told ∙ (ap (λ l. given (ones l ∷ [])) e ∙ sym b.told)) i;
      marks = (sym (take-append-drop N o.marks) ∙ (ap₂ ◌++◌ e (a.beyond ∙ sym b.beyond) ∙ take-append-drop N q.marks)) i;
      workspace = (a.workspace ∙ sym b.workspace) i;
    }
