-- The text of an answer's job, read into tables: they hold the automata of the job's expressions, and what the job leaves is what the text
-- leaves.
use Rattle.std.specs.Prelude.{◌≡◌, ℕ, suc, Result, Ok, Err, List, length, slice_index_or}
use Rattle.std.specs.Prelude.{refl}
use Rattle.std.proofs.Common.{sym, ap, ◌∙◌, subst, arith}
use Rattle.theory.specs.Expression.{Expression, empty}
use Rattle.theory.specs.Job.{Job, WellFormed}
use Rattle.theory.specs.Automaton.{glushkov}
use Rattle.syntax.specs.Byte.{Bytes}
use Rattle.reading.specs.JobText.{NamedJob, job_of}
use Rattle.reading.specs.declared.answer.Job.{Job as Counts}
use Rattle.reading.specs.declared.answer.Refused.{Refused}
use Rattle.reading.specs.Answering.{counts, refused_at, answer_of}
use Rattle.reading.specs.Loading.{Loaded}
use Rattle.reading.specs.Read.{Reading, read, job}
use Rattle.reading.specs.ReadFacts.{ReadFacts, read-facts}
use Rattle.reading.specs.Tables.{Tables, Holds}
use Rattle.finding.specs.StoredAutomata.{Stored, row-stored}
use Rattle.finding.specs.Operation.{job-told}
use Rattle.syntax.specs.Reply.{refusing}
use Rattle.answering.specs.Marked.{Chosen, query, list}
use Rattle.answering.specs.LinksOperation.{Outcome, outcome, by_reading, JobGiven}

-- The tables of a text that is read.
module _ (text : Bytes) (J : NamedJob) (T : Tables) (h : Holds text J T) (f : ReadFacts J) where
  stored : {c : ℕ} {e : Expression} → Chosen (job_of J) c e → Stored T.follow T.enter T.sizes T.accepting c (glushkov e)
  stored query =
      row-stored J.query 0 (length J.labels) T h.query f.well-formed.query f.few-labels f.query-fits
  stored (list {v} l) =
      row-stored (slice_index_or J.lists v empty) (suc v) (length J.labels) T (h.rows v l) (f.well-formed.lists v l) f.few-labels
      (f.lists-fit v l)

  job-given : JobGiven (job_of J) T.follow T.enter T.sizes T.accepting (length J.labels) (length J.list_names)
  job-given = record { labels-told = refl; lists-told = f.as_many; stored = stored }

module _ (text : Bytes) {r : Result Counts Refused} {T : Tables} (l : Loaded text r T) where
  module _ (more : Job → Outcome) (before workspace : List ℕ) where
    pub read-answered : {labels lists : ℕ} {o : Outcome} → r ≡ Ok (counts labels lists)
        → ((J : Job) → WellFormed J → JobGiven J T.follow T.enter T.sizes T.accepting labels lists → o ≡ more J)
        → o ≡ by_reading more before workspace (read text)
    read-answered {labels} {lists} {o} e told =
        let (J, q, a, b) = job-told (read text) (sym l.answer ∙ e) in
        let f = read-facts text q in
        let g = job-given text J T (l.holds J q) f in
        told (job_of J) f.well-formed (subst (λ n. JobGiven (job_of J) T.follow T.enter T.sizes T.accepting n lists) a
        (subst (JobGiven (job_of J) T.follow T.enter T.sizes T.accepting (length J.labels)) b g))
        ∙ ap (by_reading more before workspace) (sym q)

    pub read-refused : {e : Refused} → r ≡ Err e
        → outcome (refusing e.refusal e.line) before workspace ≡ by_reading more before workspace (read text)
    read-refused {e} told = go (read text) (sym l.answer ∙ told)
      where
        go : (z : Reading) → answer_of z ≡ Err e → outcome (refusing e.refusal e.line) before workspace ≡ by_reading more before workspace z
        go (job J) f = let z : ◌≡◌ {A = ℕ} 0 1 = cc in absurd (omega arith)
        go (Reading.refused p m) f =
            let a : refused_at p m ≡ e = cc in
            ap (λ (e : Refused). outcome (refusing e.refusal e.line) before workspace) (sym a)
