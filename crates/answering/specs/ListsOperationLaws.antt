-- The steps of Answer from lists (ListsOperation).
use Rattle.std.specs.Prelude.{Result, Ok, Err, ◌≡◌, ℕ, ◌*◌, ◌<◌, ◌≤◌, true, false, ◌⊎◌, List, [], ◌∷◌, ◌++◌, length, drop, replicate}
use Rattle.std.proofs.Common.{inl, inr, sym, ◌∙◌, subst, arith}
use Rattle.std.specs.Prelude.{refl}
use Rattle.std.proofs.Math.Path.{ap}
use Rattle.theory.specs.Job.{Job}
use Rattle.theory.specs.Graph.{Table}
use Rattle.syntax.specs.declared.refusal.Refusal.{Refusal}
use Rattle.syntax.specs.declared.refusal.Refusal.TheVariants.{TooManyStandings, TooManyStates, BadTable, BadStart}
use Rattle.reading.specs.declared.answer.Refused.{Refused}
use Rattle.finding.specs.declared.answer.Found.{Found as Told}
use Rattle.finding.specs.Outcome.{counted}
use Rattle.reading.specs.Answering.{refused_at}
use Rattle.finding.specs.WordTold.{first_word}
use Rattle.finding.specs.Find.{Found, found, find}
use Rattle.finding.specs.Cleared.{Cleared}
use Rattle.finding.specs.Rewritten.{Rewritten, rewritten}
use Rattle.syntax.specs.Reply.{given, refusing}
use Rattle.answering.specs.Table.{is_table}
use Rattle.answering.specs.AnswerJob.{Marking, refused, marked_lists, lists_job}
use Rattle.answering.specs.LinksOperation.{Outcome, outcome}
use Rattle.answering.specs.AnswerChecks.{bad-table, bad-start, both-proper}
use Rattle.answering.specs.ListsCore.{ListsLent, ListsGiven, ListsMarked}
use Rattle.answering.specs.ListsOperation.{lists_left, FoundGiven}

clash : {A : Type 0} → ◌≡◌ {A = ℕ} 0 1 → A
clash z = absurd (omega arith)

-- What Find tells.

module _ {F : Found} {lists : ℕ} {told : Result Told Refused} {next flags : List ℕ} {table : Table} {N : ℕ}
    (g : FoundGiven F lists told next flags table N) {start : ℕ} {before workspace after workspace' : List ℕ} where
  pub finding-marked : {t : Told} {r : ℕ} → told ≡ Ok t
      → ((R : Rewritten) → ListsGiven R lists next flags t.states table N → ListsMarked R N table start before workspace after workspace' r)
      → outcome (given (r ∷ [])) after workspace' ≡ lists_left N before workspace (marked_lists N table start F)
  finding-marked {t} {r} e marks = go F refl
    where
      go : (G : Found) → F ≡ G → outcome (given (r ∷ [])) after workspace' ≡ lists_left N before workspace (marked_lists N table start G)
      go (Found.refused q) f = let (a, b) = g.refuses q f in clash (cc)
      go (found R) f =
          let (a, b) = g.answered R f in
          let same : counted R.standings R.states (first_word R.first) ≡ t = cc in
          let u = marks (rewritten R) (subst (λ (t : Told). ListsGiven (rewritten R) lists next flags t.states table N) same b) in
          λ i. outcome (given ((u.told i) ∷ [])) (u.marked i) (u.cleared i)

  pub finding-refused : {q : Refused} → told ≡ Err q → ListsLent N start before workspace
      → Cleared N before after → Cleared (4 * N) workspace workspace'
      → outcome (refusing q.refusal q.line) after workspace' ≡ lists_left N before workspace (marked_lists N table start F)
  finding-refused {q} e l c d = go F refl
    where
      zeroed : (r : Refusal) → (r ≡ TooManyStandings) ⊎ (r ≡ TooManyStates)
          → outcome (refusing r 0) (replicate N 0 ++ drop N before) (replicate (4 * N) 0 ++ drop (4 * N) workspace)
          ≡ lists_left N before workspace (refused r)
      zeroed r (inl p) = rw p
      zeroed r (inr p) = rw p

      go : (G : Found) → F ≡ G
          → outcome (refusing q.refusal q.line) after workspace' ≡ lists_left N before workspace (marked_lists N table start G)
      go (found R) f = let (a, b) = g.answered R f in clash (cc)
      go (Found.refused r) f =
          let (a, b) = g.refuses r f in
          let same : q ≡ refused_at r 0 = cc in
          (λ i. outcome (refusing (same i).refusal (same i).line) (c.enough l.marks-fit i) (d.enough l.room i)) ∙ zeroed r b

-- A job.

module _ (J : Job) (N : ℕ) (table : Table) (start : ℕ) (before workspace : List ℕ) where
  abbrev more : Marking
  more = marked_lists N table start (find J)

  pub lists-bad-table : is_table N (length J.lists) table ≡ false
      → outcome (refusing BadTable 0) before workspace ≡ lists_left N before workspace (lists_job J N table start)
  unfolding lists_job
  lists-bad-table t = ap (lists_left N before workspace) (sym (bad-table N (length J.lists) table start more t))

  pub lists-bad-start : is_table N (length J.lists) table ≡ true → N ≤ start
      → outcome (refusing BadStart 0) before workspace ≡ lists_left N before workspace (lists_job J N table start)
  unfolding lists_job
  lists-bad-start t l = ap (lists_left N before workspace) (sym (bad-start N (length J.lists) table start more t l))

  pub lists-marked-job : {o : Outcome} → is_table N (length J.lists) table ≡ true → start < N
      → o ≡ lists_left N before workspace (marked_lists N table start (find J)) → o ≡ lists_left N before workspace (lists_job J N table start)
  unfolding lists_job
  lists-marked-job t l e = e ∙ ap (lists_left N before workspace) (sym (both-proper N (length J.lists) table start more t l))
