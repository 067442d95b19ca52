-- The steps of Answer from links (LinksOperation).
use Rattle.std.specs.Prelude.{Result, ok_or, Option, ◌≡◌, ℕ, suc, ◌+◌, ◌*◌, ◌<◌, ◌≤◌, true, false, List, length, take, drop, slice_index}
use Rattle.std.specs.Prelude.{refl}
use Rattle.std.proofs.Common.{sym, ◌∙◌, subst, arith, length-take, length-drop}
use Rattle.std.proofs.Math.Path.{ap}
use Rattle.theory.specs.Expression.{Expression}
use Rattle.theory.specs.Job.{Job}
use Rattle.theory.specs.Graph.{Table}
use Rattle.theory.specs.Automaton.{glushkov}
use Rattle.theory.specs.Exploration.{Exploration, all, over}
use Rattle.syntax.specs.declared.refusal.Refusal.TheVariants.{TooManyStandings, BadTable, BadStart, NoExpression}
use Rattle.finding.specs.Standings.{standings}
use Rattle.finding.specs.Plain.{plain}
use Rattle.syntax.specs.Reply.{Reply, refusing}
use Rattle.reading.specs.declared.answer.Refused.{Refused}
use Rattle.reading.specs.Answering.{unlined, value_reply}
use Rattle.answering.specs.Table.{is_table}
use Rattle.answering.specs.AnswerJob.{Marking, checked, marked_links, links_of, links_job}
use Rattle.answering.specs.MarkedLaws.{chosen-exactly, chosen-absent, chosen-within, chosen-some}
use Rattle.answering.specs.LinksCore.{LinksGiven, LinksTold}
use Rattle.answering.specs.LinksOperation.{Outcome, outcome, left, JobGiven, ExpressionTold}
use Rattle.answering.specs.AnswerChecks.{bad-table, bad-start, both-proper}

-- An expression.

abbrev answered_of : Option ℕ → Reply
answered_of r = value_reply (ok_or r (unlined TooManyStandings))

module _ {labels : ℕ} {table : Table} {N start : ℕ} {before workspace after workspace' : List ℕ} {r : Option ℕ} where
  links-left : (e : Expression) → LinksTold (glushkov e) labels N table start before workspace r after workspace'
      → outcome (answered_of r) after workspace' ≡ left N before workspace (marked_links e N table start (standings (glushkov e) labels 64))
  links-left e t = go (standings (glushkov e) labels 64) refl
    where
      go : (o : Exploration ℕ) → standings (glushkov e) labels 64 ≡ o
          → outcome (answered_of r) after workspace' ≡ left N before workspace (marked_links e N table start o)
      go (all l) q = λ i. outcome (answered_of (t.told l q i)) (t.marked l q i) (t.cleared i)
      go over q = λ i. outcome (answered_of (t.is_over q i)) (t.unmarked q i) (t.cleared i)

  -- The rows of the expression number x, as the code cuts them.
  module _ (follow enter sizes accepting : List ℕ) (x m n : ℕ) (p : m ≡ suc (slice_index sizes x)) (q : n ≡ 32)
      (room : 32 * x + 32 ≤ length enter) (few : labels ≤ 32) (proper : is_table N labels table ≡ true)
      (t : LinksGiven (take n (drop (32 * x) enter)) labels table N
      → LinksTold (plain (take m (drop (64 * x) follow)) (take n (drop (32 * x) enter)) (slice_index accepting x)) labels N table start
      before workspace r after workspace') where
    rows-told : ExpressionTold follow enter sizes accepting x labels table N start before workspace
        (outcome (answered_of r) after workspace')
    rows-told =
        let g : LinksGiven (take n (drop (32 * x) enter)) labels table N = record {
          few-labels = few;
          enters = omega (arith, length-take n (drop (32 * x) enter), length-drop (32 * x) enter);
          is-table = proper;
        } in
        let Told : ℕ → ℕ → Type 0 = λ m n. LinksTold (plain (take m (drop (64 * x) follow)) (take n (drop (32 * x) enter)) (slice_index accepting x))
        labels N table start before workspace r after workspace' in
        let u : Told (suc (slice_index sizes x)) 32 = subst (Told (suc (slice_index sizes x))) q (subst (λ m. Told m n) p (t g)) in
        record {
          told = λ e s. links-left e (subst (λ B. LinksTold B labels N table start before workspace r after workspace') s.same u);
        }

    pub expression-told : {answer : Result ℕ Refused} → answer ≡ ok_or r (unlined TooManyStandings)
        → ExpressionTold follow enter sizes accepting x labels table N start before workspace (outcome (value_reply answer) after workspace')
    expression-told e =
        subst
        (λ answer. ExpressionTold follow enter sizes accepting x labels table N start before workspace
        (outcome (value_reply answer) after workspace'))
        (sym e) rows-told

-- A job.

abbrev marking : Expression → ℕ → Table → ℕ → ℕ → Marking
marking e N table start labels = marked_links e N table start (standings (glushkov e) labels 64)

module _ (J : Job) (N c : ℕ) (table : Table) (start : ℕ) (before workspace : List ℕ) where
  pub links-absent : length J.lists < c
      → outcome (refusing NoExpression 0) before workspace ≡ left N before workspace (links_job J N c table start)
  unfolding links_job
  links-absent h = rw ((chosen-absent J c).1 (λ e k. omega (arith, chosen-within k)))

  pub links-bad-table : c ≤ length J.lists → is_table N J.labels table ≡ false
      → outcome (refusing BadTable 0) before workspace ≡ left N before workspace (links_job J N c table start)
  unfolding links_job
  links-bad-table h t = let (e, k) = chosen-some J c h in
      ap (left N before workspace)
      (sym (ap (links_of J N table start) ((chosen-exactly J c e).1 k) ∙ bad-table N J.labels table start (marking e N table start J.labels) t))

  pub links-bad-start : c ≤ length J.lists → is_table N J.labels table ≡ true → N ≤ start
      → outcome (refusing BadStart 0) before workspace ≡ left N before workspace (links_job J N c table start)
  unfolding links_job
  links-bad-start h t l = let (e, k) = chosen-some J c h in
      ap (left N before workspace)
      (sym (ap (links_of J N table start) ((chosen-exactly J c e).1 k) ∙ bad-start N J.labels table start (marking e N table start J.labels) t l))

  pub links-marked-job : {follow enter sizes accepting : List ℕ} {labels lists : ℕ} {o : Outcome}
      → JobGiven J follow enter sizes accepting labels lists → c ≤ lists → is_table N labels table ≡ true → start < N
      → ExpressionTold follow enter sizes accepting c labels table N start before workspace o
      → o ≡ left N before workspace (links_job J N c table start)
  unfolding links_job
  links-marked-job {labels = labels} g h t l x =
      let (e, k) = chosen-some J c (rw g.lists-told h) in
      x.told e (g.stored k)
      ∙ ap (left N before workspace)
      (sym (ap (links_of J N table start) ((chosen-exactly J c e).1 k)
      ∙ ap (λ k. checked N k table start (marking e N table start k)) g.labels-told
      ∙ both-proper N labels table start (marking e N table start labels) t l))
