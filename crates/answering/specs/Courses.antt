-- How each answer on a job goes (document 01, "Answer from links" and "Answer from lists"), in the order of the checks: the refusals, each
-- with what it is for, and the marks with what they mean.
use Rattle.std.specs.Prelude.{◌≡◌, ℕ, ◌<◌, ◌≤◌, Bool, true, false, List, length, nat_lt}
use Rattle.std.proofs.lemmas.Bool.{false≢true}
use Rattle.std.proofs.Math.Option.{Option, some, none}
use Rattle.std.specs.Prelude.{refl}
use Rattle.std.proofs.Common.{sym, ◌∙◌, arith, ltb-true, ltb-false}
use Rattle.theory.specs.Path.{Path}
use Rattle.theory.specs.Expression.{Expression, IsPath}
use Rattle.theory.specs.Job.{Job, WellFormed}
use Rattle.theory.specs.Graph.{Table, Leads, AnswersFromLists}
use Rattle.theory.specs.Automaton.{glushkov}
use Rattle.theory.specs.Exploration.{Exploration, all, over}
use Rattle.syntax.specs.declared.refusal.Refusal.TheVariants.{TooManyStandings, TooManyStates, BadTable, BadStart, NoExpression}
use Rattle.finding.specs.Standings.{standings}
use Rattle.finding.specs.StandingsLaws.{standings-over}
use Rattle.finding.specs.Find.{Found, find, most_standings}
use Rattle.finding.specs.Finds.{DistinctStandings, DistinctStates}
use Rattle.finding.specs.FindCourse.{FindCourse, find-course}
use Rattle.finding.specs.Rewritten.{rewritten}
use Rattle.finding.specs.RewrittenLaws.{finds-decides}
use Rattle.answering.specs.Marked.{Chosen, MarksOf}
use Rattle.answering.specs.MarkedLaws.{chosen-exactly, chosen-absent, machine-marks}
use Rattle.answering.specs.Table.{IsTable, is_table}
use Rattle.answering.specs.TableLaws.{is-table-exactly}
use Rattle.answering.specs.AnswerJob.{Marking, marked, refused, chosen, checked, marked_links, links_of, links_job, marked_lists, lists_job}
use Rattle.answering.specs.LinkAnswers.{links-marked}
use Rattle.answering.specs.ListAnswers.{lists-marked}

pub data LinksCourse (J : Job) (N c : ℕ) (t : Table) (x : ℕ) : Marking → Type 0 where
  absent : ((e : Expression) → ¬ Chosen J c e) → LinksCourse J N c t x (refused NoExpression)
  bad-table : {e : Expression} → Chosen J c e → ¬ IsTable N J.labels t → LinksCourse J N c t x (refused BadTable)
  bad-start : {e : Expression} → Chosen J c e → IsTable N J.labels t → N ≤ x → LinksCourse J N c t x (refused BadStart)
  many-standings : {e : Expression} → Chosen J c e → IsTable N J.labels t → x < N → DistinctStandings e J.labels 65
      → LinksCourse J N c t x (refused TooManyStandings)
  marks : {e : Expression} {m : List ℕ} → Chosen J c e → IsTable N J.labels t → x < N → ¬ DistinctStandings e J.labels 65
      → MarksOf N (λ y. (p : Path) × IsPath e p × Leads t p x y) m → LinksCourse J N c t x (marked m)

pub data ListsCourse (J : Job) (N : ℕ) (t : Table) (x : ℕ) : Marking → Type 0 where
  bad-table : ¬ IsTable N (length J.lists) t → ListsCourse J N t x (refused BadTable)
  bad-start : IsTable N (length J.lists) t → N ≤ x → ListsCourse J N t x (refused BadStart)
  many-standings : IsTable N (length J.lists) t → x < N → DistinctStandings J.query J.labels 65
      → ListsCourse J N t x (refused TooManyStandings)
  many-states : IsTable N (length J.lists) t → x < N → ¬ DistinctStandings J.query J.labels 65 → DistinctStates J 257
      → ListsCourse J N t x (refused TooManyStates)
  marks : {m : List ℕ} → IsTable N (length J.lists) t → x < N → ¬ DistinctStandings J.query J.labels 65 → ¬ DistinctStates J 257
      → MarksOf N (AnswersFromLists J t x) m → ListsCourse J N t x (marked m)

-- By cases on the two checks: the table is none; it is one and the start is beyond the recordings; or what comes after.
pub by-checks : (C : Marking → Type 0) (N k : ℕ) (t : Table) (x : ℕ) (more : Marking) → (¬ IsTable N k t → C (refused BadTable))
    → (IsTable N k t → N ≤ x → C (refused BadStart)) → (IsTable N k t → x < N → C more) → C (checked N k t x more)
by-checks C N k t x more f g h = by-table (is_table N k t) refl
  where
    by-start : IsTable N k t → (b : Bool) → nat_lt x N ≡ b → C (elim b as (λ b. Marking) [ false ↦ refused BadStart | true ↦ more ])
    by-start proper true q = h proper (ltb-true x N q)
    by-start proper false q = g proper (ltb-false x N q)

    by-table : (b : Bool) → is_table N k t ≡ b → C (elim b as (λ b. Marking) [
      | false ↦ refused BadTable
      | true ↦ elim (nat_lt x N) [ false ↦ refused BadStart | true ↦ more ]
    ])
    by-table true p = by-start ((is-table-exactly N k t).0 p) (nat_lt x N) refl
    by-table false p = f (λ proper. false≢true (sym p ∙ (is-table-exactly N k t).1 proper))

clash : {A : Type 0} → ◌≡◌ {A = ℕ} 0 1 → A
clash z = absurd (omega arith)

pub links-course : (J : Job) (N c : ℕ) (t : Table) (x : ℕ) → LinksCourse J N c t x (links_job J N c t x)
unfolding links_job
links-course J N c t x = by-expression (chosen J c) refl
  where
    by-standings : (e : Expression) → Chosen J c e → IsTable N J.labels t → x < N
        → (o : Exploration ℕ) → standings (glushkov e) J.labels most_standings ≡ o → LinksCourse J N c t x (marked_links e N t x o)
    by-standings e k proper begins over q = many-standings k proper begins ((standings-over e J.labels most_standings).0 q)
    by-standings e k proper begins (all l) q =
        marks k proper begins (λ d. let p = (standings-over e J.labels most_standings).1 d in clash (cc))
        (machine-marks _ N t x (λ y h. links-marked e J.labels most_standings l q N t proper x y begins h))

    by-expression : (o : Option Expression) → chosen J c ≡ o → LinksCourse J N c t x (links_of J N t x o)
    by-expression none q = absent ((chosen-absent J c).0 q)
    by-expression (some e) q =
        let k = (chosen-exactly J c e).0 q in
        by-checks (LinksCourse J N c t x) N J.labels t x _ (bad-table k) (bad-start k)
        (λ proper begins. by-standings e k proper begins (standings (glushkov e) J.labels most_standings) refl)

pub lists-course : (J : Job) → WellFormed J → length J.lists ≤ 16 → (N : ℕ) (t : Table) (x : ℕ) → ListsCourse J N t x (lists_job J N t x)
unfolding lists_job
lists-course J formed few N t x =
    by-checks (ListsCourse J N t x) N (length J.lists) t x _ bad-table bad-start
    (λ proper begins. by-found proper begins (find J) (find-course J formed few))
  where
    by-found : IsTable N (length J.lists) t → x < N → (F : Found) → FindCourse J F → ListsCourse J N t x (marked_lists N t x F)
    by-found proper begins F (FindCourse.many-standings d) = many-standings proper begins d
    by-found proper begins F (FindCourse.many-states n d) = many-states proper begins n d
    by-found proper begins F (FindCourse.answered {R} n m f) =
        marks proper begins n m
        (machine-marks _ N t x (λ y h. lists-marked J (rewritten R) (finds-decides J R f) N t proper x y begins h))
