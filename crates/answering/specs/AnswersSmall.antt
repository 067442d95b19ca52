-- What either answer tells is small: no more ones than there may be recordings, and no line over one more than the most bytes of a text.
use Rattle.std.specs.Prelude.{◌≡◌, ℕ, suc, ◌*◌, ◌≤◌, Bool, true, false, ◌&&◌, ◌||◌, List, ◌++◌, length, drop, replicate, ◌==◌, nat_le, slice_index_or}
use Rattle.std.proofs.Math.Option.{Option, some, none}
use Rattle.std.proofs.Math.Path.{refl}
use Rattle.std.proofs.Common.{arith, leb-true}
use Rattle.theory.specs.Expression.{Expression}
use Rattle.theory.specs.Job.{Job}
use Rattle.theory.specs.Graph.{Table}
use Rattle.theory.specs.Automaton.{glushkov}
use Rattle.theory.specs.Exploration.{Exploration, all, over}
use Rattle.syntax.specs.Byte.{Bytes}
use Rattle.syntax.specs.Number.{number}
use Rattle.syntax.specs.Reply.{refusing}
use Rattle.syntax.specs.declared.refusal.Refusal.{Refusal}
use Rattle.syntax.specs.declared.refusal.Refusal.TheVariants.{BadRecordings, BufferTooShort}
use Rattle.reading.specs.Text.{most_text}
use Rattle.reading.specs.Read.{Reading, job, read}
use Rattle.reading.specs.ReadLaws.{read-line}
use Rattle.reading.specs.JobText.{job_of}
use Rattle.finding.specs.Standings.{standings}
use Rattle.finding.specs.Find.{Found, found, find, most_standings}
use Rattle.answering.specs.Product.{Machine, marks}
use Rattle.answering.specs.Marked.{ones}
use Rattle.answering.specs.MarkedLaws.{machine-marks, marks-few}
use Rattle.answering.specs.AnswerJob.{Marking, marked, refused, chosen, checked, marked_links, links_of, links_job, marked_lists, lists_job}
use Rattle.answering.specs.Courses.{by-checks}
use Rattle.answering.specs.LinksOperation.{Outcome, outcome, left_of, by_reading, lent_checked, links_answer}
use Rattle.answering.specs.ListsOperation.{lists_answer}

pub record Small (o : Outcome) : Type 0 where
  pub line : o.reply.line ≤ suc most_text
  pub ones : slice_index_or o.reply.values 0 0 ≤ 4096

-- No more recordings are marked than there are.

abbrev FewMarked : ℕ → Marking → Type 0
FewMarked N (marked m) = ones m ≤ N
FewMarked N (refused r) = Unit

machine-few : (M : Machine) (N : ℕ) (t : Table) (x : ℕ) → ones (marks M N t x) ≤ N
machine-few M N t x = marks-few (machine-marks M N t x (λ y h. (λ e. e, λ e. e)))

checked-few : (N k : ℕ) (t : Table) (x : ℕ) (more : Marking) → FewMarked N more → FewMarked N (checked N k t x more)
checked-few N k t x more h = by-checks (FewMarked N) N k t x more (λ f. tt) (λ f g. tt) (λ f g. h)

links-few : (J : Job) (N c : ℕ) (t : Table) (x : ℕ) → FewMarked N (links_job J N c t x)
unfolding links_job
links-few J N c t x = by-expression (chosen J c)
  where
    by-standings : (e : Expression) (o : Exploration ℕ) → FewMarked N (marked_links e N t x o)
    by-standings e (all l) = machine-few _ N t x
    by-standings e over = tt

    by-expression : (o : Option Expression) → FewMarked N (links_of J N t x o)
    by-expression none = tt
    by-expression (some e) = checked-few N J.labels t x _ (by-standings e (standings (glushkov e) J.labels most_standings))

lists-few : (J : Job) (N : ℕ) (t : Table) (x : ℕ) → FewMarked N (lists_job J N t x)
unfolding lists_job
lists-few J N t x = checked-few N (length J.lists) t x _ (by-found (find J))
  where
    by-found : (o : Found) → FewMarked N (marked_lists N t x o)
    by-found (Found.refused r) = tt
    by-found (found R) = machine-few _ N t x

-- What is told.

refused-small : (r : Refusal) (n : ℕ) (before workspace : List ℕ) → n ≤ suc most_text → Small (outcome (refusing r n) before workspace)
refused-small r n before workspace h = record { line = h; ones = omega arith }

module _ (N words : ℕ) (before workspace : List ℕ) where
  left-small : (z : Marking) → N ≤ 4096 → FewMarked N z → Small (left_of N words before workspace z)
  left-small (marked m) h f = record { line = omega arith; ones = omega arith }
  left-small (refused r) h f = side (number r == 9 || number r == 10)
    where
      side : (b : Bool) → Small (elim b as (λ b. Outcome) [
        | true ↦ outcome (refusing r 0) (replicate N 0 ++ drop N before) (replicate words 0 ++ drop words workspace)
        | false ↦ outcome (refusing r 0) before workspace
      ])
      side true = refused-small r 0 _ _ (omega arith)
      side false = refused-small r 0 _ _ (omega arith)

  checks-small : (more : Outcome) → (N ≤ 4096 → Small more) → Small (lent_checked N words before workspace more)
  unfolding lent_checked
  checks-small more h = ranged (nat_le 1 N) (nat_le N 4096) refl
    where
      sized : (b : Bool) → N ≤ 4096 → Small (elim b as (λ b. Outcome) [
        | false ↦ outcome (refusing BufferTooShort 0) before workspace
        | true ↦ more
      ])
      sized true few = h few
      sized false few = refused-small BufferTooShort 0 before workspace (omega arith)

      ranged : (a b : Bool) → nat_le N 4096 ≡ b → Small (elim (a && b) as (λ b. Outcome) [
        | false ↦ outcome (refusing BadRecordings 0) before workspace
        | true ↦ elim (nat_le N (length before) && nat_le words (length workspace)) [
          | false ↦ outcome (refusing BufferTooShort 0) before workspace
          | true ↦ more
        ]
      ])
      ranged true true e = sized (nat_le N (length before) && nat_le words (length workspace)) (leb-true N 4096 e)
      ranged true false e = refused-small BadRecordings 0 before workspace (omega arith)
      ranged false b e = refused-small BadRecordings 0 before workspace (omega arith)

  text-small : (text : Bytes) (answer : Job → Marking) → ((J : Job) → FewMarked N (answer J))
      → Small (lent_checked N words before workspace
      (by_reading (λ J. left_of N words before workspace (answer J)) before workspace (read text)))
  text-small text answer h = checks-small _ (by-reading (read text) refl)
    where
      by-reading : (z : Reading) → read text ≡ z → N ≤ 4096
          → Small (by_reading (λ J. left_of N words before workspace (answer J)) before workspace z)
      by-reading (Reading.refused r n) e few = refused-small r n before workspace (read-line text r n e)
      by-reading (job J) e few = left-small (answer (job_of J)) few (h (job_of J))

pub links-small : (text : Bytes) (N c : ℕ) (t : Table) (x : ℕ) (before workspace : List ℕ)
    → Small (links_answer text N c t x before workspace)
unfolding links_answer
links-small text N c t x before workspace =
    text-small N N before workspace text (λ J. links_job J N c t x) (λ J. links-few J N c t x)

pub lists-small : (text : Bytes) (N : ℕ) (t : Table) (x : ℕ) (before workspace : List ℕ)
    → Small (lists_answer text N t x before workspace)
unfolding lists_answer
lists-small text N t x before workspace =
    text-small N (4 * N) before workspace text (λ J. lists_job J N t x) (λ J. lists-few J N t x)
