-- Answers from lists (T8): which recordings are marked by the states of a rewriting over a table of lists.
use Rattle.std.specs.Prelude.{◌≡◌, ℕ, ◌+◌, ◌*◌, ◌<◌, ◌↔◌, [], ◌∷◌, length, nat_eq, slice_index}
use Rattle.std.proofs.Math.Logic.Iff
use Rattle.std.specs.Prelude.{refl}
use Rattle.std.proofs.Common.{sym, ◌∙◌, eqb-true, eq-eqb}
use Rattle.theory.specs.Word.{Word}
use Rattle.theory.specs.Job.{Job}
use Rattle.theory.specs.Rewriting.{Accepted}
use Rattle.theory.specs.Graph.{Table, Leads, AnswersFromLists}
use Rattle.theory.specs.Places.{Member}
use Rattle.theory.specs.PlacesLaws.{member-collect}
use Rattle.finding.specs.Finds.{followed}
use Rattle.finding.specs.Rewritten.{Rewritten, Decides}
use Rattle.answering.specs.Table.{IsTable}
use Rattle.answering.specs.TableLaws.{table-ends, table-labels, table-path}
use Rattle.answering.specs.Product.{reached_nodes, marks}
use Rattle.answering.specs.ProductLaws.{ends_at, StaysWithin, ends-within, reached-exactly}
use Rattle.answering.specs.MarksLaws.{mark-exactly}
use Rattle.answering.specs.Answer.{list_machine}

-- The state after a word is where the table, followed, ends.
pub ends-followed : (R : Rewritten) (s : ℕ) (w : Word) → ends_at (list_machine R) s w ≡ followed R.table s w
unfolding ends_at followed
ends-followed R s [] = refl
ends-followed R s (v ∷ w) = ends-followed R (slice_index R.table (16 * s + v)) w

module _ (J : Job) (R : Rewritten) (decides : Decides J R) (N : ℕ) (t : Table) (table : IsTable N (length J.lists) t) where
  states-within : StaysWithin (list_machine R) t
  states-within s x v y h l = decides.next s v h (table-labels table l)

  -- The recording y is reached in the state q exactly when a word leads to it over which the table, followed, ends in q.
  pub reached-states : (x y q : ℕ) → x < N → q < R.states
      → Member (R.states * y + q) (reached_nodes (list_machine R) N t x)
      ↔ ((w : Word) × Leads t w x y × (followed R.table 0 w ≡ q))
  reached-states x y q h k =
      Iff.trans (reached-exactly (list_machine R) t states-within N (table-ends table) decides.some-state x y q h k)
      (λ r. (r.0, r.1, sym (ends-followed R 0 r.0) ∙ r.2), λ r. (r.0, r.1, ends-followed R 0 r.0 ∙ r.2))

  accepted-exactly : {w : Word} {x y : ℕ} → Leads t w x y
      → Member (ends_at (list_machine R) 0 w) (list_machine R).accepting ↔ Accepted J w
  accepted-exactly {w} l = (λ m. flag.0 (test.0 m), λ a. test.1 (flag.1 a))
    where
      test : Member (ends_at (list_machine R) 0 w) (list_machine R).accepting ↔ (slice_index R.flags (ends_at (list_machine R) 0 w) ≡ 1)
      test =
          let exact = member-collect (λ q. nat_eq (slice_index R.flags q) 1) R.states (ends_at (list_machine R) 0 w) in (
            λ m. eqb-true (slice_index R.flags (ends_at (list_machine R) 0 w)) 1 (exact.0 m).1,
            λ e. exact.1 (
              ends-within (list_machine R) t states-within decides.some-state l,
              eq-eqb (slice_index R.flags (ends_at (list_machine R) 0 w)) 1 e,
            ),
          )

      flag : (slice_index R.flags (ends_at (list_machine R) 0 w) ≡ 1) ↔ Accepted J w
      flag = rw (ends-followed R 0 w) (decides.accepted w (table-path table l))

  -- Marks from lists: 1 exactly where an accepted list word leads from the start.
  pub lists-marked : (x y : ℕ) → x < N → y < N → (slice_index (marks (list_machine R) N t x) y ≡ 1) ↔ AnswersFromLists J t x y
  lists-marked x y h k =
      Iff.trans (mark-exactly (list_machine R) t states-within N (table-ends table) decides.some-state x y h k) (
        λ q. (q.0, (table-path table q.1, (accepted-exactly q.1).0 q.2), q.1),
        λ q. (q.0, q.2, (accepted-exactly q.2).1 q.1.1),
      )
