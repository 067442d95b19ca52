-- What the code for the query's standings promises: they are those of the automaton that the tables hold at number 0.
use Rattle.std.specs.Prelude.{◌≡◌, ℕ, suc, ◌≤◌, List, length, take, slice_index, Option, Some, None}
use Rattle.std.proofs.Common.{ap₂, ◌∙◌, subst}
use Rattle.theory.specs.Automaton.{Automaton, step}
use Rattle.theory.specs.Exploration.{Entry, all, over}
use Rattle.finding.specs.Standings.{standings, values, move}
use Rattle.finding.specs.Plain.{plain}
use Rattle.finding.specs.Numbers.{length-values}
use Rattle.finding.specs.StandingsTold.{StandingsTold}
use Rattle.finding.specs.StoredAutomata.{Stored}
use Rattle.finding.specs.ListRows.{job_tables, Moves}

-- The standings of A, where there are no more than the limit; where there are, that is told.
pub record Queried (A : Automaton) (labels limit : ℕ) (r : Option ℕ) (found moves : List ℕ) : Type 0 where
  pub is_over : standings A labels limit ≡ over → r ≡ None
  pub count : (l : List (Entry ℕ)) → standings A labels limit ≡ all l → r ≡ Some (length l)
  pub numbers : (l : List (Entry ℕ)) → standings A labels limit ≡ all l → take (length l) found ≡ values l
  pub moved : (l : List (Entry ℕ)) → standings A labels limit ≡ all l → (follow enter sizes accepting : List ℕ)
      → Moves A (values l) (job_tables moves (length l) labels follow enter sizes accepting)

pub record QueryTold (follow enter sizes : List ℕ) (labels limit : ℕ) (r : Option ℕ) (found moves : List ℕ) : Type 0 where
  pub told : labels ≤ 32 → limit ≤ 64 → (accepting : List ℕ) (A : Automaton) → Stored follow enter sizes accepting 0 A
      → Queried A labels limit r found moves

module _ (follow enter sizes : List ℕ) (labels limit : ℕ) (found moves : List ℕ) where
  -- The accepting places play no role for the standings.
  queried : (r : Option ℕ) (f e : List ℕ) (accepting : ℕ) → StandingsTold f e labels limit r found moves
      → Queried (plain f e accepting) labels limit r found moves
  unfolding standings move step
  queried r f e accepting t =
      record {
        is_over = t.is_over.1;
        count = t.count;
        numbers = t.numbers;
        moved = λ l p follow enter sizes accepting. record { size = length-values l; moved = t.moved l p; inside = t.inside l p };
      }

  -- With the parts of the tables as they are lent.
  pub query-told : (r : Option ℕ) (m n : ℕ) → m ≡ suc (slice_index sizes 0) → n ≡ 32
      → (labels ≤ 32 → limit ≤ 64 → StandingsTold (take m follow) (take n enter) labels limit r found moves)
      → QueryTold follow enter sizes labels limit r found moves
  query-told r m n p q t = record { told = there }
    where
      there : labels ≤ 32 → limit ≤ 64 → (accepting : List ℕ) (A : Automaton) → Stored follow enter sizes accepting 0 A
          → Queried A labels limit r found moves
      there k h accepting A s =
          subst (λ B. Queried B labels limit r found moves)
          (ap₂ (λ i j. plain (take i follow) (take j enter) (slice_index accepting 0)) p q ∙ s.same)
          (queried r (take m follow) (take n enter) (slice_index accepting 0) (t k h))
