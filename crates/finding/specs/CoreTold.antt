-- What the code for Find promises on the tables of a job: it leaves what Find (find_automata) gives on the automata that the tables hold, and
-- before states are merged what exploration gives (explore_automata).
use Rattle.std.specs.Prelude.{◌≡◌, ℕ, ◌≤◌, List, [], length, take, Option, Some, None, Result}
use Rattle.std.proofs.Math.Path.{refl, sym, ap}
use Rattle.std.proofs.Common.{ap₂, ◌∙◌, subst}
use Rattle.theory.specs.Automaton.{Automaton}
use Rattle.theory.specs.Exploration.{Entry, Exploration, all, over}
use Rattle.syntax.specs.declared.refusal.Refusal.TheVariants.{TooManyStandings}
use Rattle.reading.specs.declared.answer.Refused.{Refused}
use Rattle.finding.specs.declared.answer.Found.{Found as Told}
use Rattle.finding.specs.Standings.{standings, values}
use Rattle.finding.specs.ListImage.{image_table}
use Rattle.finding.specs.States.{accepting_standings}
use Rattle.finding.specs.Find.{refused, find_states, explore_automata, find_automata}
use Rattle.finding.specs.ListRows.{job_tables, Moves}
use Rattle.finding.specs.Outcome.{left, left_by, refused_with}
use Rattle.finding.specs.Named.{cleared}
use Rattle.finding.specs.QueryTold.{Queried, QueryTold}
use Rattle.finding.specs.StatesPart.{clash, Holding, Room, StatesPart}

-- What the callers ask for and lend: there is room for 64 standings and 256 states, and the lent parts are long enough.
pub record Lent (most_standings most_states : ℕ) (table flags : List ℕ) : Type 0 where
  pub standings : most_standings ≤ 64
  pub states : most_states ≤ 256
  pub rows : 4096 ≤ length table
  pub marks : 256 ≤ length flags

-- The tables hold the automata of a query and of lists.
pub record HoldsJob (follow enter sizes accepting : List ℕ) (labels lists : ℕ) : Type 0 where
  pub query : Automaton
  pub listed : List Automaton
  pub holding : Holding (job_tables [] 0 labels follow enter sizes accepting) query listed lists

-- A and Bs are the automata that the tables hold.
pub record UnmergedTold (follow enter sizes accepting : List ℕ) (labels lists most_a most_b : ℕ) (table flags : List ℕ) (r : Result Told Refused)
    (table' flags' : List ℕ) : Type 0 where
  pub told : (A : Automaton) (Bs : List Automaton) → Holding (job_tables [] 0 labels follow enter sizes accepting) A Bs lists
      → left r table' flags' ≡ left_by (explore_automata A labels Bs most_a most_b) table flags

pub record CoreTold (follow enter sizes accepting : List ℕ) (labels lists most_a most_b : ℕ) (table flags : List ℕ) (r : Result Told Refused)
    (table' flags' : List ℕ) : Type 0 where
  pub told : (A : Automaton) (Bs : List Automaton) → Holding (job_tables [] 0 labels follow enter sizes accepting) A Bs lists
      → left r table' flags' ≡ left_by (find_automata A labels Bs most_a most_b) table flags

standings-refused : (A : Automaton) (k : ℕ) (Bs : List Automaton) (most_a most_b : ℕ) → standings A k most_a ≡ over
    → explore_automata A k Bs most_a most_b ≡ refused TooManyStandings
unfolding explore_automata
standings-refused A k Bs most_a most_b e = rw (explore_automata, e)

standings-found : (A : Automaton) (k : ℕ) (Bs : List Automaton) (most_a most_b : ℕ) (l : List (Entry ℕ)) → standings A k most_a ≡ all l
    → explore_automata A k Bs most_a most_b ≡ find_states (image_table A (values l) k Bs) (length l) (accepting_standings A (values l)) most_b
unfolding explore_automata
standings-found A k Bs most_a most_b l e = rw (explore_automata, e)

module _ (follow enter sizes accepting : List ℕ) (labels lists most_a most_b : ℕ) (table flags : List ℕ) (e : Option ℕ) (found moves : List ℕ)
    (query : QueryTold follow enter sizes labels most_a e found moves) (room : Room labels lists most_b table flags) (few : most_a ≤ 64) where
  pub core-over : (r : Result Told Refused) (table' flags' : List ℕ) → e ≡ None → (4096 ≤ length table → table' ≡ cleared 4096 table)
      → (256 ≤ length flags → flags' ≡ cleared 256 flags) → r ≡ refused_with TooManyStandings 0
      → UnmergedTold follow enter sizes accepting labels lists most_a most_b table flags r table' flags'
  unfolding left_by
  core-over r table' flags' p t f o =
      record { told = λ A Bs h. there A Bs (query.told room.labels few accepting A h.query) (standings A labels most_a) refl }
    where
      there : (A : Automaton) (Bs : List Automaton) → Queried A labels most_a e found moves
          → (s : Exploration ℕ) → standings A labels most_a ≡ s
          → left r table' flags' ≡ left_by (explore_automata A labels Bs most_a most_b) table flags
      there A Bs q over s =
          ap (λ u. left u table' flags') o
          ∙ (ap₂ (λ u v. left (refused_with TooManyStandings 0) u v) (t room.table) (f room.flags)
          ∙ ap (λ x. left_by x table flags) (sym (standings-refused A labels Bs most_a most_b s)))
      there A Bs q (all l) s = let c : Some (length l) ≡ None = sym (q.count l s) ∙ p in clash (cc)

  pub core_all : (count : ℕ) (r : Result Told Refused) (table' flags' : List ℕ) → e ≡ Some count
      → StatesPart (job_tables moves count labels follow enter sizes accepting) lists most_b found table flags r table' flags'
      → UnmergedTold follow enter sizes accepting labels lists most_a most_b table flags r table' flags'
  core_all count r table' flags' p part =
      record { told = λ A Bs h. there A Bs h (query.told room.labels few accepting A h.query) (standings A labels most_a) refl }
    where
      there : (A : Automaton) (Bs : List Automaton)
          → Holding (job_tables [] 0 labels follow enter sizes accepting) A Bs lists → Queried A labels most_a e found moves
          → (s : Exploration ℕ) → standings A labels most_a ≡ s
          → left r table' flags' ≡ left_by (explore_automata A labels Bs most_a most_b) table flags
      there A Bs h q over s = let c : Some count ≡ None = sym p ∙ q.is_over s in clash (cc)
      there A Bs h q (all l) s =
          let c : Some count ≡ Some (length l) = sym p ∙ q.count l s in
          let k : count ≡ length l = cc in
          let n : take count found ≡ values l = ap (λ i. take i found) k ∙ q.numbers l s in
          let m : Moves A (take count found) (job_tables moves count labels follow enter sizes accepting) =
          subst (λ v. Moves A v (job_tables moves count labels follow enter sizes accepting)) (sym n)
          (subst (λ i. Moves A (values l) (job_tables moves i labels follow enter sizes accepting)) (sym k)
          (q.moved l s follow enter sizes accepting)) in
          part.told room A Bs (record { query = h.query; size = h.size; listed = h.listed }) m
          ∙ (ap₂ (λ v i. left_by (find_states (image_table A v labels Bs) i (accepting_standings A v) most_b) table flags) n k
          ∙ ap (λ x. left_by x table flags) (sym (standings-found A labels Bs most_a most_b l s)))
