-- What marking by the standings of an automaton promises (document 01, "Answer from links"): the marks of its standings as the states of a
-- machine, or that there are more than 64 of them; the workspace is zero at the end.
use Rattle.std.specs.Prelude.{◌≡◌, ℕ, ◌<◌, ◌≤◌, true, Option, Some, None, List, ◌++◌, length, drop, replicate}
use Rattle.theory.specs.Graph.{Table}
use Rattle.theory.specs.Automaton.{Automaton}
use Rattle.theory.specs.Exploration.{Entry, all, over}
use Rattle.finding.specs.Standings.{standings, values}
use Rattle.answering.specs.Table.{is_table}
use Rattle.answering.specs.Product.{Machine, marks}
use Rattle.answering.specs.Marked.{ones}
use Rattle.answering.specs.Answer.{link_machine}

-- The start is one of the recordings, and the lent marks and words suffice for these.
pub record Lent (N start : ℕ) (before workspace : List ℕ) : Type 0 where
  pub few : N ≤ 4096
  pub begins : start < N
  pub marks-fit : N ≤ length before
  pub room : N ≤ length workspace

-- The first N marks are the machine's, their ones are told, and the first N words are zero.
pub record MachineMarked (M : Machine) (N : ℕ) (table : Table) (start : ℕ) (before workspace after workspace' : List ℕ) (r : ℕ) : Type 0 where
  pub told : r ≡ ones (marks M N table start)
  pub marked : after ≡ marks M N table start ++ drop N before
  pub cleared : workspace' ≡ replicate N 0 ++ drop N workspace

-- Where all standings are found: so it is with the machine of these.
abbrev pub StandingsMarked : Automaton → ℕ → ℕ → Table → ℕ → List ℕ → List ℕ → List ℕ → List ℕ → ℕ → Type 0
StandingsMarked A labels N table start before workspace after workspace' r =
    (l : List (Entry ℕ)) → standings A labels 64 ≡ all l
    → MachineMarked (link_machine A (values l)) N table start before workspace after workspace' r

-- The labels have their rows, and the table is one over them.
pub record LinksGiven (enter : List ℕ) (labels : ℕ) (table : Table) (N : ℕ) : Type 0 where
  pub few-labels : labels ≤ 32
  pub enters : labels ≤ length enter
  pub is-table : is_table N labels table ≡ true

pub record LinksTold (A : Automaton) (labels N : ℕ) (table : Table) (start : ℕ) (before workspace : List ℕ) (r : Option ℕ)
    (after workspace' : List ℕ) : Type 0 where
  pub told : (l : List (Entry ℕ)) → standings A labels 64 ≡ all l → r ≡ Some (ones (marks (link_machine A (values l)) N table start))
  pub marked : (l : List (Entry ℕ)) → standings A labels 64 ≡ all l → after ≡ marks (link_machine A (values l)) N table start ++ drop N before
  pub is_over : standings A labels 64 ≡ over → r ≡ None
  pub unmarked : standings A labels 64 ≡ over → after ≡ replicate N 0 ++ drop N before
  pub cleared : workspace' ≡ replicate N 0 ++ drop N workspace
