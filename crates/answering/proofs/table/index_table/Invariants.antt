-- `index_table` meets its contract. The loop's invariant: from the triple number `at` on, the triples are in range and rise from the numbers
-- up to `after`, which is at most that of a triple that leaves no recording, and the first of each recording is listed.
use Rattle.std.specs.Prelude.{◌≡◌, ℕ, ◌*◌, ◌/◌, ◌≤◌, List, length}
use Rattle.theory.specs.Graph.{Table}
use Rattle.answering.specs.TableSteps.{past_triples, RiseUpTo}
use Rattle.answering.specs.LinkBegins.{Begun}
use Rattle.answering.proofs.table.index_table.Given as goal

pub record Indexed (N k : ℕ) (t : Table) (begins₀ begins : List ℕ) (after at : ℕ) : Type 0 where
  pub within : at ≤ length t / 3
  pub below : after ≤ past_triples N
  pub rest : RiseUpTo N k t (3 * at) after
  pub long : length begins ≡ length begins₀
  pub begun : Begun t N at begins

abbrev pub invariant-loop-at : goal.invariant-loop-at
invariant-loop-at l = Indexed l.recordings l.symbols l.table l.initial.begins l.begins l.after l.at

abbrev pub decreases-loop-at : goal.decreases-loop-at
decreases-loop-at l = l.at
