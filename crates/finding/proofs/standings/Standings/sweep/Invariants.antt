-- The loop's invariant: the sweep from the standing i on tells what the whole exploration tells (Exploring, SweepLeft).
use Rattle.std.specs.Prelude.{◌≡◌, ◌-◌, ◌≤◌, length}
use Rattle.finding.specs.NumberIndex.{Indexed}
use Rattle.finding.specs.Exploring.{SweepLeft}
use Rattle.finding.specs.StandingsExploring.{standing_task, Alone}
use Rattle.finding.proofs.standings.Standings.sweep.Given as goal

abbrev pub invariant-loop-i : goal.invariant-loop-i
invariant-loop-i l =
    (l.n ≤ l.limit) × (length l.self.found ≡ length l.initial.self.found) × (length l.self.moves ≡ length l.initial.self.moves)
    × SweepLeft (standing_task l.follow l.enter l.labels l.limit) Alone l.i l.n l.self.found l.self.moves
    × Indexed l.self.found l.n l.self.index.heads l.self.index.nexts

abbrev pub decreases-loop-i : goal.decreases-loop-i
decreases-loop-i l = l.limit - l.i
