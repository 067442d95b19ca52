-- The loop's invariant: the row from the label a on tells what the whole row tells (StandingsExploring, RowLoop).
use Rattle.std.specs.Prelude.{◌≡◌, get_or}
use Rattle.theory.specs.Automaton.{nexts as reached}
use Rattle.finding.specs.NumberIndex.{Indexed}
use Rattle.finding.specs.StandingsExploring.{standing_task, RowLoop}
use Rattle.finding.proofs.standings.Standings.row.Given as goal

abbrev pub invariant-loop-a : goal.invariant-loop-a
invariant-loop-a l =
    (l.after.0 ≡ reached (get_or l.initial.self.found l.i 0) l.follow)
    × RowLoop (standing_task l.follow l.enter l.labels l.limit) l.i l.n l.initial.self.found l.initial.self.moves l.a l.m l.self.found l.self.moves
    × Indexed l.self.found l.m l.self.index.heads l.self.index.nexts
