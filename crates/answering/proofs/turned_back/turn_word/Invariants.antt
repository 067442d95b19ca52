-- `turn_word` meets its contract. The loop's invariant: what comes of the members left comes of the whole word.
use Rattle.std.specs.Prelude.{ℕ, ◌^◌, ◌<◌, List}
use Rattle.theory.specs.Places.{Member}
use Rattle.answering.specs.TurnedBack.{WordTurned}
use Rattle.answering.proofs.turned_back.turn_word.Given as goal

abbrev pub invariant-loop-p : goal.invariant-loop-p
invariant-loop-p l =
    (goal.iterator-loop-p).can_next l.p-iterator × (goal.iterator-loop-p).is_finite l.p-iterator
    × (l.p-iterator.rest < 2 ^ 64) × ((p : ℕ) → Member p l.p-iterator.rest → Member p l.set)
    × ((after : List ℕ) → WordTurned l.p-iterator.rest l.from l.s l.reached after → WordTurned l.set l.from l.s l.initial.reached after)
