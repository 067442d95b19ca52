-- The loop's invariant: the words hold what the places of the set before p lead to. The measure is the number of places left.
use Rattle.std.specs.Prelude.{◌≡◌, ℕ, ◌-◌, ◌≤◌, List, length}
use Rattle.places.specs.Words.{number_of}
use Rattle.verdict.specs.Cover.{moves as moves_of}
use Rattle.verdict.specs.Tables.{automata_of}
use Rattle.verdict.specs.CoverWalk.{Walk}
use Rattle.verdict.proofs.cover.moved.Given as goal

abbrev pub invariant-loop-p : goal.invariant-loop-p
invariant-loop-p l =
    (l.p ≤ 1024) × (length l.words ≡ 16)
    × ((accepting : List ℕ) → Walk (moves_of (automata_of l.follow l.enter l.sizes accepting l.lists) l.a) (number_of l.places) (number_of l.initial.words) l.count l.words l.p)

abbrev pub decreases-loop-p : goal.decreases-loop-p
decreases-loop-p l = 1024 - l.p
