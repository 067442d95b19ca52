-- The loop's invariant: the words passed hold no place from the given one on (NextPlace, Passing). The measure is the number of words left.
use Prim.Native.Nat.{◌-◌, ◌<◌, ◌^◌}
use Rattle.places.specs.NextPlace.{Passing}
use Rattle.places.proofs.words.next_place.Given as goal

abbrev pub invariant-loop-word : goal.invariant-loop-word
invariant-loop-word l = (l.word < 2 ^ 64) × Passing l.words l.from l.index l.word

abbrev pub decreases-loop-word : goal.decreases-loop-word
decreases-loop-word l = 16 - l.index
