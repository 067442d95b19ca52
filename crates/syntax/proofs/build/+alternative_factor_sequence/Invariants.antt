-- The three reading functions meet their contracts. Three times the number of unread bytes, with the rank of the level, falls with each
-- call; each turn of a loop, and each way through `factor`, is one lemma (Turns, FactorWays).
use Rattle.syntax.specs.Resolve.{names_at}
use Rattle.syntax.proofs.Turns.{Choosing, Chaining}
use Prim.Native.Nat.{◌+◌, ◌*◌, ◌-◌}
use lib.ListN.{length}
use Rattle.syntax.proofs.build.+alternative_factor_sequence.Given as goal

abbrev pub decreases-alternative : goal.decreases-alternative
decreases-alternative l = 3 * (length l.source.s.now - l.c.at) + 3

abbrev pub decreases-factor : goal.decreases-factor
decreases-factor l = 3 * (length l.source.s.now - l.c.at) + 1

abbrev pub decreases-sequence : goal.decreases-sequence
decreases-sequence l = 3 * (length l.source.s.now - l.c.at) + 2

abbrev pub invariant-alternative-loop-right : goal.invariant-alternative-loop-right
invariant-alternative-loop-right l =
    Choosing (names_at l.source.names.text.now l.source.names.spans.now) l.source.s.now l.initial.from.at l.k l.«open»
    l.initial.follow l.initial.enter l.part l.from.at l.follow l.enter

abbrev pub decreases-alternative-loop-right : goal.decreases-alternative-loop-right
decreases-alternative-loop-right l = length l.source.s.now - l.from.at

abbrev pub invariant-sequence-loop-right : goal.invariant-sequence-loop-right
invariant-sequence-loop-right l =
    Chaining (names_at l.source.names.text.now l.source.names.spans.now) l.source.s.now l.initial.from.at l.k l.«open»
    l.initial.follow l.initial.enter l.part l.from.at l.follow l.enter

abbrev pub decreases-sequence-loop-right : goal.decreases-sequence-loop-right
decreases-sequence-loop-right l = length l.source.s.now - l.from.at
