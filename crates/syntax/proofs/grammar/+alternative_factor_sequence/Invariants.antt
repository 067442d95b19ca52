-- The cycle of calls {alternative, factor, sequence}. Each meets its contract by the ways of Reading. The measure is three times the number
-- of unread bytes and the function's rank.
use Prim.Native.Nat.{◌+◌, ◌-◌, ◌*◌}
use lib.ListN.{length}
use Rattle.syntax.proofs.grammar.+alternative_factor_sequence.Given as goal

abbrev pub decreases-alternative : goal.decreases-alternative
decreases-alternative l = 3 * (length l.s.now - l.c.at) + 3

abbrev pub decreases-factor : goal.decreases-factor
decreases-factor l = 3 * (length l.s.now - l.c.at) + 1

abbrev pub decreases-sequence : goal.decreases-sequence
decreases-sequence l = 3 * (length l.s.now - l.c.at) + 2
