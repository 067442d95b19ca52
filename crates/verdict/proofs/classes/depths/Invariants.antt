-- The loop's invariant: the entries keep their number, and those of the list v come after `base`.
use Rattle.std.specs.Prelude.{◌≡◌, length}
use Rattle.verdict.specs.Tables.{occupied}
use Rattle.verdict.proofs.classes.depths.Given as goal

abbrev pub invariant-loop-v : goal.invariant-loop-v
invariant-loop-v l = (l.base ≡ occupied l.sizes 0 l.v) × (length l.keys ≡ length l.initial.keys)
