-- The loop's invariant: the standings passed are sources of themselves.
use Rattle.std.specs.Prelude.{◌≡◌, length}
use Rattle.finding.specs.Sources.{Begun}
use Rattle.finding.proofs.sources.begin.Given as goal

abbrev pub invariant-loop-i : goal.invariant-loop-i
invariant-loop-i l =
    (length l.from ≡ length l.initial.from) × Begun l.count l.i l.places l.from l.all
