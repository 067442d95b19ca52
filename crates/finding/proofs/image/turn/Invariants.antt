-- The loop's invariant: the standings passed are in the images of their sources.
use Rattle.std.specs.Prelude.{◌≡◌, length}
use Rattle.finding.specs.ImagesTurned.{Turned}
use Rattle.finding.proofs.image.turn.Given as goal

abbrev pub invariant-loop-to : goal.invariant-loop-to
invariant-loop-to l =
    (length l.out ≡ length l.initial.out) × Turned l.count l.places l.accepting l.from l.to l.initial.out l.out
