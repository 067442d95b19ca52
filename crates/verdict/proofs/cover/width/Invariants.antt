-- The loop's invariant: the width so far, with the occurrences of the lists that are left, is the whole width.
use Rattle.verdict.specs.CoverLoops.{WidthLeft}
use Rattle.verdict.proofs.cover.width.Given as goal

abbrev pub invariant-loop-v : goal.invariant-loop-v
invariant-loop-v l = WidthLeft l.lists l.sizes l.w l.v
