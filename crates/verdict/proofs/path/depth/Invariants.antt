-- The loop's invariant: the pair number j is so many labels before the pair number i. The measure is j.
use Rattle.verdict.specs.PathTold.{DepthLoop}
use Rattle.verdict.proofs.path.depth.Given as goal

abbrev pub invariant-loop-j : goal.invariant-loop-j
invariant-loop-j l = DepthLoop l.workspace l.i l.j l.labels

abbrev pub decreases-loop-j : goal.decreases-loop-j
decreases-loop-j l = l.j
