-- The loop's invariant: the labels from k on are written, and the path of the pair number j comes before them.
use Rattle.verdict.specs.PathTold.{WriteLoop}
use Rattle.verdict.proofs.path.write_path.Given as goal

abbrev pub invariant-loop-k : goal.invariant-loop-k
invariant-loop-k l = WriteLoop l.workspace l.i l.labels l.initial.path l.j l.k l.path
