-- The loop's invariant: the occurrence is in the lists that are left, at the offset that is left.
use Rattle.std.specs.Prelude.{◌≡◌}
use Rattle.verdict.specs.CoverLoops.{FinishedLeft}
use Rattle.verdict.proofs.cover.finished.Given as goal

abbrev pub invariant-loop-v : goal.invariant-loop-v
invariant-loop-v l = (l.into ≡ l.initial.into) × FinishedLeft l.lists l.sizes l.accepting l.table l.w l.o l.q l.rest l.v
