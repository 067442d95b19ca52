-- The loop's invariant: the occurrence is in the lists that are left, at the offset that is left.
use Rattle.std.specs.Prelude.{◌≡◌}
use Rattle.verdict.specs.CoverLoops.{WithinLeft}
use Rattle.verdict.proofs.cover.moved_within.Given as goal

abbrev pub invariant-loop-v : goal.invariant-loop-v
invariant-loop-v l = (l.into ≡ l.initial.into) × WithinLeft l.lists l.a l.follow l.enter l.sizes l.o l.base l.rest l.v
