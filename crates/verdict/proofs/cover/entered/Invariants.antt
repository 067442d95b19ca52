-- The loop's invariant: what is added so far, with what the lists that are left add, is what all lists add.
use Rattle.std.specs.Prelude.{◌≡◌, length}
use Rattle.verdict.specs.CoverLoops.{EnteredLeft}
use Rattle.verdict.proofs.cover.entered.Given as goal

abbrev pub invariant-loop-v : goal.invariant-loop-v
invariant-loop-v l = (length l.into ≡ 16) × EnteredLeft l.lists l.a l.follow l.enter l.sizes l.from l.initial.into l.into l.base l.v
