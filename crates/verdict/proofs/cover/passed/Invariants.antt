-- The loop's invariant: what is added so far, with what the lists that are left add, is what all lists add.
use Rattle.std.specs.Prelude.{◌≡◌, length}
use Rattle.verdict.specs.CoverLoops.{PassedLeft}
use Rattle.verdict.proofs.cover.passed.Given as goal

abbrev pub invariant-loop-v : goal.invariant-loop-v
invariant-loop-v l = (length l.into ≡ 16) × PassedLeft l.lists l.accepting l.table l.w l.q l.initial.into l.into l.v
