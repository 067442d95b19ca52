-- The loop's invariant: the occurrences have gained the labels before a (ListKinds).
use Rattle.std.specs.Prelude.{◌≡◌, length}
use Rattle.verdict.specs.KindsTurns.{ListKinds}
use Rattle.verdict.proofs.kinds.list_kinds.Given as goal

abbrev pub invariant-loop-a : goal.invariant-loop-a
invariant-loop-a l = (length l.kinds ≡ length l.initial.kinds) × ListKinds l.x l.size l.base l.a l.enter l.initial.kinds l.kinds
