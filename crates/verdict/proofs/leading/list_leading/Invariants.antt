-- The loop's invariant: the entries have gained the places before o (ListBefore).
use Rattle.std.specs.Prelude.{◌≡◌, length}
use Rattle.verdict.specs.LeadingTurns.{ListBefore}
use Rattle.verdict.proofs.leading.list_leading.Given as goal

abbrev pub invariant-loop-o : goal.invariant-loop-o
invariant-loop-o l = ListBefore l.v l.o l.follow l.initial.before l.before × (length l.before ≡ length l.initial.before)
