-- The loop's invariant: the classes that begin below s have the rows and flags of their first states.
use Rattle.finding.specs.MergeTold.{ClassesPut}
use Rattle.finding.proofs.merge.put_classes.Given as goal

abbrev pub invariant-loop-s : goal.invariant-loop-s
invariant-loop-s l =
    ClassesPut l.initial.table l.initial.flags l.lists l.s l.classes l.table l.flags
