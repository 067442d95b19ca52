-- The loop's invariant: the classes that begin below s are counted, and the states below s have the numbers of their classes.
use Rattle.finding.specs.MergeTold.{ClassNumbers}
use Rattle.finding.proofs.merge.number_classes.Given as goal

abbrev pub invariant-loop-s : goal.invariant-loop-s
invariant-loop-s l = ClassNumbers l.classes l.s l.numbers l.count
