-- The loop's invariant: the states below s are classed (Classing).
use Rattle.finding.proofs.Classing.{Classing}
use Rattle.finding.proofs.refine.class_keys.Given as goal

abbrev pub invariant-loop-s : goal.invariant-loop-s
invariant-loop-s l = Classing l.keys l.s l.classes l.firsts
