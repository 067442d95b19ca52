-- `suffixes` meets its contract. The loop's invariant: the marks that are left give what all the marks give.
use mathlib.Core.Path.{◌≡◌}
use lib.ListN.{drop}
use Rattle.syntax.specs.Build.{marked}
use Rattle.syntax.proofs.leaf.suffixes.Given as goal

abbrev pub invariant-loop-at : goal.invariant-loop-at
invariant-loop-at l =
    marked l.part.last.0 l.part.first.0 (drop l.at l.s) l.nullable l.follow
    ≡ marked l.part.last.0 l.part.first.0 (drop l.part.at l.s) l.part.nullable l.initial.follow
