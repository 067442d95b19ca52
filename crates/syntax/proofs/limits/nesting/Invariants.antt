-- `nesting` meets its contract. The loop's invariant: what has been found, or what is left if it is deeper, is how deep the whole is.
use Prim.Native.Nat.{max, ◌≤◌}
use mathlib.Core.Path.{◌≡◌}
use lib.ListN.{drop}
use Rattle.syntax.specs.Limits.{nesting}
use Rattle.syntax.proofs.limits.nesting.Given as goal

abbrev pub invariant-loop-b : goal.invariant-loop-b
invariant-loop-b l = (max l.most (nesting l.open (drop l.b-index l.s)) ≡ nesting 0 l.s) × (l.open ≤ l.most) × (l.open ≤ l.b-index)
