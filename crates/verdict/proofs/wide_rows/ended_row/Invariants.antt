-- The loop's invariant: the states that have been joined are those reached where paths of the lists before v end.
use Rattle.std.specs.Prelude.{ℕ, ◌↔◌}
use Rattle.theory.specs.Places.{Member}
use Rattle.verdict.specs.WideRows.{Has, Ends}
use Rattle.verdict.proofs.wide_rows.ended_row.Given as goal

abbrev pub invariant-loop-v : goal.invariant-loop-v
invariant-loop-v l =
    ((t : ℕ) → Member t l.alone ↔ Ends l.v l.rows l.ended l.q (Has l.low l.high) t)
