-- `put_states` meets its contract. The loop's invariant: the states before this one are put.
use Rattle.output.specs.Writer.{Puts}
use Rattle.keeping.specs.Kept.{kept_states}
use Rattle.keeping.specs.Write.{lent}
use Rattle.keeping.proofs.states.put_states.Given as goal

abbrev pub invariant-loop-state : goal.invariant-loop-state
invariant-loop-state l = Puts l.initial.w (kept_states (lent l.states l.table l.flags) l.lists l.state 0) l.w
