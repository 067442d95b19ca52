-- `brings` meets its contract. The loop's invariant: the words passed have nothing new.
use Rattle.std.specs.Prelude.{◌≡◌, ℕ, ◌<◌}
use Rattle.answering.specs.SetRows.{new_of}
use Rattle.answering.proofs.rows.brings.Given as goal

abbrev pub invariant-loop-j : goal.invariant-loop-j
invariant-loop-j l = (k : ℕ) → k < l.j → new_of l.sets l.from l.known l.base k ≡ 0
