-- Partitions of the states of a table: c gives each state the number of its class.
use Rattle.std.specs.Prelude.{ℕ, ◌<◌, ◌≡◌}
use Rattle.theory.specs.Deterministic.{Deterministic, SameFrom}

-- States with the same continuations are in one class.
abbrev pub Coarse : Deterministic → (ℕ → ℕ) → Type 0
Coarse D c = (q r : ℕ) → q < D.states → r < D.states → SameFrom D q r → c q ≡ c r

-- States of one class agree in the flag, and under each symbol in the class of the next state.
pub record Stable (D : Deterministic) (c : ℕ → ℕ) : Type 0 where
  pub flag : (q r : ℕ) → q < D.states → r < D.states → c q ≡ c r → D.accepting q ≡ D.accepting r
  pub next : (q r v : ℕ) → q < D.states → r < D.states → v < D.symbols → c q ≡ c r → c (D.next q v) ≡ c (D.next r v)
