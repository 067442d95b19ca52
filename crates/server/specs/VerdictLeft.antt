-- What Verdict leaves at the boundary: its number and the four lent buffers.
use Rattle.std.specs.Prelude.{ℕ, List}
use Rattle.syntax.specs.Byte.{Bytes}
use Rattle.verdict.specs.VerdictOperation.{Outcome, outcome}
use Rattle.server.specs.Packed.{verdict_number}

pub record Left : Type 0 where
  pub number : ℕ
  pub table : List ℕ
  pub flags : List ℕ
  pub path : List ℕ
  pub workspace : List ℕ

abbrev pub left : ℕ → (table flags path workspace : List ℕ) → Left
left number table flags path workspace =
    record { number = number; table = table; flags = flags; path = path; workspace = workspace }

abbrev pub left_by : Outcome → Left
left_by o = left (verdict_number o.reply) o.table o.flags o.path o.workspace

abbrev pub verdict_left : Bytes → ℕ → (table flags path workspace : List ℕ) → Left
verdict_left text allowance table flags path workspace = left_by (outcome text allowance table flags path workspace)
