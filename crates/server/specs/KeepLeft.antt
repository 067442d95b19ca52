-- What Keep leaves at the boundary: its number and the lent output.
use Rattle.std.specs.Prelude.{ℕ}
use Rattle.syntax.specs.Byte.{Bytes}
use Rattle.keeping.specs.KeepOperation.{Outcome, outcome}
use Rattle.server.specs.Packed.{one_number}

pub record Left : Type 0 where
  pub number : ℕ
  pub out : Bytes

abbrev pub left : ℕ → Bytes → Left
left number out = record { number = number; out = out }

abbrev pub left_by : Outcome → Left
left_by o = left (one_number o.reply) o.out

abbrev pub keep_left : Bytes → Bytes → Left
keep_left text out = left_by (outcome text out)
