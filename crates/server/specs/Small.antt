-- A reply that fits into one number: its line, and its value where it has one.
use Rattle.std.specs.Prelude.{ℕ, suc, ◌<◌, ◌≤◌, get_or}
use Rattle.syntax.specs.Reply.{Reply}
use Rattle.reading.specs.Text.{most_text}

pub record SmallReply (r : Reply) : Type 0 where
  pub line : r.line ≤ suc most_text
  pub value : get_or r.values 0 0 < 4294967296
