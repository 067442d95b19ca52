-- What either answer leaves at the boundary: its number, the marks and the workspace.
use Rattle.std.specs.Prelude.{ℕ, List}
use Rattle.theory.specs.Graph.{Table}
use Rattle.syntax.specs.Byte.{Bytes}
use Rattle.answering.specs.LinksOperation.{Outcome, links_answer}
use Rattle.answering.specs.ListsOperation.{lists_answer}
use Rattle.server.specs.Packed.{one_number}

pub record Left : Type 0 where
  pub number : ℕ
  pub marks : List ℕ
  pub workspace : List ℕ

abbrev pub left : ℕ → (marks workspace : List ℕ) → Left
left number marks workspace = record { number = number; marks = marks; workspace = workspace }

abbrev pub left_by : Outcome → Left
left_by o = left (one_number o.reply) o.marks o.workspace

abbrev pub links_left : Bytes → (recordings chosen : ℕ) → Table → ℕ → (marks workspace : List ℕ) → Left
links_left text recordings chosen links start marks workspace = left_by (links_answer text recordings chosen links start marks workspace)

abbrev pub lists_left : Bytes → ℕ → Table → ℕ → (marks workspace : List ℕ) → Left
lists_left text recordings lists start marks workspace = left_by (lists_answer text recordings lists start marks workspace)
