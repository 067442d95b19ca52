-- What is told of the label occurrences of a text, its longest runs of name bytes: how many there are, if each is a known name.
use Rattle.std.specs.Prelude.{ℕ, cond, false, List, Option, Some, None, length}
use Rattle.syntax.specs.Byte.{Bytes}
use Rattle.syntax.specs.Limits.{runs}
use Rattle.syntax.specs.Resolve.{known}

abbrev pub told : List Bytes → Bytes → Option ℕ
told labels s = cond (known labels (runs false s)) (Some (length (runs false s))) None
