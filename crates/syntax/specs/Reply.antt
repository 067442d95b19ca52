-- What an operation tells (document 01, "The operations"): the number of its refusal, 0 where nothing is refused; the refusal's line, 0 but
-- for those met in reading the text; and the values of an answer, none with a refusal. Each enum that an operation gives has a definition
-- that says which reply each of its cases is.
use Rattle.std.specs.Prelude.{ℕ, List, []}
use Rattle.syntax.specs.declared.refusal.Refusal.{Refusal}
use Rattle.syntax.specs.Number.{number}

pub record Reply : Type 0 where
  pub number : ℕ
  pub line : ℕ
  pub values : List ℕ

abbrev pub given : List ℕ → Reply
given values = record { number = 0; line = 0; values = values }

abbrev pub refusing : Refusal → ℕ → Reply
refusing r n = record { number = number r; line = n; values = [] }
