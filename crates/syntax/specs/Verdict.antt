-- What the code says of an expression's text: the check's outcome without the expression.
use Rattle.std.specs.Prelude.{Bool, true, false, Result, Ok, Err}
use Rattle.syntax.specs.declared.refusal.Refusal.{Refusal}
use Rattle.syntax.specs.Check.{Checked, fine, faulty}

abbrev pub verdict : Checked → Result (Unit {0}) Refusal
verdict (fine e) = Ok tt
verdict (faulty r) = Err r

-- Whether the check finds no fault.
abbrev pub is_fine : Checked → Bool
is_fine (fine e) = true
is_fine (faulty r) = false

-- What one check says.
abbrev pub unless : Bool → Refusal → Result (Unit {0}) Refusal
unless true r = Ok tt
unless false r = Err r
