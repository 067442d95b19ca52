-- `sign` meets its contract: the test is that of the definition.
use mathlib.Core.Path.{sym, ap}
use borrow.Author.Tests.{eq-eqb, ne_eqb}
use Rattle.printing.specs.Lines.{sign_of}
use Rattle.printing.proofs.rows.sign.Goals as goal

pub returns-then-flag-eq1 : goal.returns-then-flag-eq1
returns-then-flag-eq1 c = ap sign_of (sym (eq-eqb c.args.flag 1 c.if-flag-eq1.true))

pub returns-else-flag-eq1 : goal.returns-else-flag-eq1
returns-else-flag-eq1 c = ap sign_of (sym (ne_eqb c.args.flag 1 c.if-flag-eq1.false))
