-- `same_letter` meets its contract: only a name of one byte can be the letter.
use mathlib.Core.Bool.{and-true}
use mathlib.Core.List.{[], ◌∷◌}
use mathlib.Core.Path.{sym, ap, ◌∙◌}
use borrow.Author.Tests.{ne_eqb}
use lib.Dec.{eqb}
use lib.ListN.{get_or}
use Rattle.syntax.specs.Byte.{Bytes}
use Rattle.syntax.specs.Name.{same_name}
use Rattle.syntax.specs.NameLaws.{lengths_differ, one_byte}
use Rattle.syntax.proofs.table.same_letter.Goals as goal

pub returns-then-name-eq1 : goal.returns-then-name-eq1
unfolding same_name
returns-then-name-eq1 c =
    let a = c.args in
    sym (and-true (eqb (get_or a.name.now 0 0) a.letter))
    ∙ ap (λ (m : Bytes). same_name m (a.letter ∷ [])) (one_byte a.name.now c.if-name-eq1.true)

pub returns-else-name-eq1 : goal.returns-else-name-eq1
returns-else-name-eq1 c = ne_eqb _ 1 c.if-name-eq1.false ∙ lengths_differ _ _ c.if-name-eq1.false
