use mathlib.Core.Path.{sym, ◌∙◌}
use native.Mathlib.Omega.{arith}
use Rattle.syntax.specs.Byte.{opening}
use Rattle.syntax.proofs.Reading.{sequences-of, factors-of, none_read, one-read, more-read, part_end, past-mark}
use Rattle.syntax.proofs.Reading.{no-name-read, name-read, unit-read, no-group-read, open-group-read, closed-group-read}
use Rattle.syntax.proofs.grammar.+alternative_factor_sequence.Goals as goal

pub alternative-alternative-requires : goal.alternative-alternative-requires
alternative-alternative-requires t c =
    omega (arith, part_end sequences-of (rw c.in_ok-end.was at c.sequence.ensures) (sym c.in-Some.is ∙ c.mark.ensures))

pub alternative-returns-in_err-end : goal.alternative-returns-in_err-end
alternative-returns-in_err-end t c = rw c.from_residual.ensures (none_read sequences-of c.in_err-end.ensures)

pub alternative-returns-in-None : goal.alternative-returns-in-None
alternative-returns-in-None t c =
    one-read sequences-of (rw c.in_ok-end.was at c.sequence.ensures) (sym c.in-None.is ∙ c.mark.ensures)

pub alternative-returns-in-Some : goal.alternative-returns-in-Some
alternative-returns-in-Some t c =
    more-read sequences-of (rw c.in_ok-end.was at c.sequence.ensures) (sym c.in-Some.is ∙ c.mark.ensures) c.alternative.ensures

pub factor-alternative-requires : goal.factor-alternative-requires
factor-alternative-requires t c =
    let a = c.args in
    omega (arith, past-mark a.s.now a.c.at opening _ (sym c.in-Some.is ∙ c.mark.ensures))

pub factor-returns-in_err-name : goal.factor-returns-in_err-name
factor-returns-in_err-name t c =
    rw c.from_residual.ensures (no-name-read (sym c.in_default.is ∙ c.mark.ensures) (sym c.in_err-name.was ∙ c.name.ensures))

pub factor-returns-in_default : goal.factor-returns-in_default
factor-returns-in_default t c =
    name-read (sym c.in_default.is ∙ c.mark.ensures) (sym c.in_ok-name.was ∙ c.name.ensures) c.suffixes.ensures

pub factor-returns-in-Some-mark : goal.factor-returns-in-Some-mark
factor-returns-in-Some-mark t c =
    unit-read (sym c.in-Some.is ∙ c.mark.ensures) (sym c.in-Some-mark.is ∙ c.mark-2.ensures) c.suffixes-in-Some-mark.ensures

pub factor-returns-in_err-end : goal.factor-returns-in_err-end
factor-returns-in_err-end t c =
    rw c.from_residual-in_err-end.ensures
    (no-group-read (sym c.in-Some.is ∙ c.mark.ensures) (sym c.in_default-mark.is ∙ c.mark-2.ensures)
    (rw c.in_err-end.was at c.alternative.ensures))

pub factor-returns-in_err-group : goal.factor-returns-in_err-group
factor-returns-in_err-group t c =
    rw c.from_residual-in_err-group.ensures
    (open-group-read (sym c.in-Some.is ∙ c.mark.ensures) (sym c.in_default-mark.is ∙ c.mark-2.ensures)
    (rw c.in_ok-end.was at c.alternative.ensures) (sym c.in_err-group.was ∙ c.mark-3.ensures))

pub factor-returns : goal.factor-returns
factor-returns t c =
    closed-group-read (sym c.in-Some.is ∙ c.mark.ensures) (sym c.in_default-mark.is ∙ c.mark-2.ensures)
    (rw c.in_ok-end.was at c.alternative.ensures) (sym c.in_ok-group.was ∙ c.mark-3.ensures) c.suffixes-2.ensures

pub sequence-sequence-requires : goal.sequence-sequence-requires
sequence-sequence-requires t c =
    omega (arith, part_end factors-of (rw c.in_ok-end.was at c.factor.ensures) (sym c.in-Some.is ∙ c.mark.ensures))

pub sequence-returns-in_err-end : goal.sequence-returns-in_err-end
sequence-returns-in_err-end t c = rw c.from_residual.ensures (none_read factors-of c.in_err-end.ensures)

pub sequence-returns-in-None : goal.sequence-returns-in-None
sequence-returns-in-None t c =
    one-read factors-of (rw c.in_ok-end.was at c.factor.ensures) (sym c.in-None.is ∙ c.mark.ensures)

pub sequence-returns-in-Some : goal.sequence-returns-in-Some
sequence-returns-in-Some t c =
    more-read factors-of (rw c.in_ok-end.was at c.factor.ensures) (sym c.in-Some.is ∙ c.mark.ensures) c.sequence.ensures
