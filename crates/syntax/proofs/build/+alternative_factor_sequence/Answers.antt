use native.Mathlib.Omega.{arith}
use mathlib.Core.Path.{sym, ◌∙◌}
use Rattle.syntax.specs.Byte.{dot, bar, opening, closing}
use Rattle.syntax.specs.Resolve.{names_at}
use Rattle.syntax.specs.PlaceLaws.{mark-to, mark-failed}
use Rattle.syntax.proofs.TablesKept.{tables-same, tables-built}
use Rattle.syntax.proofs.Turns.{choosing-start, choosing-none, choosing-tables, choosing-on, choosing-end}
use Rattle.syntax.proofs.Turns.{chaining-start, chaining-none, chaining-tables, chaining-on, chaining-end}
use Rattle.syntax.proofs.FactorWays.{factor-no-name, factor-name, factor-deep, factor-unit, factor-no-group, factor-group, factor-open}
use Rattle.syntax.proofs.build.+alternative_factor_sequence.Goals as goal

pub alternative-loop-right-init : goal.alternative-loop-right-init
alternative-loop-right-init t c =
    let a = c.args in
    choosing-start (names_at a.source.names.text.now a.source.names.spans.now) a.source.s.now a.c.at a.k a.«open» a.follow.now a.enter.now
    c.nothing-part.result c.nothing-part.ensures

pub alternative-sequence-requires : goal.alternative-sequence-requires
alternative-sequence-requires t c = omega (arith, c.loop-right.invariant.onward)

pub alternative-returns-in_err-right : goal.alternative-returns-in_err-right
alternative-returns-in_err-right t c =
    let a = c.args in
    let l = c.loop-right in
    let right = c.in_err-right.ensures in
    rw c.from_residual.ensures (
      choosing-tables (names_at a.source.names.text.now a.source.names.spans.now) a.source.s.now a.c.at a.k a.«open» a.follow.now a.enter.now
          l.part l.from.at l.follow l.enter c.sequence.new.follow c.sequence.new.enter l.invariant right.0,
      choosing-none (names_at a.source.names.text.now a.source.names.spans.now) a.source.s.now a.c.at a.k a.«open» a.follow.now a.enter.now
          l.part l.from.at l.follow l.enter l.invariant right.1,
    )

pub alternative-loop-right-smaller : goal.alternative-loop-right-smaller
alternative-loop-right-smaller t c =
    let right = c.in_ok-right.ensures in
    let past = mark-to bar c.args.source.s.now c.in_ok-right.right.at c.in-Some.next (sym c.in-Some.is ∙ c.mark.ensures) in
    omega (arith, past.inside, past.next, right.onward)

pub alternative-loop-right-preserved : goal.alternative-loop-right-preserved
alternative-loop-right-preserved t c =
    let a = c.args in
    let l = c.loop-right in
    let past = mark-to bar a.source.s.now c.in_ok-right.right.at c.in-Some.next (sym c.in-Some.is ∙ c.mark.ensures) in
    rw c.either-part.ensures
    (choosing-on (names_at a.source.names.text.now a.source.names.spans.now) a.source.s.now a.c.at a.k a.«open» a.follow.now a.enter.now
    l.part l.from.at l.follow l.enter l.invariant c.in_ok-right.right c.sequence.new.follow c.sequence.new.enter c.in_ok-right.ensures
    c.in-Some.next past)

pub alternative-returns-in-None : goal.alternative-returns-in-None
alternative-returns-in-None t c =
    let a = c.args in
    let l = c.loop-right in
    rw c.either-part.ensures
    (choosing-end (names_at a.source.names.text.now a.source.names.spans.now) a.source.s.now a.c.at a.k a.«open» a.follow.now a.enter.now
    l.part l.from.at l.follow l.enter l.invariant c.in_ok-right.right c.sequence.new.follow c.sequence.new.enter c.in_ok-right.ensures
    (mark-failed bar a.source.s.now c.in_ok-right.right.at (sym c.in-None.is ∙ c.mark.ensures)))

pub sequence-loop-right-init : goal.sequence-loop-right-init
sequence-loop-right-init t c =
    let a = c.args in
    chaining-start (names_at a.source.names.text.now a.source.names.spans.now) a.source.s.now a.c.at a.k a.«open» a.follow.now a.enter.now
    c.unit-part.result c.unit-part.ensures

pub sequence-factor-requires : goal.sequence-factor-requires
sequence-factor-requires t c = omega (arith, c.loop-right.invariant.onward)

pub sequence-returns-in_err-right : goal.sequence-returns-in_err-right
sequence-returns-in_err-right t c =
    let a = c.args in
    let l = c.loop-right in
    let right = c.in_err-right.ensures in
    rw c.from_residual.ensures (
      chaining-tables (names_at a.source.names.text.now a.source.names.spans.now) a.source.s.now a.c.at a.k a.«open» a.follow.now a.enter.now
          l.part l.from.at l.follow l.enter c.factor.new.follow c.factor.new.enter l.invariant right.0,
      chaining-none (names_at a.source.names.text.now a.source.names.spans.now) a.source.s.now a.c.at a.k a.«open» a.follow.now a.enter.now
          l.part l.from.at l.follow l.enter l.invariant right.1,
    )

pub sequence-loop-right-smaller : goal.sequence-loop-right-smaller
sequence-loop-right-smaller t c =
    let right = c.in_ok-right.ensures in
    let past = mark-to dot c.args.source.s.now c.in_ok-right.right.at c.in-Some.next (sym c.in-Some.is ∙ c.mark.ensures) in
    omega (arith, past.inside, past.next, right.onward)

pub sequence-loop-right-preserved : goal.sequence-loop-right-preserved
sequence-loop-right-preserved t c =
    let a = c.args in
    let l = c.loop-right in
    let past = mark-to dot a.source.s.now c.in_ok-right.right.at c.in-Some.next (sym c.in-Some.is ∙ c.mark.ensures) in
    rw (c.both-part.ensures, c.link.ensures)
    (chaining-on (names_at a.source.names.text.now a.source.names.spans.now) a.source.s.now a.c.at a.k a.«open» a.follow.now a.enter.now
    l.part l.from.at l.follow l.enter l.invariant c.in_ok-right.right c.factor.new.follow c.factor.new.enter c.in_ok-right.ensures
    c.in-Some.next past)

pub sequence-returns-in-None : goal.sequence-returns-in-None
sequence-returns-in-None t c =
    let a = c.args in
    let l = c.loop-right in
    rw (c.both-part.ensures, c.link.ensures)
    (chaining-end (names_at a.source.names.text.now a.source.names.spans.now) a.source.s.now a.c.at a.k a.«open» a.follow.now a.enter.now
    l.part l.from.at l.follow l.enter l.invariant c.in_ok-right.right c.factor.new.follow c.factor.new.enter c.in_ok-right.ensures
    (mark-failed dot a.source.s.now c.in_ok-right.right.at (sym c.in-None.is ∙ c.mark.ensures)))

pub factor-returns-in_err-name : goal.factor-returns-in_err-name
factor-returns-in_err-name t c =
    let a = c.args in
    let none = mark-failed opening a.source.s.now a.c.at (sym c.in_default.is ∙ c.mark.ensures) in
    let name = c.in_err-name.ensures a.«open» in
    rw c.from_residual.ensures (
      name.0,
      factor-no-name (names_at a.source.names.text.now a.source.names.spans.now) a.source.s.now a.c.at a.k a.«open» a.follow.now a.enter.now
          none name.1,
    )

pub factor-returns-in_default : goal.factor-returns-in_default
factor-returns-in_default t c =
    let a = c.args in
    let name = c.occurrence in
    let none = mark-failed opening a.source.s.now a.c.at (sym c.in_default.is ∙ c.mark.ensures) in
    factor-name (names_at a.source.names.text.now a.source.names.spans.now) a.source.s.now a.c.at a.k a.«open» a.follow.now a.enter.now
    c.in_ok-name.name c.suffixes.result name.new.follow name.new.enter c.suffixes.new.follow none
    (c.in_ok-name.ensures a.«open») c.suffixes.ensures

pub factor-returns-then-open-ge-MOST_NESTING : goal.factor-returns-then-open-ge-MOST_NESTING
factor-returns-then-open-ge-MOST_NESTING t c =
    let a = c.args in
    let past = mark-to opening a.source.s.now a.c.at c.in-Some.inner (sym c.in-Some.is ∙ c.mark.ensures) in (
      tables-same a.k a.follow.now a.enter.now,
      factor-deep (names_at a.source.names.text.now a.source.names.spans.now) a.source.s.now a.c.at a.k a.«open» a.follow.now a.enter.now
          c.in-Some.inner past c.if-open-ge-MOST_NESTING.true,
    )

pub factor-returns-in-Some-mark : goal.factor-returns-in-Some-mark
factor-returns-in-Some-mark t c =
    let a = c.args in
    let past = mark-to opening a.source.s.now a.c.at c.in-Some.inner (sym c.in-Some.is ∙ c.mark.ensures) in
    let end = mark-to closing a.source.s.now c.in-Some.inner.at c.in-Some-mark.after (sym c.in-Some-mark.is ∙ c.mark-2.ensures) in
    factor-unit (names_at a.source.names.text.now a.source.names.spans.now) a.source.s.now a.c.at a.k a.«open» a.follow.now a.enter.now
    c.in-Some.inner past c.if-open-ge-MOST_NESTING.false c.in-Some-mark.after c.suffixes-in-Some-mark.result c.suffixes-in-Some-mark.new.follow end
    (rw c.unit.ensures at c.suffixes-in-Some-mark.ensures)

pub factor-alternative-requires : goal.factor-alternative-requires
factor-alternative-requires t c =
    let past = mark-to opening c.args.source.s.now c.args.c.at c.in-Some.inner (sym c.in-Some.is ∙ c.mark.ensures) in
    omega (arith, past.inside, past.next)

pub factor-returns-in_err-group : goal.factor-returns-in_err-group
factor-returns-in_err-group t c =
    let a = c.args in
    let past = mark-to opening a.source.s.now a.c.at c.in-Some.inner (sym c.in-Some.is ∙ c.mark.ensures) in
    let none = mark-failed closing a.source.s.now c.in-Some.inner.at (sym c.in_default-mark.is ∙ c.mark-2.ensures) in
    let group = c.in_err-group.ensures in
    rw c.from_residual-in_err-group.ensures (
      group.0,
      factor-no-group (names_at a.source.names.text.now a.source.names.spans.now) a.source.s.now a.c.at a.k a.«open» a.follow.now a.enter.now
          c.in-Some.inner past none group.1,
    )

pub factor-returns-in_err-after : goal.factor-returns-in_err-after
factor-returns-in_err-after t c =
    let a = c.args in
    let past = mark-to opening a.source.s.now a.c.at c.in-Some.inner (sym c.in-Some.is ∙ c.mark.ensures) in
    let none = mark-failed closing a.source.s.now c.in-Some.inner.at (sym c.in_default-mark.is ∙ c.mark-2.ensures) in
    let end = mark-failed closing a.source.s.now c.in_ok-group.group.at (sym c.in_err-after.was ∙ c.mark-3.ensures) in
    rw c.from_residual-in_err-after.ensures (
      tables-built c.in_ok-group.ensures,
      factor-open (names_at a.source.names.text.now a.source.names.spans.now) a.source.s.now a.c.at a.k a.«open» a.follow.now a.enter.now
          c.in-Some.inner past none c.in_ok-group.group c.alternative.new.follow c.alternative.new.enter c.in_ok-group.ensures end,
    )

pub factor-returns : goal.factor-returns
factor-returns t c =
    let a = c.args in
    let past = mark-to opening a.source.s.now a.c.at c.in-Some.inner (sym c.in-Some.is ∙ c.mark.ensures) in
    let none = mark-failed closing a.source.s.now c.in-Some.inner.at (sym c.in_default-mark.is ∙ c.mark-2.ensures) in
    let end = mark-to closing a.source.s.now c.in_ok-group.group.at c.in_ok-after.after (sym c.in_ok-after.was ∙ c.mark-3.ensures) in
    factor-group (names_at a.source.names.text.now a.source.names.spans.now) a.source.s.now a.c.at a.k a.«open» a.follow.now a.enter.now
    c.in-Some.inner past none c.in_ok-group.group c.alternative.new.follow c.alternative.new.enter c.in_ok-group.ensures
    c.if-open-ge-MOST_NESTING.false c.in_ok-after.after c.suffixes-2.result c.suffixes-2.new.follow end
    (rw c.ending.ensures at c.suffixes-2.ensures)
