-- `expression` meets its contract: the expression is built in the rows x, and where building finds a fault, the check tells the first.
use Rattle.std.proofs.Common.{◌≡◌, None, sym, rules}
use Rattle.reading.specs.FillingLaws.{reads-fine, reads-told}
use native.Mathlib.Omega.{arith}
use Rattle.reading.proofs.tables.Tables.expression.Goals as goal

pub returns-clause-reads : goal.returns-clause-reads
returns-clause-reads c =
    let t = c.args.self.now in
    rw (sym c.of-s.ensures)
    (reads-fine _ c.of-s.result.now c.args.x t.follow.now t.enter.now c.fill.result _ _ c.fill.ensures t.names.now t.sizes.now t.accepting.now
    c.in-Some.made c.in-Some.is (c.requires.0.rows.in-enter c.args.x c.requires.1 c.requires.2)
    (omega (arith, c.requires.0.whole.sizes)) (omega (arith, c.requires.0.whole.accepting)))

pub returns-in_default-clause-reads : goal.returns-in_default-clause-reads
returns-in_default-clause-reads c =
    let t = c.args.self.now in
    let none : c.fill.result ≡ None = search rules in
    rw (sym c.of-s.ensures)
    (reads-told _ c.of-s.result.now c.args.x t.follow.now t.enter.now c.fill.result _ _ c.fill.ensures t.names.now t.sizes.now t.accepting.now
    none _ c.check_expression.ensures)
