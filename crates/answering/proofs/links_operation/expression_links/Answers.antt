-- `expression_links` meets its contract: the rows of the tables that it cuts are the expression's automaton.
use Rattle.std.specs.Prelude.{◌+◌, ◌-◌, ◌*◌, ok_or, get_or}
use Rattle.std.proofs.Common.{ap, ◌∙◌}
use Rattle.answering.specs.LinksOperationLaws.{expression-told}
use native.Mathlib.Omega.{arith}
use Rattle.answering.proofs.links_operation.expression_links.Goals as goal

pub returns : goal.returns
returns c =
    let a = c.args in
    let t = a.rows in
    let x = a.x in
    let size = get_or t.sizes.now x 0 in
    expression-told t.follow.now t.enter.now t.sizes.now t.accepting.now x (64 * x + size + 1 - 64 * x) (32 * x + 32 - 32 * x)
    (omega arith) (omega arith) (omega (arith, t.held.fit.lists_enter t.held.few-lists)) c.requires.1 c.requires.2
    (λ g. c.mark_links.ensures g c.requires.3) (c.ok_or.ensures.value ∙ ap (ok_or c.mark_links.result) c.from.ensures)
