-- `link_at` meets its contract: the test says which case holds.
use Rattle.std.proofs.Common.{Some, sym, ◌∙◌}
use Rattle.answering.specs.LinkAt.{link-there, link-beyond, link-other}
use Rattle.answering.proofs.links.link_at.Goals as goal
use Rattle.answering.proofs.links.link_at.Goals.{else-at-table-via-then-at-table+else-from-x, else-at-table-via-else-at-table}

pub returns-then-from-x : goal.returns-then-from-x
returns-then-from-x c =
    let a = c.args in
    (λ i. Some (record { at = a.at; label = c.from-label.ensures i; end = c.from-end.ensures i }))
    ∙ sym (link-there a.table.now a.at a.x c.if-at-table.true (sym c.from.ensures ∙ c.if-from-x.true))

pub returns-else-at-table : goal.returns-else-at-table
returns-else-at-table c =
    let a = c.args in
    elim c.else-at-table.branch [
      | else-at-table-via-then-at-table+else-from-x w ↦
          sym (link-other a.table.now a.at a.x w.if-at-table.true (λ e. w.if-from-x.false (w.from.ensures ∙ e)))
      | else-at-table-via-else-at-table w ↦ sym (link-beyond a.table.now a.at a.x w.if-at-table.false)
    ]
