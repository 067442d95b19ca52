-- `links_within` meets its contract: the checks come in the order of the job's own, and then the chosen expression.
use Rattle.std.proofs.Common.{ap, sym, ◌∙◌}
use Rattle.answering.specs.Table.{is_table}
use Rattle.answering.specs.LinkReading.{table-in-range}
use Rattle.answering.specs.LinksOperationLaws.{links-absent, links-bad-table, links-bad-start, links-marked-job}
use native.Mathlib.Omega.{arith}
use Rattle.answering.proofs.links_operation.links_within.Goals as goal

pub returns-then-rows-chosen : goal.returns-then-rows-chosen
returns-then-rows-chosen g c =
    let a = c.args in
    λ J j. rw c.from.ensures
    (links-absent J a.recordings a.chosen a.table.now a.start a.marks.now a.workspace.now (omega (arith, j.lists-told)))

pub returns-then-not-index_table : goal.returns-then-not-index_table
returns-then-not-index_table g c =
    let a = c.args in
    λ J j. rw c.from-then-not-index_table.ensures
    (links-bad-table J a.recordings a.chosen a.table.now a.start a.marks.now a.workspace.now (omega (arith, j.lists-told))
    (ap (λ k. is_table a.recordings k a.table.now) j.labels-told ∙ sym c.index_table.ensures.value ∙ c.if-not-index_table.true))

pub returns-then-recordings-start : goal.returns-then-recordings-start
returns-then-recordings-start g c =
    let a = c.args in
    λ J j. rw c.from-then-recordings-start.ensures
    (links-bad-start J a.recordings a.chosen a.table.now a.start a.marks.now a.workspace.now (omega (arith, j.lists-told))
    (ap (λ k. is_table a.recordings k a.table.now) j.labels-told ∙ sym c.index_table.ensures.value ∙ c.if-not-index_table.false)
    (omega arith))

pub invariant_of-links : goal.invariant_of-links
invariant_of-links g c =
    let a = c.args in
    record {
      in_range = table-in-range a.rows.labels a.recordings a.table.now (sym c.index_table.ensures.value ∙ c.if-not-index_table.false);
      begun = c.index_table.ensures.listed c.if-not-index_table.false;
    }

pub returns : goal.returns
returns g c =
    let a = c.args in
    λ J j.
    links-marked-job J a.recordings a.chosen a.table.now a.start a.marks.now a.workspace.now j c.if-rows-chosen.false
    (sym c.index_table.ensures.value ∙ c.if-not-index_table.false) c.if-recordings-start.false c.expression_links.ensures
