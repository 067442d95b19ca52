-- `lists_within` meets its contract: the checks come in the order of the job's own, and then the rewriting.
use Rattle.std.proofs.Common.{ap, sym, ◌∙◌}
use Rattle.answering.specs.Table.{is_table}
use Rattle.answering.specs.LinkReading.{table-in-range}
use Rattle.answering.specs.ListsOperationLaws.{lists-bad-table, lists-bad-start, lists-marked-job}
use native.Mathlib.Omega.{arith}
use Rattle.answering.proofs.lists_operation.lists_within.Goals as goal

pub returns-then-not-index_table : goal.returns-then-not-index_table
returns-then-not-index_table g c =
    let a = c.args in
    λ J w j. rw c.from.ensures
    (lists-bad-table J a.recordings a.table.now a.start a.marks.now a.workspace.now
    (ap (λ k. is_table a.recordings k a.table.now) j.lists-told ∙ sym c.index_table.ensures.value ∙ c.if-not-index_table.true))

pub returns-then-recordings-start : goal.returns-then-recordings-start
returns-then-recordings-start g c =
    let a = c.args in
    λ J w j. rw c.from-then-recordings-start.ensures
    (lists-bad-start J a.recordings a.table.now a.start a.marks.now a.workspace.now
    (ap (λ k. is_table a.recordings k a.table.now) j.lists-told ∙ sym c.index_table.ensures.value ∙ c.if-not-index_table.false)
    (omega arith))

pub invariant_of-links : goal.invariant_of-links
invariant_of-links g c =
    let a = c.args in
    record {
      in_range = table-in-range a.rows.lists a.recordings a.table.now (sym c.index_table.ensures.value ∙ c.if-not-index_table.false);
      begun = c.index_table.ensures.listed c.if-not-index_table.false;
    }

pub returns : goal.returns
returns g c =
    let a = c.args in
    λ J w j.
    lists-marked-job J a.recordings a.table.now a.start a.marks.now a.workspace.now
    (ap (λ k. is_table a.recordings k a.table.now) j.lists-told ∙ sym c.index_table.ensures.value ∙ c.if-not-index_table.false)
    c.if-recordings-start.false (c.rewriting_lists.ensures J w j)
