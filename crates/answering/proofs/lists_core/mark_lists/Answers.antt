-- `mark_lists` meets its contract by what the ranks, the search and the marks promise together.
use mathlib.Core.Bool.{false≢true}
use mathlib.Core.Path.{refl, sym, ◌∙◌}
use Rattle.answering.specs.Ranks.{accepted-none}
use Rattle.answering.specs.ListsCoreLaws.{lists-marked}
use native.Mathlib.Omega.{arith}
use borrow.Author.Rules.{rules}
use Rattle.answering.proofs.lists_core.mark_lists.Goals as goal

pub returns-then-links-gt4096 : goal.returns-then-links-gt4096
returns-then-links-gt4096 c = λ l R g. absurd (omega (arith, l.few))

pub returns-then-not-has_rows : goal.returns-then-not-has_rows
returns-then-not-has_rows c =
    λ l R g.
    absurd
    (false≢true (sym c.if-not-has_rows.true ∙ c.has_rows.ensures.1 (g.some, g.most, g.few-lists, g.rows)))

pub rank_states-count-requires : goal.rank_states-count-requires
rank_states-count-requires c =
    let (some, few, lists, rows) = c.has_rows.ensures.0 c.if-not-has_rows.false in
    record {
      some = some;
      few = few;
      few-lists = lists;
      rows = rows;
      ranks-fit = omega arith;
      kept-fit = omega arith;
      first = refl;
      start = refl;
    }

pub accept_ranks-requires : goal.accept_ranks-requires
accept_ranks-requires c =
    let (some, few, lists, rows) = c.has_rows.ensures.0 c.if-not-has_rows.false in
    let f = c.rank_states-count in
    let k = f.ensures in (
      omega (arith, k.few),
      omega (arith, k.few),
      λ r h. omega (arith, k.inside r h),
      omega arith,
      accepted-none _ _ 4,
    )

pub overflow_add-ranked : goal.overflow_add-ranked
overflow_add-ranked c =
    let (some, few, lists, rows) = c.has_rows.ensures.0 c.if-not-has_rows.false in
    omega (arith, c.rank_states-count.ensures.few)

pub invariant_of-ranked : goal.invariant_of-ranked
invariant_of-ranked c =
    let (some, few, lists, rows) = c.has_rows.ensures.0 c.if-not-has_rows.false in
    let k = c.rank_states-count.ensures in
    let n = k.few in
    record {
      lent = record {
        few-lists = lists;
        few = few;
        given = rows;
        ranks-fit = omega arith;
        kept-fit = omega arith;
        few-kept = omega arith;
        inside = k.inside;
        width = omega arith;
        few_words = omega arith;
      };
    }

pub returns : goal.returns
returns c =
    λ l R g.
    lists-marked g l c.rank_states-count.ensures c.accept_ranks.ensures refl
    c.search_states.ensures (λ i. search rules) c.mark-ones.ensures
    c.clear.ensures
