-- `occurrence` meets its contract: it reads the name where that is of a known label and a place is left.
use Rattle.std.proofs.Common.{◌≡◌, Some, None, take, drop, ◌-◌, sym, ◌∙◌, arith, rules}
use Rattle.syntax.specs.Name.{place_of}
use Rattle.syntax.specs.Resolve.{names_at}
use Rattle.syntax.proofs.Occurrence.{NameAt, name-at, occurrence-read, no_name, no_place, unknown}
use Rattle.syntax.proofs.TablesKept.{tables-same}
use Rattle.syntax.proofs.leaf.occurrence.Goals as goal
use Rattle.syntax.proofs.leaf.occurrence.Goals.{In_ok-end}

name : (c : In_ok-end) → NameAt c.args.source.s.now c.args.c.at c.in_ok-end.end.at
name c = name-at _ _ _ (sym c.in_ok-end.was ∙ c.name.ensures)

pub slice_bounds-find-count : goal.slice_bounds-find-count
slice_bounds-find-count c = let n = name (goal.at.slice_bounds-find-count c).In_ok-end in omega arith

pub slice_bounds-find-start : goal.slice_bounds-find-start
slice_bounds-find-start c = let n = name (goal.at.slice_bounds-find-start c).In_ok-end in omega arith

pub slice_bounds-find-end : goal.slice_bounds-find-end
slice_bounds-find-end c = let n = name (goal.at.slice_bounds-find-end c).In_ok-end in omega arith

pub returns-in_err-end : goal.returns-in_err-end
returns-in_err-end c d =
    let a = c.args in
    rw c.from_residual.ensures
    (tables-same a.k a.follow.now a.enter.now, no_name _ a.source.s.now a.c.at a.k a.follow.now (sym c.in_err-end.was ∙ c.name.ensures) d)

pub returns-then-k-ge64 : goal.returns-then-k-ge64
returns-then-k-ge64 c d =
    let a = c.args in
    (tables-same a.k a.follow.now a.enter.now, no_place _ a.source.s.now a.c.at a.k a.follow.now c.if-k-ge64.true d)

pub returns-in_err-label : goal.returns-in_err-label
returns-in_err-label c d =
    let a = c.args in
    let labels = names_at a.source.names.text.now a.source.names.spans.now in
    let missing : None ≡ place_of (take (c.in_ok-end.end.at - a.c.at) (drop a.c.at a.source.s.now)) labels = search rules in
    rw c.from_residual-in_err-label.ensures (
      tables-same a.k a.follow.now a.enter.now,
      unknown labels a.source.s.now a.c.at a.k a.follow.now c.in_ok-end.end.at (name (goal.at.returns-in_err-label c).In_ok-end) missing d,
    )

pub returns : goal.returns
returns c =
    let a = c.args in
    let labels = names_at a.source.names.text.now a.source.names.spans.now in
    let found : Some c.in_ok-label.label ≡ place_of (take (c.in_ok-end.end.at - a.c.at) (drop a.c.at a.source.s.now)) labels = search rules in
    occurrence-read labels a.source.s.now a.c.at a.k a.follow.now c.in_ok-end.end.at (name (goal.at.returns c).In_ok-end) a.enter.now
    c.in_ok-label.label c.one-place.result c.single.result c.put.new.table c.add.new.table c.if-k-ge64.false found c.one-place.ensures
    c.put.ensures c.add.ensures c.single.ensures
