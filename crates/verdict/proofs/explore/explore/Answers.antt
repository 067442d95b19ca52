-- By classes, or else with a column for each offset or by rows: then nothing was done before.
use Rattle.std.specs.Prelude.{◌≡◌}
use mathlib.Core.Path.{◌∙◌, subst}
use Rattle.verdict.specs.LentTables.{lent_of}
use Rattle.verdict.specs.PairsTold.{SearchTold}
use Rattle.verdict.proofs.explore.explore.Goals as goal
use Rattle.verdict.proofs.explore.explore.Goals.{then-by_classes+in_default, else-by_classes}

pub explore_classes-requires : goal.explore_classes-requires
explore_classes-requires c =
    let s = c in
    let (some, few) = c.by_classes.ensures c.if-by_classes.true in
    (s.requires, some, few)

pub shape_of-workspace-in-Some : goal.shape_of-workspace-in-Some
shape_of-workspace-in-Some c = c.explore_classes.auto.workspace

pub returns-in-Some : goal.returns-in-Some
returns-in-Some c = rw c.in-Some.is at c.explore_classes.ensures

pub explore_apart-requires : goal.explore_apart-requires
explore_apart-requires c = c.requires

pub shape_of-workspace : goal.shape_of-workspace
shape_of-workspace c = c.explore_apart.auto.workspace ∙ c.if-by_classes.auto.workspace

pub returns : goal.returns
returns c =
    let a = c.args in
    let same : c.if-by_classes.workspace ≡ a.workspace.now =
    elim c.if-by_classes.branch [
      | then-by_classes+in_default w ↦ w.workspace-is ∙ (rw w.in_default.is at w.explore_classes.ensures)
      | else-by_classes w ↦ w.workspace-is
    ] in
    let r = c.explore_apart.result in
    let D = lent_of a.tables in
    subst (λ z. SearchTold D r.turned a.allowance z r.found c.explore_apart.new.workspace) same
    c.explore_apart.ensures
