use mathlib.Core.Bool.{true≢false}
use mathlib.Core.Logic.{inl, inr}
use mathlib.Core.Path.{refl, sym, ◌∙◌}
use Rattle.finding.proofs.level.StateTable.split_key.Goals as goal

pub returns-then-alike : goal.returns-then-alike
returns-then-alike c = let told = c.alike.ensures in inl (refl, told.0 c.if-alike.true)

pub returns : goal.returns
returns c =
    let told = c.alike.ensures in
    inr (refl, λ same. true≢false (sym (told.1 same) ∙ c.if-alike.false))
