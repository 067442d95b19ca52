-- The classes are found, and there are at most 63: their columns have room where the keys stood.
use mathlib.Core.Path.{refl}
use Rattle.verdict.specs.Searches.{zero-words}
use native.Mathlib.Omega.{arith}
use Rattle.verdict.proofs.explore.explore_with.Goals as goal

pub merged_classes-requires : goal.merged_classes-requires
merged_classes-requires g c =
    let s = c in
    (s.requires.given.0, omega arith, omega arith, omega arith, zero-words _ 0, zero-words 64)

pub returns-in_err-k : goal.returns-in_err-k
returns-in_err-k g c = rw c.from_residual.ensures refl

pub explore_merged-requires : goal.explore_merged-requires
explore_merged-requires g c =
    let s = c in
    let m = c.merged_classes in (
      c.in_ok-k.ensures,
      s.requires.given.1,
      s.requires.given.2,
      omega (arith, c.in_ok-k.ensures.few-classes),
    )

pub returns : goal.returns
returns g c = c.explore_merged.ensures
