-- All words are cleared, so the set is empty before the columns are put into it.
use mathlib.Core.Path.{◌∙◌}
use Rattle.verdict.specs.WordBits.{number-zeros}
use native.Mathlib.Omega.{arith}
use Rattle.verdict.proofs.next_cover.step_turned.Goals as goal

pub step_columns-requires : goal.step_columns-requires
step_columns-requires c =
    let s = c in (
      s.requires.0,
      s.requires.1,
      s.requires.2,
      s.requires.3,
      s.requires.4,
      s.requires.5,
      (omega arith),
      number-zeros 16,
      s.requires.6,
      s.requires.7,
      s.requires.8,
      s.requires.9,
      s.requires.10,
      s.requires.11,
      s.requires.12,
      s.requires.13,
    )

pub returns : goal.returns
returns c =
    let told = c.step_columns.ensures in
    (told.0, told.1, c.step_columns.auto.words ∙ (omega arith))
