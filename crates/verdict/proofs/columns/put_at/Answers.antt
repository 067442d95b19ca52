-- The column lies across two words, or in one.
use Rattle.std.specs.Prelude.{◌+◌, ◌-◌, ◌*◌, ◌/◌, ◌%◌, ◌^◌}
use mathlib.Core.Path.{ap, ◌∙◌}
use Rattle.theory.specs.Places.{union}
use Rattle.places.specs.UnionLaws.{union_assoc}
use Rattle.places.specs.Words.{number_of}
use Rattle.places.specs.WordsShift.{shifted-odd}
use Rattle.verdict.specs.TurnedTurns.{column-inside}
use native.Mathlib.Omega.{arith}
use Rattle.verdict.proofs.columns.put_at.Goals as goal

pub returns-then-bits-n-gt64 : goal.returns-then-bits-n-gt64
returns-then-bits-n-gt64 c =
    let s = c in
    c.put_word-then-bits-n-gt64.ensures
    ∙ ap (λ z. union z ((s.args.column / 2 ^ (64 - s.args.at % 64) * 2 ^ (64 * (s.args.at / 64 + 1))) % 2 ^ 1024))
    c.put_word.ensures
    ∙ union_assoc (number_of s.args.words.now) _ _
    ∙ ap (union (number_of s.args.words.now)) (shifted-odd 1024 s.args.column s.args.at)

pub returns-else-bits-n-gt64 : goal.returns-else-bits-n-gt64
returns-else-bits-n-gt64 c =
    let s = c in
    c.put_word.ensures
    ∙ ap (λ z. union (number_of s.args.words.now) (z % 2 ^ 1024))
    (column-inside s.args.column s.args.at s.args.n s.requires.1 (omega (arith, c.if-bits-n-gt64.false)))
