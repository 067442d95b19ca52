-- A set of one word that is moved up lies in two words, or in one where it starts with a word.
use Prim.Native.Nat.{◌+◌, ◌*◌, ◌-◌, ◌/◌, ◌%◌, ◌^◌}
use mathlib.Core.Path.{ap, ◌∙◌}
use Rattle.theory.specs.Places.{union}
use Rattle.places.specs.UnionLaws.{union_assoc}
use Rattle.places.specs.Words.{number_of}
use Rattle.places.specs.WordsShift.{shifted_even, shifted-odd}
use native.Mathlib.Omega.{arith}
use Rattle.places.proofs.words.add_shifted.Goals as goal

pub returns-then-bits-ne0 : goal.returns-then-bits-ne0
returns-then-bits-ne0 c =
    let s = c in
    c.add_word-then-bits-ne0.ensures
    ∙ ap (λ n. union n ((s.args.set / 2 ^ (64 - s.args.shift % 64) * 2 ^ (64 * (s.args.shift / 64 + 1))) % 2 ^ 1024))
    c.add_word.ensures
    ∙ union_assoc (number_of s.args.words.now) _ _
    ∙ ap (union (number_of s.args.words.now)) (shifted-odd 1024 s.args.set s.args.shift)

pub returns-else-bits-ne0 : goal.returns-else-bits-ne0
returns-else-bits-ne0 c =
    let s = c in
    c.add_word.ensures
    ∙ ap (union (number_of s.args.words.now)) (shifted_even 1024 s.args.set s.args.shift (omega arith) c.if-bits-ne0.false)
