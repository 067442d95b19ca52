-- One word changes: the set gains the places of the word.
use mathlib.Core.Path.{sym, ap, ◌∙◌}
use Rattle.theory.specs.Places.{union}
use Rattle.places.specs.Words.{number_of}
use Rattle.places.specs.WordsShift.{number-add, word-inside}
use native.Mathlib.Omega.{arith}
use borrow.Author.Rules.{rules}
use Rattle.verdict.proofs.columns.put_word.Goals as goal

pub returns : goal.returns
returns c =
    let s = c in
    number-add s.args.words.now (λ i. search rules) s.args.index s.args.word
    (omega (arith, s.requires.0, s.requires.1)) (omega arith)
    ∙ ap (union (number_of s.args.words.now)) (sym (word-inside 16 s.args.index s.args.word s.requires.1 (omega arith)))
