-- One word changes, or none: the set gains the places of the word, or they lie beyond it.
use Prim.Native.Nat.{◌*◌}
use mathlib.Core.Path.{sym, ap, ◌∙◌}
use lib.Bits.{or_zero_r}
use Rattle.theory.specs.Places.{union}
use Rattle.places.specs.Words.{number_of}
use Rattle.places.specs.WordsShift.{number-add, word-inside, set_beyond}
use borrow.Author.Rules.{rules}
use native.Mathlib.Omega.{arith}
use Rattle.places.proofs.words.add_word.Goals as goal

pub returns-then-index-lt16 : goal.returns-then-index-lt16
returns-then-index-lt16 c =
    number-add c.args.words.now (λ i. search rules) c.args.index c.args.word (omega (arith, c.requires, c.if-index-lt16.true)) (omega arith)
    ∙ ap (union (number_of c.args.words.now)) (sym (word-inside 16 c.args.index c.args.word c.if-index-lt16.true (omega arith)))

pub returns-else-index-lt16 : goal.returns-else-index-lt16
returns-else-index-lt16 c =
    sym (or_zero_r (number_of c.args.words.now))
    ∙ ap (union (number_of c.args.words.now)) (sym (set_beyond 1024 (64 * c.args.index) c.args.word (omega (arith, c.if-index-lt16.false))))
