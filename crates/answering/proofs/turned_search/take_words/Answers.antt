use Rattle.answering.specs.TurnedRounds.{words-none, words_more, words_same, words-all}
use native.Mathlib.Omega.{arith}
use Rattle.answering.proofs.turned_search.take_words.Goals as goal
use Rattle.answering.proofs.turned_search.take_words.Goals.{else-take_word, then-take_word}

pub loop-i-init : goal.loop-i-init
loop-i-init c =
    let a = c.args in
    words-none a.turned.rows.now a.turned.sizes.symbols a.turned.ends.now c.requires

pub loop-i-preserved : goal.loop-i-preserved
loop-i-preserved c =
    let v = c.loop-i.invariant in
    let f = c.take_word in
    elim c.if-take_word.branch [
      | then-take_word w ↦ rw w.more-is (words_more v f.ensures w.if-take_word.true)
      | else-take_word w ↦ rw w.more-is (words_same v f.ensures w.if-take_word.false)
    ]

pub returns : goal.returns
returns c =
    words-all (omega arith) c.loop-i.invariant
