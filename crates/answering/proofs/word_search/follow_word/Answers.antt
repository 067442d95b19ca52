-- `follow_word` meets its contract: the states of the symbol's image come to the link's end.
use Rattle.answering.specs.SetSteps.{row-added}
use Rattle.answering.specs.WordSteps.{image-added}
use Rattle.answering.specs.WordsPending.{words-room}
use Rattle.answering.proofs.word_search.follow_word.Goals as goal

pub add_word-requires : goal.add_word-requires
add_word-requires c =
    let p = c.requires in words-room p.0 p.3

pub returns : goal.returns
returns c =
    let a = c.args in
    let p = c.requires in
    row-added p.2 p.3
    (image-added a.images.now a.next a.a (c.add_word.ensures a.sizes.recordings p.0 p.3))
