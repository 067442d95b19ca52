use Rattle.answering.specs.TurnedRounds.{rounds-begin, rounds-more, rounds-done}
use Rattle.answering.proofs.turned_search.find_sets.Goals as goal

pub loop-init : goal.loop-init
loop-init c =
    let f = c.put in
    let p = c.requires in
    let t = c.args.turned in
    rounds-begin t.turnable t.ends_fit p.0 p.1 f.ensures f.auto.pairs

pub loop-smaller : goal.loop-smaller
loop-smaller c = c.take_words.ensures.more c.loop-test.true

pub loop-preserved : goal.loop-preserved
loop-preserved c = rw c.loop-test.true at (rounds-more c.loop.invariant c.take_words.ensures)

pub returns : goal.returns
returns c =
    rounds-done c.args.turned.turnable c.args.turned.ends_fit (rounds-more c.loop.invariant c.take_words.ensures) c.loop-test.false
