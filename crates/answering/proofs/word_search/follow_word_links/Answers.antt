use Rattle.answering.specs.SetSteps.{links_none, links-leaves, links-next, links-less, links-ended}
use Rattle.answering.specs.WordsPending.{words-grown}
use native.Mathlib.Omega.{arith}
use Rattle.answering.proofs.word_search.follow_word_links.Goals as goal

pub loop-leaving-init : goal.loop-leaving-init
loop-leaving-init c = links_none c.requires.0.ready c.requires.2 c.leaving_at-leaving.ensures

pub follow_word-top-requires : goal.follow_word-top-requires
follow_word-top-requires c =
    let v = c.loop-leaving.invariant in
    let l = links-leaves v c.in-Some.is in
    let within = c.requires.3 in (
      words-grown c.requires.0.within v.rows.grown,
      c.requires.1,
      omega (arith, l.label, within.label _ l.within),
      omega (arith, l.end, within.end _ l.within),
    )

pub loop-leaving-smaller : goal.loop-leaving-smaller
loop-leaving-smaller c = links-less c.loop-leaving.invariant c.in-Some.is c.next_leaving-leaving.ensures

pub loop-leaving-preserved : goal.loop-leaving-preserved
loop-leaving-preserved c = links-next c.loop-leaving.invariant c.in-Some.is c.next_leaving-leaving.ensures c.follow_word-top.ensures

pub returns : goal.returns
returns c = links-ended c.loop-leaving.invariant c.in_default.is
