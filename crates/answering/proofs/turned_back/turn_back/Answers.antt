use Rattle.answering.specs.TurnedBack.{word_below, turned-start, turned_more, turned-all}
use native.Mathlib.Omega.{arith}
use Rattle.answering.proofs.turned_back.turn_back.Goals as goal

pub loop-i-init : goal.loop-i-init
loop-i-init c =
    let a = c.args in
    turned-start a.sizes.recordings a.sets.now a.reached.now

pub turn_word-requires : goal.turn_word-requires
turn_word-requires c =
    let p = c.requires in
    let r = p.reached-fit in (
      omega (arith, p.few-states),
      omega arith,
      λ q m. omega (arith, word_below p (omega arith) (omega arith) q m, r),
    )

pub loop-i-preserved : goal.loop-i-preserved
loop-i-preserved c = turned_more c.requires (omega arith) (omega arith) c.loop-i.invariant c.turn_word.ensures

pub returns : goal.returns
returns c = turned-all (omega arith) c.loop-i.invariant
