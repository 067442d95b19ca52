-- `take_word` meets its contract: nothing is new in the word, or its new recordings are followed.
use Rattle.std.specs.Prelude.{◌^◌, ◌<◌, get_or}
use Rattle.answering.specs.TurnedRunLaws.{new-below, word_same, word-taken}
use native.Mathlib.Omega.{arith}
use borrow.Author.Rules.{rules}
use Rattle.answering.proofs.turned_search.take_word.Goals as goal

pub returns-then-new-eq0 : goal.returns-then-new-eq0
returns-then-new-eq0 c =
    let a = c.args in
    word_same c.requires.0 c.requires.1 a.turned.rows.now a.turned.sizes.symbols a.turned.ends.now c.if-new-eq0.true

pub follow_members-requires : goal.follow_members-requires
follow_members-requires c =
    let a = c.args in
    let p = c.requires in
    let low : get_or a.sets.now a.i 0 < 2 ^ 64 = omega arith in
    (omega (arith, p.1), new-below p.0 p.1 low, omega arith, p.0.sets-fit)

pub returns : goal.returns
returns c =
    let p = c.requires in
    let f = c.follow_members in
    let t = c.args.turned in
    word-taken f.new.sets t.turnable t.ends_fit t.ends_below p.0 p.1 (λ j. search rules)
    f.ensures f.auto.sets c.if-new-eq0.false
