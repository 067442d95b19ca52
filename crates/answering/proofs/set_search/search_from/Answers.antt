-- `search_from` meets its contract: each set of states is one word, or has several.
use native.Mathlib.Omega.{arith}
use Rattle.answering.proofs.set_search.search_from.Goals as goal

pub invariant_of-steps : goal.invariant_of-steps
invariant_of-steps c = record { fit = rw c.if-sizes-eq1.true at c.requires.1 }

pub follow_all_words-requires : goal.follow_all_words-requires
follow_all_words-requires c =
    let p = c.requires in
    let e = c.if-sizes-eq1.true in
    (rw e at p.0, omega (arith, p.0.starting.fits.few-symbols, p.2.rows), p.3, p.4, p.5)

pub returns-then-sizes-eq1 : goal.returns-then-sizes-eq1
returns-then-sizes-eq1 c =
    rw c.if-sizes-eq1.true c.follow_all_words.ensures
