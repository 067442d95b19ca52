-- `search_words` meets its contract: rows that are not cut may be searched by sets of recordings; the other searches are called as they are.
use native.Mathlib.Omega.{arith}
use Rattle.answering.proofs.place_search.search_words.Goals as goal

pub turnable-requires : goal.turnable-requires
turnable-requires c =
    let p = c.requires in
    (p.0.fits.few-symbols, omega (arith, rw c.if-not-steps.true at c.args.steps.fit))

pub search_turned-requires : goal.search_turned-requires
search_turned-requires c =
    let p = c.requires in
    let (t, few, few-ends) = c.turnable.ensures c.if-turnable.true in
    (t, p.2, few, few-ends, p.0)

pub returns-then-turnable : goal.returns-then-turnable
returns-then-turnable c =
    rw c.if-not-steps.true c.search_turned.ensures
