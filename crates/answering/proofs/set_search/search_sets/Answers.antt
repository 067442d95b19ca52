-- `search_sets` meets its contract: the sizes do not fit and nothing is changed; or all that was found is reached.
use mathlib.Core.Path.{◌∙◌}
use Rattle.answering.specs.Cleared.{cleared-beyond}
use Rattle.answering.specs.SetSearchRun.{sizes-of, few-pairs, recordings-below, set-starting, set-searched, set-unsearched}
use native.Mathlib.Omega.{arith}
use Rattle.answering.proofs.set_search.search_sets.Goals as goal

pub returns-then-not-fitting : goal.returns-then-not-fitting
returns-then-not-fitting c = set-unsearched (c.fitting.ensures.unfit c.if-not-fitting.true)

pub overflow_mul-all : goal.overflow_mul-all
overflow_mul-all c =
    let f = c.fitting.ensures.fits c.if-not-fitting.false in
    omega (arith, few-pairs (sizes-of f))

pub turnable-requires : goal.turnable-requires
turnable-requires c =
    let f = c.fitting.ensures.fits c.if-not-fitting.false in
    (f.few-symbols, omega (arith, rw c.if-words-eq1.true at f.rows))

pub search_turned-requires : goal.search_turned-requires
search_turned-requires c =
    let f = c.fitting.ensures.fits c.if-not-fitting.false in
    let d = c.clear in
    let (t, few, few-ends) = c.turnable.ensures c.if-turnable.true in
    (t, c.args.links.in_range, few, few-ends, rw c.if-words-eq1.true at (set-starting (sizes-of f) d.ensures d.auto.items))

pub search_in-requires : goal.search_in-requires
search_in-requires c =
    let f = c.fitting.ensures.fits c.if-not-fitting.false in
    let d = c.clear in
    let l = recordings-below (sizes-of f) 256 c.if-all-le256.true in
    (set-starting (sizes-of f) d.ensures d.auto.items, f.rows, c.if-all-le256.true, omega arith, omega arith, omega arith, c.args.links.in_range, c.args.links.begun)

pub search_in-requires-then-all-le4096 : goal.search_in-requires-then-all-le4096
search_in-requires-then-all-le4096 c =
    let f = c.fitting.ensures.fits c.if-not-fitting.false in
    let d = c.clear in
    let l = recordings-below (sizes-of f) 4096 c.if-all-le4096.true in
    (set-starting (sizes-of f) d.ensures d.auto.items, f.rows, c.if-all-le4096.true, omega arith, omega arith, omega arith, c.args.links.in_range, c.args.links.begun)

pub search_in-requires-else-all-le4096 : goal.search_in-requires-else-all-le4096
search_in-requires-else-all-le4096 c =
    let f = c.fitting.ensures.fits c.if-not-fitting.false in
    let d = c.clear in
    (set-starting (sizes-of f) d.ensures d.auto.items, f.rows, few-pairs (sizes-of f), omega arith, omega (arith, (sizes-of f).few), omega arith, c.args.links.in_range, c.args.links.begun)

pub returns-then-turnable : goal.returns-then-turnable
returns-then-turnable c =
    let f = c.fitting.ensures.fits c.if-not-fitting.false in
    let d = c.clear in
    let r = c.search_turned in
    set-searched f (cleared-beyond d.ensures f.room) (r.auto.reached ∙ d.auto.items) (rw c.if-words-eq1.true r.ensures)

pub returns-then-all-le256 : goal.returns-then-all-le256
returns-then-all-le256 c =
    let f = c.fitting.ensures.fits c.if-not-fitting.false in
    let d = c.clear in
    let r = c.search_in in
    set-searched f (cleared-beyond d.ensures f.room) (r.auto.reached ∙ d.auto.items) r.ensures

pub returns-then-all-le4096 : goal.returns-then-all-le4096
returns-then-all-le4096 c =
    let f = c.fitting.ensures.fits c.if-not-fitting.false in
    let d = c.clear in
    let r = c.search_in-then-all-le4096 in
    set-searched f (cleared-beyond d.ensures f.room) (r.auto.reached ∙ d.auto.items) r.ensures

pub returns-else-all-le4096 : goal.returns-else-all-le4096
returns-else-all-le4096 c =
    let f = c.fitting.ensures.fits c.if-not-fitting.false in
    let d = c.clear in
    let r = c.search_in-else-all-le4096 in
    set-searched f (cleared-beyond d.ensures f.room) (r.auto.reached ∙ d.auto.items) r.ensures
