-- `search_places` meets its contract: the sizes do not fit and nothing is changed; or all that was found is reached.
use mathlib.Core.Path.{◌∙◌, sym}
use mathlib.Core.Bool.{false≢true}
use Rattle.answering.specs.PlaceSteps.{places-starting, places-searched, places-unsearched}
use native.Mathlib.Omega.{arith}
use Rattle.answering.proofs.place_search.search_places.Goals as goal

pub returns-then-not-fitting : goal.returns-then-not-fitting
returns-then-not-fitting c =
    λ accepting. places-unsearched (λ f. false≢true (sym c.if-not-fitting.true ∙ c.fitting.ensures.1 f))

pub load_enter-requires : goal.load_enter-requires
load_enter-requires c =
    let f = c.fitting.ensures.0 c.if-not-fitting.false in
    (f.enters, omega (arith, f.few-labels))

pub invariant_of-steps : goal.invariant_of-steps
invariant_of-steps c = record { fit = c.place_count.ensures.fits }

pub search_words-requires : goal.search_words-requires
search_words-requires c =
    let f = c.fitting.ensures.0 c.if-not-fitting.false in
    let d = c.clear in
    let n = c.place_count.ensures in
    (places-starting n f d.ensures d.auto.items, omega (arith, f.few-labels), c.args.links.in_range, c.args.links.begun)

pub returns : goal.returns
returns c =
    let f = c.fitting.ensures.0 c.if-not-fitting.false in
    let d = c.clear in
    let r = c.search_words in
    let e = c.load_enter in
    λ accepting.
    places-searched e.new.images c.place_count.ensures f e.ensures d.ensures
    (r.auto.reached ∙ d.auto.items) r.ensures
