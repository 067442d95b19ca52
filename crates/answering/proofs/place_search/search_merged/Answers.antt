-- `search_merged` meets its contract: the sizes do not fit and nothing is changed; or what stands for all that was found is reached.
use Rattle.std.specs.Prelude.{ℕ, ◌*◌, ◌≤◌, length}
use mathlib.Core.Path.{◌∙◌, sym}
use mathlib.Core.Bool.{false≢true}
use native.Mathlib.Nat.{one-mul}
use lib.ListN.{length-replicate}
use Rattle.answering.specs.PlaceSteps.{places-starting, places-unsearched}
use Rattle.answering.specs.PlaceRows.{few-count, rows-searched}
use native.Mathlib.Omega.{arith}
use Rattle.answering.proofs.place_search.search_merged.Goals as goal

pub returns-then-not-fitting : goal.returns-then-not-fitting
returns-then-not-fitting c =
    places-unsearched (λ f. false≢true (sym c.if-not-fitting.true ∙ c.fitting.ensures.1 f))

pub place_rows-requires : goal.place_rows-requires
place_rows-requires c =
    let f = c.fitting.ensures.0 c.if-not-fitting.false in
    let p = c.requires in
    (p.0, f.enters, omega (arith, p.1))

pub invariant_of-steps : goal.invariant_of-steps
invariant_of-steps c =
    let a = c.args in
    let r = c.place_rows in
    let e = one-mul (a.links.symbols * length a.follow.now) in
    let long = length-replicate {A = ℕ} 48 0 in
    let h : 1 * (a.links.symbols * length a.follow.now) ≤ length r.new.rows = omega (arith, e, c.requires.1, r.auto.rows, long) in
    record { fit = h }

pub search_words-requires : goal.search_words-requires
search_words-requires c =
    let f = c.fitting.ensures.0 c.if-not-fitting.false in
    let d = c.clear in
    (places-starting (few-count c.requires.0) f d.ensures d.auto.items, omega (arith, f.few-labels), c.args.links.in_range, c.args.links.begun)

pub returns : goal.returns
returns c =
    let p = c.requires in
    let f = c.fitting.ensures.0 c.if-not-fitting.false in
    let d = c.clear in
    let r = c.search_words in
    rows-searched p.0 f c.place_rows.ensures d.ensures (r.auto.reached ∙ d.auto.items) r.ensures
