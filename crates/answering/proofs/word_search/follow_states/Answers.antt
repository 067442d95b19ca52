-- `follow_states` meets its contract: the row of a state that is alone has its next states, and otherwise the images have those of all.
use Rattle.std.specs.Prelude.{◌≡◌, ℕ, ◌+◌, ◌*◌, ◌≤◌, Bool, false, ◌↔◌, List, length, refl}
use Rattle.std.proofs.Common.{arith, ap, ◌∙◌, length-drop}
use Rattle.std.specs.Int.Count.{count_trailing_zeros, trailing_le}
use Rattle.theory.specs.Places.{Member}
use Rattle.answering.specs.Rest.{rest_all}
use Rattle.answering.specs.WordSteps.{NextRoom}
use Rattle.answering.specs.WordsPending.{row-long, links-alone, links-joined}
use Rattle.answering.proofs.word_search.follow_states.Goals as goal

-- The row of a state that is alone lies within the rows.
row-alone : {cut : Bool} {k : ℕ} {rows : List ℕ} {states : ℕ} {images : List ℕ} (s : ℕ) → NextRoom cut k rows states images
    → cut ≡ false → ((t : ℕ) → Member t states ↔ (t ≡ s)) → k * s + k ≤ length rows
row-alone s room c only = row-long s room c ((only s).1 refl)

pub overflow_cast-from : goal.overflow_cast-from
overflow_cast-from c = omega (arith, trailing_le 64 c.args.states)

pub overflow_mul-from : goal.overflow_mul-from
overflow_mul-from c =
    omega (arith, row-alone (count_trailing_zeros 64 c.args.states) c.requires.0 c.if-not-steps.true (c.alone.ensures.only c.if-alone.true))

pub offset_bounds-steps-from : goal.offset_bounds-steps-from
offset_bounds-steps-from c =
    omega (arith, row-alone (count_trailing_zeros 64 c.args.states) c.requires.0 c.if-not-steps.true (c.alone.ensures.only c.if-alone.true))

pub slice_bounds-follow_word_links-count : goal.slice_bounds-follow_word_links-count
slice_bounds-follow_word_links-count c =
    omega (arith, row-alone (count_trailing_zeros 64 c.args.states) c.requires.0 c.if-not-steps.true (c.alone.ensures.only c.if-alone.true))

pub slice_bounds-follow_word_links-start : goal.slice_bounds-follow_word_links-start
slice_bounds-follow_word_links-start c =
    omega (arith, row-alone (count_trailing_zeros 64 c.args.states) c.requires.0 c.if-not-steps.true (c.alone.ensures.only c.if-alone.true))

pub follow_word_links-requires : goal.follow_word_links-requires
follow_word_links-requires c =
    let a = c.args in
    let p = c.requires in
    let s = count_trailing_zeros 64 a.states in
    let from = a.steps.sizes.symbols * s in
    let e = ap length (rest_all from a.steps.rows.now) ∙ length-drop from a.steps.rows.now in
    let h = row-alone s p.0 c.if-not-steps.true (c.alone.ensures.only c.if-alone.true) in
    (p.1, omega arith, p.2, p.3)

pub returns-then-alone : goal.returns-then-alone
returns-then-alone c =
    links-alone c.args.images.now (count_trailing_zeros 64 c.args.states) c.if-not-steps.true (c.alone.ensures.only c.if-alone.true)
    c.follow_word_links.ensures

pub returns : goal.returns
returns c = links-joined c.next_images-next.ensures c.follow_word_links-2.ensures
