-- Where sets stand turned, the first one has the states that are reached from the first.
use Rattle.std.specs.Prelude.{◌*◌, ◌^◌, ◌<◌}
use mathlib.Core.Path.{sym, ◌∙◌, subst}
use Rattle.places.specs.Words.{number_of}
use Rattle.places.specs.WordsLaws.{number-below}
use Rattle.places.proofs.Held.{array_count, array-words}
use native.Mathlib.Omega.{arith}
use Rattle.verdict.proofs.next_cover.first_cover.Goals as goal

pub returns-then-w-eq0 : goal.returns-then-w-eq0
returns-then-w-eq0 c =
    let s = c in
    let plain = c.if-w-eq0.true in
    let made = c.cover_start in
    let held = made.type_inv.1.1.0 in
    let below = number-below made.result.words (array-words 16 made.result.words _ held) in (
      λ e. made.ensures,
      λ h fits. absurd (omega (arith, plain)),
      subst (λ k. number_of made.result.words < 2 ^ (64 * k)) (array_count 16 made.result.words _ held ∙ sym (s.requires.plain plain)) below,
    )

pub returns : goal.returns
returns c =
    let told = c.reached_words.ensures in
    (λ e. absurd (c.if-w-eq0.false e), λ h. told.1, told.0)
