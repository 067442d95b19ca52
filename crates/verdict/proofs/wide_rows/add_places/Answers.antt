-- The occurrences are moved up after `base`, and their first two words are joined.
use Rattle.std.specs.Prelude.{◌+◌, ◌*◌, ◌%◌, ◌^◌, ◌<◌, length, get_or, set}
use mathlib.Core.Path.{ap, ◌∙◌}
use lib.ListN.{length-set}
use Rattle.theory.specs.Places.{union}
use Rattle.places.specs.Words.{number_of}
use Rattle.places.proofs.Held.{array-words}
use Rattle.verdict.specs.WideRows.{OccursAt}
use Rattle.verdict.specs.WideRowsLaws.{joins_pair}
use Rattle.verdict.specs.WideRowsPrepared.{occurs-words}
use native.Mathlib.Omega.{arith}
use Rattle.verdict.proofs.wide_rows.add_places.Goals as goal

pub bounds-rows-at-3 : goal.bounds-rows-at-3
bounds-rows-at-3 c =
    let s = c in
    let with-shifted = c.with_shifted-places in
    let p = s.requires in
    let a = s.args in
    let word = union (get_or a.rows.now a.at 0) (get_or with-shifted.result.words 0 0) in
    let room : a.at + 1 < length (set a.rows.now a.at word) = omega (arith, length-set a.rows.now a.at word, p.2) in
    room

pub bounds-rows-at-4 : goal.bounds-rows-at-4
bounds-rows-at-4 c =
    let s = c in
    let with-shifted = c.with_shifted-places in
    let p = s.requires in
    let a = s.args in
    let word = union (get_or a.rows.now a.at 0) (get_or with-shifted.result.words 0 0) in
    let room : a.at + 1 < length (set a.rows.now a.at word) = omega (arith, length-set a.rows.now a.at word, p.2) in
    room

pub returns : goal.returns
unfolding number_of
returns c =
    let s = c in
    let p = s.requires in
    let inner = c.inner in
    let a = s.args in
    let made = c.with_shifted-places in
    joins_pair a.rows.now a.at _ _ (OccursAt a.size a.base a.set) p.2
    (occurs-words made.result.words (array-words 16 made.result.words _ made.type_inv.1.1.0) a.set a.size a.base
    p.1 (made.ensures ∙ ap (λ z. (z * 2 ^ (a.base + 1)) % 2 ^ 1024) inner.ensures))
