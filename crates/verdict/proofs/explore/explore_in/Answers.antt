-- The columns have room where sets stand turned: then there are as many as the width, one more than the occurrences.
use Rattle.std.specs.Prelude.{◌≡◌, ℕ, zero, suc, ◌<◌, ◌≤◌, true, false, Option, Some, None, IfSome, unwrap_or}
use mathlib.Core.Path.{sym, ◌∙◌}
use Rattle.std.proofs.lemmas.Option.{IfSome_then}
use Rattle.verdict.specs.Prepared.{columns-chosen, rows-chosen}
use Rattle.verdict.specs.Searches.{told-search}
use Rattle.verdict.specs.TablesLaws.{occupied-few}
use Rattle.verdict.specs.Ways.{columns_of, classed_of}
use native.Mathlib.Omega.{arith}
use Rattle.verdict.proofs.explore.explore_in.Goals as goal

turned-fits : (turned occurrences room : ℕ) → (0 < turned → turned ≡ suc occurrences) → occurrences < room → turned ≤ room
turned-fits zero occurrences room wide fits = omega arith
turned-fits (suc turned) occurrences room wide fits = omega (arith, wide (omega arith))

if-some : (P : ℕ → Type 0) (x : Option ℕ) → IfSome x P → 0 < unwrap_or x 0 → P (unwrap_or x 0)
if-some P (Some w) known h = known
if-some P None known h = absurd (omega (arith, h))

pub prepared-width-requires : goal.prepared-width-requires
prepared-width-requires g c =
    let s = c in
    (omega (arith, s.requires.counted.few), omega (arith, s.requires.counted.few), s.requires.room.1)

pub chosen_way-way-requires : goal.chosen_way-way-requires
chosen_way-way-requires g c =
    let p = c.prepared-width in (
      IfSome_then p.result p.ensures (λ w known. let r = known.0.ready in (r.counted, r.wide, r.follow-room, r.enter-room, r.accepting-room)),
      omega arith,
    )

pub pairs-found-requires : goal.pairs-found-requires
pairs-found-requires g c =
    let s = c in
    let known = if-some _ c.prepared-width.result c.prepared-width.ensures in
    let way = c.chosen_way-way in
    let by-columns = columns-chosen (λ h. (known h).0) way.ensures.chosen in (
      record { apart = λ h e. by-columns h; classed = λ h e. let no : false ≡ true = sym way.ensures.apart ∙ e in cc },
      λ h. (known (omega (arith, (way.ensures.chosen.by-columns h).0))).1,
      turned-fits _ _ _ (λ h. (by-columns h).ready.wide) (omega (arith, occupied-few s.args.tables.sizes.now s.args.tables.lists 0 s.args.tables.lists (omega arith) s.requires.counted, s.requires.counted.few)),
      rows-chosen (λ h. (known h).0) way.ensures.chosen
          (omega arith) (omega arith),
    )

pub returns : goal.returns
returns g c =
    rw c.columns-turned.ensures (told-search (columns_of c.chosen_way-way.result) (classed_of c.chosen_way-way.result) _ c.pairs-found.ensures)
