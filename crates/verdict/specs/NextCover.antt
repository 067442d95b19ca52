-- Cover sets as they stand in the workspace (Coded): the step over a label. Where sets are turned they go by columns or by ranges (Prepared),
-- or by classes (Classes), and such a step is the step of the cover set; so is the step by rows of two words, of a set that stands as it is.
use Rattle.std.specs.Prelude.{◌≡◌, ℕ, zero, suc, ◌+◌, ◌*◌, ◌^◌, ◌<◌, ◌≤◌, Bool, true, false, List, length, slice_index}
use Rattle.std.specs.Prelude.{refl}
use Rattle.std.proofs.Common.{sym, ap, ◌∙◌, subst, arith}
use Rattle.std.proofs.Math.Decide.{ℕ_discrete}
use Rattle.theory.specs.Places.{Member}
use Rattle.places.specs.Words.{number_of}
use Rattle.verdict.specs.Cover.{cover_step}
use Rattle.verdict.specs.Tables.{automata_of, occupied, rewritten}
use Rattle.verdict.specs.CoverBounds.{few-states}
use Rattle.verdict.specs.CoverTold.{StartTold, StepTold, StartStands, StepStands}
use Rattle.verdict.specs.Columns.{offset_in, ColumnsOf, SetOf, Stepped}
use Rattle.verdict.specs.ColumnOffsets.{offset-below, occurrence-at}
use Rattle.verdict.specs.ColumnsStep.{columns-step}
use Rattle.verdict.specs.Classes.{class_at, Classes, ClassesReady, MergedWithin, ClassStepped}
use Rattle.verdict.specs.ClassesStep.{classes-step}
use Rattle.verdict.specs.Coded.{plain, turned, layout_of}
use Rattle.verdict.specs.CodedLaws.{layout-plain, layout-apart, layout-classed}
use Rattle.verdict.specs.Prepared.{Prepared, WayReady, RowsReady}
use Rattle.verdict.specs.Ranges.{RangesReady, RangesStepped}
use Rattle.verdict.specs.RangesLaws.{ranges-ready, ranges-below}
use Rattle.verdict.specs.RangesStep.{ranges-step}
use Rattle.verdict.specs.Turned.{Onto, Turned, Stacked}
use Rattle.verdict.specs.TurnedColumns.{column_in, columns-turned, set-turned}
use Rattle.verdict.specs.TurnedLaws.{turn, turn-made, onto_same}
use Rattle.verdict.specs.WideRows.{RowsLaid, LaidWithin, RowsStepped}
use Rattle.verdict.specs.WideRowsStep.{laid-within, rows_step}

-- What a step over the label a needs of a set: its columns, where it goes by them, and room for them; the rows that can come next, where
-- steps go by rows.
pub record Laid (states n : ℕ) (follow enter sizes accepting table : List ℕ) (w : ℕ) (by : Bool) (rows : ℕ)
    (before ended classes set laid : List ℕ) (a : ℕ) : Type 0 where
  pub labels : ℕ
  pub label : a < labels
  pub ready : WayReady states n labels follow enter sizes accepting table w by before ended classes
  pub stacked : rows ≡ 0 → 0 < w → states ≤ 64 → Stacked w states laid (number_of set)
  pub room : w ≤ length laid
  pub by_rows : 0 < rows → RowsReady states n follow enter sizes accepting table w rows before ended laid
  pub rows-laid : 0 < rows → RowsLaid rows states before (number_of set) laid

-- How many words have all places of a set as it stands.
pub record Used (states w r : ℕ) : Type 0 where
  pub within : r ≤ 16
  pub plain : w ≡ 0 → r ≡ 16
  pub turned : 0 < w → states * w ≤ 64 * r

-- The columns have room in a set.
pub way-places : {states n labels : ℕ} {follow enter sizes accepting table : List ℕ} {w : ℕ} {by : Bool} {before ended classes : List ℕ}
    → WayReady states n labels follow enter sizes accepting table w by before ended classes → 0 < w → (0 < states) × (states * w ≤ 1024)
way-places {states} {w = w} {by = by} ready h = go by refl
  where
    go : (b : Bool) → by ≡ b → (0 < states) × (states * w ≤ 1024)
    go false e = let p = ready.apart h e in (p.some, p.ready.few-places)
    go true e = let p = ready.classed h e in (p.some, p.few-places)

module _ {states n : ℕ} {follow enter sizes accepting table : List ℕ} {w : ℕ} {before ended : List ℕ}
    (prepared : Prepared states n follow enter sizes accepting table w before ended) where
  wide : w ≡ suc (occupied sizes 0 n)
  wide = prepared.ready.wide

  some : 0 < w
  some = omega (arith, wide)

  -- The step by columns, which stand in the turned set r.
  pub next-stands : states ≤ 64 → (set : List ℕ) {columns : List ℕ} → Stacked w states columns (number_of set) → {a : ℕ} (r : List ℕ)
      → Stepped n a enter sizes accepting before ended columns (column_in states r) → number_of r < 2 ^ (states * w)
      → StepStands (turned (suc (occupied sizes 0 n)) w (λ o. o)) states n follow enter sizes accepting table a set r
  next-stands few set {columns} of {a} r stepped below =
      subst (λ z. StepStands (turned z w (λ o. o)) states n follow enter sizes accepting table a set r) wide
      (record {
        told = λ proper l flags C stands.
            let made = turn-made w w (λ o. o) states (number_of r) some refl (onto_same w) below in
            let e =
            columns-step states n a follow enter sizes accepting table before ended columns C (column_in states r)
            (turn w (λ o. o) states (number_of r)) proper l prepared.leading (prepared.finishing few)
            (subst (λ z. ColumnsOf z states C (λ o. slice_index columns o)) wide
            (columns-turned w w states (λ o. o) C (number_of set) columns (λ o h. h) stands of))
            stepped
            (subst (λ z. SetOf z states (column_in states r) (turn w (λ o. o) states (number_of r))) wide
            (set-turned w w states (λ o. o) (turn w (λ o. o) states (number_of r)) r made))
            flags in
            subst (λ z. Turned w w (λ o. o) states z (number_of r)) e made;
      })

  -- The step by ranges.
  pub ranges-stand : 64 < states → (set : List ℕ) {a : ℕ} (r : List ℕ)
      → RangesStepped states n a enter sizes accepting before ended table (number_of set) (number_of r)
      → StepStands (turned (suc (occupied sizes 0 n)) w (λ o. o)) states n follow enter sizes accepting table a set r
  ranges-stand many set {a} r stepped =
      ranges-step states n a follow enter sizes accepting table before ended set r w wide prepared.leading (prepared.passing many) stepped

  pub ranges-within : 64 < states → {a s r : ℕ} → RangesStepped states n a enter sizes accepting before ended table s r → r < 2 ^ (states * w)
  ranges-within many {a} {s} {r} stepped =
      ranges-below states n a enter sizes accepting before ended table s r w wide (prepared.passing many).within prepared.next stepped

  -- What the step by ranges asks.
  pub ranges-asked : 64 < states → RangesReady states n enter sizes accepting before ended table
  ranges-asked many =
      ranges-ready states n follow enter sizes accepting table w before ended prepared.ready prepared.some
      (few-states states w some prepared.ready.few-places) prepared.leading prepared.before-room prepared.next
      (prepared.passing many) (prepared.reached-room many)

-- Each class is that of an offset, and the offset 0 alone has the class 0.
module _ {n labels k : ℕ} {enter sizes before classes merged : List ℕ} (stable : Classes n labels k enter sizes before classes merged) where
  pub classes-onto : Onto (suc (occupied sizes 0 n)) k (λ o. slice_index classes o)
  classes-onto c h = side (ℕ_discrete c 0)
    where
      side : Dec (c ≡ 0) → (o : ℕ) × (o < suc (occupied sizes 0 n)) × (slice_index classes o ≡ c)
      side (yes e) = (0, omega arith, stable.alone ∙ sym e)
      side (no d) =
          let (v, p, inside, some, small, same) = stable.onto c (omega arith) h in
          (offset_in sizes v p, offset-below sizes v p n inside small, same)

  pub classes-apart : (o : ℕ) → 0 < o → o < suc (occupied sizes 0 n) → 0 < slice_index classes o
  classes-apart o some small =
      let (v, x, inside, within, e) = occurrence-at sizes n o some (omega arith) in
      subst (λ z. 0 < slice_index classes z) (sym e) (stable.inside v (suc x) inside (omega arith) within).0

module _ {states n labels : ℕ} {follow enter sizes accepting table : List ℕ} {k : ℕ} {merged ended classes : List ℕ}
    (ready : ClassesReady states n labels follow enter sizes accepting table k merged ended classes) where
  -- The class of a place of a list is one of them.
  class-below : (v o : ℕ) → v < n → o ≤ slice_index sizes (v + 1) → class_at sizes classes v o < k
  class-below v zero h small = omega (arith, ready.stable.alone, ready.some-class)
  class-below v (suc o) h small = (ready.stable.inside v (suc o) h (omega arith) small).1

  -- What the step by classes asks.
  pub merged-within : {a : ℕ} → a < labels → MergedWithin a k merged
  merged-within {a} label =
      record {
        entered = λ c m. ready.stable.entered-within c a label m;
        led = λ c d m l.
            let (low, high) = ready.stable.entered-within c a label m in
            let (v, p, inside, some, small, same) = ready.stable.onto c low high in
            let (o, leads, e) = (ready.stable.led v p d inside some small).0 (subst (λ z. Member d (slice_index merged z)) (sym same) l) in
            subst (λ z. z < k) e
            (class-below v o inside (ready.leading.within v o p inside (omega (arith, ready.ready.counted.small v inside)) leads));
      }

  -- The step by classes, whose columns stand in the turned set r.
  pub classes-stand : (set : List ℕ) {columns : List ℕ} → Stacked k states columns (number_of set) → {a : ℕ} → a < labels → (r : List ℕ)
      → ClassStepped states a k merged ended columns (column_in states r) → number_of r < 2 ^ (states * k)
      → StepStands (turned (suc (occupied sizes 0 n)) k (λ o. slice_index classes o)) states n follow enter sizes accepting table a set r
  classes-stand set {columns} of {a} label r stepped below =
      record {
        told = λ proper l flags C stands.
            classes-step states n labels a follow enter sizes accepting table merged ended classes columns k set r ready proper l label of
            stepped below flags C stands;
      }

-- Where sets stand as they are.

pub start_plain : {states n : ℕ} {follow enter sizes accepting table r : List ℕ} → StartTold states n follow enter sizes accepting table r
    → StartStands plain states n follow enter sizes accepting table r
start_plain t = record { told = λ proper flags. sym (t.told proper flags) }

pub step-plain : {states n : ℕ} {follow enter sizes accepting table : List ℕ} {a : ℕ} (set r : List ℕ)
    → StepTold states n follow enter sizes accepting table a set r → StepStands plain states n follow enter sizes accepting table a set r
step-plain {states} {n} {follow} {enter} {sizes} {accepting} {table} {a} set r t =
    record {
      told = λ proper l flags C s.
          ap (λ z. cover_step (rewritten states table flags) (automata_of follow enter sizes accepting n) z a) s ∙ sym (t.told proper l flags);
    }

-- In the layout with so many columns.
module _ (w : ℕ) (by : Bool) (classes : List ℕ) {states n : ℕ} {follow enter sizes accepting table : List ℕ} {a : ℕ} {set r : List ℕ} where
  pub in-plain : w ≡ 0 → StepStands plain states n follow enter sizes accepting table a set r
      → StepStands (layout_of (suc (occupied sizes 0 n)) w by classes) states n follow enter sizes accepting table a set r
  in-plain e s =
      subst (λ L. StepStands L states n follow enter sizes accepting table a set r) (sym (layout-plain (suc (occupied sizes 0 n)) w by classes e)) s

  pub in-apart : 0 < w → by ≡ false
      → StepStands (turned (suc (occupied sizes 0 n)) w (λ o. o)) states n follow enter sizes accepting table a set r
      → StepStands (layout_of (suc (occupied sizes 0 n)) w by classes) states n follow enter sizes accepting table a set r
  in-apart h e s =
      subst (λ L. StepStands L states n follow enter sizes accepting table a set r) (sym (layout-apart (suc (occupied sizes 0 n)) w by classes h e)) s

  pub in-classed : 0 < w → by ≡ true
      → StepStands (turned (suc (occupied sizes 0 n)) w (λ o. slice_index classes o)) states n follow enter sizes accepting table a set r
      → StepStands (layout_of (suc (occupied sizes 0 n)) w by classes) states n follow enter sizes accepting table a set r
  in-classed h e s =
      subst (λ L. StepStands L states n follow enter sizes accepting table a set r) (sym (layout-classed (suc (occupied sizes 0 n)) w by classes h e)) s

-- Where steps go by rows.
module _ {states n : ℕ} {follow enter sizes accepting table : List ℕ} {w rows : ℕ} {before ended laid : List ℕ}
    (ready : RowsReady states n follow enter sizes accepting table w rows before ended laid)
    (set : List ℕ) (rows-laid : RowsLaid rows states before (number_of set) laid) where
  wide_rows : rows ≡ suc (occupied sizes 0 n)
  wide_rows = ready.ready.wide

  short-rows : suc (occupied sizes 0 n) ≤ 128
  short-rows = omega (arith, wide_rows, ready.short)

  laid-wide : RowsLaid (suc (occupied sizes 0 n)) states before (number_of set) laid
  laid-wide = subst (λ z. RowsLaid z states before (number_of set) laid) wide_rows rows-laid

  -- What comes next is an occurrence.
  pub rows-within : LaidWithin rows states laid
  rows-within =
      subst (λ z. LaidWithin z states laid) (sym wide_rows)
      (laid-within states n follow enter sizes accepting before (number_of set) laid short-rows ready.prepared laid-wide)

  pub rows-stand : (by : Bool) (classes : List ℕ) {a : ℕ} (r : List ℕ) → RowsStepped rows states n a before ended laid (number_of r)
      → StepStands (layout_of (suc (occupied sizes 0 n)) w by classes) states n follow enter sizes accepting table a set r
  rows-stand by classes {a} r stepped =
      in-plain w by classes ready.plain
      (step-plain set r
      (rows_step states n a follow enter sizes accepting table before ended set laid r short-rows ready.prepared laid-wide
      (subst (λ z. RowsStepped z states n a before ended laid (number_of r)) wide_rows stepped) ready.finishing))
