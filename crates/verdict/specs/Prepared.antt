-- Steps of turned sets are prepared, by columns (Columns) where there are at most 64 states, else by ranges (Ranges): the tables have room,
-- and it is known which places lead to each place of a list and which states are reached where a path of a list ends, or from each state. Or
-- steps by classes (Classes) are, or steps by rows of two words (WideRows): then sets stand as they are.
use Rattle.std.specs.Prelude.{◌≡◌, ℕ, ◌*◌, ◌<◌, ◌≤◌, Bool, true, false, ◌↔◌, List, length}
use Rattle.std.proofs.Common.{sym, subst, mul-le-mul_left, arith}
use Rattle.theory.specs.Places.{Member}
use Rattle.theory.specs.Closure.{Reaches}
use Rattle.places.specs.Words.{number_of}
use Rattle.verdict.specs.Tables.{Ready}
use Rattle.verdict.specs.Columns.{Leading, Passes, NextBelow, LeadsIn, Passing, Finishing}
use Rattle.verdict.specs.Sums.{Sums}
use Rattle.verdict.specs.Classes.{ClassesReady}
use Rattle.verdict.specs.WideRows.{RowsPrepared}

pub record Prepared (states n : ℕ) (follow enter sizes accepting table : List ℕ) (w : ℕ) (before ended : List ℕ) : Type 0 where
  pub ready : Ready states n follow enter sizes accepting table w
  pub some : 0 < states
  pub next : NextBelow states n table
  pub leading : Leading n follow sizes before
  pub before-room : 64 * n ≤ length before
  pub ended-room : 64 * n ≤ length ended
  pub finishing : states ≤ 64 → Finishing states n accepting table ended
  pub sums : states ≤ 64 → Sums n states ended
  pub passing : 64 < states → Passing 4 states n accepting table ended
  pub reached-room : 64 < states → 4 * states ≤ length ended

-- The states that lists with the empty path lead to from the first.
pub record FirstReached (n : ℕ) (accepting table first : List ℕ) : Type 0 where
  pub exact : (t : ℕ) → Member t (number_of first) ↔ Reaches (Passes n accepting table) 0 t

-- They are told where what each state leads to is.
pub first-reached : {k states n : ℕ} {accepting table passes first : List ℕ} → 0 < states → Passing k states n accepting table passes
    → ((t : ℕ) → Member t (number_of first) ↔ LeadsIn k passes 0 t) → FirstReached n accepting table first
first-reached some p told =
    record { exact = λ t. (λ m. (p.exact 0 t some).0 ((told t).0 m), λ r. (told t).1 ((p.exact 0 t some).1 r)) }

-- What steps need is prepared, where sets stand turned: w columns, by classes or one for each offset.
pub record WayReady (states n labels : ℕ) (follow enter sizes accepting table : List ℕ) (w : ℕ) (by : Bool) (before ended classes : List ℕ)
    : Type 0 where
  pub apart : 0 < w → by ≡ false → Prepared states n follow enter sizes accepting table w before ended
  pub classed : 0 < w → by ≡ true → ClassesReady states n labels follow enter sizes accepting table w before ended classes

-- The width is `rows`. There is room in `laid` for the rows that can come next.
pub record RowsReady (states n : ℕ) (follow enter sizes accepting table : List ℕ) (w rows : ℕ) (before ended laid : List ℕ) : Type 0 where
  pub plain : w ≡ 0
  pub ready : Ready states n follow enter sizes accepting table rows
  pub few : states ≤ 64
  pub long : 64 < rows
  pub short : rows ≤ 128
  pub prepared : RowsPrepared n follow enter sizes accepting before
  pub finishing : Finishing states n accepting table ended
  pub before-room : 352 ≤ length before
  pub ended-room : 64 * n ≤ length ended
  pub laid-room : 2 * states ≤ length laid

-- Of `laid` the length alone matters.
pub rows-kept : {states n : ℕ} {follow enter sizes accepting table : List ℕ} {w rows : ℕ} {before ended laid laid' : List ℕ}
    → RowsReady states n follow enter sizes accepting table w rows before ended laid → length laid' ≡ length laid
    → RowsReady states n follow enter sizes accepting table w rows before ended laid'
rows-kept r e =
    record {
      plain = r.plain;
      ready = r.ready;
      few = r.few;
      long = r.long;
      short = r.short;
      prepared = r.prepared;
      finishing = r.finishing;
      before-room = r.before-room;
      ended-room = r.ended-room;
      laid-room = omega (arith, r.laid-room);
    }

-- Rows are of two words: then there are few states.
few-rows : (states rows : ℕ) → 64 < rows → states * rows ≤ 1024 → states ≤ 64
few-rows states rows h l = omega (arith, mul-le-mul_left states h)

-- How steps go: by columns, as they were prepared, or by rows, which are prepared in place of them.
pub record WayChosen (n : ℕ) (follow enter sizes accepting : List ℕ) (width : ℕ) (before before' : List ℕ) (turned rows : ℕ) : Type 0 where
  pub by-columns : 0 < turned → (turned ≡ width) × (before' ≡ before)
  pub by_rows : 0 < rows → (rows ≡ width) × (64 < rows) × (rows ≤ 128) × (turned ≡ 0) × RowsPrepared n follow enter sizes accepting before'

module _ {states n : ℕ} {follow enter sizes accepting table : List ℕ} {width : ℕ} {before before' ended : List ℕ} {turned rows : ℕ}
    (prepared : 0 < width → Prepared states n follow enter sizes accepting table width before ended)
    (chosen : WayChosen n follow enter sizes accepting width before before' turned rows) where
  pub columns-chosen : 0 < turned → Prepared states n follow enter sizes accepting table turned before' ended
  columns-chosen h =
      let (e, same) = chosen.by-columns h in
      subst (λ w. Prepared states n follow enter sizes accepting table w before' ended) (sym e)
      (subst (λ l. Prepared states n follow enter sizes accepting table width l ended) (sym same) (prepared (omega arith)))

  pub rows-chosen : {laid : List ℕ} → 352 ≤ length before' → 128 ≤ length laid
      → 0 < rows → RowsReady states n follow enter sizes accepting table turned rows before' ended laid
  rows-chosen room laid-room h =
      let (e, long, short, plain, made) = chosen.by_rows h in
      let p = prepared (omega arith) in
      let few = few-rows states width (omega arith) p.ready.few-places in
      record {
        plain = plain;
        ready = subst (Ready states n follow enter sizes accepting table) (sym e) p.ready;
        few = few;
        long = long;
        short = short;
        prepared = made;
        finishing = p.finishing few;
        before-room = room;
        ended-room = p.ended-room;
        laid-room = omega (arith, few);
      }
