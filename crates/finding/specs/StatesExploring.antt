-- What the loops over states and lists hold and tell: the exploration of States (Exploring) in lent memory, with the trails (Trailed).
use Rattle.std.specs.Prelude.{◌≡◌, ℕ, suc, ◌+◌, ◌*◌, ◌<◌, ◌≤◌, ◌≢◌, List, length, take, drop, slice_index, slice_set, Option, Some, None}
use Rattle.std.proofs.Math.Path.{refl}
use Rattle.std.proofs.Common.{sym, ◌∙◌, add-one, arith, length-take-le, get_or-set_other, drop-set-lt}
use Rattle.std.proofs.Math.ListN.{length-set}
use Rattle.theory.specs.Places.{one}
use Rattle.theory.specs.Automaton.{nexts}
use Rattle.theory.specs.Exploration.{Entry}
use Rattle.finding.specs.declared.states.States.{States}
use Rattle.finding.specs.Standings.{place_of}
use Rattle.finding.specs.States.{state_step}
use Rattle.finding.specs.PlaceOfLaws.{place-within}
use Rattle.finding.specs.ImageRows.{image_rows, state-row}
use Rattle.finding.specs.Exploring.{Task, Turns, SweepLeft, Outcome, AllFound, explored, outcome-all, outcome-over}
use Rattle.finding.specs.Exploring.{explores-known, explores-new, explores-over, sweep-start, sweep-more, sweep-exceeds, all_found}
use Rattle.finding.specs.Trailed.{Trailed, trails, trailed-start, trailed-entry}

-- The lent memory.
pub record Memory : Type 0 where
  pub found : List ℕ
  pub parents : List ℕ
  pub symbols : List ℕ
  pub table : List ℕ

abbrev pub memory : List ℕ → List ℕ → List ℕ → List ℕ → Memory
memory found parents symbols table = record { found = found; parents = parents; symbols = symbols; table = table }

abbrev pub memory_of : States → List ℕ → Memory
memory_of s table = memory s.found s.parents s.symbols table

-- There is room for `limit` states.
pub record Room (limit : ℕ) (m : Memory) : Type 0 where
  pub most : limit ≤ 256
  pub states : limit ≤ length m.found
  pub origins : limit ≤ length m.parents
  pub steps : limit ≤ length m.symbols
  pub rows : 4096 ≤ length m.table

-- States over the images of `count` standings under `lists` lists, the lists in rows of 16.
abbrev pub state_task : List ℕ → ℕ → ℕ → ℕ → Task
state_task images count lists limit =
    record { next = state_step (image_rows images count lists) count; start = one 0; symbols = lists; limit = limit; width = 16 }

-- The memory holds the trails.
abbrev pub InMemory : Memory → List (Entry ℕ) → Type 0
InMemory m l = Trailed m.parents m.symbols (trails l)

-- In the row of state s, from the list v to the list w.
abbrev pub Turned : Task → ℕ → ℕ → ℕ → ℕ → Memory → Option ℕ → Memory → Type 0
Turned T s v w n old r new = Turns T (InMemory old) (InMemory new) s v w n old.found old.table r new.found new.table

-- The table is as it was at p, and behind its first 4,096 numbers.
abbrev pub SameAt : ℕ → List ℕ → Memory → Type 0
SameAt p before new = slice_index new.table p ≡ slice_index before p

abbrev pub SameBehind : List ℕ → Memory → Type 0
SameBehind before new = drop 4096 new.table ≡ drop 4096 before

-- One step, from state s over the list v; of the table nothing else has changed.
pub record Extended (images : List ℕ) (count limit s v n : ℕ) (old : Memory) (r : Option ℕ) (new : Memory) : Type 0 where
  pub bounds : (m : ℕ) → r ≡ Some m → (n ≤ m) × (m ≤ limit)
  pub behind : SameBehind old.table new
  pub same : (q : ℕ) → q ≢ 16 * s + v → SameAt q old.table new
  pub told : (lists : ℕ) → v < lists → lists ≤ 16 → Turned (state_task images count lists limit) s v (suc v) n old r new

-- The row of state s; of the table nothing else has changed.
pub record Swept (images : List ℕ) (count lists limit s n : ℕ) (old : Memory) (r : Option ℕ) (new : Memory) : Type 0 where
  pub bounds : (m : ℕ) → r ≡ Some m → (n ≤ m) × (m ≤ limit)
  pub behind : SameBehind old.table new
  pub same : (q : ℕ) → ((v : ℕ) → v < lists → q ≢ 16 * s + v) → SameAt q old.table new
  pub told : Turned (state_task images count lists limit) s 0 lists n old r new

-- The three ways of a step: x is the state that the list leads to, p its place.
module _ (images : List ℕ) (count limit s v n x p : ℕ) (old : Memory) (room : Room limit old)
    (narrow : v < 16) (inside : s < n) (within : n ≤ limit)
    (leads : x ≡ nexts (slice_index old.found s) (take count (drop (64 * v) images)))
    (place : p ≡ place_of x (take n old.found)) where
  next-state : (lists : ℕ) → v < lists → x ≡ state_step (image_rows images count lists) count (slice_index old.found s) v
  next-state lists h = leads ∙ state-row images count lists v (slice_index old.found s) h

  behind : (y : ℕ) → drop 4096 (slice_set old.table (16 * s + v) y) ≡ drop 4096 old.table
  behind y = drop-set-lt 4096 old.table (16 * s + v) y (omega (arith, room.most))

  fits : n ≤ length old.found
  fits = omega (arith, room.states)

  new-place : n ≤ p → p ≡ n
  new-place l = omega (arith, place, place-within x (take n old.found), length-take-le n old.found fits)

  pub extended-known : p < n
      → Extended images count limit s v n old (Some n) (memory old.found old.parents old.symbols (slice_set old.table (16 * s + v) p))
  extended-known l =
      record {
        bounds = λ m e. let same : n ≡ m = cc in (omega arith, omega arith);
        behind = behind p;
        same = λ q d. get_or-set_other old.table (16 * s + v) q p 0 d;
        told = λ lists h k whole held.
            explores-known s v n x p held inside h fits (next-state lists h) place k (omega (arith, room.rows, room.most)) l (λ m e t. t);
      }

  pub extended-over : n ≤ p → limit ≤ n → Extended images count limit s v n old None old
  extended-over l h =
      record {
        bounds = λ m e. absurd (let z : ◌≡◌ {A = ℕ} 0 1 = cc in omega arith);
        behind = refl;
        same = λ q d. refl;
        told = λ lists k w whole held. explores-over s v n x p held inside k fits (next-state lists k) place (new-place l) h;
      }

  pub extended-new : n ≤ p → n < limit
      → Extended images count limit s v n old (Some (n + 1))
      (memory (slice_set old.found n x) (slice_set old.parents n s) (slice_set old.symbols n v) (slice_set old.table (16 * s + v) n))
  extended-new l h =
      record {
        bounds = λ m e. let same : n + 1 ≡ m = cc in (omega arith, omega arith);
        behind = behind n;
        same = λ q d. get_or-set_other old.table (16 * s + v) q n 0 d;
        told = λ lists k w whole held.
            rw add-one
            (explores-new s v n x n held inside k fits (next-state lists k) (sym (new-place l) ∙ place) w
            (omega (arith, room.rows, room.most)) refl h (omega (arith, room.states))
            (λ m e t. trailed-entry m s v n x _ e inside (omega (arith, room.origins)) (omega (arith, room.steps)) t));
      }

-- Lent memory keeps its sizes.
pub record SameSizes (old new : Memory) : Type 0 where
  pub states : length new.found ≡ length old.found
  pub origins : length new.parents ≡ length old.parents
  pub steps : length new.symbols ≡ length old.symbols
  pub rows : length new.table ≡ length old.table

-- In the row of state s, the lists before `list` done: what was lent is `old`, and now m states are found.
pub record InRow (images : List ℕ) (count lists limit s n : ℕ) (old : Memory) (list m : ℕ) (new : Memory) : Type 0 where
  pub below : list ≤ lists
  pub kept : n ≤ m
  pub within : m ≤ limit
  pub room : Room limit new
  pub sizes : SameSizes old new
  pub behind : SameBehind old.table new
  pub same : (q : ℕ) → ((v : ℕ) → v < lists → q ≢ 16 * s + v) → SameAt q old.table new
  pub told : Turned (state_task images count lists limit) s 0 list n old (Some m) new

pub same-sizes : (m : Memory) → SameSizes m m
same-sizes m = record { states = refl; origins = refl; steps = refl; rows = refl }

pub sizes-on : {a b c : Memory} → SameSizes a b → SameSizes b c → SameSizes a c
sizes-on s t =
    record {
      states = t.states ∙ s.states;
      origins = t.origins ∙ s.origins;
      steps = t.steps ∙ s.steps;
      rows = t.rows ∙ s.rows;
    }

room-on : {limit : ℕ} {a b : Memory} → Room limit a → SameSizes a b → Room limit b
room-on r s =
    record {
      most = r.most;
      states = omega (arith, r.states, s.states);
      origins = omega (arith, r.origins, s.origins);
      steps = omega (arith, r.steps, s.steps);
      rows = omega (arith, r.rows, s.rows);
    }

module _ {images : List ℕ} {count lists limit s n : ℕ} {old : Memory} where
  pub in-row-start : s < n → n ≤ limit → Room limit old → InRow images count lists limit s n old 0 n old
  in-row-start h l room =
      record {
        below = omega arith;
        kept = omega arith;
        within = l;
        room = room;
        sizes = same-sizes old;
        behind = refl;
        same = λ q f. refl;
        told = λ whole held. held;
      }

  module _ {list m : ℕ} {mid new : Memory} {r : Option ℕ} (i : InRow images count lists limit s n old list m mid) (h : list < lists)
      (l : lists ≤ 16) (e : Extended images count limit s list m mid r new) where
    pub in-row-more : {more : ℕ} → r ≡ Some more → SameSizes mid new → InRow images count lists limit s n old (list + 1) more new
    in-row-more {more} q z =
        let b = e.bounds more q in
        record {
          below = omega arith;
          kept = omega (arith, i.kept, b.0);
          within = b.1;
          room = room-on i.room z;
          sizes = sizes-on i.sizes z;
          behind = e.behind ∙ i.behind;
          same = λ p f. e.same p (f list h) ∙ i.same p f;
          told = λ whole held. rw add-one (outcome-all whole _ q (e.told lists h l whole (i.told whole held)));
        }

    pub in-row-over : r ≡ None → Swept images count lists limit s n old None new
    in-row-over q =
        record {
          bounds = λ k z. absurd (let y : ◌≡◌ {A = ℕ} 0 1 = cc in omega arith);
          behind = e.behind ∙ i.behind;
          same = λ p f. e.same p (f list h) ∙ i.same p f;
          told = λ whole held. outcome-over whole _ q (e.told lists h l whole (i.told whole held));
        }

  pub in-row-end : {list m : ℕ} {new : Memory} → InRow images count lists limit s n old list m new → lists ≤ list
      → Swept images count lists limit s n old (Some m) new
  in-row-end {list} {m} i h =
      let e : list ≡ lists = omega (arith, i.below) in
      record {
        bounds = λ k z. let y : m ≡ k = cc in (omega (arith, i.kept), omega (arith, i.within));
        behind = i.behind;
        same = i.same;
        told = rw e at i.told;
      }

-- In the sweep, the rows of the states before i done: what was lent is `old`, and now n states are found.
pub record InSweep (images : List ℕ) (count lists limit : ℕ) (old : Memory) (i n : ℕ) (new : Memory) : Type 0 where
  pub below : i ≤ n
  pub within : n ≤ limit
  pub room : Room limit new
  pub sizes : SameSizes old new
  pub behind : SameBehind old.table new
  pub same : (q : ℕ) → ((s v : ℕ) → s < i → v < lists → q ≢ 16 * s + v) → SameAt q old.table new
  pub told : SweepLeft (state_task images count lists limit) (InMemory new) i n new.found new.table

-- All rows are done, or there are more states than the limit; the table was `before`.
pub record AllSwept (images : List ℕ) (count lists limit : ℕ) (before : List ℕ) (r : Option ℕ) (new : Memory) : Type 0 where
  pub bounds : (n : ℕ) → r ≡ Some n → n ≤ limit
  pub behind : SameBehind before new
  pub same : (n : ℕ) → r ≡ Some n → (q : ℕ) → ((s v : ℕ) → s < n → v < lists → q ≢ 16 * s + v) → SameAt q before new
  pub told : Outcome (explored (state_task images count lists limit)) r
      (λ n. AllFound (state_task images count lists limit) (InMemory new) n new.found new.table)

module _ {images : List ℕ} {count lists limit : ℕ} where
  -- The start alone is found, and nothing is in the table.
  pub in-sweep-start : (found parents symbols table : List ℕ) → 0 < limit → Room limit (memory found parents symbols table)
      → InSweep images count lists limit (memory (slice_set found 0 1) parents symbols table) 0 1 (memory (slice_set found 0 1) parents symbols table)
  unfolding trails
  in-sweep-start found parents symbols table h room =
      record {
        below = omega arith;
        within = h;
        room = room-on room (record { states = length-set found 0 1; origins = refl; steps = refl; rows = refl });
        sizes = same-sizes (memory (slice_set found 0 1) parents symbols table);
        behind = refl;
        same = λ q f. refl;
        told = sweep-start found table h (omega (arith, room.states)) (trailed-start parents symbols);
      }

  module _ {i n : ℕ} {old mid new : Memory} {r : Option ℕ} (s : InSweep images count lists limit old i n mid) (h : i < n)
      (e : Swept images count lists limit i n mid r new) where
    pub in-sweep-more : {more : ℕ} → lists ≤ 16 → r ≡ Some more → SameSizes mid new → InSweep images count lists limit old (i + 1) more new
    in-sweep-more {more} l q z =
        record {
          below = omega (arith, (e.bounds more q).0);
          within = (e.bounds more q).1;
          room = room-on s.room z;
          sizes = sizes-on s.sizes z;
          behind = e.behind ∙ s.behind;
          same = λ p f. e.same p (λ v k. f i v (omega arith) k) ∙ s.same p (λ j v m k. f j v (omega arith) k);
          told =
              sweep-more i n s.told h s.within (omega (arith, s.within, s.room.states)) l
              (λ whole held. outcome-all whole _ q (e.told whole held));
        }

    pub in-sweep-over : r ≡ None → AllSwept images count lists limit old.table None new
    in-sweep-over q =
        record {
          bounds = λ k z. absurd (let y : ◌≡◌ {A = ℕ} 0 1 = cc in omega arith);
          behind = e.behind ∙ s.behind;
          same = λ k z. absurd (let y : ◌≡◌ {A = ℕ} 0 1 = cc in omega arith);
          told =
              sweep-exceeds i n s.told h s.within (omega (arith, s.within, s.room.states))
              (λ whole held. outcome-over whole _ q (e.told whole held));
        }

  pub in-sweep-end : {i n : ℕ} {old new : Memory} → lists ≤ 16 → InSweep images count lists limit old i n new → n ≤ i
      → AllSwept images count lists limit old.table (Some n) new
  in-sweep-end {i} {n} l s h =
      record {
        bounds = λ k z. let y : n ≡ k = cc in omega (arith, s.within);
        behind = s.behind;
        same = λ k z p f. let y : n ≡ k = cc in s.same p (λ j v m b. f j v (omega (arith, s.below)) b);
        told = all_found i n l (omega (arith, s.within, s.room.states)) h s.told;
      }
