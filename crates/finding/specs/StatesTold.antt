-- What the code that explores the states promises: what the exploration tells, the states found with their trails, and for each of them
-- where each list leads, in rows of 16.
use Rattle.std.specs.Prelude.{◌≡◌, ℕ, ◌+◌, ◌*◌, ◌<◌, ◌≤◌, ◌≢◌, ◌↔◌, List, length, take, drop, slice_index, Option, Some, None}
use Rattle.std.specs.Prelude.{refl}
use Rattle.std.proofs.Common.{sym, ◌∙◌, subst, arith}
use Rattle.std.proofs.Math.Path.{ap}
use Rattle.theory.specs.Places.{one}
use Rattle.theory.specs.Exploration.{Entry, all, over}
use Rattle.theory.proofs.ExplorationSteps.{explore-none}
use Rattle.finding.specs.Standings.{values, place_of}
use Rattle.finding.specs.States.{state_step, states}
use Rattle.finding.specs.ImageRows.{image_rows, length-image_rows}
use Rattle.finding.specs.Trailed.{Trailed, trails}
use Rattle.finding.specs.Exploring.{system, explored, entries-same, not-both, not-all}
use Rattle.finding.specs.StatesExploring.{memory, state_task, AllSwept}

-- The states l, stored: images has a row for each list, and the table was `before`.
pub record StatesStored (images : List (List ℕ)) (standings lists : ℕ) (before : List ℕ) (l : List (Entry ℕ)) (r : Option ℕ)
    (found parents symbols table : List ℕ) : Type 0 where
  pub count : r ≡ Some (length l)
  pub numbers : take (length l) found ≡ values l
  pub trailed : Trailed parents symbols (trails l)
  pub moved : (s v : ℕ) → s < length l → v < lists
      → slice_index table (16 * s + v) ≡ place_of (state_step images standings (slice_index (values l) s) v) (values l)
  -- a list leads from a state to a state
  pub inside : (s v : ℕ) → s < length l → v < lists → place_of (state_step images standings (slice_index (values l) s) v) (values l) < length l
  -- nothing else has changed
  pub elsewhere : (p : ℕ) → ((s v : ℕ) → s < length l → v < lists → p ≢ 16 * s + v) → slice_index table p ≡ slice_index before p

pub record StatesTold (images : List ℕ) (count lists limit : ℕ) (before : List ℕ) (r : Option ℕ) (found parents symbols table : List ℕ)
    : Type 0 where
  pub is_over : (r ≡ None) ↔ (states (image_rows images count lists) count limit ≡ over)
  -- nothing behind the first 4,096 numbers of the table has changed, in either case
  pub behind : drop 4096 table ≡ drop 4096 before
  pub within : (l : List (Entry ℕ)) → states (image_rows images count lists) count limit ≡ all l → length l ≤ limit
  pub stored : (l : List (Entry ℕ)) → states (image_rows images count lists) count limit ≡ all l
      → StatesStored (image_rows images count lists) count lists before l r found parents symbols table

-- The whole exploration gives what is promised.

module _ (images : List ℕ) (count lists limit : ℕ) (before found parents symbols table : List ℕ) where
  -- The system of States has as many symbols as there are rows.
  same-system : explored (state_task images count lists limit) ≡ states (image_rows images count lists) count limit
  unfolding states
  same-system =
      ap
      (λ k. explored (record { next = state_step (image_rows images count lists) count; start = one 0; symbols = k; limit = limit; width = 16 }))
      (sym (length-image_rows images count lists))

  told_over : drop 4096 table ≡ drop 4096 before → explored (state_task images count lists limit) ≡ over
      → StatesTold images count lists limit before None found parents symbols table
  told_over b e =
      let f : states (image_rows images count lists) count limit ≡ over = sym same-system ∙ e in
      record {
        is_over = (λ p. f, λ p. refl);
        behind = b;
        within = λ l p. absurd (not-both (states (image_rows images count lists) count limit) l p f);
        stored = λ l p. absurd (not-both (states (image_rows images count lists) count limit) l p f);
      }

  told-all : (n : ℕ) → AllSwept images count lists limit before (Some n) (memory found parents symbols table)
      → StatesTold images count lists limit before (Some n) found parents symbols table
  told-all n a =
      record {
        is_over = (
          λ p. absurd (not-all n p),
          λ p. absurd (not-both (states (image_rows images count lists) count limit) a.told.entries told p),
        );
        behind = a.behind;
        within = λ l p. omega (arith, ap length (same l p), a.told.size, a.bounds n refl);
        stored = λ l p.
            subst (λ m. StatesStored (image_rows images count lists) count lists before m (Some n) found parents symbols table) (same l p)
            (record {
              count = ap Some (sym a.told.size);
              numbers = a.told.numbers;
              trailed = a.told.beside;
              moved = a.told.moved;
              inside = a.told.inside;
              elsewhere = λ p f. a.same n refl p (λ i v h k. f i v (omega (arith, a.told.size)) k);
            });
      }
    where
      told : states (image_rows images count lists) count limit ≡ all a.told.entries
      told = sym same-system ∙ a.told.told

      same : (l : List (Entry ℕ)) → states (image_rows images count lists) count limit ≡ all l → a.told.entries ≡ l
      same l p = entries-same (states (image_rows images count lists) count limit) a.told.entries l told p

  pub states-told : (r : Option ℕ) → AllSwept images count lists limit before r (memory found parents symbols table)
      → StatesTold images count lists limit before r found parents symbols table
  states-told (Some n) a = told-all n a
  states-told None a = told_over a.behind a.told

  pub states-none : drop 4096 table ≡ drop 4096 before → limit ≡ 0
      → StatesTold images count lists limit before None found parents symbols table
  states-none b e = told_over b (explore-none (system (state_task images count lists limit)) limit e)
