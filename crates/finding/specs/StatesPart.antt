-- What the code for the states promises on the tables of a job, from the standings and their moves on: it leaves what find_states gives.
use Rattle.std.specs.Prelude.{◌≡◌, ℕ, suc, ◌-◌, ◌*◌, ◌<◌, ◌≤◌, List, ◌++◌, map, length, get_or, take, drop, replicate, slice_index, slice_index_or, Option, Some, None, Result, Ok}
use Rattle.std.specs.Prelude.{refl}
use Rattle.std.proofs.Common.{sym, ap₂, ◌∙◌, subst, arith, length-take}
use Rattle.std.proofs.Math.Path.{ap}
use Rattle.std.proofs.lemmas.List.{length-map}
use Rattle.theory.specs.Automaton.{Automaton}
use Rattle.theory.specs.Exploration.{Entry, Exploration, all, over}
use Rattle.syntax.specs.declared.refusal.Refusal.TheVariants.{TooManyStates}
use Rattle.reading.specs.declared.answer.Refused.{Refused}
use Rattle.finding.specs.declared.answer.Found.{Found as Told}
use Rattle.finding.specs.Standings.{values}
use Rattle.finding.specs.ListImage.{image_table}
use Rattle.finding.specs.States.{states, accepting_standings, state_accepts}
use Rattle.finding.specs.Find.{found as finds, refused, flag, rows, find_states}
use Rattle.finding.specs.FindStates.{rewriting}
use Rattle.finding.specs.Numbers.{length-values}
use Rattle.finding.specs.ImageRows.{image_rows, length-image_rows}
use Rattle.finding.specs.ListRows.{JobTables, Moves, Has, ImagesOf}
use Rattle.finding.specs.StatesTold.{StatesTold}
use Rattle.finding.specs.Padded.{states-table, cleared-behind}
use Rattle.finding.specs.Table.{length-rows}
use Rattle.finding.specs.Outcome.{left, left_by, refused_with}
use Rattle.finding.specs.Named.{cleared}
use Rattle.finding.specs.FoundTold.{found_with, Reached, FoundTold}

pub clash : {A : Type 0} → ◌≡◌ {A = ℕ} 0 1 → A
clash z = absurd (omega arith)

-- The tables hold the automata of the query and of the lists.
pub record Holding (T : JobTables) (A : Automaton) (Bs : List Automaton) (lists : ℕ) : Type 0 where
  pub query : Has T 0 A
  pub size : length Bs ≡ lists
  pub listed : (v : ℕ) (B : Automaton) → v < lists → Has T (suc v) (slice_index_or Bs v B)

-- What the code has room for.
pub record Room (k n limit : ℕ) (lent marks : List ℕ) : Type 0 where
  pub labels : k ≤ 32
  pub lists : n ≤ 16
  pub states : limit ≤ 256
  pub table : 4096 ≤ length lent
  pub flags : 256 ≤ length marks

pub record StatesPart (T : JobTables) (lists limit : ℕ) (found table flags : List ℕ) (r : Result Told Refused) (table' flags' : List ℕ) : Type 0 where
  pub told : Room T.labels lists limit table flags → (A : Automaton) (Bs : List Automaton) → Holding T A Bs lists
      → Moves A (take T.count found) T
      → left r table' flags'
      ≡ left_by (find_states (image_table A (take T.count found) T.labels Bs) T.count (accepting_standings A (take T.count found)) limit)
      table flags

over-refused : (images : List (List ℕ)) (m accepting limit : ℕ) → states images m limit ≡ over
    → find_states images m accepting limit ≡ refused TooManyStates
unfolding find_states
over-refused images m accepting limit e = rw (find_states, e)

all_found : (images : List (List ℕ)) (m accepting limit : ℕ) (l : List (Entry ℕ)) → states images m limit ≡ all l
    → find_states images m accepting limit ≡ finds (rewriting images m accepting l)
unfolding find_states
all_found images m accepting limit l e = rw (find_states, e)

-- What the memory holds behind the exploration of the states: `lent` and `marks` are the buffers as they were cleared.
module _ (T : JobTables) (lists limit : ℕ) (found table flags : List ℕ) (images lent marks : List ℕ) (r : Option ℕ)
    (explored parents symbols table' : List ℕ) (imaged : lists ≤ 16 → ImagesOf T lists images)
    (lent-cleared : 4096 ≤ length table → lent ≡ cleared 4096 table) (marks-cleared : 256 ≤ length flags → marks ≡ cleared 256 flags)
    (told : T.count ≤ 64 → lists ≤ 16 → limit ≤ 256 → 4096 ≤ length lent
    → StatesTold images T.count lists limit lent r explored parents symbols table')
    (sized : length table' ≡ length lent) (kept : length lent ≡ length table) (stood : length found ≡ 64) where
  -- There are no more standings than there is room for.
  inside : (A : Automaton) → Moves A (take T.count found) T → T.count ≤ length found
  inside A m = omega (arith, m.size, length-take T.count found)

  module _ (room : Room T.labels lists limit table flags) (few : T.count ≤ 64) (A : Automaton) (Bs : List Automaton)
      (h : Holding T A Bs lists) (m : Moves A (take T.count found) T) where
    pictures : List (List ℕ)
    pictures = image_table A (take T.count found) T.labels Bs

    same-images : image_rows images T.count lists ≡ pictures
    unfolding pictures
    same-images = (imaged room.lists).table few room.labels A (take T.count found) Bs m h.size h.listed

    explored-states : StatesTold images T.count lists limit (cleared 4096 table) r explored parents symbols table'
    explored-states =
        subst (λ t. StatesTold images T.count lists limit t r explored parents symbols table') (lent-cleared room.table)
        (told few room.lists room.states (omega (arith, room.table)))

  -- Too many states.
  pub part-over : (table'' : List ℕ) (a : Result Told Refused) → r ≡ None → (4096 ≤ length table' → table'' ≡ cleared 4096 table')
      → a ≡ refused_with TooManyStates 0 → StatesPart T lists limit found table flags a table'' marks
  unfolding pictures left_by
  part-over table'' a e again o = record { told = λ room A Bs h m. there room (omega (arith, inside A m)) A Bs h m }
    where
      there : Room T.labels lists limit table flags → T.count ≤ 64 → (A : Automaton) (Bs : List Automaton) → Holding T A Bs lists
          → Moves A (take T.count found) T
          → left a table'' marks
          ≡ left_by (find_states (image_table A (take T.count found) T.labels Bs) T.count
          (accepting_standings A (take T.count found)) limit) table flags
      there room few A Bs h m =
          let t = explored-states room few A Bs h m in
          let s : states (image_table A (take T.count found) T.labels Bs) T.count limit ≡ over =
          ap (λ i. states i T.count limit) (sym (same-images room few A Bs h m)) ∙ t.is_over.0 e in
          let z : table'' ≡ cleared 4096 table =
          again (omega (arith, room.table)) ∙ ap (λ d. replicate 4096 0 ++ d) (t.behind ∙ cleared-behind 4096 table) in
          ap (λ u. left u table'' marks) o
          ∙ (ap₂ (λ u v. left (refused_with TooManyStates 0) u v) z (marks-cleared room.flags)
          ∙ ap (λ x. left_by x table flags)
          (sym (over-refused (image_table A (take T.count found) T.labels Bs) T.count (accepting_standings A (take T.count found)) limit s)))

  -- All states are found.
  pub part-all : (n : ℕ) (a : Told) (marks' : List ℕ) → r ≡ Some n
      → FoundTold found T.count (slice_index T.accepting 0) explored n parents symbols marks a marks'
      → StatesPart T lists limit found table flags (Ok a) table' marks'
  unfolding pictures left_by
  part-all n a marks' e f =
      record {
        told = λ room A Bs h m.
            there room (omega (arith, inside A m)) (inside A m) A Bs h m (states (image_rows images T.count lists) T.count limit) refl;
      }
    where
      good : Automaton → ℕ
      good A = accepting_standings A (take T.count found)

      answered : Room T.labels lists limit table flags → T.count ≤ 64 → T.count ≤ length found → (A : Automaton) → Has T 0 A
          → StatesTold images T.count lists limit (cleared 4096 table) r explored parents symbols table'
          → (l : List (Entry ℕ)) → states (image_rows images T.count lists) T.count limit ≡ all l
          → left (Ok a) table' marks'
          ≡ left_by (finds (rewriting (image_rows images T.count lists) T.count (accepting_standings A (take T.count found)) l)) table flags
      answered room few b A s t l p =
          let c : Some n ≡ Some (length l) = sym e ∙ (t.stored l p).count in
          let k : n ≡ length l = cc in
          let w : length (image_rows images T.count lists) ≤ 16 = omega (arith, length-image_rows images T.count lists, room.lists) in
          let x : Reached explored n parents symbols marks l flags =
          record {
            size = k;
            most = omega (arith, t.within l p, room.states);
            numbers = ap (λ i. take i explored) k ∙ (t.stored l p).numbers;
            trailed = (t.stored l p).trailed;
            long = room.flags;
            clear = marks-cleared room.flags;
          } in
          let q : A.accepting ≡ get_or T.accepting 0 0 = sym (ap (λ (B : Automaton). B.accepting) s.same) in
          let u : 16 * length l ≡ length (rows (image_rows images T.count lists) T.count (values l) (values l)) =
          omega (arith, length-rows (image_rows images T.count lists) T.count (values l) w (values l), length-values l) in
          let v : length l ≡ length (map (λ X. flag (state_accepts (good A) X)) (values l)) =
          sym (length-map (values l) (λ X. flag (state_accepts (good A) X)) ∙ length-values l) in
          ap (λ z. left (Ok z) table' marks') (f.answer few b A q l flags x ∙ ap (λ i. found_with T.count i (good A) l) k)
          ∙ ap₂ (left (Ok (found_with T.count (length l) (good A) l)))
          (states-table images T.count lists limit table r explored parents symbols table' t room.lists room.states room.table
          (sized ∙ kept) l p
          ∙ ap (λ i. (rows (image_rows images T.count lists) T.count (values l) (values l) ++ replicate (4096 - i) 0) ++ drop 4096 table) u)
          (f.marks few b A q l flags x
          ∙ ap (λ i. (map (λ X. flag (state_accepts (good A) X)) (values l) ++ replicate (256 - i) 0) ++ drop 256 flags) v)

      there : Room T.labels lists limit table flags → T.count ≤ 64 → T.count ≤ length found → (A : Automaton) (Bs : List Automaton)
          → Holding T A Bs lists → Moves A (take T.count found) T
          → (o : Exploration ℕ) → states (image_rows images T.count lists) T.count limit ≡ o
          → left (Ok a) table' marks'
          ≡ left_by (find_states (image_table A (take T.count found) T.labels Bs) T.count
          (accepting_standings A (take T.count found)) limit) table flags
      there room few b A Bs h m over p =
          let t = explored-states room few A Bs h m in
          let c : Some n ≡ None = sym e ∙ t.is_over.1 p in
          clash (cc)
      there room few b A Bs h m (all l) p =
          answered room few b A h.query (explored-states room few A Bs h m) l p
          ∙ (ap (λ x. left_by x table flags) (sym (all_found (image_rows images T.count lists) T.count (good A) limit l p))
          ∙ ap (λ i. left_by (find_states i T.count (good A) limit) table flags) (same-images room few A Bs h m))
