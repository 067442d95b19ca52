-- Lent memory whose first part was cleared and then written: what was written, with zeros up to the part's end, and behind it what was
-- there. For flags and for the table of the states.
use Rattle.std.specs.Prelude.{◌≡◌, ℕ, ◌+◌, ◌-◌, ◌*◌, ◌/◌, ◌%◌, ◌<◌, ◌≤◌, List, ◌++◌, map, length, take, drop, replicate, slice_index, Option}
use Rattle.std.proofs.Common.{append_assoc, sym, ap₂, ◌∙◌, take-append-drop, drop_at, take_at, get_or-append-add}
use Rattle.std.proofs.Math.Path.{ap}
use Rattle.std.proofs.Math.Decide.{dec_lt}
use native.Mathlib.Omega.{arith}
use Rattle.std.proofs.Math.ListN.{length-append, length-take, length-replicate, get_or-replicate, get_or-append}
use Rattle.std.proofs.lemmas.List.{length-map, drop-append-le}
use Rattle.std.proofs.Math.Seq.{get_or-take, ext_get_or}
use Rattle.theory.specs.Exploration.{Entry, all}
use Rattle.finding.specs.Standings.{values}
use Rattle.finding.specs.States.{states, state_accepts}
use Rattle.finding.specs.Find.{rows, flag}
use Rattle.finding.specs.Numbers.{length-values}
use Rattle.finding.specs.Table.{length-rows, rows-used, rows-unused}
use Rattle.finding.specs.ImageRows.{image_rows, length-image_rows}
use Rattle.finding.specs.Filling.{drop-replicate}
use Rattle.finding.specs.StatesTold.{StatesStored, StatesTold}

-- What a cleared part holds.

pub cleared-zero : (n p : ℕ) (d : List ℕ) → p < n → slice_index (replicate n 0 ++ drop n d) p ≡ 0
cleared-zero n p d h =
    get_or-append (replicate n 0) (drop n d) 0 p (omega (arith, length-replicate {A = ℕ} n 0)) ∙ get_or-replicate n p 0 0 h

pub cleared-behind : (n : ℕ) (d : List ℕ) → drop n (replicate n 0 ++ drop n d) ≡ drop n d
cleared-behind n d = drop_at (replicate n 0) (drop n d) n (length-replicate n 0)

-- What is written into the front of a cleared part has zeros behind it.
pub cleared-front : (n m : ℕ) (xs d : List ℕ) → n ≤ m → xs ++ drop n (replicate m 0 ++ drop m d) ≡ (xs ++ replicate (m - n) 0) ++ drop m d
cleared-front n m xs d h =
    ap (λ t. xs ++ t)
    (drop-append-le n (replicate m 0) (drop m d) (omega (arith, length-replicate {A = ℕ} m 0)) ∙ ap (λ t. t ++ drop m d) (drop-replicate n m 0))
    ∙ sym (append_assoc xs (replicate (m - n) 0) (drop m d))

-- The table of stored states, where its first 4,096 numbers were zeros.
module _ (images : List (List ℕ)) (m lists : ℕ) (before : List ℕ) (l : List (Entry ℕ)) (r : Option ℕ) (found parents symbols table : List ℕ)
    (stored : StatesStored images m lists before l r found parents symbols table) (count : length images ≡ lists) (wide : length images ≤ 16)
    (most : length l ≤ 256) where
  named : List ℕ
  named = rows images m (values l) (values l) ++ replicate (4096 - 16 * length l) 0

  length-named : length named ≡ 4096
  unfolding named
  length-named =
      omega (
        arith,
        length-append (rows images m (values l) (values l)) (replicate (4096 - 16 * length l) 0),
        length-rows images m (values l) wide (values l),
        length-values l,
        length-replicate {A = ℕ} (4096 - 16 * length l) 0,
      )

  used-places : length (rows images m (values l) (values l)) ≡ 16 * length l
  used-places = omega (arith, length-rows images m (values l) wide (values l), length-values l)

  named-used : (s v : ℕ) → s < length l → v < 16 → slice_index named (16 * s + v) ≡ slice_index (rows images m (values l) (values l)) (16 * s + v)
  unfolding named
  named-used s v h k =
      get_or-append (rows images m (values l) (values l)) (replicate (4096 - 16 * length l) 0) 0 (16 * s + v) (omega (arith, used-places))

  named-unused : (p : ℕ) → 16 * length l ≤ p → p < 4096 → slice_index named p ≡ 0
  unfolding named
  named-unused p h k =
      let e : p ≡ length (rows images m (values l) (values l)) + (p - 16 * length l) = omega (arith, used-places) in
      ap (λ q. slice_index named q) e
      ∙ (get_or-append-add (rows images m (values l) (values l)) (replicate (4096 - 16 * length l) 0) (p - 16 * length l) 0
      ∙ get_or-replicate (4096 - 16 * length l) (p - 16 * length l) 0 0 (omega arith))

  module _ (zeros : (p : ℕ) → p < 4096 → slice_index before p ≡ 0) where
    -- Place p is that of list v in the row of state s.
    same : (p s v : ℕ) → p ≡ 16 * s + v → v < 16 → p < 4096 → Dec (s < length l) → Dec (v < length images) → slice_index table p ≡ slice_index named p
    same p s v e k h (yes a) (yes b) =
        ap (λ q. slice_index table q) e
        ∙ (stored.moved s v a (omega arith)
        ∙ (sym (rows-used images m (values l) wide (values l) s v (omega (arith, length-values l)) b)
        ∙ (sym (named-used s v a k) ∙ ap (λ q. slice_index named q) (sym e))))
    same p s v e k h (yes a) (no b) =
        stored.elsewhere p (λ t u c d f. omega arith)
        ∙ (zeros p h
        ∙ (sym (rows-unused images m (values l) wide (values l) s v (omega (arith, length-values l)) (omega arith) k)
        ∙ (sym (named-used s v a k) ∙ ap (λ q. slice_index named q) (sym e))))
    same p s v e k h (no a) b =
        stored.elsewhere p (λ t u c d f. omega arith) ∙ (zeros p h ∙ sym (named-unused p (omega arith) h))

    pub padded-table : 4096 ≤ length table
        → take 4096 table ≡ rows images m (values l) (values l) ++ replicate (4096 - 16 * length l) 0
    unfolding named
    padded-table room =
        ext_get_or 0 (take 4096 table) named (omega (arith, length-take 4096 table, length-named))
        (λ p h. at p (omega (arith, length-take 4096 table)))
      where
        at : (p : ℕ) → p < 4096 → slice_index (take 4096 table) p ≡ slice_index named p
        at p h =
            get_or-take 4096 table p 0 h
            ∙ same p (p / 16) (p % 16) (omega arith) (omega arith) h (dec_lt (p / 16) (length l)) (dec_lt (p % 16) (length images))

-- The table after an exploration of the states into cleared memory; nothing behind its first 4,096 numbers has changed.
pub states-table : (images : List ℕ) (count lists limit : ℕ) (lent : List ℕ) (r : Option ℕ) (found parents symbols table : List ℕ)
    → StatesTold images count lists limit (replicate 4096 0 ++ drop 4096 lent) r found parents symbols table → lists ≤ 16 → limit ≤ 256
    → 4096 ≤ length lent → length table ≡ length lent → (l : List (Entry ℕ)) → states (image_rows images count lists) count limit ≡ all l
    → table ≡ (rows (image_rows images count lists) count (values l) (values l) ++ replicate (4096 - 16 * length l) 0) ++ drop 4096 lent
states-table images count lists limit lent r found parents symbols table told wide most room sized l e =
    let size = length-image_rows images count lists in
    let before = replicate 4096 0 ++ drop 4096 lent in
    let stored = told.stored l e in
    sym (take-append-drop 4096 table)
    ∙ ap₂ (λ a b. a ++ b)
    (padded-table (image_rows images count lists) count lists before l r found parents symbols table stored size (omega arith)
    (omega (arith, told.within l e)) (λ p h. cleared-zero 4096 p lent h) (omega arith))
    (told.behind ∙ cleared-behind 4096 lent)

-- The flags of the states, written into cleared memory.
pub states-flags : (accepting : ℕ) (l : List (Entry ℕ)) (found lent flags : List ℕ) → take (length l) found ≡ values l → length l ≤ 256
    → flags ≡ map (λ X. flag (state_accepts accepting X)) (take (length l) found) ++ drop (length l) (replicate 256 0 ++ drop 256 lent)
    → flags ≡ (map (λ X. flag (state_accepts accepting X)) (values l) ++ replicate (256 - length l) 0) ++ drop 256 lent
states-flags accepting l found lent flags h most e =
    e
    ∙ (ap (λ v. map (λ X. flag (state_accepts accepting X)) v ++ drop (length l) (replicate 256 0 ++ drop 256 lent)) h
    ∙ cleared-front (length l) 256 (map (λ X. flag (state_accepts accepting X)) (values l)) lent most)

-- In front of the zeros are the flags of the states.
pub flags-front : (accepting : ℕ) (l : List (Entry ℕ)) (lent flags : List ℕ)
    → flags ≡ (map (λ X. flag (state_accepts accepting X)) (values l) ++ replicate (256 - length l) 0) ++ drop 256 lent
    → take (length l) flags ≡ map (λ X. flag (state_accepts accepting X)) (values l)
flags-front accepting l lent flags e =
    let marks = map (λ X. flag (state_accepts accepting X)) (values l) in
    ap (take (length l)) (e ∙ append_assoc marks (replicate (256 - length l) 0) (drop 256 lent))
    ∙ take_at marks (replicate (256 - length l) 0 ++ drop 256 lent) (length l)
    (length-map (values l) (λ X. flag (state_accepts accepting X)) ∙ length-values l)
