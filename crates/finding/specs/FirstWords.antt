-- The first accepted word, read off the trails (Trailed) of the states: what the code that follows the parents back holds and tells.
use Rattle.std.specs.Prelude.{◌≡◌, ℕ, suc, ◌+◌, ◌-◌, ◌<◌, ◌≤◌, Bool, true, false, List, [], ◌∷◌, ◌++◌, map, reverse, length, get_or, take, drop, replicate, slice_index, slice_index_or, slice_set, ◌==◌, position, Option, Some, None}
use mathlib.Core.List.{reverse_aux-eq, append-nil}
use Rattle.std.proofs.Math.Option.{some, none}
use Rattle.std.proofs.Math.Path.{refl, sym, ap, ap₂}
use Rattle.std.proofs.Common.{◌∙◌, length-set, length-take, take-append-drop, drop-set-lt, get_or-set_same}
use Rattle.std.proofs.Math.Decide.{dec_lt}
use native.Mathlib.Omega.{arith}
use Rattle.std.proofs.Math.ListN.{length-reverse}
use Rattle.std.proofs.lemmas.List.{length-map}
use Rattle.std.proofs.Math.Seq.{slice, slice_empty, slice-cons, take-set-lt}
use Rattle.theory.specs.Exploration.{Entry}
use Rattle.finding.specs.declared.first.FirstWord.{FirstWord}
use Rattle.finding.specs.Standings.{values, place_from, place_of}
use Rattle.finding.specs.PlaceOfLaws.{place-first, place-later, place-low, place-met, place-unmet}
use Rattle.finding.specs.States.{state_accepts, first_accepted}
use Rattle.finding.specs.Find.{flag}
use Rattle.finding.specs.Numbers.{length-values}
use Rattle.finding.specs.Filling.{drop-replicate}
use Rattle.finding.specs.Trailed.{Trailed, trails, length-trails}
use Rattle.finding.specs.WordTold.{first_word}

-- For the states l with these flags and these trails, r is the first accepted word.
pub record FirstTold (flags : List ℕ) (count : ℕ) (parents symbols : List ℕ) (r : Option FirstWord) : Type 0 where
  pub told : (accepting : ℕ) (l : List (Entry ℕ)) → count ≡ length l → count ≤ 256
      → take count flags ≡ map (λ X. flag (state_accepts accepting X)) (values l) → Trailed parents symbols (trails l)
      → r ≡ first_word (first_accepted accepting l)

-- The length of a state's trail.
pub record TrailLength (parents : List ℕ) (state r : ℕ) : Type 0 where
  pub within : r ≤ state
  pub exact : (symbols : List ℕ) (found : List (List ℕ)) → Trailed parents symbols found → state < length found
      → r ≡ length (slice_index_or found state [])

-- On the way back, `steps` steps from the state.
pub record Walking (parents : List ℕ) (state at steps : ℕ) : Type 0 where
  pub within : steps + at ≤ state
  pub exact : (symbols : List ℕ) (found : List (List ℕ)) → Trailed parents symbols found → state < length found
      → (at < length found) × (steps + length (slice_index_or found at []) ≡ length (slice_index_or found state []))

module _ (parents : List ℕ) (state : ℕ) where
  pub walking_start : Walking parents state state 0
  walking_start = record { within = omega arith; exact = λ symbols found t h. (h, omega arith) }

  pub walking-more : (at steps parent : ℕ) → Walking parents state at steps → 0 < at → parent ≡ slice_index parents at → parent < at
      → Walking parents state parent (steps + 1)
  walking-more at steps parent w h e l =
      record {
        within = omega (arith, w.within);
        exact = λ symbols found t m.
            let x = w.exact symbols found t m in
            let y : length (slice_index_or found at []) ≡ suc (length (slice_index_or found parent [])) =
            ap length (t.trail at h x.0) ∙ ap (λ p. suc (length (slice_index_or found p []))) (sym e) in
            (omega arith, omega arith);
      }

  -- Where the trails are held, a parent is before its state.
  pub walking-stuck : (at steps parent : ℕ) → Walking parents state at steps → 0 < at → parent ≡ slice_index parents at → at ≤ parent
      → TrailLength parents state steps
  walking-stuck at steps parent w h e l =
      record {
        within = omega (arith, w.within);
        exact = λ symbols found t m. absurd (omega (arith, t.parent at h (w.exact symbols found t m).0));
      }

  pub walking-end : (at steps : ℕ) → Walking parents state at steps → at ≤ 0 → TrailLength parents state steps
  walking-end at steps w h =
      record {
        within = omega (arith, w.within);
        exact = λ symbols found t m.
            let x = w.exact symbols found t m in
            let z : at ≡ 0 = omega arith in
            let y : length (slice_index_or found at []) ≡ 0 = ap (λ a. length (slice_index_or found a [])) z ∙ ap length t.first in
            omega arith;
      }

-- The word of a state's trail, stored from 0 to `size`.
pub record Spelled (parents symbols : List ℕ) (state size : ℕ) (before word : List ℕ) : Type 0 where
  pub told : (found : List (List ℕ)) → Trailed parents symbols found → state < length found
      → size ≡ length (slice_index_or found state []) → word ≡ reverse (slice_index_or found state []) ++ drop size before

-- At `at`, what is stored from `end` on completes the word of the state.
abbrev pub Completes : List (List ℕ) → ℕ → ℕ → List ℕ → ℕ → ℕ → Type 0
Completes found state size word at end =
    (at < length found) × (end ≡ length (slice_index_or found at [])) × (reverse (slice_index_or found at []) ++ slice end size word ≡ reverse (slice_index_or found state []))

-- On the way back, with the symbols from `end` on stored.
pub record Spelling (parents symbols : List ℕ) (state size : ℕ) (before : List ℕ) (at end : ℕ) (word : List ℕ) : Type 0 where
  pub below : end ≤ size
  pub sized : length word ≡ length before
  pub behind : drop size word ≡ drop size before
  pub told : (found : List (List ℕ)) → Trailed parents symbols found → state < length found
      → size ≡ length (slice_index_or found state []) → Completes found state size word at end

module _ (parents symbols : List ℕ) (state size : ℕ) (before : List ℕ) where
  pub spelling-start : size ≤ length before → Spelling parents symbols state size before state size before
  spelling-start h =
      record {
        below = omega arith;
        sized = refl;
        behind = refl;
        told = λ found t l e. (
          l,
          e,
          ap (λ r. reverse (slice_index_or found state []) ++ r) (slice_empty size before) ∙ append-nil (reverse (slice_index_or found state [])),
        );
      }

  -- A symbol more, in front of those that are stored.
  put_front : (word : List ℕ) (e x : ℕ) → e < size → size ≤ length word → slice e size (slice_set word e x) ≡ x ∷ slice (suc e) size word
  put_front word e x h l =
      slice-cons e size (slice_set word e x) 0 h (omega (arith, length-set word e x))
      ∙ ap₂ (λ a r. a ∷ r) (get_or-set_same word e x 0 (omega arith))
      (ap (drop (suc e)) (take-set-lt size word e x h) ∙ drop-set-lt (suc e) (take size word) e x (omega arith))

  pub spelling-more : (at end x parent : ℕ) (word : List ℕ) → Spelling parents symbols state size before at end word
      → size ≤ length before → 0 < end → x ≡ slice_index symbols at → parent ≡ slice_index parents at
      → Spelling parents symbols state size before parent (end - 1) (slice_set word (end - 1) x)
  spelling-more at end x parent word s room h same e =
      record {
        below = omega (arith, s.below);
        sized = length-set word (end - 1) x ∙ s.sized;
        behind = drop-set-lt size word (end - 1) x (omega (arith, s.below)) ∙ s.behind;
        told = λ found t l z. step found t (s.told found t l z);
      }
    where
      step : (found : List (List ℕ)) → Trailed parents symbols found
          → Completes found state size word at end → Completes found state size (slice_set word (end - 1) x) parent (end - 1)
      step found t y =
          let later : 0 < at = after_first (dec_lt 0 at) in
          let trail : get_or found at [] ≡ slice_index symbols at ∷ get_or found parent [] =
          t.trail at later y.0 ∙ ap (λ p. slice_index symbols at ∷ slice_index_or found p []) (sym e) in
          let next : suc (end - 1) ≡ end = omega arith in (
            omega (arith, t.parent at later y.0),
            omega (arith, ap length trail),
            ap (λ r. reverse (slice_index_or found parent []) ++ r) (put_front word (end - 1) x (omega (arith, s.below)) (omega (arith, s.sized)))
                ∙ (sym (reverse_aux-eq (slice_index_or found parent []) (x ∷ slice (suc (end - 1)) size word))
                ∙ (reverse_aux-eq (x ∷ slice_index_or found parent []) (slice (suc (end - 1)) size word)
                ∙ (ap₂ (λ r m. reverse r ++ slice m size word) (ap (λ a. a ∷ slice_index_or found parent []) same ∙ sym trail) next ∙ y.2))),
          )
        where
          after_first : Dec (0 < at) → 0 < at
          after_first (yes l) = l
          after_first (no l) =
              let z : at ≡ 0 = omega arith in
              absurd (omega (arith, ap (λ a. length (slice_index_or found a [])) z ∙ ap length t.first))

  pub spelling-end : (at end : ℕ) (word : List ℕ) → Spelling parents symbols state size before at end word → size ≤ length before → end ≤ 0
      → Spelled parents symbols state size before word
  spelling-end at end word s room h =
      record { told = λ found t l z. whole found (s.told found t l z) }
    where
      empty : (l : List ℕ) → length l ≡ 0 → l ≡ []
      empty [] e = refl
      empty (x ∷ l) e = absurd (omega arith)

      whole : (found : List (List ℕ)) → Completes found state size word at end
          → word ≡ reverse (slice_index_or found state []) ++ drop size before
      whole found y =
          let z : end ≡ 0 = omega arith in
          let none_left : get_or found at [] ≡ [] = empty (slice_index_or found at []) (omega arith) in
          sym (take-append-drop size word)
          ∙ ap₂ (λ a b. a ++ b) (sym (ap₂ (λ r m. reverse r ++ slice m size word) none_left z) ∙ y.2) s.behind

-- The first state with flag 1 has the first accepted word.

module _ (accepting : ℕ) where
  marks : List ℕ → List ℕ
  marks = map (λ X. flag (state_accepts accepting X))

  first-here : (e : Entry ℕ) (l : List (Entry ℕ)) → state_accepts accepting e.value ≡ true
      → first_accepted accepting (e ∷ l) ≡ some (reverse e.trail)
  unfolding first_accepted
  first-here e l q = rw (q, first_accepted)

  first-later : (e : Entry ℕ) (l : List (Entry ℕ)) → state_accepts accepting e.value ≡ false
      → first_accepted accepting (e ∷ l) ≡ first_accepted accepting l
  unfolding first_accepted
  first-later e l q = rw (q, first_accepted)

  mark-here : (i : ℕ) (e : Entry ℕ) (l : List (Entry ℕ)) → state_accepts accepting e.value ≡ true
      → place_from i 1 (marks (values (e ∷ l))) ≡ i
  unfolding marks values flag
  mark-here i e l q = place-first i 1 (flag (state_accepts accepting e.value)) (marks (values l)) (ap flag q)

  mark-later : (i : ℕ) (e : Entry ℕ) (l : List (Entry ℕ)) → state_accepts accepting e.value ≡ false
      → place_from i 1 (marks (values (e ∷ l))) ≡ place_from (suc i) 1 (marks (values l))
  unfolding marks values flag
  mark-later i e l q =
      let off : flag (state_accepts accepting e.value) ≡ 0 = ap flag q in
      place-later i 1 (flag (state_accepts accepting e.value)) (marks (values l)) (λ z. omega arith)

  found_from : (i : ℕ) (l : List (Entry ℕ)) → place_from i 1 (marks (values l)) < i + length l
      → first_accepted accepting l ≡ some (reverse (slice_index_or (trails l) (place_from i 1 (marks (values l)) - i) []))
  unfolding values trails marks
  found_from i [] h = absurd (omega (arith, place-low i 1 []))
  found_from i (e ∷ l) h = go (state_accepts accepting e.value) refl (found_from (suc i) l)
    where
      go : (b : Bool) → state_accepts accepting e.value ≡ b
          → (place_from (suc i) 1 (marks (values l)) < suc i + length l
          → first_accepted accepting l ≡ some (reverse (slice_index_or (trails l) (place_from (suc i) 1 (marks (values l)) - suc i) [])))
          → first_accepted accepting (e ∷ l) ≡ some (reverse (slice_index_or (trails (e ∷ l)) (place_from i 1 (marks (values (e ∷ l))) - i) []))
      go true q ih =
          let z : place_from i 1 (marks (values (e ∷ l))) - i ≡ 0 = omega (arith, mark-here i e l q) in
          first-here e l q ∙ ap (λ p. some (reverse (slice_index_or (trails (e ∷ l)) p []))) (sym z)
      go false q ih =
          let m = mark-later i e l q in
          let z : place_from i 1 (marks (values (e ∷ l))) - i ≡ suc (place_from (suc i) 1 (marks (values l)) - suc i) =
          omega (arith, m, place-low (suc i) 1 (marks (values l))) in
          first-later e l q ∙ (ih (omega (arith, m)) ∙ ap (λ p. some (reverse (slice_index_or (trails (e ∷ l)) p []))) (sym z))

  none_from : (i : ℕ) (l : List (Entry ℕ)) → i + length l ≤ place_from i 1 (marks (values l)) → first_accepted accepting l ≡ none
  unfolding values marks first_accepted
  none_from i [] h = refl
  none_from i (e ∷ l) h = go (state_accepts accepting e.value) refl (none_from (suc i) l)
    where
      go : (b : Bool) → state_accepts accepting e.value ≡ b
          → (suc i + length l ≤ place_from (suc i) 1 (marks (values l)) → first_accepted accepting l ≡ none)
          → first_accepted accepting (e ∷ l) ≡ none
      go true q ih = absurd (omega (arith, mark-here i e l q))
      go false q ih = first-later e l q ∙ ih (omega (arith, mark-later i e l q))

marked-length : (accepting : ℕ) (l : List (Entry ℕ)) → length (map (λ X. flag (state_accepts accepting X)) (values l)) ≡ length l
marked-length accepting l = length-map (values l) (λ X. flag (state_accepts accepting X)) ∙ length-values l

-- A trail that is spelled into zeros.
spelled : (trail word : List ℕ) (size : ℕ) → size ≡ length trail → word ≡ reverse trail ++ drop size (replicate 256 0)
    → ◌≡◌ {A = Option FirstWord} (Some (record { length = size; word = word })) (first_word (some (reverse trail)))
unfolding first_word
spelled trail word size exact e =
    let r : length (reverse trail) ≡ size = length-reverse trail ∙ sym exact in
    ap₂ (λ n w. Some (record { length = n; word = w })) (sym r)
    (e ∙ ap (λ b. reverse trail ++ b) (drop-replicate size 256 0 ∙ ap (λ q. replicate (256 - q) 0) (sym r)))

-- What is told: without a flag, and with one, from the length and the letters of the trail.
module _ (flags : List ℕ) (count : ℕ) (parents symbols : List ℕ) where
  pub first-none : position (λ flag. flag == 1) (take count flags) ≡ None → FirstTold flags count parents symbols None
  unfolding place_of first_word marks
  first-none e =
      let h = place-unmet 1 (take count flags) e in
      record {
        told = λ accepting l n c f t.
            ap first_word (sym (none_from accepting 0 l (omega (arith, ap (place_from 0 1) f, ap length f, marked-length accepting l))));
      }

  pub first-word : (state size : ℕ) (word : List ℕ) → position (λ flag. flag == 1) (take count flags) ≡ Some state → TrailLength parents state size
      → Spelled parents symbols state size (replicate 256 0) word
      → FirstTold flags count parents symbols (Some (record { length = size; word = word }))
  unfolding place_of first_word marks
  first-word state size word q m s =
      record { told = λ accepting l n c f t. same accepting l n f t }
    where
      e : state ≡ place_of 1 (take count flags)
      e = (place-met 1 (take count flags) state q).1

      h : state < count
      h = omega (arith, (place-met 1 (take count flags) state q).0, length-take count flags)

      same : (accepting : ℕ) (l : List (Entry ℕ)) → count ≡ length l
          → take count flags ≡ map (λ X. flag (state_accepts accepting X)) (values l) → Trailed parents symbols (trails l)
          → ◌≡◌ {A = Option FirstWord} (Some (record { length = size; word = word })) (first_word (first_accepted accepting l))
      same accepting l n f t =
          let p : place_from 0 1 (marks accepting (values l)) ≡ state = sym (e ∙ ap (place_from 0 1) f) in
          let z : place_from 0 1 (marks accepting (values l)) - 0 ≡ state = omega arith in
          let inside : state < length (trails l) = omega (arith, h, length-trails l) in
          let first : first_accepted accepting l ≡ some (reverse (slice_index_or (trails l) state [])) =
          found_from accepting 0 l (omega (arith, h)) ∙ ap (λ q. some (reverse (slice_index_or (trails l) q []))) z in
          let exact : size ≡ length (slice_index_or (trails l) state []) = m.exact symbols (trails l) t inside in
          spelled (slice_index_or (trails l) state []) word size exact (s.told (trails l) t inside exact) ∙ ap first_word (sym first)

  -- There are no such states.
  pub first-many : {r : Option FirstWord} → 256 < count → FirstTold flags count parents symbols r
  first-many h = record { told = λ accepting l n c f t. absurd (omega arith) }

  pub first_short : {r : Option FirstWord} → length flags < count → FirstTold flags count parents symbols r
  first_short h =
      record {
        told = λ accepting l n c f t.
            absurd
            (omega (arith, ap length f, length-take count flags, length-map (values l) (λ X. flag (state_accepts accepting X)), length-values l));
      }
