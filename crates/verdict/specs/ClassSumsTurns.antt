-- The loops that put down the lists a path of which may end at each class, and the sums of the classes (Classes): what they keep, turn by turn.
use Rattle.std.specs.Prelude.{◌≡◌, ℕ, zero, suc, ◌+◌, ◌-◌, ◌*◌, ◌/◌, ◌%◌, ◌^◌, ◌<◌, ◌≤◌, ◌≢◌, ◌⊎◌, ◌↔◌, List, length, set, bit_and, slice_index, slice_index_or, slice_set}
use Rattle.std.proofs.Common.{inl, inr, sym, ap, ◌∙◌, arith, length-set, get_or-set_same, get_or-set_other}
use Rattle.std.specs.Prelude.{refl}
use Rattle.std.proofs.Math.Path.{subst}
use Rattle.std.proofs.Math.Decide.{ℕ_discrete, dec_lt}
use Rattle.std.specs.Int.Count.{count_trailing_zeros}
use Rattle.theory.specs.Places.{Member, union, union_over}
use Rattle.theory.specs.PlacesLaws.{member-none, member-one, member-suc, member_union, member-union_over}
use Rattle.theory.specs.Closure.{Reaches}
use Rattle.theory.specs.PlacesShift.{member-cut}
use Rattle.places.specs.Words.{Words}
use Rattle.places.specs.Followed.{Passed, passed_none, passed-turn, passed-all, rest-within}
use Rattle.places.specs.Joined.{over-same}
use Rattle.verdict.specs.Tables.{occupied}
use Rattle.verdict.specs.Columns.{Passes, NextBelow, Passing}
use Rattle.verdict.specs.ColumnLists.{inner_of}
use Rattle.verdict.specs.Classes.{class_at, EndingLists, SumsWithin, ClassSums}
use Rattle.verdict.specs.FinishingTurns.{one_word}
use Rattle.verdict.specs.Sums.{quarters, ListSummed, SummedBy}
use Rattle.verdict.specs.WordBits.{one_bit}

-- A word of a list gains the place v.
gained : (l : List ℕ) (i v : ℕ) → i < length l → v < 64 → (c x : ℕ)
    → Member x (slice_index (slice_set l i (union (slice_index l i) ((1 * 2 ^ v) % 2 ^ 64))) c) ↔ (Member x (slice_index l c) ⊎ ((x ≡ v) × (c ≡ i)))
gained l i v room small c x = side (ℕ_discrete c i)
  where
    bit : ℕ
    bit = (1 * 2 ^ v) % 2 ^ 64

    new : ℕ
    new = union (slice_index l i) bit

    Right : ℕ → Type 0
    Right d = Member x (slice_index l d) ⊎ ((x ≡ v) × (d ≡ i))

    there : Member x (slice_index l i) ⊎ Member x bit → Right i
    there (inl m) = inl m
    there (inr m) = inr ((member-one x v).0 (subst (Member x) (one_bit v small) m), refl)

    back : Right i → Member x (slice_index l i) ⊎ Member x bit
    back (inl m) = inl m
    back (inr (e, f)) = inr (subst (Member x) (sym (one_bit v small)) ((member-one x v).1 e))

    here : Member x (slice_index (slice_set l i new) i) ↔ Right i
    here =
        subst (λ (z : ℕ). Member x z ↔ Right i) (sym (get_or-set_same l i new 0 room)) (
          λ m. there ((member_union x (slice_index l i) bit).0 m),
          λ m. (member_union x (slice_index l i) bit).1 (back m),
        )

    old : c ≢ i → Right c → Member x (slice_index l c)
    old d (inl m) = m
    old d (inr (e, f)) = absurd (d f)

    side : Dec (c ≡ i) → Member x (slice_index (slice_set l i new) c) ↔ Right c
    side (yes e) = subst (λ (z : ℕ). Member x (slice_index (slice_set l i new) z) ↔ Right z) (sym e) here
    side (no d) =
        subst (λ (z : ℕ). Member x z ↔ Right c) (sym (get_or-set_other l i c new 0 d)) (λ m. inl m, λ m. old d m)

-- The classes of the occurrences that pass a test, which come after the offset `base` and are counted from 0, gain the list v.
abbrev pub Gains : (ℕ → Type 0) → ℕ → ℕ → List ℕ → List ℕ → List ℕ → Type 0
Gains test base v classes ends ends' =
    (c x : ℕ) → Member x (slice_index ends' c)
    ↔ (Member x (slice_index ends c) ⊎ ((x ≡ v) × ((i : ℕ) × test i × (slice_index classes (base + 1 + i) ≡ c))))

-- Those of a set do.
pub record ListEnds (set base v : ℕ) (classes ends ends' : List ℕ) : Type 0 where
  pub gains : Gains (λ i. Member i set) base v classes ends ends'

-- Those of the set did whose occurrences are not left.
pub record EndsLeft (set base v : ℕ) (classes ends₀ ends : List ℕ) (rest : ℕ) : Type 0 where
  pub within : (i : ℕ) → Member i rest → Member i set
  pub gains : Gains (Passed set rest) base v classes ends₀ ends

module _ (whole base v : ℕ) (classes : List ℕ) where
  pub ends-start : (ends : List ℕ) → EndsLeft whole base v classes ends ends whole
  ends-start ends = record { within = λ i m. m; gains = λ c x. (λ m. inl m, λ m. old c x m) }
    where
      old : (c x : ℕ) → Member x (slice_index ends c) ⊎ ((x ≡ v) × ((i : ℕ) × Passed whole whole i × (slice_index classes (base + 1 + i) ≡ c)))
          → Member x (slice_index ends c)
      old c x (inl m) = m
      old c x (inr (e, (i, p, f))) = absurd (passed_none whole i p)

  pub ends-turn : (ends₀ ends : List ℕ) (rest a : ℕ) → rest ≢ 0 → rest < 2 ^ 64 → v < 64
      → a ≡ slice_index classes (base + 1 + count_trailing_zeros 64 rest) → a < length ends
      → EndsLeft whole base v classes ends₀ ends rest
      → EndsLeft whole base v classes ends₀ (slice_set ends a (union (slice_index ends a) ((1 * 2 ^ v) % 2 ^ 64))) (bit_and rest (rest - 1))
  ends-turn ends₀ ends rest a d h small e room s =
      record {
        within = rest-within whole rest s.within d h;
        gains = λ c x. (
          λ m. there c x ((gained ends a v room small c x).0 m),
          λ m. (gained ends a v room small c x).1 (back c x m),
        );
      }
    where
      left : ℕ
      left = bit_and rest (rest - 1)

      passes : (i : ℕ) → Passed whole left i ↔ (Passed whole rest i ⊎ (i ≡ count_trailing_zeros 64 rest))
      passes i = passed-turn whole rest s.within d h i

      New : ℕ → ℕ → Type 0
      New c x = Member x (slice_index ends₀ c) ⊎ ((x ≡ v) × ((i : ℕ) × Passed whole left i × (slice_index classes (base + 1 + i) ≡ c)))

      Old : ℕ → ℕ → Type 0
      Old c x = Member x (slice_index ends₀ c) ⊎ ((x ≡ v) × ((i : ℕ) × Passed whole rest i × (slice_index classes (base + 1 + i) ≡ c)))

      more : (c x : ℕ) → Old c x → New c x
      more c x (inl m) = inl m
      more c x (inr (f, (i, p, g))) = inr (f, (i, (passes i).1 (inl p), g))

      there : (c x : ℕ) → Member x (slice_index ends c) ⊎ ((x ≡ v) × (c ≡ a)) → New c x
      there c x (inl m) = more c x ((s.gains c x).0 m)
      there c x (inr (f, g)) = inr (f, (count_trailing_zeros 64 rest, (passes (count_trailing_zeros 64 rest)).1 (inr refl), sym e ∙ sym g))

      one_more : (c x i : ℕ) → x ≡ v → Passed whole rest i ⊎ (i ≡ count_trailing_zeros 64 rest) → slice_index classes (base + 1 + i) ≡ c
          → Member x (slice_index ends c) ⊎ ((x ≡ v) × (c ≡ a))
      one_more c x i f (inl p) g = inl ((s.gains c x).1 (inr (f, (i, p, g))))
      one_more c x i f (inr t) g = inr (f, sym g ∙ ap (λ (z : ℕ). slice_index classes (base + 1 + z)) t ∙ sym e)

      back : (c x : ℕ) → New c x → Member x (slice_index ends c) ⊎ ((x ≡ v) × (c ≡ a))
      back c x (inl m) = inl ((s.gains c x).1 (inl m))
      back c x (inr (f, (i, p, g))) = one_more c x i f ((passes i).0 p) g

  pub ends-end : (ends₀ ends : List ℕ) (rest : ℕ) → rest ≡ 0 → EndsLeft whole base v classes ends₀ ends rest
      → ListEnds whole base v classes ends₀ ends
  ends-end ends₀ ends rest e s =
      record { gains = λ c x. (λ m. there c x ((s.gains c x).0 m), λ m. (s.gains c x).1 (back c x m)) }
    where
      Through : (ℕ → Type 0) → ℕ → ℕ → Type 0
      Through test c x = Member x (slice_index ends₀ c) ⊎ ((x ≡ v) × ((i : ℕ) × test i × (slice_index classes (base + 1 + i) ≡ c)))

      there : (c x : ℕ) → Through (Passed whole rest) c x → Through (λ i. Member i whole) c x
      there c x (inl m) = inl m
      there c x (inr (f, (i, p, g))) = inr (f, (i, (passed-all whole rest e i).0 p, g))

      back : (c x : ℕ) → Through (λ i. Member i whole) c x → Through (Passed whole rest) c x
      back c x (inl m) = inl m
      back c x (inr (f, (i, m, g))) = inr (f, (i, (passed-all whole rest e i).1 m, g))

-- The lists before v are put down.

pub lists-none : (sizes accepting classes ends : List ℕ) → ((c : ℕ) → slice_index ends c ≡ 0) → EndingLists 0 sizes accepting classes ends
lists-none sizes accepting classes ends zeros =
    record { exact = λ v c. (λ m. absurd (member-none v (subst (Member v) (zeros c) m)), λ (h, p). absurd (omega arith)) }

pub lists-more : (v : ℕ) (sizes accepting classes ends ends' : List ℕ)
    → ListEnds (inner_of (slice_index accepting (v + 1)) (slice_index sizes (v + 1))) (occupied sizes 0 v) v classes ends ends'
    → EndingLists v sizes accepting classes ends → EndingLists (v + 1) sizes accepting classes ends'
lists-more v sizes accepting classes ends ends' new l =
    record { exact = λ u c. (λ m. there u c ((new.gains c u).0 m), λ (h, p). (new.gains c u).1 (back u c h p (ℕ_discrete u v))) }
  where
    set : ℕ
    set = inner_of (slice_index accepting (v + 1)) (slice_index sizes (v + 1))

    Ends : ℕ → ℕ → Type 0
    Ends u c =
        (p : ℕ) × (0 < p) × (p ≤ slice_index sizes (u + 1)) × Member p (slice_index accepting (u + 1)) × (class_at sizes classes u p ≡ c)

    Gained : ℕ → ℕ → Type 0
    Gained u c = Member u (slice_index ends c) ⊎ ((u ≡ v) × ((i : ℕ) × Member i set × (slice_index classes (occupied sizes 0 v + 1 + i) ≡ c)))

    at : (i : ℕ) → slice_index classes (occupied sizes 0 v + 1 + i) ≡ class_at sizes classes v (suc i)
    at i =
        let e : occupied sizes 0 v + 1 + i ≡ occupied sizes 0 v + suc i = omega arith in
        ap (λ (z : ℕ). slice_index classes z) e

    here : (c i : ℕ) → Member i set → slice_index classes (occupied sizes 0 v + 1 + i) ≡ c → Ends v c
    here c i m e =
        let (low, k) = (member-cut (slice_index sizes (v + 1)) i (slice_index accepting (v + 1) / 2)).0 m in
        (suc i, omega arith, omega arith, (member-suc i (slice_index accepting (v + 1))).1 k, sym (at i) ∙ e)

    there : (u c : ℕ) → Gained u c → (u < v + 1) × Ends u c
    there u c (inl m) = let (h, p) = (l.exact u c).0 m in (omega arith, p)
    there u c (inr (e, (i, m, f))) = (omega arith, subst (λ (z : ℕ). Ends z c) (sym e) (here c i m f))

    given : (c : ℕ) → Ends v c → (i : ℕ) × Member i set × (slice_index classes (occupied sizes 0 v + 1 + i) ≡ c)
    given c (zero, some, low, m, f) = absurd (omega arith)
    given c (suc i, some, low, m, f) = (
      i,
      (member-cut (slice_index sizes (v + 1)) i (slice_index accepting (v + 1) / 2)).1 (omega arith, (member-suc i (slice_index accepting (v + 1))).0 m),
      at i ∙ f,
    )

    back : (u c : ℕ) → u < v + 1 → Ends u c → Dec (u ≡ v) → Gained u c
    back u c h p (yes e) = inr (e, given c (subst (λ (z : ℕ). Ends z c) e p))
    back u c h p (no d) = inl ((l.exact u c).1 (omega arith, p))

-- The states that are reached from the state q where a path of one of the lists of a set ends.
unfoldable pub reached_by : List ℕ → List ℕ → ℕ → ℕ → ℕ
reached_by passes table set q = union_over (λ v. slice_index passes (slice_index table (16 * q + v))) 64 set

-- The words of the states before p are put down from the place 64 on; nothing else is changed.
pub record WordsBefore (word : ℕ → ℕ) (ended ended' : List ℕ) (p : ℕ) : Type 0 where
  pub put : (q : ℕ) → q < p → slice_index ended' (64 + q) ≡ word q
  pub below : (j : ℕ) → j < 64 → slice_index ended' j ≡ slice_index ended j
  pub beyond : (j : ℕ) → 64 + p ≤ j → slice_index ended' j ≡ slice_index ended j

pub words-start : (word : ℕ → ℕ) (ended : List ℕ) → WordsBefore word ended ended 0
words-start word ended = record { put = λ q h. absurd (omega arith); below = λ j h. refl; beyond = λ j h. refl }

pub words-turn : (word : ℕ → ℕ) (ended₀ ended : List ℕ) (p w : ℕ) → w ≡ word p → 64 + p < length ended → WordsBefore word ended₀ ended p
    → WordsBefore word ended₀ (slice_set ended (64 + p) w) (p + 1)
words-turn word ended₀ ended p w e room l =
    record {
      put = λ q h. side q h (ℕ_discrete q p);
      below = λ j h. get_or-set_other ended (64 + p) j w 0 (λ f. omega arith) ∙ l.below j h;
      beyond = λ j h. get_or-set_other ended (64 + p) j w 0 (λ f. omega arith) ∙ l.beyond j (omega arith);
    }
  where
    side : (q : ℕ) → q < p + 1 → Dec (q ≡ p) → slice_index (slice_set ended (64 + p) w) (64 + q) ≡ word q
    side q h (yes f) =
        ap (λ (z : ℕ). slice_index (slice_set ended (64 + p) w) (64 + z)) f ∙ get_or-set_same ended (64 + p) w 0 room ∙ e ∙ ap word (sym f)
    side q h (no d) = get_or-set_other ended (64 + p) (64 + q) w 0 (λ f. d (omega arith)) ∙ l.put q (omega arith)

-- A word of each of the first n states, and none of others.
abbrev pub cut_off : ℕ → (ℕ → ℕ) → ℕ → ℕ
cut_off n word q = side (dec_lt q n)
  where
    side : Dec (q < n) → ℕ
    side (yes h) = word q
    side (no h) = 0

pub cut_below : (n : ℕ) (word : ℕ → ℕ) (q : ℕ) → q < n → cut_off n word q ≡ word q
cut_below n word q h = side (dec_lt q n) refl
  where
    side : (d : Dec (q < n)) → dec_lt q n ≡ d → cut_off n word q ≡ word q
    side (yes k) e = rw e refl
    side (no k) e = absurd (k h)

pub cut-beyond : (n : ℕ) (word : ℕ → ℕ) (q : ℕ) → n ≤ q → cut_off n word q ≡ 0
cut-beyond n word q h = side (dec_lt q n) refl
  where
    side : (d : Dec (q < n)) → dec_lt q n ≡ d → cut_off n word q ≡ 0
    side (yes k) e = absurd (omega arith)
    side (no k) e = rw e refl

-- The sums of one class stand from `from` on, behind the words that they are of and before `at`.
pub record OneSummed (states : ℕ) (word : ℕ → ℕ) (ended : List ℕ) (from at : ℕ) : Type 0 where
  pub begins : 128 ≤ from
  pub ends : from + 16 * quarters states ≤ at
  pub summed : SummedBy (cut_off states word) from (quarters states) ended

-- The sums of the classes before c stand before `at`.
pub record SumsPut (states : ℕ) (word : ℕ → ℕ → ℕ) (ends ended : List ℕ) (c at : ℕ) : Type 0 where
  pub begins : 128 ≤ at
  pub bounded : at ≤ 128 + 256 * c
  pub fits : at ≤ length ended
  pub summed : (d : ℕ) → 0 < d → d < c → slice_index ends d ≢ 0 → OneSummed states (word d) ended (slice_index ended d) at
  pub without : (d : ℕ) → 0 < d → d < c → slice_index ends d ≡ 0 → slice_index ended d ≡ 0
  pub waiting : (d : ℕ) → c ≤ d → d < 64 → slice_index ended d ≡ 0
  pub empty : (q : ℕ) → states ≤ q → q < 64 → slice_index ended (64 + q) ≡ 0

pub put-start : (states : ℕ) (word : ℕ → ℕ → ℕ) (ends ended : List ℕ) → 128 ≤ length ended → ((j : ℕ) → j < 128 → slice_index ended j ≡ 0)
    → SumsPut states word ends ended 1 128
put-start states word ends ended room zeros =
    record {
      begins = omega arith;
      bounded = omega arith;
      fits = room;
      summed = λ d some low. absurd (omega arith);
      without = λ d some low. absurd (omega arith);
      waiting = λ d h k. zeros d (omega arith);
      empty = λ q h k. zeros (64 + q) (omega arith);
    }

-- No path of a list ends at the class c.
pub put-none : (states : ℕ) (word : ℕ → ℕ → ℕ) (ends ended : List ℕ) (c at : ℕ) → c < 64 → slice_index ends c ≡ 0
    → SumsPut states word ends ended c at → SumsPut states word ends ended (c + 1) at
put-none states word ends ended c at low none l =
    record {
      begins = l.begins;
      bounded = omega (arith, l.bounded);
      fits = l.fits;
      summed = λ d some h. has d some h (ℕ_discrete d c);
      without = λ d some h e. lacks d some h e (ℕ_discrete d c);
      waiting = λ d h k. l.waiting d (omega arith) k;
      empty = l.empty;
    }
  where
    has : (d : ℕ) → 0 < d → d < c + 1 → Dec (d ≡ c) → slice_index ends d ≢ 0 → OneSummed states (word d) ended (slice_index ended d) at
    has d some h (yes e) f = absurd (f (ap (λ (z : ℕ). slice_index ends z) e ∙ none))
    has d some h (no n) f = l.summed d some (omega arith) f

    lacks : (d : ℕ) → 0 < d → d < c + 1 → slice_index ends d ≡ 0 → Dec (d ≡ c) → slice_index ended d ≡ 0
    lacks d some h f (yes e) = ap (λ (z : ℕ). slice_index ended z) e ∙ l.waiting c (omega arith) low
    lacks d some h f (no n) = l.without d some (omega arith) f

-- Its words are put down, and summed up.
pub put-turn : (states : ℕ) (word : ℕ → ℕ → ℕ) (ends ended mid sums : List ℕ) (c at : ℕ) → states ≤ 64 → c < 64 → slice_index ends c ≢ 0
    → at + 16 * quarters states ≤ length ended → length sums ≡ length ended
    → WordsBefore (word c) ended mid states → ListSummed 64 at (quarters states) mid sums
    → SumsPut states word ends ended c at → SumsPut states word ends (slice_set sums c at) (c + 1) (at + 16 * quarters states)
put-turn states word ends ended mid sums c at few low some-list room same words list l =
    record {
      begins = omega (arith, l.begins);
      bounded = omega (arith, l.bounded);
      fits = omega (arith, length-set sums c at, same, room);
      summed = λ d some h f. has d some h f (ℕ_discrete d c);
      without = λ d some h f. lacks d some h f (ℕ_discrete d c);
      waiting = λ d h k. start d (λ e. omega arith) k ∙ l.waiting d (omega arith) k;
      empty = λ q h k.
          apart (64 + q) (omega arith) ∙ list.below (64 + q) (omega (arith, l.begins)) ∙ words.beyond (64 + q) (omega arith) ∙ l.empty q h k;
    }
  where
    new : List ℕ
    new = slice_set sums c at

    begins : 128 ≤ at
    begins = l.begins

    apart : (j : ℕ) → 64 ≤ j → slice_index new j ≡ slice_index sums j
    apart j h = get_or-set_other sums c j at 0 (λ e. omega arith)

    start : (d : ℕ) → d ≢ c → d < 64 → slice_index new d ≡ slice_index ended d
    start d e h = get_or-set_other sums c d at 0 e ∙ list.below d (omega arith) ∙ words.below d h

    here : slice_index_or new c 0 ≡ at
    here = get_or-set_same sums c at 0 (omega (arith, same, room))

    old : (j : ℕ) → 128 ≤ j → j < at → slice_index new j ≡ slice_index ended j
    old j h k = apart j (omega arith) ∙ list.below j k ∙ words.beyond j (omega arith)

    kept : (d : ℕ) → OneSummed states (word d) ended (slice_index ended d) at
        → OneSummed states (word d) new (slice_index ended d) (at + 16 * quarters states)
    kept d o =
        record {
          begins = o.begins;
          ends = omega (arith, o.ends);
          summed = record {
            summed = λ k m h b.
                old (slice_index ended d + 16 * k + m) (omega (arith, o.begins)) (omega (arith, o.ends)) ∙ o.summed.summed k m h b;
          };
        }

    standing : (q : ℕ) → q < 64 → slice_index mid (64 + q) ≡ cut_off states (word c) q
    standing q h = side (dec_lt q states)
      where
        side : Dec (q < states) → slice_index mid (64 + q) ≡ cut_off states (word c) q
        side (yes k) = words.put q k ∙ sym (cut_below states (word c) q k)
        side (no k) = words.beyond (64 + q) (omega arith) ∙ l.empty q (omega arith) h ∙ sym (cut-beyond states (word c) q (omega arith))

    one : OneSummed states (word c) new at (at + 16 * quarters states)
    one =
        record {
          begins = begins;
          ends = omega arith;
          summed = record {
            summed = λ k m h b.
                apart (at + 16 * k + m) (omega arith) ∙ list.summed k m h b
                ∙ over-same (λ i. slice_index mid (64 + 4 * k + i)) (λ i. cut_off states (word c) (4 * k + i)) 4 m
                (λ i p.
                let e : 64 + 4 * k + i ≡ 64 + (4 * k + i) = omega arith in
                ap (λ (z : ℕ). slice_index mid z) e ∙ standing (4 * k + i) (omega arith));
          };
        }

    has : (d : ℕ) → 0 < d → d < c + 1 → slice_index ends d ≢ 0 → Dec (d ≡ c)
        → OneSummed states (word d) new (slice_index new d) (at + 16 * quarters states)
    has d some h f (yes e) =
        subst (λ (z : ℕ). OneSummed states (word z) new (slice_index new z) (at + 16 * quarters states)) (sym e)
        (subst (λ (z : ℕ). OneSummed states (word c) new z (at + 16 * quarters states)) (sym here) one)
    has d some h f (no n) =
        subst (λ (z : ℕ). OneSummed states (word d) new z (at + 16 * quarters states)) (sym (start d n (omega arith)))
        (kept d (l.summed d some (omega arith) f))

    lacks : (d : ℕ) → 0 < d → d < c + 1 → slice_index ends d ≡ 0 → Dec (d ≡ c) → slice_index new d ≡ 0
    lacks d some h f (yes e) = absurd (some-list (ap (λ (z : ℕ). slice_index ends z) (sym e) ∙ f))
    lacks d some h f (no n) = start d n (omega arith) ∙ l.without d some (omega arith) f

-- The sums of all classes.
module _ (states n k : ℕ) (accepting table passes ends ended : List ℕ) (c at : ℕ) (few : states ≤ 64) (past : k ≤ c) (classes-few : k ≤ 63)
    (full : 128 ≤ length ended) (words : Words passes) (next : NextBelow states n table)
    (lists : (v d : ℕ) → Member v (slice_index ends d) → v < n) (few-lists : n ≤ 16)
    (l : SumsPut states (λ d. reached_by passes table (slice_index ends d)) ends ended c at)
    (p : Passing 1 states n accepting table passes) where
  abbrev word : ℕ → ℕ → ℕ
  word d = cut_off states (reached_by passes table (slice_index ends d))

  has-lists : (d : ℕ) → 0 < d → d < k → 0 < slice_index ended d → slice_index ends d ≢ 0
  has-lists d some h begun e = omega (arith, l.without d some (omega arith) e)

  one-summed : (d : ℕ) → 0 < d → d < k → 0 < slice_index ended d
      → OneSummed states (reached_by passes table (slice_index ends d)) ended (slice_index ended d) at
  one-summed d some h begun = l.summed d some (omega arith) (has-lists d some h begun)

  -- The states that a class's word has.
  reached : (d q t : ℕ) → q < states
      → Member t (word d q) ↔ ((v : ℕ) × Member v (slice_index ends d) × Reaches (Passes n accepting table) (slice_index table (16 * q + v)) t)
  unfolding reached_by
  reached d q t h =
      subst (λ (z : ℕ). Member t z ↔ Right) (sym (cut_below states (reached_by passes table (slice_index ends d)) q h)) (there, back)
    where
      Right : Type 0
      Right = (v : ℕ) × Member v (slice_index ends d) × Reaches (Passes n accepting table) (slice_index table (16 * q + v)) t

      f : ℕ → ℕ
      f v = slice_index passes (slice_index table (16 * q + v))

      there : Member t (union_over f 64 (slice_index ends d)) → Right
      there m =
          let (v, b, a, i) = (member-union_over f 64 (slice_index ends d) t).0 m in
          let to = slice_index_or table (16 * q + v) 0 in
          (v, a, (p.exact to t (next q v h (lists v d a))).0 ((one_word passes to t (words to)).1 i))

      back : Right → Member t (union_over f 64 (slice_index ends d))
      back (v, a, r) =
          let to = slice_index_or table (16 * q + v) 0 in
          (member-union_over f 64 (slice_index ends d) t).1
          (v, omega (arith, lists v d a), a, (one_word passes to t (words to)).0 ((p.exact to t (next q v h (lists v d a))).1 r))

  reached-within : (d q t : ℕ) → Member t (word d q) → Dec (q < states) → t < states
  reached-within d q t m (yes h) =
      let (v, a, r) = (reached d q t h).0 m in
      let to = slice_index_or table (16 * q + v) 0 in
      p.within to t (next q v h (lists v d a)) ((p.exact to t (next q v h (lists v d a))).1 r)
  reached-within d q t m (no h) =
      absurd (member-none t (subst (Member t) (cut-beyond states (reached_by passes table (slice_index ends d)) q (omega arith)) m))

  sums-within : SumsWithin states k ended
  sums-within =
      record {
        starts = omega arith;
        room = λ d some h begun. omega (arith, (one-summed d some h begun).ends, l.fits);
        within = λ d j m t some h begun low small i.
            let o = one-summed d some h begun in
            let (x, b, a, e) =
            (member-union_over (λ i. word d (4 * j + i)) 4 m t).0 (subst (Member t) (o.summed.summed j m low small) i) in
            reached-within d (4 * j + x) t e (dec_lt (4 * j + x) states);
      }

  pub put_all : (sizes classes : List ℕ) → EndingLists n sizes accepting classes ends
      → ClassSums states n k sizes accepting table classes ended
  put_all sizes classes ending =
      record {
        word = word;
        summed = λ d some h begun. (one-summed d some h begun).summed;
        ends = λ d q t some h begun b. (
          λ m.
              let (v, a, r) = (reached d q t b).0 m in
              let (low, (x, pos, sized, accepts, class)) = (ending.exact v d).0 a in
              (v, x, low, pos, sized, accepts, class, r),
          λ (v, x, low, pos, sized, accepts, class, r).
              (reached d q t b).1 (v, (ending.exact v d).1 (low, (x, pos, sized, accepts, class)), r),
        );
        none = λ d q t some h unbegun b (v, x, low, pos, sized, accepts, class, r).
            nothing d v some h unbegun ((ending.exact v d).1 (low, (x, pos, sized, accepts, class))) (ℕ_discrete (slice_index ends d) 0);
        within = sums-within;
      }
    where
      nothing : (d v : ℕ) → 0 < d → d < k → slice_index ended d ≡ 0 → Member v (slice_index ends d) → Dec (slice_index ends d ≡ 0) → ⊥
      nothing d v some h unbegun m (yes e) = member-none v (subst (Member v) e m)
      nothing d v some h unbegun m (no e) = omega (arith, (l.summed d some (omega arith) e).begins)
