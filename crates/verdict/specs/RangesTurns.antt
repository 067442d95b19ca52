-- The loops of a step by ranges (Ranges): what they keep, turn by turn.
use Rattle.std.specs.Prelude.{◌≡◌, ℕ, ◌+◌, ◌-◌, ◌*◌, ◌/◌, ◌%◌, ◌^◌, ◌<◌, ◌≤◌, ◌≢◌, ◌⊎◌, ◌↔◌, List, length, set, bit_and, slice_index}
use Rattle.std.proofs.Common.{inl, inr, sym, subst, mod-lt, arith, pow_pos}
use Rattle.std.proofs.Math.Decide.{ℕ_discrete, dec_lt}
use Rattle.std.specs.Int.Count.{count_trailing_zeros}
use Rattle.theory.specs.Places.{Member, union}
use Rattle.theory.specs.PlacesLaws.{member-none, member_below, member_union}
use Rattle.theory.specs.PlacesShift.{member-moved}
use Rattle.places.specs.Words.{number_of, Words}
use Rattle.places.specs.WordsLaws.{member-number}
use Rattle.places.specs.WordsShift.{number-add}
use Rattle.places.specs.NextPlace.{trailing-here}
use Rattle.places.specs.Followed.{least-left}
use Rattle.verdict.specs.Rows.{row_of}
use Rattle.verdict.specs.RowsLaws.{member-row}
use Rattle.verdict.specs.CoverTold.{Gains}
use Rattle.verdict.specs.WideRowsTurns.{gained-places}
use Rattle.verdict.specs.Ranges.{Leads, Closing, Closed, Adds, Block, RangeAt, NextAt, Going, EndsAt, NextWithin}

-- What a set gains in two ways.

pub adds_none : {New : ℕ → Type 0} (set : List ℕ) → ((i : ℕ) → ¬ New i) → Adds New set set
adds_none {New} set none = record { exact = λ i. (λ m. inl m, λ m. same i m) }
  where
    same : (i : ℕ) → Member i (number_of set) ⊎ New i → Member i (number_of set)
    same i (inl m) = m
    same i (inr h) = absurd (none i h)

pub adds_same : {New Also : ℕ → Type 0} (set set' : List ℕ) → ((i : ℕ) → New i → Also i) → ((i : ℕ) → Also i → New i)
    → Adds New set set' → Adds Also set set'
adds_same {New} {Also} set set' f g a = record { exact = λ i. (λ m. there i ((a.exact i).0 m), λ m. (a.exact i).1 (back i m)) }
  where
    there : (i : ℕ) → Member i (number_of set) ⊎ New i → Member i (number_of set) ⊎ Also i
    there i (inl m) = inl m
    there i (inr h) = inr (f i h)

    back : (i : ℕ) → Member i (number_of set) ⊎ Also i → Member i (number_of set) ⊎ New i
    back i (inl m) = inl m
    back i (inr h) = inr (g i h)

-- First the places that are `New`, then those that are `More`: together those that are `All`.
pub adds-both : {New More All : ℕ → Type 0} (set set' set'' : List ℕ) → ((i : ℕ) → New i → All i) → ((i : ℕ) → More i → All i)
    → ((i : ℕ) → All i → New i ⊎ More i) → Adds New set set' → Adds More set' set'' → Adds All set set''
adds-both {New} {More} {All} set set' set'' f g split a b =
    record { exact = λ i. (λ m. there i ((b.exact i).0 m), λ m. (b.exact i).1 (back i m)) }
  where
    earlier : (i : ℕ) → Member i (number_of set) ⊎ New i → Member i (number_of set) ⊎ All i
    earlier i (inl m) = inl m
    earlier i (inr h) = inr (f i h)

    there : (i : ℕ) → Member i (number_of set') ⊎ More i → Member i (number_of set) ⊎ All i
    there i (inl m) = earlier i ((a.exact i).0 m)
    there i (inr h) = inr (g i h)

    part : (i : ℕ) → New i ⊎ More i → Member i (number_of set') ⊎ More i
    part i (inl h) = inl ((a.exact i).1 (inr h))
    part i (inr h) = inr h

    back : (i : ℕ) → Member i (number_of set) ⊎ All i → Member i (number_of set') ⊎ More i
    back i (inl m) = inl ((a.exact i).1 (inl m))
    back i (inr h) = part i (split i h)

-- The places of a range, block by block.

abbrev pub RangeTo : ℕ → ℕ → ℕ → ℕ → ℕ → ℕ → Type 0
RangeTo n k s from to i = (x : ℕ) × (x < n) × (x < k) × (i ≡ to + x) × Member (from + x) s

pub range-start : (n s from to : ℕ) (set : List ℕ) → Adds (RangeTo n 0 s from to) set set
range-start n s from to set = adds_none set λ i (x, h, k, e, m). absurd (omega arith)

pub range-turn : (n k len s from to x : ℕ) (set set' set'' : List ℕ) → Block n k len → to + n ≤ 1024
    → Adds (RangeTo n k s from to) set set' → x ≡ row_of s (from + k) len → Gains set' (x * 2 ^ (to + k)) set''
    → Adds (RangeTo n (k + 64) s from to) set set''
range-turn n k len s from to x set set' set'' block room a same_row g' =
    let g : Gains set' (row_of s (from + k) len * 2 ^ (to + k)) set'' = subst (λ z. Gains set' (z * 2 ^ (to + k)) set'') same_row g' in
    adds-both set set' set'' (λ i (x, h, l, e, m). (x, h, omega arith, e, m)) wide split a
    (record { exact = gained-places set' set'' (row_of s (from + k) len) (to + k) g })
  where
    New : ℕ → Type 0
    New i = (i < 1024) × ((z : ℕ) × (i ≡ to + k + z) × Member z (row_of s (from + k) len))

    wide : (i : ℕ) → New i → RangeTo n (k + 64) s from to i
    wide i (l, (z, e, m)) =
        let (h, u) = (member-row s (from + k) len z).0 m in
        let same : from + k + z ≡ from + (k + z) = omega arith in
        let b : k + len ≤ n = block.inside in
        let c : len ≤ 64 = block.word in
        (k + z, omega arith, omega arith, omega arith, subst (λ y. Member y s) same u)

    split : (i : ℕ) → RangeTo n (k + 64) s from to i → RangeTo n k s from to i ⊎ New i
    split i (x, h, l, e, m) = side (dec_lt x k)
      where
        side : Dec (x < k) → RangeTo n k s from to i ⊎ New i
        side (yes d) = inl (x, h, d, e, m)
        side (no d) =
            let same : from + x ≡ from + k + (x - k) = omega arith in
            let b : x < k + len = block.whole x h l in
            inr (omega arith, (x - k, omega arith, (member-row s (from + k) len (x - k)).1 (omega arith, subst (λ y. Member y s) same m)))

pub row_below : (s at w x : ℕ) → x ≡ row_of s at w → x < 2 ^ w
row_below s at w x e = subst (λ z. z < 2 ^ w) (sym e) (mod-lt (s / 2 ^ at) (pow_pos w))

pub range-end : (n k s from to : ℕ) (set set' : List ℕ) → n ≤ k → Adds (RangeTo n k s from to) set set' → Adds (RangeAt n s from to) set set'
range-end n k s from to set set' h a =
    adds_same set set' (λ i (x, l, d, e, m). (x, l, e, m)) (λ i (x, l, e, m). (x, l, omega arith, e, m)) a

-- What a set gains for the places of a word, one by one: with what it gains for those left, it is what it gains for all.
pub record AddsLeft (New : ℕ → ℕ → Type 0) (whole : ℕ) (set₀ set : List ℕ) (rest : ℕ) : Type 0 where
  pub sum : (i : ℕ) → (Member i (number_of set) ⊎ ((x : ℕ) × Member x rest × New x i))
      ↔ (Member i (number_of set₀) ⊎ ((x : ℕ) × Member x whole × New x i))
  pub part : (x : ℕ) → Member x rest → Member x whole

pub left-start : {New : ℕ → ℕ → Type 0} (whole : ℕ) (set : List ℕ) → AddsLeft New whole set set whole
left-start whole set = record { sum = λ i. (λ m. m, λ m. m); part = λ x m. m }

pub left-turn : {New : ℕ → ℕ → Type 0} (whole : ℕ) (set₀ set set' : List ℕ) (rest : ℕ) → rest ≢ 0 → rest < 2 ^ 64
    → Adds (New (count_trailing_zeros 64 rest)) set set' → AddsLeft New whole set₀ set rest → AddsLeft New whole set₀ set' (bit_and rest (rest - 1))
left-turn {New} whole set₀ set set' rest d h a l =
    record {
      sum = λ i. (λ m. (l.sum i).0 (there i m), λ m. back i ((l.sum i).1 m));
      part = λ x m. l.part x ((least-left 64 rest d h x).0 m).0;
    }
  where
    t : ℕ
    t = count_trailing_zeros 64 rest

    left : ℕ
    left = bit_and rest (rest - 1)

    there : (i : ℕ) → Member i (number_of set') ⊎ ((x : ℕ) × Member x left × New x i)
        → Member i (number_of set) ⊎ ((x : ℕ) × Member x rest × New x i)
    there i (inr (x, m, e)) = inr (x, ((least-left 64 rest d h x).0 m).0, e)
    there i (inl m) = new ((a.exact i).0 m)
      where
        new : Member i (number_of set) ⊎ New t i → Member i (number_of set) ⊎ ((x : ℕ) × Member x rest × New x i)
        new (inl u) = inl u
        new (inr u) = inr (t, trailing-here 64 rest d h, u)

    back : (i : ℕ) → Member i (number_of set) ⊎ ((x : ℕ) × Member x rest × New x i)
        → Member i (number_of set') ⊎ ((x : ℕ) × Member x left × New x i)
    back i (inl m) = inl ((a.exact i).1 (inl m))
    back i (inr (x, m, e)) = side (ℕ_discrete x t)
      where
        side : Dec (x ≡ t) → Member i (number_of set') ⊎ ((x : ℕ) × Member x left × New x i)
        side (no f) = inr (x, (least-left 64 rest d h x).1 (m, f), e)
        side (yes f) = inl ((a.exact i).1 (inr (subst (λ z. New z i) f e)))

pub left_end : {New : ℕ → ℕ → Type 0} (whole : ℕ) (set₀ set : List ℕ) (rest : ℕ) → rest ≡ 0 → AddsLeft New whole set₀ set rest
    → Adds (λ i. (x : ℕ) × Member x whole × New x i) set₀ set
left_end {New} whole set₀ set rest e l = record { exact = λ i. (λ m. (l.sum i).0 (inl m), λ m. only i ((l.sum i).1 m)) }
  where
    only : (i : ℕ) → Member i (number_of set) ⊎ ((x : ℕ) × Member x rest × New x i) → Member i (number_of set)
    only i (inl m) = m
    only i (inr (x, m, k)) = absurd (member-none x (subst (Member x) e m))

-- The four words of a state, one by one.

abbrev pub LeadsBelow : List ℕ → ℕ → ℕ → ℕ → Type 0
LeadsBelow reached t j u = (u / 64 < j) × Member (u % 64) (slice_index reached (4 * t + u / 64))

pub state-start : (reached : List ℕ) (t : ℕ) (set : List ℕ) → Adds (LeadsBelow reached t 0) set set
state-start reached t set = adds_none set λ i (h, m). absurd (omega arith)

pub state-turn : (reached : List ℕ) (t j : ℕ) (set₀ l : List ℕ) → Words l → j < length l → slice_index reached (4 * t + j) < 2 ^ 64
    → Adds (LeadsBelow reached t j) set₀ l
    → Adds (LeadsBelow reached t (j + 1)) set₀ (set l j (union (slice_index l j) (slice_index reached (4 * t + j))))
state-turn reached t j set₀ l words inside small a =
    adds-both set₀ l (set l j (union (slice_index l j) word)) (λ i (h, m). (omega arith, m)) wide split a
    (record {
      exact = λ i. (
        λ m. there i ((member_union i (number_of l) (word * 2 ^ (64 * j))).0 (subst (Member i) (number-add l words j word inside small) m)),
        λ m. subst (Member i) (sym (number-add l words j word inside small)) ((member_union i (number_of l) (word * 2 ^ (64 * j))).1 (back i m)),
      );
    })
  where
    word : ℕ
    word = slice_index reached (4 * t + j)

    New : ℕ → Type 0
    New i = (z : ℕ) × (i ≡ 64 * j + z) × Member z word

    there : (i : ℕ) → Member i (number_of l) ⊎ Member i (word * 2 ^ (64 * j)) → Member i (number_of l) ⊎ New i
    there i (inl m) = inl m
    there i (inr m) = inr ((member-moved (64 * j) i word).0 m)

    back : (i : ℕ) → Member i (number_of l) ⊎ New i → Member i (number_of l) ⊎ Member i (word * 2 ^ (64 * j))
    back i (inl m) = inl m
    back i (inr m) = inr ((member-moved (64 * j) i word).1 m)

    wide : (i : ℕ) → New i → LeadsBelow reached t (j + 1) i
    wide i (z, e, m) =
        let low : z < 64 = member_below 64 word z small m in
        let block : j ≡ i / 64 = omega arith in
        let place : z ≡ i % 64 = omega arith in
        (omega arith, subst (λ y. Member y (slice_index reached (4 * t + i / 64))) place (subst (λ y. Member z (slice_index reached (4 * t + y))) block m))

    split : (i : ℕ) → LeadsBelow reached t (j + 1) i → LeadsBelow reached t j i ⊎ New i
    split i (h, m) = side (dec_lt (i / 64) j)
      where
        side : Dec (i / 64 < j) → LeadsBelow reached t j i ⊎ New i
        side (yes d) = inl (d, m)
        side (no d) =
            let block : i / 64 ≡ j = omega arith in
            inr (i % 64, omega arith, subst (λ y. Member (i % 64) (slice_index reached (4 * t + y))) block m)

pub state-end : (reached : List ℕ) (t j : ℕ) (set₀ set : List ℕ) → j ≡ 4 → Adds (LeadsBelow reached t j) set₀ set
    → Adds (Leads reached t) set₀ set
state-end reached t j set₀ set e a = subst (λ z. Adds (LeadsBelow reached t z) set₀ set) e a

-- The state t is there already, with all that it leads to.
pub state-there : (reached : List ℕ) (t : ℕ) (set : List ℕ) → Words set → Member (t % 64) (slice_index set (t / 64))
    → (Member t (number_of set) → (u : ℕ) → Leads reached t u → Member u (number_of set)) → Adds (Leads reached t) set set
state-there reached t set words m closed = record { exact = λ i. (λ k. inl k, λ k. same i k) }
  where
    same : (i : ℕ) → Member i (number_of set) ⊎ Leads reached t i → Member i (number_of set)
    same i (inl k) = k
    same i (inr k) = closed ((member-number set words t).1 m) i k

-- The states alone stay closed where a state is added with all that it leads to, and where places from n on are added.

pub closed-state : (n t : ℕ) (reached set set' : List ℕ) → Closing n reached → t < n → Adds (Leads reached t) set set'
    → Closed n reached (number_of set) → Closed n reached (number_of set')
closed-state n t reached set set' closing h a closed q u k m l = side ((a.exact q).0 m)
  where
    side : Member q (number_of set) ⊎ Leads reached t q → Member u (number_of set')
    side (inl i) = (a.exact u).1 (inl (closed q u k i l))
    side (inr i) = (a.exact u).1 (inr (closing.onward t q u h i l))

pub closed-beyond : {New : ℕ → Type 0} (n : ℕ) (reached set set' : List ℕ) → ((i : ℕ) → New i → n ≤ i) → Adds New set set'
    → Closed n reached (number_of set) → Closed n reached (number_of set')
closed-beyond {New} n reached set set' beyond a closed q u k m l = side ((a.exact q).0 m)
  where
    side : Member q (number_of set) ⊎ New q → Member u (number_of set')
    side (inl i) = (a.exact u).1 (inl (closed q u k i l))
    side (inr i) = absurd (omega (arith, beyond q i))

-- The same where all that is added is what states lead to.
pub closed-states : {New : ℕ → Type 0} (n : ℕ) (reached set set' : List ℕ) → Closing n reached
    → ((i : ℕ) → New i → (t : ℕ) × (t < n) × Leads reached t i × ((u : ℕ) → Leads reached t u → New u))
    → Adds New set set' → Closed n reached (number_of set) → Closed n reached (number_of set')
closed-states {New} n reached set set' closing from a closed q u k m l = side ((a.exact q).0 m)
  where
    side : Member q (number_of set) ⊎ New q → Member u (number_of set')
    side (inl i) = (a.exact u).1 (inl (closed q u k i l))
    side (inr i) = let (t, h, c, all) = from q i in (a.exact u).1 (inr (all u (closing.onward t q u h c l)))

-- The states of a word, one by one.

pub going-turn : {n v first : ℕ} {reached table set : List ℕ} (set' : List ℕ) {rest : ℕ} → rest ≢ 0 → rest < 2 ^ 64
    → Adds (Leads reached (slice_index table (16 * (first + count_trailing_zeros 64 rest) + v))) set set'
    → Going n v first reached table (number_of set) rest → Going n v first reached table (number_of set') (bit_and rest (rest - 1))
going-turn {n} {v} {first} {reached} {table} {set} set' {rest} d h a g =
    record {
      closing = g.closing;
      closed = closed-state n (slice_index table (16 * (first + count_trailing_zeros 64 rest) + v)) reached set set' g.closing
          (g.next (first + count_trailing_zeros 64 rest) (g.inside (count_trailing_zeros 64 rest) (trailing-here 64 rest d h))) a g.closed;
      room = g.room;
      next = g.next;
      inside = λ x m. g.inside x ((least-left 64 rest d h x).0 m).0;
    }

-- The block of a column is of n states.
pub going-block : (n k v at len x : ℕ) (reached table : List ℕ) (s : ℕ) → Block n k len → x ≡ row_of s (at + k) len → Closing n reached
    → Closed n reached s → 16 * n ≤ length table → NextWithin n v table → Going n v k reached table s x
going-block n k v at len x reached table s block e closing closed room next =
    record {
      closing = closing;
      closed = closed;
      room = room;
      next = next;
      inside = λ y m. omega (arith, block.inside, ((member-row s (at + k) len y).0 (subst (Member y) e m)).0);
    }

-- The states of a column, block by block. What is added are states alone, so the column, beyond them, stays.

abbrev pub EndsTo : ℕ → ℕ → List ℕ → List ℕ → ℕ → ℕ → ℕ → ℕ → Type 0
EndsTo n k reached table v s at t = (q : ℕ) × (q < n) × (q < k) × Member (at + q) s × Leads reached (slice_index table (16 * q + v)) t

pub ends-start : (n v s at : ℕ) (reached table set : List ℕ) → Adds (EndsTo n 0 reached table v s at) set set
ends-start n v s at reached table set = adds_none set λ i (q, h, k, m, l). absurd (omega arith)

module _ (n k v at : ℕ) (reached table set set' : List ℕ) (closing : Closing n reached) (next : NextWithin n v table) (beyond : n ≤ at)
    (a : Adds (EndsTo n k reached table v (number_of set) at) set set') where
  pub ends-closed : Closed n reached (number_of set) → Closed n reached (number_of set')
  ends-closed closed =
      closed-states n reached set set' closing
      (λ i (q, h, l, m, c). (slice_index table (16 * q + v), next q h, c, λ u d. (q, h, l, m, d))) a closed

  stays : (q : ℕ) → Member (at + q) (number_of set') → Member (at + q) (number_of set)
  stays q m = side ((a.exact (at + q)).0 m)
    where
      side : Member (at + q) (number_of set) ⊎ EndsTo n k reached table v (number_of set) at (at + q) → Member (at + q) (number_of set)
      side (inl i) = i
      side (inr (p, h, l, i, c)) = absurd (omega (arith, closing.within (slice_index table (16 * p + v)) (at + q) (next p h) c))

  pub ends-turn : (len x : ℕ) (set'' : List ℕ) → Block n k len → x ≡ row_of (number_of set') (at + k) len
      → Adds (NextAt reached table v k x) set' set'' → Adds (EndsTo n (k + 64) reached table v (number_of set) at) set set''
  ends-turn len part set'' block same_row b' =
      let b : Adds (NextAt reached table v k (row_of (number_of set') (at + k) len)) set' set'' =
      subst (λ z. Adds (NextAt reached table v k z) set' set'') same_row b' in
      adds-both set set' set'' (λ i (q, h, l, m, c). (q, h, omega arith, m, c)) wide split a b
    where
      wide : (i : ℕ) → NextAt reached table v k (row_of (number_of set') (at + k) len) i → EndsTo n (k + 64) reached table v (number_of set) at i
      wide i (x, m, c) =
          let (h, u) = (member-row (number_of set') (at + k) len x).0 m in
          let same : at + k + x ≡ at + (k + x) = omega arith in
          let inside : k + len ≤ n = block.inside in
          let word : len ≤ 64 = block.word in
          (k + x, omega arith, omega arith, stays (k + x) (subst (λ y. Member y (number_of set')) same u), c)

      split : (i : ℕ) → EndsTo n (k + 64) reached table v (number_of set) at i
          → EndsTo n k reached table v (number_of set) at i ⊎ NextAt reached table v k (row_of (number_of set') (at + k) len) i
      split i (q, h, l, m, c) = side (dec_lt q k)
        where
          side : Dec (q < k) → EndsTo n k reached table v (number_of set) at i ⊎ NextAt reached table v k (row_of (number_of set') (at + k) len) i
          side (yes d) = inl (q, h, d, m, c)
          side (no d) =
              let same : at + q ≡ at + k + (q - k) = omega arith in
              let place : q ≡ k + (q - k) = omega arith in
              let low : q < k + len = block.whole q h l in
              inr (
                q - k,
                (member-row (number_of set') (at + k) len (q - k)).1
                    (omega arith, subst (λ y. Member y (number_of set')) same ((a.exact (at + q)).1 (inl m))),
                subst (λ y. Leads reached (slice_index table (16 * y + v)) i) place c,
              )

pub ends-end : (n k v s at : ℕ) (reached table set set' : List ℕ) → n ≤ k → Adds (EndsTo n k reached table v s at) set set'
    → Adds (EndsAt n reached table v s at) set set'
ends-end n k v s at reached table set set' h a =
    adds_same set set' (λ i (q, l, d, m, c). (q, l, m, c)) (λ i (q, l, m, c). (q, l, omega arith, m, c)) a
