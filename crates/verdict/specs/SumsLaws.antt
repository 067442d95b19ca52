-- The loops that put down the sums and that join them (Sums): what they keep, turn by turn.
use Rattle.std.specs.Prelude.{◌≡◌, ℕ, ◌+◌, ◌-◌, ◌*◌, ◌/◌, ◌%◌, ◌^◌, ◌<◌, ◌≤◌, ◌≢◌, ◌⊎◌, List, length, bit_and, slice_index, slice_index_or, slice_set}
use Rattle.std.proofs.Common.{inl, inr, sym, ap, ◌∙◌, subst, div-one, mul-le-mul_left, mul-suc, arith, length-set, shr-shr, get_or-set_same, get_or-set_other}
use Rattle.std.specs.Prelude.{refl}
use Rattle.std.proofs.Math.Decide.{ℕ_discrete, dec_lt}
use Rattle.std.proofs.lemmas.Nat.{and_le_r, or_comm}
use Rattle.std.specs.Int.Bits.{or_zero_l, or_zero_r}
use Rattle.std.specs.Int.Count.{count_trailing_zeros}
use Rattle.theory.specs.Places.{Member, union, union_over}
use Rattle.theory.specs.PlacesLaws.{member-none, member_below, members-below, member_union, member-union_over}
use Rattle.theory.specs.PlacesLaws.{equal-members, not_none}
use Rattle.theory.specs.PlacesShift.{member-cut, member-down}
use Rattle.places.specs.UnionLaws.{union_assoc}
use Rattle.places.specs.NextPlace.{trailing-here}
use Rattle.places.specs.Followed.{least_first, over_none}
use Rattle.places.specs.Joined.{over-same}
use Rattle.verdict.specs.Columns.{Finishing}
use Rattle.verdict.specs.Sums.{quarters, SumsRoom, FourSummed, ListSummed, Sums, SummedBy, SumHas, SumsJoined}

-- A set of four places has no others.
over-four : (f : ℕ → ℕ) (s : ℕ) → s < 2 ^ 4 → union_over f 64 s ≡ union_over f 4 s
over-four f s h = equal-members (union_over f 64 s) (union_over f 4 s) λ y. (
  λ m. let (x, l, a, b) = (member-union_over f 64 s y).0 m in (member-union_over f 4 s y).1 (x, member_below 4 s x h a, a, b),
  λ m. let (x, l, a, b) = (member-union_over f 4 s y).0 m in (member-union_over f 64 s y).1 (x, omega arith, a, b),
)

-- The sum of a set, from that of the set without its least place.
least-sum : (f : ℕ → ℕ) (s : ℕ) → s ≢ 0 → s < 16 → bit_and s (s - 1) < 16
    → union (union_over f 4 (bit_and s (s - 1))) (f (count_trailing_zeros 64 s)) ≡ union_over f 4 s
least-sum f s d h l =
    or_comm (union_over f 4 (bit_and s (s - 1))) (f (count_trailing_zeros 64 s))
    ∙ ap (union (f (count_trailing_zeros 64 s))) (sym (over-four f (bit_and s (s - 1)) l))
    ∙ least_first f s d (omega arith)
    ∙ over-four f s h

-- The least place of a set of four, and the set without it.

pub least-of-four : (s : ℕ) → 0 < s → s < 16 → count_trailing_zeros 64 s < 4
least-of-four s d h = member_below 4 s (count_trailing_zeros 64 s) h (trailing-here 64 s (λ e. omega arith) (omega arith))

pub without-less : (s : ℕ) → 0 < s → bit_and s (s - 1) < s
without-less s d = omega (arith, and_le_r s (s - 1))

-- The sums of the sets below `m` are put down.
pub record FourLeft (from at : ℕ) (before after : List ℕ) (m : ℕ) : Type 0 where
  pub size : length after ≡ length before
  pub summed : (i : ℕ) → i < m → slice_index after (at + i) ≡ union_over (λ i. slice_index before (from + i)) 4 i
  pub below : (j : ℕ) → j < at → slice_index after j ≡ slice_index before j
  pub beyond : (j : ℕ) → at + m ≤ j → slice_index after j ≡ slice_index before j

-- The words from `from` on, before and after.
same_from : (from at n m : ℕ) (l k : List ℕ) → from + n ≤ at → ((j : ℕ) → j < at → slice_index l j ≡ slice_index k j)
    → union_over (λ i. slice_index l (from + i)) n m ≡ union_over (λ i. slice_index k (from + i)) n m
same_from from at n m l k room below =
    over-same (λ i. slice_index l (from + i)) (λ i. slice_index k (from + i)) n m λ x h. below (from + x) (omega arith)

module _ (from at : ℕ) (room : from + 4 ≤ at) where
  pub four-start : (l : List ℕ) → at < length l → FourLeft from at (slice_set l at 0) (slice_set l at 0) 1
  four-start l h =
      record {
        size = refl;
        summed = λ i k.
            let e : 0 ≡ i = omega arith in
            subst (λ z. slice_index (slice_set l at 0) (at + z) ≡ union_over (λ i. slice_index (slice_set l at 0) (from + i)) 4 z) e
            (let z : at + 0 ≡ at = omega arith in
            ap (λ (z : ℕ). slice_index (slice_set l at 0) z) z ∙ get_or-set_same l at 0 0 h ∙ sym (over_none (λ i. slice_index (slice_set l at 0) (from + i)) 4));
        below = λ j k. refl;
        beyond = λ j k. refl;
      }

  pub four-turn : (l k : List ℕ) (m : ℕ) → 0 < m → m < 16 → at + m < length k
      → FourLeft from at l k m
      → FourLeft from at l (slice_set k (at + m) (union (slice_index k (at + bit_and m (m - 1))) (slice_index k (from + count_trailing_zeros 64 m)))) (m + 1)
  four-turn l k m d h inside s =
      record {
        size = length-set k (at + m) word ∙ s.size;
        summed = λ i p. at_set i p (ℕ_discrete i m);
        below = λ j p. get_or-set_other k (at + m) j word 0 (λ e. omega arith) ∙ s.below j p;
        beyond = λ j p. get_or-set_other k (at + m) j word 0 (λ e. omega arith) ∙ s.beyond j (omega arith);
      }
    where
      word : ℕ
      word = union (slice_index k (at + bit_and m (m - 1))) (slice_index k (from + count_trailing_zeros 64 m))

      f : ℕ → ℕ
      f i = slice_index l (from + i)

      right : word ≡ union_over f 4 m
      right =
          ap (λ z. union z (slice_index k (from + count_trailing_zeros 64 m))) (s.summed (bit_and m (m - 1)) (without-less m d))
          ∙ ap (union (union_over f 4 (bit_and m (m - 1)))) (s.below (from + count_trailing_zeros 64 m) (omega (arith, least-of-four m d h)))
          ∙ least-sum f m (λ e. omega arith) h (omega (arith, without-less m d))

      at_set : (i : ℕ) → i < m + 1 → Dec (i ≡ m) → slice_index (slice_set k (at + m) word) (at + i) ≡ union_over f 4 i
      at_set i p (yes e) =
          subst (λ z. slice_index (slice_set k (at + m) word) (at + z) ≡ union_over f 4 z) (sym e) (get_or-set_same k (at + m) word 0 inside ∙ right)
      at_set i p (no e) = get_or-set_other k (at + m) (at + i) word 0 (λ z. e (omega arith)) ∙ s.summed i (omega arith)

  pub four-end : (l k : List ℕ) (m : ℕ) → m ≤ 16 → 16 ≤ m → FourLeft from at (slice_set l at 0) k m → FourSummed from at l k
  four-end l k m h end s =
      record {
        summed = λ i p. s.summed i (omega arith) ∙ same_from from at 4 i (slice_set l at 0) l room kept;
        below = λ j p. s.below j p ∙ kept j p;
        beyond = λ j p. s.beyond j (omega arith) ∙ get_or-set_other l at j 0 0 (λ e. omega arith);
      }
    where
      kept : (j : ℕ) → j < at → slice_index (slice_set l at 0) j ≡ slice_index l j
      kept j p = get_or-set_other l at j 0 0 (λ e. omega arith)

pub list-start : (from at : ℕ) (l : List ℕ) → ListSummed from at 0 l l
list-start from at l = record { summed = λ k m h. absurd (omega arith); below = λ j h. refl; beyond = λ j h. refl }

pub list-turn : (from at count : ℕ) (l k k' : List ℕ) → from + 64 ≤ at → count < 16 → ListSummed from at count l k
    → FourSummed (from + 4 * count) (at + 16 * count) k k' → ListSummed from at (count + 1) l k'
list-turn from at count l k k' room few s four =
    record {
      summed = λ i m h p. go i m h p (dec_lt i count);
      below = λ j h. four.below j (omega arith) ∙ s.below j h;
      beyond = λ j h. four.beyond j (omega arith) ∙ s.beyond j (omega arith);
    }
  where
    go : (i m : ℕ) → i < count + 1 → m < 16 → Dec (i < count)
        → slice_index k' (at + 16 * i + m) ≡ union_over (λ x. slice_index l (from + 4 * i + x)) 4 m
    go i m h p (yes d) = four.below (at + 16 * i + m) (omega arith) ∙ s.summed i m d p
    go i m h p (no d) =
        let e : count ≡ i = omega arith in
        subst (λ z. slice_index k' (at + 16 * z + m) ≡ union_over (λ x. slice_index l (from + 4 * z + x)) 4 m) e
        (four.summed m p ∙ same_from (from + 4 * count) at 4 m k l (omega arith) s.below)

-- The sums of the lists before v are put down.
pub record SumsBefore (lists n : ℕ) (before after : List ℕ) (v : ℕ) : Type 0 where
  pub summed : (u k m : ℕ) → u < v → k < quarters n → m < 16
      → slice_index after (64 * lists + 16 * quarters n * u + 16 * k + m) ≡ union_over (λ i. slice_index before (64 * u + 4 * k + i)) 4 m
  pub below : (j : ℕ) → j < 64 * lists → slice_index after j ≡ slice_index before j

pub sums-start : (lists n : ℕ) (l : List ℕ) → SumsBefore lists n l l 0
sums-start lists n l = record { summed = λ u k m h. absurd (omega arith); below = λ j h. refl }

-- The sums of a list stand before those of the next.
pub next-list : (c u v : ℕ) → u < v → c * u + c ≤ c * v
next-list c u v h = omega (arith, mul-le-mul_left c h, mul-suc c u)

pub sums-turn : (lists n v : ℕ) (l k k' : List ℕ) → v < lists → n ≤ 64 → SumsBefore lists n l k v
    → ListSummed (64 * v) (64 * lists + 16 * quarters n * v) (quarters n) k k' → SumsBefore lists n l k' (v + 1)
sums-turn lists n v l k k' h few s list =
    record {
      summed = λ u i m p q r. go u i m p q r (dec_lt u v);
      below = λ j p. list.below j (omega arith) ∙ s.below j p;
    }
  where
    go : (u i m : ℕ) → u < v + 1 → i < quarters n → m < 16 → Dec (u < v)
        → slice_index k' (64 * lists + 16 * quarters n * u + 16 * i + m) ≡ union_over (λ x. slice_index l (64 * u + 4 * i + x)) 4 m
    go u i m p q r (yes d) =
        list.below (64 * lists + 16 * quarters n * u + 16 * i + m) (omega (arith, next-list (16 * quarters n) u v d)) ∙ s.summed u i m d q r
    go u i m p q r (no d) =
        let e : v ≡ u = omega arith in
        subst (λ z. slice_index k' (64 * lists + 16 * quarters n * z + 16 * i + m) ≡ union_over (λ x. slice_index l (64 * z + 4 * i + x)) 4 m) e
        (list.summed i m q r ∙ same_from (64 * v + 4 * i) (64 * lists) 4 m k l (omega arith) s.below)

pub sums-end : (lists n : ℕ) (l k : List ℕ) → n ≤ 64 → SumsRoom lists n k → SumsBefore lists n l k lists → Sums lists n k
sums-end lists n l k few room s =
    record {
      room = room;
      summed = λ v i m h p q.
          s.summed v i m h p q ∙ same_from (64 * v + 4 * i) (64 * lists) 4 m l k (omega arith) (λ j r. sym (s.below j r));
    }

-- What is reached from each state alone stays, so what is said of it stands.
pub finishing-kept : (states lists : ℕ) (accepting table l k : List ℕ) → states ≤ 64 → ((j : ℕ) → j < 64 * lists → slice_index k j ≡ slice_index l j)
    → Finishing states lists accepting table l → Finishing states lists accepting table k
finishing-kept states lists accepting table l k few same f =
    record {
      exact = λ q v t h p. (
        λ m. (f.exact q v t h p).0 (subst (Member t) (same (64 * v + q) (omega arith)) m),
        λ m. subst (Member t) (sym (same (64 * v + q) (omega arith))) ((f.exact q v t h p).1 m),
      );
      within = λ q v t h p m. f.within q v t h p (subst (Member t) (same (64 * v + q) (omega arith)) m);
    }

-- The places of a set: the first four, and the others.
split-four : (f : ℕ → ℕ) (s : ℕ) → s < 2 ^ 64
    → union (union_over f 4 (s % 2 ^ 4)) (union_over (λ q. f (4 + q)) 64 (s / 2 ^ 4)) ≡ union_over f 64 s
split-four f s small = equal-members (union low high) (union_over f 64 s) λ y. (
  λ m. there y ((member_union y low high).0 m),
  λ m. let (x, l, a, b) = (member-union_over f 64 s y).0 m in (member_union y low high).1 (back y x l a b (dec_lt x 4)),
)
  where
    low : ℕ
    low = union_over f 4 (s % 2 ^ 4)

    high : ℕ
    high = union_over (λ q. f (4 + q)) 64 (s / 2 ^ 4)

    there : (y : ℕ) → Member y low ⊎ Member y high → Member y (union_over f 64 s)
    there y (inl m) =
        let (x, l, a, b) = (member-union_over f 4 (s % 2 ^ 4) y).0 m in
        (member-union_over f 64 s y).1 (x, omega arith, ((member-cut 4 x s).0 a).1, b)
    there y (inr m) =
        let (x, l, a, b) = (member-union_over (λ q. f (4 + q)) 64 (s / 2 ^ 4) y).0 m in
        let i : Member (4 + x) s = (member-down 4 x s).0 a in
        (member-union_over f 64 s y).1 (4 + x, member_below 64 s (4 + x) small i, i, b)

    back : (y x : ℕ) → x < 64 → Member x s → Member y (f x) → Dec (x < 4) → Member y low ⊎ Member y high
    back y x l a b (yes h) = inl ((member-union_over f 4 (s % 2 ^ 4) y).1 (x, h, (member-cut 4 x s).1 (h, a), b))
    back y x l a b (no h) =
        let e : x ≡ 4 + (x - 4) = omega arith in
        inr ((member-union_over (λ q. f (4 + q)) 64 (s / 2 ^ 4) y).1
        (x - 4, omega arith, (member-down 4 (x - 4) s).1 (subst (λ z. Member z s) e a), subst (λ z. Member y (f z)) e b))

-- Four states k times are joined, and `rest` are left, whose sums stand from `at` on.
pub record FoursLeft (ended : List ℕ) (sums ends k all rest at : ℕ) : Type 0 where
  pub place : at ≡ sums + 16 * k
  pub left : rest ≡ ends / 2 ^ (4 * k)
  pub small : rest < 2 ^ 64
  pub joined : (word : ℕ → ℕ) (count : ℕ) → count % 2 ≡ 0 → SummedBy word sums count ended → ends < 2 ^ (4 * count)
      → union all (union_over (λ q. word (4 * k + q)) 64 rest) ≡ union_over word 64 ends
  pub inside : (t : ℕ) → Member t all → SumHas ended sums ends t

-- Twice four states at a time.
pub record SumsLeft (ended : List ℕ) (sums ends all rest at : ℕ) : Type 0 where
  pub k : ℕ
  pub fours : FoursLeft ended sums ends (2 * k) all rest at

module _ (ended : List ℕ) (sums ends : ℕ) where
  pub left-start : ends < 2 ^ 64 → SumsLeft ended sums ends 0 ends sums
  left-start h =
      record {
        k = 0;
        fours = record {
          place = omega arith;
          left = sym (div-one ends);
          small = h;
          joined = λ word count even s below.
              or_zero_l (union_over (λ q. word (4 * 0 + q)) 64 ends)
              ∙ over-same (λ q. word (4 * 0 + q)) word 64 ends (λ x h. let z : 4 * 0 + x ≡ x = omega arith in ap word z);
          inside = λ t m. absurd (member-none t m);
        };
      }

  -- The next four are joined, where the set has a state in their eight or after them.
  four-joined : (k all rest at q : ℕ) → FoursLeft ended sums ends k all rest at → Member q ends → 8 * (k / 2) ≤ q
      → FoursLeft ended sums ends (k + 1) (union all (slice_index ended (at + rest % 16))) (rest / 16) (at + 16)
  four-joined k all rest at q s i l =
      record {
        place = omega (arith, s.place);
        left =
            ap (λ (z : ℕ). z / 2 ^ 4) s.left ∙ shr-shr ends (4 * k) 4
            ∙ (let e : 4 * k + 4 ≡ 4 * (k + 1) = omega arith in ap (λ (z : ℕ). ends / 2 ^ z) e);
        small = omega (arith, s.small);
        joined = λ word count even t below.
            let inside : k < count = omega (arith, member_below (4 * count) ends q below i) in
            turned word (t.summed k (rest % 16) inside (omega arith)) ∙ s.joined word count even t below;
        inside = λ t m. side t ((member_union t all (slice_index ended (at + rest % 16))).0 m);
      }
    where
      place : at + rest % 16 ≡ sums + 16 * k + rest % 16
      place = omega (arith, s.place)

      side : (t : ℕ) → Member t all ⊎ Member t (slice_index ended (at + rest % 16)) → SumHas ended sums ends t
      side t (inl m) = s.inside t m
      side t (inr m) = (q, k, rest % 16, i, l, omega arith, subst (λ (z : ℕ). Member t (slice_index ended z)) place m)

      turned : (word : ℕ → ℕ) → slice_index ended (sums + 16 * k + rest % 16) ≡ union_over (λ i. word (4 * k + i)) 4 (rest % 16)
          → union (union all (slice_index ended (at + rest % 16))) (union_over (λ q. word (4 * (k + 1) + q)) 64 (rest / 16))
          ≡ union all (union_over (λ q. word (4 * k + q)) 64 rest)
      turned word sum =
          let f : ℕ → ℕ = λ q. word (4 * k + q) in
          let later : ℕ → ℕ = λ q. word (4 * (k + 1) + q) in
          let four : slice_index_or ended (at + rest % 16) 0 ≡ union_over f 4 (rest % 16) = ap (λ (z : ℕ). slice_index ended z) place ∙ sum in
          let others : union_over later 64 (rest / 16) ≡ union_over (λ q. f (4 + q)) 64 (rest / 16) =
          over-same later (λ q. f (4 + q)) 64 (rest / 16)
          (λ x h. let z : 4 * (k + 1) + x ≡ 4 * k + (4 + x) = omega arith in ap word z) in
          union_assoc all (slice_index ended (at + rest % 16)) (union_over later 64 (rest / 16))
          ∙ ap (λ x. union all (union x (union_over later 64 (rest / 16)))) four
          ∙ ap (λ x. union all (union (union_over f 4 (rest % 16)) x)) others
          ∙ ap (union all) (split-four f rest s.small)

  module _ (all rest at : ℕ) (s : SumsLeft ended sums ends all rest at) where
    -- Some state is left, after those that are joined.
    state-left : rest ≢ 0 → (i : ℕ) × Member (4 * (2 * s.k) + i) ends
    state-left d =
        let (i, m) = not_none rest d in (i, (member-down (4 * (2 * s.k)) i ends).0 (subst (Member i) s.fours.left m))

    -- Where the sums of all states have room, so have those of the next eight.
    pub left-room : rest ≢ 0 → ((q : ℕ) → Member q ends → sums + 32 * (q / 8) + 32 ≤ length ended) → at + 32 ≤ length ended
    left-room d room = let (i, m) = state-left d in omega (arith, s.fours.place, room (4 * (2 * s.k) + i) m)

    pub left-turn : rest ≢ 0
        → SumsLeft ended sums ends (union (union all (slice_index ended (at + rest % 16))) (slice_index ended (at + 16 + rest / 16 % 16))) (rest / 256) (at + 32)
    left-turn d = record { k = s.k + 1; fours = moved }
      where
        both : ℕ
        both = union (union all (slice_index ended (at + rest % 16))) (slice_index ended (at + 16 + rest / 16 % 16))

        twice : FoursLeft ended sums ends (2 * s.k + 1 + 1) both (rest / 16 / 16) (at + 16 + 16)
        twice =
            let (i, m) = state-left d in
            let q = 4 * (2 * s.k) + i in
            four-joined (2 * s.k + 1) (union all (slice_index ended (at + rest % 16))) (rest / 16) (at + 16) q
            (four-joined (2 * s.k) all rest at q s.fours m (omega arith)) m (omega arith)

        moved : FoursLeft ended sums ends (2 * (s.k + 1)) both (rest / 256) (at + 32)
        moved =
            let a : 2 * s.k + 1 + 1 ≡ 2 * (s.k + 1) = omega arith in
            let b : rest / 16 / 16 ≡ rest / 256 = omega arith in
            let e : at + 16 + 16 ≡ at + 32 = omega arith in
            subst (λ (z : ℕ). FoursLeft ended sums ends z both (rest / 256) (at + 32)) a
            (subst (λ (z : ℕ). FoursLeft ended sums ends (2 * s.k + 1 + 1) both z (at + 32)) b
            (subst (λ (z : ℕ). FoursLeft ended sums ends (2 * s.k + 1 + 1) both (rest / 16 / 16) z) e twice))

    pub left_end : rest ≡ 0 → SumsJoined ended sums ends all
    left_end z =
        record {
          exact = λ word count even t below.
              let f : ℕ → ℕ = λ q. word (4 * (2 * s.k) + q) in
              sym (or_zero_r all) ∙ ap (union all) (sym (ap (union_over f 64) z ∙ over_none f 64))
              ∙ s.fours.joined word count even t below;
          inside = s.fours.inside;
        }

-- The sums of a list are those of its words.
pub list-sums : (lists n v : ℕ) (ended : List ℕ) → v < lists → Sums lists n ended
    → SummedBy (λ q. slice_index ended (64 * v + q)) (64 * lists + 16 * quarters n * v) (quarters n) ended
list-sums lists n v ended h s =
    record {
      summed = λ k m l p.
          s.summed v k m h l p
          ∙ over-same (λ i. slice_index ended (64 * v + 4 * k + i)) (λ i. slice_index ended (64 * v + (4 * k + i))) 4 m
          (λ x q. let z : 64 * v + 4 * k + x ≡ 64 * v + (4 * k + x) = omega arith in ap (λ (z : ℕ). slice_index ended z) z);
    }

-- A set of n states is one of so many times four.
pub quarters-below : (n s : ℕ) → s < 2 ^ n → s < 2 ^ (4 * quarters n)
quarters-below n s h = members-below (4 * quarters n) s λ q m. omega (arith, member_below n s q h m)
