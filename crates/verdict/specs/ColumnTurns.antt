-- The loop of a step by columns over the lists (Columns, ColumnLists): what it keeps, and that it ends in the columns after the step.
use Rattle.std.specs.Prelude.{◌≡◌, ℕ, zero, suc, ◌+◌, ◌-◌, ◌*◌, ◌/◌, ◌^◌, ◌<◌, ◌≤◌, ◌⊎◌, ◌↔◌, List, slice_index, slice_index_or}
use Rattle.std.proofs.Common.{inl, inr, sym, ap, ◌∙◌, subst, arith}
use Rattle.std.specs.Prelude.{refl}
use Rattle.std.proofs.Math.Decide.{dec_lt}
use Rattle.std.specs.Int.Bits.{or_zero_l}
use Rattle.theory.specs.Places.{Member, member, union, when, union_over}
use Rattle.theory.specs.PlacesLaws.{member-none, member-suc, member_below, member-test, member_union, member-when}
use Rattle.theory.specs.PlacesLaws.{member-union_over, members-below, dec_member}
use Rattle.theory.specs.PlacesShift.{member-cut}
use Rattle.verdict.specs.Tables.{occupied, Counted}
use Rattle.verdict.specs.TablesLaws.{occupied-more, occupied-grows}
use Rattle.verdict.specs.Columns.{offset_in, StatesWithin, PlacesWithin, EndedWithin, Stepped}
use Rattle.verdict.specs.ColumnOffsets.{occupied-room, offset-below}
use Rattle.verdict.specs.ColumnLists.{inner_of, column_of, ending_of, ListColumns, when-has, when-lacks, member-joined, ends-within}
use Rattle.verdict.specs.TurnedColumns.{Puts}

-- The occurrences in a set of places, from 1 on.
pub member-inner : (s size i : ℕ) → Member i (inner_of s size) ↔ ((i < size) × Member (1 + i) s)
member-inner s size i =
    let e : 1 + i ≡ suc i = omega arith in (
      λ m. let (h, k) = (member-cut size i (s / 2)).0 m in (h, subst (λ z. Member z s) (sym e) ((member-suc i s).1 k)),
      λ (h, k). (member-cut size i (s / 2)).1 (h, (member-suc i s).0 (subst (λ z. Member z s) e k)),
    )

module _ (n a : ℕ) (enter sizes accepting before ended columns : List ℕ) where
  -- The states that the place p of the list v has after the step.
  abbrev pub stepped_at : ℕ → ℕ → ℕ
  stepped_at v p = when (member p (slice_index enter (32 * (v + 1) + a))) (column_of before columns (occupied sizes 0 v) v p)

  -- The state t is reached where a path of one of the first k lists ends.
  abbrev pub AloneBefore : ℕ → ℕ → Type 0
  AloneBefore k t = (v : ℕ) × (p : ℕ) × (q : ℕ) × (v < k) × (0 < p) × (p ≤ slice_index sizes (v + 1)) × Member p (slice_index accepting (v + 1))
      × Member q (stepped_at v p) × Member t (slice_index ended (64 * v + q))

  -- The lists before v are done: their occurrences have their columns, those of the others are empty, and `alone` are the states reached
  -- where their paths end.
  pub record ListsLeft (next : ℕ → ℕ) (base alone v : ℕ) : Type 0 where
    pub inside : v ≤ n
    pub low : base ≡ occupied sizes 0 v
    pub done : (u p : ℕ) → u < v → 0 < p → p ≤ slice_index sizes (u + 1) → next (occupied sizes 0 u + p) ≡ stepped_at u p
    pub first : next 0 ≡ 0
    pub left : (x : ℕ) → base < x → next x ≡ 0
    pub alone-exact : (t : ℕ) → Member t alone ↔ AloneBefore v t

  pub lists-start : (next : ℕ → ℕ) → ((x : ℕ) → next x ≡ 0) → ListsLeft next 0 0 0
  unfolding occupied
  lists-start next zeros =
      record {
        inside = omega arith;
        low = refl;
        done = λ u p h. absurd (omega arith);
        first = zeros 0;
        left = λ x h. zeros x;
        alone-exact = λ t. (λ m. absurd (member-none t m), λ (v, p, q, h, b, c, d, e, k). absurd (omega arith));
      }

  -- The occurrences of the list v are among the offsets.
  pub lists-room : (next : ℕ → ℕ) (base alone v : ℕ) → v < n → ListsLeft next base alone v
      → base + slice_index sizes (v + 1) ≤ occupied sizes 0 n
  lists-room next base alone v h s = omega (arith, s.low, occupied-room sizes v n h)

  module _ (next next' : ℕ → ℕ) (base alone v ends : ℕ) (h : v < n) (s : ListsLeft next base alone v) (small : ends < 2 ^ 64)
      (t : ListColumns v (slice_index sizes (v + 1)) base (slice_index enter (32 * (v + 1) + a)) (slice_index accepting (v + 1)) before columns
      next next' ends)
      (few : slice_index_or sizes (v + 1) 0 ≤ 63) where
    abbrev size : ℕ
    size = slice_index sizes (v + 1)

    abbrev entry : ℕ
    entry = slice_index enter (32 * (v + 1) + a)

    same-column : (p : ℕ) → column_of before columns base v p ≡ column_of before columns (occupied sizes 0 v) v p
    same-column p = ap (λ b. column_of before columns b v p) s.low

    -- The columns of the lists before, and of the list v.

    earlier : (u p : ℕ) → u < v → 0 < p → p ≤ slice_index sizes (u + 1) → next' (occupied sizes 0 u + p) ≡ stepped_at u p
    earlier u p l k m =
        t.others (occupied sizes 0 u + p)
        (λ i j e. omega (arith, s.low, occupied-more sizes u, occupied-grows sizes (u + 1) v (omega arith)))
        ∙ s.done u p l k m

    this : (p : ℕ) → 0 < p → p ≤ size → Dec (Member p entry) → next' (occupied sizes 0 v + p) ≡ stepped_at v p
    this p k m (yes i) =
        let e : 1 + (p - 1) ≡ p = omega arith in
        let place : occupied sizes 0 v + p ≡ base + (1 + (p - 1)) = omega (arith, s.low) in
        ap next' place
        ∙ t.filled (p - 1) ((member-inner entry size (p - 1)).1 (omega arith, subst (λ z. Member z entry) (sym e) i))
        ∙ ap (λ x. union x (column_of before columns base v (1 + (p - 1)))) (s.left (base + (1 + (p - 1))) (omega arith))
        ∙ or_zero_l (column_of before columns base v (1 + (p - 1)))
        ∙ ap (column_of before columns base v) e ∙ same-column p
        ∙ sym (when-has p entry (column_of before columns (occupied sizes 0 v) v p) i)
    this p k m (no d) =
        t.others (occupied sizes 0 v + p) (λ i j e.
        let same : 1 + i ≡ p = omega (arith, s.low) in
        d (subst (λ z. Member z entry) same ((member-inner entry size i).0 j).1))
        ∙ s.left (occupied sizes 0 v + p) (omega (arith, s.low))
        ∙ sym (when-lacks p entry (column_of before columns (occupied sizes 0 v) v p) d)

    filled : (u p : ℕ) → u < v + 1 → 0 < p → p ≤ slice_index sizes (u + 1) → Dec (u < v) → next' (occupied sizes 0 u + p) ≡ stepped_at u p
    filled u p l k m (yes d) = earlier u p d k m
    filled u p l k m (no d) =
        let e : v ≡ u = omega arith in
        subst (λ z. p ≤ slice_index sizes (z + 1) → next' (occupied sizes 0 z + p) ≡ stepped_at z p) e
        (λ r. this p k r (dec_member p entry)) m

    -- The states at whose occurrences a path of the list v may end.

    ends_there : (q : ℕ) → Member q ends
        → (p : ℕ) × (0 < p) × (p ≤ size) × Member p (slice_index accepting (v + 1)) × Member q (stepped_at v p)
    ends_there q m =
        let (i, l, j, k) = (member-union_over (ending_of (slice_index accepting (v + 1)) before columns base v) 64 (inner_of entry size) q).0
        (subst (Member q) t.ends m) in
        let (b, e) = (member-inner entry size i).0 j in
        let (y, x) = (member-when (member (1 + i) (slice_index accepting (v + 1))) q (column_of before columns base v (1 + i))).0 k in (
          1 + i,
          omega arith,
          omega arith,
          (member-test (1 + i) (slice_index accepting (v + 1))).0 y,
          (member-when (member (1 + i) entry) q (column_of before columns (occupied sizes 0 v) v (1 + i))).1
              ((member-test (1 + i) entry).1 e, subst (Member q) (same-column (1 + i)) x),
        )

    ends-back : (q p : ℕ) → 0 < p → p ≤ size → Member p (slice_index accepting (v + 1)) → Member q (stepped_at v p) → Member q ends
    ends-back q p k l m x =
        let e : 1 + (p - 1) ≡ p = omega arith in
        let (y, z) = (member-when (member p entry) q (column_of before columns (occupied sizes 0 v) v p)).0 x in
        let i : Member (1 + (p - 1)) entry = subst (λ z. Member z entry) (sym e) ((member-test p entry).0 y) in
        let f : Member q (ending_of (slice_index accepting (v + 1)) before columns base v (p - 1)) =
        subst (λ z. Member q (when (member z (slice_index accepting (v + 1))) (column_of before columns base v z))) (sym e)
        ((member-when (member p (slice_index accepting (v + 1))) q (column_of before columns base v p)).1
        ((member-test p (slice_index accepting (v + 1))).1 m, subst (Member q) (sym (same-column p)) z)) in
        subst (Member q) (sym t.ends)
        ((member-union_over (ending_of (slice_index accepting (v + 1)) before columns base v) 64 (inner_of entry size) q).1
        (p - 1, omega (arith, few), (member-inner entry size (p - 1)).1 (omega arith, i), f))

    abbrev reached : ℕ
    reached = union_over (λ q. slice_index ended (64 * v + q)) 64 ends

    alone-there : (x : ℕ) → Member x alone ⊎ Member x reached → AloneBefore (v + 1) x
    alone-there x (inl m) =
        let (u, p, q, l, b, c, d, e, k) = (s.alone-exact x).0 m in
        (u, p, q, omega arith, b, c, d, e, k)
    alone-there x (inr m) =
        let (q, l, j, k) = (member-union_over (λ q. slice_index ended (64 * v + q)) 64 ends x).0 m in
        let (p, b, c, d, e) = ends_there q j in
        (v, p, q, omega arith, b, c, d, e, k)

    alone-back : (x : ℕ) → AloneBefore (v + 1) x → Member x alone ⊎ Member x reached
    alone-back x (u, p, q, l, b, c, d, e, k) = go (dec_lt u v)
      where
        go : Dec (u < v) → Member x alone ⊎ Member x reached
        go (yes i) = inl ((s.alone-exact x).1 (u, p, q, i, b, c, d, e, k))
        go (no i) =
            let f : u ≡ v = omega arith in
            let m : Member q ends =
            subst (λ z. p ≤ slice_index sizes (z + 1) → Member p (slice_index accepting (z + 1)) → Member q (stepped_at z p) → Member q ends) (sym f)
            (λ c d e. ends-back q p b c d e) c d e in
            inr ((member-union_over (λ q. slice_index ended (64 * v + q)) 64 ends x).1
            (q, member_below 64 ends q small m, m, subst (λ z. Member x (slice_index ended (64 * z + q))) f k))

    pub lists-turn : (y : ℕ) → y ≡ union_over (λ q. slice_index ended (64 * v + q)) 64 ends
        → ListsLeft next' (base + slice_index sizes (v + 1)) (union alone y) (v + 1)
    lists-turn y e =
        record {
          inside = omega arith;
          low = omega (arith, s.low, occupied-more sizes v);
          done = λ u p l k m. filled u p l k m (dec_lt u v);
          first = t.others 0 (λ i j z. omega arith) ∙ s.first;
          left = λ x l. t.others x (λ i j z. omega (arith, ((member-inner entry size i).0 j).0)) ∙ s.left x (omega arith);
          alone-exact = λ x. (
            λ m. alone-there x ((member_union x alone reached).0 (subst (λ z. Member x (union alone z)) e m)),
            λ m. subst (λ z. Member x (union alone z)) (sym e) ((member_union x alone reached).1 (alone-back x m)),
          );
        }

  -- The states of a place, from those of the places that lead to it.
  column-from : Counted n sizes → PlacesWithin n sizes before → (v p q : ℕ) → v < n → p ≤ slice_index sizes (v + 1)
      → Member q (column_of before columns (occupied sizes 0 v) v p)
      ↔ ((o : ℕ) × Member o (slice_index before (64 * v + p)) × Member q (slice_index columns (offset_in sizes v o)))
  column-from counted within v p q h k = (λ m. there (exact.0 m), λ (o, m, i). exact.1 (back o m i))
    where
      from : ℕ
      from = slice_index before (64 * v + p)

      base : ℕ
      base = occupied sizes 0 v

      exact : Member q (column_of before columns base v p)
          ↔ ((Member 0 from × Member q (slice_index columns 0)) ⊎ ((o : ℕ) × Member (suc o) from × Member q (slice_index columns (base + suc o))))
      exact =
          member-joined columns base from q
          (λ o m. omega (arith, counted.small v h, within v o p h (omega (arith, counted.small v h)) m))

      there : (Member 0 from × Member q (slice_index columns 0)) ⊎ ((o : ℕ) × Member (suc o) from × Member q (slice_index columns (base + suc o)))
          → (o : ℕ) × Member o from × Member q (slice_index columns (offset_in sizes v o))
      there (inl (m, i)) = (0, m, i)
      there (inr (o, m, i)) = (suc o, m, i)

      back : (o : ℕ) → Member o from → Member q (slice_index columns (offset_in sizes v o))
          → (Member 0 from × Member q (slice_index columns 0)) ⊎ ((o : ℕ) × Member (suc o) from × Member q (slice_index columns (base + suc o)))
      back zero m i = inl (m, i)
      back (suc o) m i = inr (o, m, i)

  -- The states alone are below `states` where those of the columns are, and those reached from them.
  pub alone-within : (w states : ℕ) (next : ℕ → ℕ) (base alone v : ℕ) → ListsLeft next base alone v → Counted n sizes
      → w ≡ suc (occupied sizes 0 n) → PlacesWithin n sizes before → StatesWithin w states columns → EndedWithin states n ended
      → alone < 2 ^ states
  alone-within w states next base alone v s counted wide within below reached =
      members-below states alone λ t m.
      let (u, p, q, h, b, c, d, e, k) = (s.alone-exact t).0 m in
      let i : u < n = omega (arith, s.inside) in
      let (y, z) = (member-when (member p (slice_index enter (32 * (u + 1) + a))) q (column_of before columns (occupied sizes 0 u) u p)).0 e in
      let (o, leads, had) = (column-from counted within u p q i c).0 z in
      let few : o ≤ slice_index_or sizes (u + 1) 0 = within u o p i (omega (arith, counted.small u i)) leads in
      reached q u t (below q (offset_in sizes u o) (omega (arith, wide, offset-below sizes u o n i few)) had) i k

  -- So are the states at whose occurrences a path of the list v may end.
  pub ends-below : (w states : ℕ) (next next' : ℕ → ℕ) (base alone v ends : ℕ) → v < n → ListsLeft next base alone v → Counted n sizes
      → w ≡ suc (occupied sizes 0 n) → PlacesWithin n sizes before → StatesWithin w states columns
      → ListColumns v (slice_index sizes (v + 1)) base (slice_index enter (32 * (v + 1) + a)) (slice_index accepting (v + 1)) before columns next next' ends
      → ends < 2 ^ states
  ends-below w states next next' base alone v ends h s counted wide within below t =
      ends-within states v (slice_index sizes (v + 1)) base (slice_index enter (32 * (v + 1) + a)) (slice_index accepting (v + 1)) before columns
      (omega (arith, counted.small v h)) (λ o p k m. within v o p h k m)
      (λ q o k m. below q o (omega (arith, wide, lists-room next base alone v h s)) m) ends t.ends

  -- The columns after the last list's are empty.
  pub lists-empty : (w : ℕ) (next next' : ℕ → ℕ) (base alone v : ℕ) → ListsLeft next base alone v → w ≡ suc (occupied sizes 0 n)
      → Puts 0 alone next next' → (x : ℕ) → w ≤ x → next' x ≡ 0
  lists-empty w next next' base alone v s wide put x h =
      put.others x (λ e. omega arith) ∙ s.left x (omega (arith, wide, s.low, occupied-grows sizes v n s.inside))

  pub lists-end : (next next' : ℕ → ℕ) (base alone v : ℕ) → n ≤ v → ListsLeft next base alone v → Puts 0 alone next next' → Counted n sizes
      → PlacesWithin n sizes before → Stepped n a enter sizes accepting before ended columns next'
  lists-end next next' base alone v h s put counted within =
      record {
        moved = λ u p q l k m. (
          λ x.
              let (y, z) = (member-when (member p (slice_index enter (32 * (u + 1) + a))) q (column_of before columns (occupied sizes 0 u) u p)).0
              (subst (Member q) (stands u p l k m) x) in
              ((member-test p (slice_index enter (32 * (u + 1) + a))).0 y, (column-from counted within u p q l m).0 z),
          λ (y, z).
              subst (Member q) (sym (stands u p l k m))
              ((member-when (member p (slice_index enter (32 * (u + 1) + a))) q (column_of before columns (occupied sizes 0 u) u p)).1
              ((member-test p (slice_index enter (32 * (u + 1) + a))).1 y, (column-from counted within u p q l m).1 z)),
        );
        alone = λ t. (
          λ m.
              let (u, p, q, l, b, c, d, e, k) = (s.alone-exact t).0 (subst (Member t) first m) in
              let i : u < n = omega (arith, s.inside) in
              (u, p, q, i, b, c, d, subst (Member q) (sym (stands u p i b c)) e, k),
          λ (u, p, q, l, b, c, d, e, k).
              subst (Member t) (sym first) ((s.alone-exact t).1 (u, p, q, omega arith, b, c, d, subst (Member q) (stands u p l b c) e, k)),
        );
      }
    where
      first : next' 0 ≡ alone
      first = put.here ∙ ap (λ x. union x alone) s.first ∙ or_zero_l alone

      stands : (u p : ℕ) → u < n → 0 < p → p ≤ slice_index sizes (u + 1)
          → next' (occupied sizes 0 u + p) ≡ stepped_at u p
      stands u p l k m = put.others (occupied sizes 0 u + p) (λ e. omega arith) ∙ s.done u p (omega arith) k m
