-- The columns of the occurrences of one list after a step (Columns): what the loop over the occurrences that the label enters keeps and
-- promises. The occurrences of the list come after the offset `base`, and are counted from 0 where a set holds them alone.
use Rattle.std.specs.Prelude.{◌≡◌, ℕ, zero, suc, ◌+◌, ◌-◌, ◌*◌, ◌/◌, ◌%◌, ◌^◌, ◌<◌, ◌≤◌, ◌≢◌, ◌⊎◌, ◌↔◌, List, bit_and, slice_index}
use Rattle.std.proofs.Common.{inl, inr, sym, ap, ◌∙◌, subst, arith, ne_eqb}
use Rattle.std.specs.Prelude.{refl}
use Rattle.std.proofs.Math.Decide.{ℕ_discrete}
use Rattle.std.proofs.lemmas.Nat.{and_mask}
use Rattle.std.specs.Int.Bits.{or_zero_l}
use Rattle.std.specs.Int.Count.{count_trailing_zeros}
use Rattle.theory.specs.Places.{Member, member, union, when, union_over}
use Rattle.theory.specs.PlacesLaws.{member-none, member-zero, member-suc, member-test, member_union, member-when, member-union_over}
use Rattle.theory.specs.PlacesLaws.{member_below, members-below, equal-members}
use Rattle.theory.specs.PlacesShift.{member-cut}
use Rattle.places.specs.NextPlace.{trailing-here}
use Rattle.places.specs.Followed.{FollowedLeft, followed-start, followed-turn, followed-end, least-left}
use Rattle.places.specs.Joined.{joined}
use Rattle.verdict.specs.Columns.{StatesWithin}
use Rattle.verdict.specs.WordBits.{one_bit}
use Rattle.verdict.specs.TurnedColumns.{Puts}

-- The offsets of a set's places after `base` are below `room`.
abbrev pub Below : ℕ → ℕ → ℕ → Type 0
Below base places room = (o : ℕ) → Member o places → base + o < room

-- The entries of the list v have places of the list alone.
abbrev pub PlacesOf : ℕ → ℕ → List ℕ → Type 0
PlacesOf v size before = (o p : ℕ) → p ≤ 63 → Member o (slice_index before (64 * v + p)) → o ≤ size

-- The occurrences in a set of places, those of a list that has `size` of them.
abbrev pub inner_of : ℕ → ℕ → ℕ
inner_of s size = s / 2 % 2 ^ size

-- The columns of the places of a list, all in one.
unfoldable pub joined_of : List ℕ → ℕ → ℕ → ℕ
joined_of columns base from =
    union (when (member 0 from) (slice_index columns 0)) (union_over (λ o. slice_index columns (base + 1 + o)) 64 (from / 2))

-- The states that the place p of the list v has after a step whose label enters it, and those of them where a path may end.

abbrev pub column_of : List ℕ → List ℕ → ℕ → ℕ → ℕ → ℕ
column_of before columns base v p = joined_of columns base (slice_index before (64 * v + p))

abbrev pub ending_of : ℕ → List ℕ → List ℕ → ℕ → ℕ → ℕ → ℕ
ending_of accepting before columns base v i = when (member (1 + i) accepting) (column_of before columns base v (1 + i))

-- The columns `next` become `next'`, each given by its offset: the occurrences that the label enters gain their columns, and nothing else is
-- changed. The states r are those at whose occurrences a path of the list may end.
pub record ListColumns (v size base entered accepting : ℕ) (before columns : List ℕ) (next next' : ℕ → ℕ) (r : ℕ) : Type 0 where
  pub filled : (i : ℕ) → Member i (inner_of entered size)
      → next' (base + (1 + i)) ≡ union (next (base + (1 + i))) (column_of before columns base v (1 + i))
  pub others : (x : ℕ) → ((i : ℕ) → Member i (inner_of entered size) → x ≢ base + (1 + i)) → next' x ≡ next x
  pub ends : r ≡ union_over (ending_of accepting before columns base v) 64 (inner_of entered size)

-- The occurrences of `rest` are left.
pub record ColumnsLeft (v size base entered accepting : ℕ) (before columns : List ℕ) (next₀ next : ℕ → ℕ) (ends rest : ℕ) : Type 0 where
  pub within : (i : ℕ) → Member i rest → Member i (inner_of entered size)
  pub filled : (i : ℕ) → Member i (inner_of entered size) → ¬ Member i rest
      → next (base + (1 + i)) ≡ union (next₀ (base + (1 + i))) (column_of before columns base v (1 + i))
  pub others : (x : ℕ) → ((i : ℕ) → Member i (inner_of entered size) → ¬ Member i rest → x ≢ base + (1 + i)) → next x ≡ next₀ x
  pub followed : FollowedLeft (ending_of accepting before columns base v) (inner_of entered size) ends rest

module _ (v size base entered accepting : ℕ) (before columns : List ℕ) where
  pub columns-start : (next : ℕ → ℕ) (rest : ℕ) → rest ≡ inner_of entered size
      → ColumnsLeft v size base entered accepting before columns next next 0 rest
  columns-start next rest e =
      record {
        within = λ i m. subst (Member i) e m;
        filled = λ i m d. absurd (d (subst (Member i) (sym e) m));
        others = λ x d. refl;
        followed = subst (FollowedLeft f (inner_of entered size) 0) (sym e) (followed-start f (inner_of entered size));
      }
    where
      f : ℕ → ℕ
      f = ending_of accepting before columns base v

  -- The least occurrence left is one of the list's.
  pub least-inside : (next₀ next : ℕ → ℕ) (ends rest : ℕ) → rest ≢ 0 → rest < 2 ^ 64
      → ColumnsLeft v size base entered accepting before columns next₀ next ends rest → count_trailing_zeros 64 rest < size
  least-inside next₀ next ends rest d h s =
      ((member-cut size (count_trailing_zeros 64 rest) (entered / 2)).0 (s.within (count_trailing_zeros 64 rest) (trailing-here 64 rest d h))).0

  pub columns-turn : (next₀ next next' : ℕ → ℕ) (ends rest y z : ℕ) → rest ≢ 0 → rest < 2 ^ 64
      → y ≡ column_of before columns base v (1 + count_trailing_zeros 64 rest) → z ≡ when (member (1 + count_trailing_zeros 64 rest) accepting) y
      → Puts (base + (1 + count_trailing_zeros 64 rest)) y next next'
      → ColumnsLeft v size base entered accepting before columns next₀ next ends rest
      → ColumnsLeft v size base entered accepting before columns next₀ next' (union ends z) (bit_and rest (rest - 1))
  columns-turn next₀ next next' ends rest y z d h e g put s =
      record {
        within = λ i m. s.within i ((least-left 64 rest d h i).0 m).0;
        filled = λ i m k. at i m k (ℕ_discrete i t);
        others = λ x k.
            put.others x (k t (s.within t (trailing-here 64 rest d h)) (λ m. ((least-left 64 rest d h t).0 m).1 refl))
            ∙ s.others x (λ i m c. k i m (λ r. c ((least-left 64 rest d h i).0 r).0));
        followed = subst (λ k. FollowedLeft f (inner_of entered size) (union ends k) (bit_and rest (rest - 1)))
            (sym (g ∙ ap (when (member (1 + t) accepting)) e)) (followed-turn f (inner_of entered size) ends rest d h s.followed);
      }
    where
      t : ℕ
      t = count_trailing_zeros 64 rest

      f : ℕ → ℕ
      f = ending_of accepting before columns base v

      at : (i : ℕ) → Member i (inner_of entered size) → ¬ Member i (bit_and rest (rest - 1)) → Dec (i ≡ t)
          → next' (base + (1 + i)) ≡ union (next₀ (base + (1 + i))) (column_of before columns base v (1 + i))
      at i m k (yes q) =
          let waiting : next (base + (1 + t)) ≡ next₀ (base + (1 + t)) =
          s.others (base + (1 + t)) (λ j _ c p. let l : t ≡ j = omega arith in c (subst (λ u. Member u rest) l (trailing-here 64 rest d h))) in
          rw q (put.here ∙ ap (λ u. union u y) waiting ∙ ap (union (next₀ (base + (1 + t)))) e)
      at i m k (no q) =
          put.others (base + (1 + i)) (λ p. q (omega arith)) ∙ s.filled i m (λ r. k ((least-left 64 rest d h i).1 (r, q)))

  pub columns-end : (next₀ next : ℕ → ℕ) (ends rest : ℕ) → rest ≡ 0
      → ColumnsLeft v size base entered accepting before columns next₀ next ends rest
      → ListColumns v size base entered accepting before columns next₀ next ends
  columns-end next₀ next ends rest e s =
      record {
        filled = λ i m. s.filled i m (λ k. member-none i (subst (Member i) e k));
        others = λ x k. s.others x (λ i m c. k i m);
        ends = followed-end (ending_of accepting before columns base v) (inner_of entered size) ends rest e s.followed;
      }

-- A set where another has a place, else none.

pub when-has : (i s x : ℕ) → Member i s → when (member i s) x ≡ x
when-has i s x m = ap (λ b. when b x) ((member-test i s).1 m)

pub when-lacks : (i s x : ℕ) → ¬ Member i s → when (member i s) x ≡ 0
when-lacks i s x d = ap (λ b. when b x) (ne_eqb (s / 2 ^ i % 2) 1 d)

-- The test of a place in a word.

pub tested : (i s : ℕ) → bit_and (s / 2 ^ i) 1 ≡ 1 → Member i s
tested i s e = sym (and_mask (s / 2 ^ i) 1) ∙ e

pub not_tested : (i s : ℕ) → bit_and (s / 2 ^ i) 1 ≢ 1 → ¬ Member i s
not_tested i s d m = d (and_mask (s / 2 ^ i) 1 ∙ m)

-- The columns of a list's places where the start is among them, and where it is not.

pub joined-start : (columns : List ℕ) (base from : ℕ) → bit_and from 1 ≡ 1
    → union (slice_index columns 0) (union_over (λ o. slice_index columns (base + 1 + o)) 64 (from / 2)) ≡ joined_of columns base from
unfolding joined_of
joined-start columns base from e =
    ap (λ x. union x (union_over (λ o. slice_index columns (base + 1 + o)) 64 (from / 2)))
    (sym (when-has 0 from (slice_index columns 0) ((member-zero from).1 (sym (and_mask from 1) ∙ e))))

pub joined-inner : (columns : List ℕ) (base from : ℕ) → bit_and from 1 ≢ 1
    → union_over (λ o. slice_index columns (base + 1 + o)) 64 (from / 2) ≡ joined_of columns base from
unfolding joined_of
joined-inner columns base from d =
    sym (ap (λ x. union x (union_over (λ o. slice_index columns (base + 1 + o)) 64 (from / 2)))
    (when-lacks 0 from (slice_index columns 0) (λ m. d (and_mask from 1 ∙ (member-zero from).0 m)))
    ∙ or_zero_l (union_over (λ o. slice_index columns (base + 1 + o)) 64 (from / 2)))

-- The occurrences of a set as a word has them.
pub inner-exactly : (s size : ℕ) → size < 64 → bit_and (s / 2) ((1 * 2 ^ size) % 2 ^ 64 - 1) ≡ inner_of s size
inner-exactly s size h = ap (λ z. bit_and (s / 2) (z - 1)) (one_bit size (omega arith)) ∙ and_mask (s / 2) size

-- The places of a set but the start are its occurrences.
after-start : (from p : ℕ) → Member p (from - bit_and from 1) → (o : ℕ) × (p ≡ suc o) × Member o (from / 2)
after-start from zero m = absurd (omega (arith, (member-zero (from - bit_and from 1)).0 m, and_mask from 1))
after-start from (suc o) m =
    let e : (from - bit_and from 1) / 2 ≡ from / 2 = omega (arith, and_mask from 1) in
    (o, refl, subst (Member o) e ((member-suc o (from - bit_and from 1)).0 m))

pub below-after : (base from room : ℕ) → Below base from room → Below base (from - bit_and from 1) room
below-after base from room h p m =
    let (o, e, k) = after-start from p m in
    h p (subst (λ z. Member z from) (sym e) ((member-suc o from).1 k))

-- Their columns, counted from 0.
pub joined-after : (columns : List ℕ) (base from : ℕ) → from < 2 ^ 64
    → joined columns base 1 (from - bit_and from 1) ≡ union_over (λ o. slice_index columns (base + 1 + o)) 64 (from / 2)
joined-after columns base from h = equal-members (union_over at 64 rest) (union_over after 64 (from / 2)) λ y. (
  λ m.
      let (p, l, a, b) = (member-union_over at 64 rest y).0 m in
      let (o, e, k) = after-start from p a in
      let z : 1 * p + base ≡ base + 1 + o = omega arith in
      (member-union_over after 64 (from / 2) y).1 (o, omega arith, k, subst (λ (i : ℕ). Member y (slice_index columns i)) z b),
  λ m.
      let (o, l, a, b) = (member-union_over after 64 (from / 2) y).0 m in
      let e : from / 2 ≡ rest / 2 = omega (arith, and_mask from 1) in
      let z : base + 1 + o ≡ 1 * suc o + base = omega arith in
      (member-union_over at 64 rest y).1 (
        suc o,
        member_below 64 from (suc o) h ((member-suc o from).1 a),
        (member-suc o rest).1 (subst (Member o) e a),
        subst (λ (i : ℕ). Member y (slice_index columns i)) z b,
      ),
)
  where
    rest : ℕ
    rest = from - bit_and from 1

    at : ℕ → ℕ
    at p = slice_index columns (1 * p + base)

    after : ℕ → ℕ
    after o = slice_index columns (base + 1 + o)

-- Where the start is among the places, there is a column: the first, of the states alone.
pub start-below : (base from room : ℕ) → Below base from room → bit_and from 1 ≡ 1 → 0 < room
start-below base from room h e = omega (arith, h 0 ((member-zero from).1 (sym (and_mask from 1) ∙ e)))

-- The states of a list's places.
pub member-joined : (columns : List ℕ) (base from q : ℕ) → ((o : ℕ) → Member o from → o ≤ 63)
    → Member q (joined_of columns base from)
    ↔ ((Member 0 from × Member q (slice_index columns 0)) ⊎ ((o : ℕ) × Member (suc o) from × Member q (slice_index columns (base + suc o))))
unfolding joined_of
member-joined columns base from q few = (λ m. there ((member_union q first later).0 m), λ m. (member_union q first later).1 (back m))
  where
    first : ℕ
    first = when (member 0 from) (slice_index columns 0)

    later : ℕ
    later = union_over (λ o. slice_index columns (base + 1 + o)) 64 (from / 2)

    there : Member q first ⊎ Member q later
        → (Member 0 from × Member q (slice_index columns 0)) ⊎ ((o : ℕ) × Member (suc o) from × Member q (slice_index columns (base + suc o)))
    there (inl m) = let (t, k) = (member-when (member 0 from) q (slice_index columns 0)).0 m in inl ((member-test 0 from).0 t, k)
    there (inr m) =
        let (o, l, i, k) = (member-union_over (λ o. slice_index columns (base + 1 + o)) 64 (from / 2) q).0 m in
        let e : base + 1 + o ≡ base + suc o = omega arith in
        inr (o, (member-suc o from).1 i, subst (λ z. Member q (slice_index columns z)) e k)

    back : (Member 0 from × Member q (slice_index columns 0)) ⊎ ((o : ℕ) × Member (suc o) from × Member q (slice_index columns (base + suc o)))
        → Member q first ⊎ Member q later
    back (inl (m, k)) = inl ((member-when (member 0 from) q (slice_index columns 0)).1 ((member-test 0 from).1 m, k))
    back (inr (o, m, k)) =
        let e : base + suc o ≡ base + 1 + o = omega arith in
        inr ((member-union_over (λ o. slice_index columns (base + 1 + o)) 64 (from / 2) q).1
        (o, omega (arith, few (suc o) m), (member-suc o from).0 m, subst (λ z. Member q (slice_index columns z)) e k))

-- The states of an occurrence are below n where those of the columns are.
pub column-within : (n v size base : ℕ) (before columns : List ℕ) → size < 64 → PlacesOf v size before
    → StatesWithin (base + size + 1) n columns → (i y : ℕ) → i < size → y ≡ column_of before columns base v (1 + i) → y < 2 ^ n
column-within n v size base before columns few places within i y h e =
    members-below n y
    (λ q m. side q ((member-joined columns base from q (λ o k. omega (arith, inside o k))).0 (subst (Member q) e m)))
  where
    from : ℕ
    from = slice_index before (64 * v + (1 + i))

    inside : (o : ℕ) → Member o from → o ≤ size
    inside o m = places o (1 + i) (omega arith) m

    side : (q : ℕ) → (Member 0 from × Member q (slice_index columns 0)) ⊎ ((o : ℕ) × Member (suc o) from × Member q (slice_index columns (base + suc o)))
        → q < n
    side q (inl (m, k)) = within q 0 (omega arith) k
    side q (inr (o, m, k)) = within q (base + suc o) (omega (arith, inside (suc o) m)) k

-- The states where a path of the list may end are below n, too.
pub ends-within : (n v size base entered accepting : ℕ) (before columns : List ℕ) → size < 64 → PlacesOf v size before
    → StatesWithin (base + size + 1) n columns → (r : ℕ) → r ≡ union_over (ending_of accepting before columns base v) 64 (inner_of entered size)
    → r < 2 ^ n
ends-within n v size base entered accepting before columns few places within r e =
    members-below n r λ q m.
    let (i, l, j, k) = (member-union_over (ending_of accepting before columns base v) 64 (inner_of entered size) q).0 (subst (Member q) e m) in
    let column = column_of before columns base v (1 + i) in
    member_below n column q
    (column-within n v size base before columns few places within i column ((member-cut size i (entered / 2)).0 j).0 refl)
    ((member-when (member (1 + i) accepting) q column).0 k).1
