-- The occurrences of a list and the lists, one by one, in a step by ranges (Ranges).
use Rattle.std.specs.Prelude.{◌≡◌, ℕ, ◌+◌, ◌-◌, ◌*◌, ◌<◌, ◌≤◌, ◌⊎◌, ◌↔◌, List, slice_index}
use Rattle.std.proofs.Common.{inl, inr, sym, ap, ◌∙◌, subst, mul-add, mul-le-mul_left, arith}
use Rattle.std.specs.Prelude.{refl}
use Rattle.std.proofs.Math.Decide.{dec_lt}
use Rattle.theory.specs.Places.{Member}
use Rattle.places.specs.Words.{number_of}
use Rattle.theory.specs.PlacesLaws.{member-none}
use Rattle.verdict.specs.Tables.{occupied}
use Rattle.verdict.specs.TablesLaws.{occupied-few, occupied-more}
use Rattle.verdict.specs.ColumnOffsets.{offset_from, offset-small, occupied-room}
use Rattle.verdict.specs.RowsLaws.{member-row}
use Rattle.verdict.specs.CoverPlaces.{split-unique}
use Rattle.verdict.specs.ColumnLists.{inner_of}
use Rattle.verdict.specs.Ranges.{Closed, Adds, RangesAt, EndsAt, Comes, PlaceNew, ListNew, PlaceReady, ListReady, RangesReady, StepNew, RangesStepped}
use Rattle.verdict.specs.RangesTurns.{adds_same, adds-both, closed-beyond, AddsLeft}

module _ (n s accepting v base p : ℕ) (before reached table words : List ℕ)
    (ready : PlaceReady n s v base p before reached table words) (words' : List ℕ)
    (a : Adds (RangesAt n s base (slice_index before (64 * v + p)) (n * (base + p))) words words') where
  abbrev to : ℕ
  to = n * (base + p)

  abbrev Joined : ℕ → Type 0
  Joined = RangesAt n s base (slice_index before (64 * v + p)) to

  abbrev New : ℕ → Type 0
  New = PlaceNew n s before reached table accepting v base p

  joined-new : (i : ℕ) → Joined i → New i
  joined-new i (o, j, (x, h, e, m)) = inl (x, h, (o, j, m), e)

  pub joined-closed : Closed n reached (number_of words')
  joined-closed =
      closed-beyond n reached words words' (λ i (o, j, (x, h, e, m)). omega (arith, ready.beyond)) a ready.closed

  comes-there : (q : ℕ) → q < n → Member (to + q) (number_of words') → Comes n s before v base p q
  comes-there q h m = side ((a.exact (to + q)).0 m)
    where
      side : Member (to + q) (number_of words) ⊎ Joined (to + q) → Comes n s before v base p q
      side (inl k) = ready.held q h k
      side (inr (o, j, (x, l, e, k))) =
          let same : x ≡ q = omega arith in
          (o, j, subst (λ z. Member (n * offset_from base o + z) s) same k)

  pub place-ends : (words'' : List ℕ) → Member p accepting → Adds (EndsAt n reached table v (number_of words') to) words' words''
      → Adds New words words''
  place-ends words'' f b =
      adds-both words words' words'' joined-new (λ i (q, h, m, l). inr (f, (q, h, comes-there q h m, l))) split a b
    where
      split : (i : ℕ) → New i → Joined i ⊎ EndsAt n reached table v (number_of words') to i
      split i (inl (q, h, (o, j, m), e)) = inl (o, j, (q, h, e, m))
      split i (inr (g, (q, h, (o, j, m), l))) = inr (q, h, (a.exact (to + q)).1 (inr (o, j, (q, h, refl, m))), l)

  pub place-alone : ¬ Member p accepting → Adds New words words'
  place-alone d = adds_same words words' joined-new back a
    where
      back : (i : ℕ) → New i → Joined i
      back i (inl (q, h, (o, j, m), e)) = (o, j, (q, h, e, m))
      back i (inr (g, k)) = absurd (d g)

-- The occurrences of a list, one by one.
module _ (n s accepting entered size v base : ℕ) (before reached table words₀ : List ℕ)
    (ready : ListReady n v base size before reached table words₀) where
  abbrev pub At : ℕ → ℕ → Type 0
  At x = PlaceNew n s before reached table accepting v base (1 + x)

  inner-member : (x : ℕ) → Member x (inner_of entered size) ↔ ((x < size) × Member (1 + x) entered)
  inner-member x = member-row entered 1 size x

  -- The states alone stay closed.
  pub place-closed : (x : ℕ) (words words' : List ℕ) → Adds (At x) words words' → Closed n reached (number_of words)
      → Closed n reached (number_of words')
  place-closed x words words' a closed q u k m l = side ((a.exact q).0 m)
    where
      side : Member q (number_of words) ⊎ At x q → Member u (number_of words')
      side (inl i) = (a.exact u).1 (inl (closed q u k i l))
      side (inr (inl (r, h, c, e))) = absurd (omega (arith, e, mul-add n (base + x) 1, ap (λ z. n * z) (number base x)))
        where
          number : (b y : ℕ) → b + (1 + y) ≡ b + y + 1
          number b y = omega arith
      side (inr (inr (f, (r, h, c, i)))) =
          (a.exact u).1 (inr (inr (f, (r, h, c, ready.closing.onward (slice_index table (16 * r + v)) q u (ready.next r h) i l))))

  -- What is asked for the next occurrence.
  pub place-ready : (x rest : ℕ) (words : List ℕ) → Member x rest → AddsLeft At (inner_of entered size) words₀ words rest
      → Closed n reached (number_of words) → PlaceReady n s v base (1 + x) before reached table words
  place-ready x rest words m l closed =
      let low : x < size = ((inner-member x).0 (l.part x m)).0 in
      let all : n * (base + size) ≡ n * (base + (1 + x)) + n * (size - (1 + x)) =
      ap (λ z. n * z) (sum base size x low) ∙ mul-add n (base + (1 + x)) (size - (1 + x)) in
      record {
        list = ready.list;
        place = omega (arith, ready.small);
        before-room = ready.before-room;
        table-room = ready.table-room;
        few = omega (arith, ready.few);
        beyond = first;
        few-places = omega (arith, ready.few-places);
        from = λ o j. ready.from o (1 + x) (omega arith) (omega arith) j;
        closing = ready.closing;
        next = ready.next;
        closed = closed;
        held = λ q h k. side q h ((l.sum (n * (base + (1 + x)) + q)).0 (inl k));
      }
    where
      sum : (b t y : ℕ) → y < t → b + t ≡ b + (1 + y) + (t - (1 + y))
      sum b t y h = omega arith

      first : n ≤ n * (base + (1 + x))
      first =
          let e : base + (1 + x) ≡ base + x + 1 = omega arith in
          omega (arith, ap (λ z. n * z) e, mul-add n (base + x) 1)

      side : (q : ℕ) → q < n
          → Member (n * (base + (1 + x)) + q) (number_of words₀) ⊎ ((y : ℕ) × Member y (inner_of entered size) × At y (n * (base + (1 + x)) + q))
          → Comes n s before v base (1 + x) q
      side q h (inl k) =
          let e : base + (1 + x) ≡ base + 1 + x = omega arith in
          absurd (omega (arith, ready.fresh (n * (base + (1 + x)) + q) k, ap (λ z. n * z) e, mul-add n (base + 1) x))
      side q h (inr (y, i, inl (r, k, c, e))) =
          let (same, state) = split-unique n (base + (1 + x)) (base + (1 + y)) q r h k e in
          let place : 1 + y ≡ 1 + x = omega arith in
          subst (λ z. Comes n s before v base (1 + x) z) (sym state) (subst (λ z. Comes n s before v base z r) place c)
      side q h (inr (y, i, inr (f, (r, k, c, j)))) =
          absurd (omega (arith, first, ready.closing.within (slice_index table (16 * r + v)) (n * (base + (1 + x)) + q) (ready.next r k) j))

  pub list-end : (words : List ℕ) → Adds (λ i. (x : ℕ) × Member x (inner_of entered size) × At x i) words₀ words
      → Adds (ListNew n s before reached table entered accepting size v base) words₀ words
  list-end words a = adds_same words₀ words there back a
    where
      there : (i : ℕ) → (x : ℕ) × Member x (inner_of entered size) × At x i → ListNew n s before reached table entered accepting size v base i
      there i (x, m, k) = let (h, g) = (inner-member x).0 m in (1 + x, omega arith, omega arith, g, k)

      back : (i : ℕ) → ListNew n s before reached table entered accepting size v base i → (x : ℕ) × Member x (inner_of entered size) × At x i
      back i (p, some, small, g, k) =
          let same : p ≡ 1 + (p - 1) = omega arith in (
            p - 1,
            (inner-member (p - 1)).1 (omega arith, subst (λ z. Member z entered) same g),
            subst (λ z. PlaceNew n s before reached table accepting v base z i) same k,
          )

-- The lists, one by one: the set has what is new in those before v, whose occurrences end with the offset `base`.
pub record Stepping (n a v base : ℕ) (enter sizes accepting before reached table : List ℕ) (s : ℕ) (words : List ℕ) : Type 0 where
  pub low : base ≡ occupied sizes 0 v
  pub exact : (i : ℕ) → Member i (number_of words) ↔ StepNew n a v enter sizes accepting before reached table s i
  pub closed : Closed n reached (number_of words)

module _ (n lists a : ℕ) (enter sizes accepting before reached table : List ℕ) (s : ℕ)
    (ready : RangesReady n lists enter sizes accepting before reached table) where
  pub stepping-start : (words : List ℕ) → number_of words ≡ 0 → Stepping n a 0 0 enter sizes accepting before reached table s words
  unfolding occupied
  stepping-start words e =
      record {
        low = refl;
        exact = λ i. (λ m. absurd (member-none i (subst (Member i) e m)), λ (u, h, k). absurd (omega arith));
        closed = λ q t h m l. absurd (member-none q (subst (Member q) e m));
      }

  -- Offsets below the width have their columns below all places.
  column-room : (o : ℕ) → o ≤ occupied sizes 0 lists → n * o + n ≤ 1024
  column-room o h =
      let all : n * (o + 1) ≤ n * (occupied sizes 0 lists + 1) = mul-le-mul_left n (omega arith) in
      omega (arith, mul-add n o 1, ready.few-places)

  module _ (v base : ℕ) (words : List ℕ) (h : v < lists)
      (l : Stepping n a v base enter sizes accepting before reached table s words) where
    below : base + slice_index sizes (v + 1) ≤ occupied sizes 0 lists
    below = omega (arith, l.low, occupied-room sizes v lists h)

    pub stepping-ready : ListReady n v base (slice_index sizes (v + 1)) before reached table words
    stepping-ready =
        record {
          list = omega (arith, ready.counted.few);
          small = omega (arith, ready.counted.small v h);
          before-room = omega (arith, ready.before-room);
          table-room = ready.table-room;
          few = omega (arith, below, occupied-few sizes lists 0 lists (omega arith) ready.counted, ready.counted.few);
          few-places = column-room (base + slice_index sizes (v + 1)) below;
          from = λ o p some small m.
              column-room (offset_from base o)
              (omega (arith, below, offset-small base o _ (ready.places v o p h (omega (arith, ready.counted.small v h)) m)));
          closing = ready.closing;
          next = λ q k. ready.next q v k h;
          closed = l.closed;
          fresh = λ i m. side i ((l.exact i).0 m);
        }
      where
        side : (i : ℕ) → StepNew n a v enter sizes accepting before reached table s i → i < n * (base + 1)
        side i (u, k, (p, some, small, g, inl (q, j, c, e))) =
            let o = occupied sizes 0 u + p in
            let inside : n * (o + 1) ≤ n * (base + 1) = mul-le-mul_left n (omega (arith, l.low, occupied-room sizes u v k)) in
            omega (arith, mul-add n o 1)
        side i (u, k, (p, some, small, g, inr (f, (q, j, c, d)))) =
            omega (
              arith,
              mul-add n base 1,
              ready.closing.within (slice_index table (16 * q + u)) i (ready.next q u j (omega arith)) d,
            )

    abbrev ListAt : ℕ → ℕ → Type 0
    ListAt b i =
        ListNew n s before reached table (slice_index enter (32 * (v + 1) + a)) (slice_index accepting (v + 1)) (slice_index sizes (v + 1)) v b i

    pub stepping-turn : (words' : List ℕ) → Adds (ListAt base) words words'
        → Stepping n a (v + 1) (base + slice_index sizes (v + 1)) enter sizes accepting before reached table s words'
    stepping-turn words' b =
        record {
          low = omega (arith, l.low, occupied-more sizes v);
          exact = λ i. (λ m. there i ((b.exact i).0 m), λ m. (b.exact i).1 (back i m));
          closed = closed;
        }
      where
        there : (i : ℕ) → Member i (number_of words) ⊎ ListAt base i → StepNew n a (v + 1) enter sizes accepting before reached table s i
        there i (inl m) = let (u, k, c) = (l.exact i).0 m in (u, omega arith, c)
        there i (inr c) = (v, omega arith, subst (λ z. ListAt z i) l.low c)

        back : (i : ℕ) → StepNew n a (v + 1) enter sizes accepting before reached table s i → Member i (number_of words) ⊎ ListAt base i
        back i (u, k, c) = which (dec_lt u v)
          where
            which : Dec (u < v) → Member i (number_of words) ⊎ ListAt base i
            which (yes d) = inl ((l.exact i).1 (u, d, c))
            which (no d) =
                let same : u ≡ v = omega arith in
                inr (subst (λ z. ListAt z i) (sym l.low)
                (subst (λ z. ListNew n s before reached table (slice_index enter (32 * (z + 1) + a)) (slice_index accepting (z + 1))
                (slice_index sizes (z + 1)) z (occupied sizes 0 z) i) same c))

        closed : Closed n reached (number_of words')
        closed q t k m d = side ((b.exact q).0 m)
          where
            side : Member q (number_of words) ⊎ ListAt base q → Member t (number_of words')
            side (inl i) = (b.exact t).1 (inl (l.closed q t k i d))
            side (inr (p, some, small, g, inl (r, j, c, e))) =
                let one_more : base + p ≡ base + (p - 1) + 1 = omega arith in
                absurd (omega (arith, ap (λ z. n * z) one_more, mul-add n (base + (p - 1)) 1))
            side (inr (p, some, small, g, inr (f, (r, j, c, i)))) =
                (b.exact t).1 (inr (
                  p,
                  some,
                  small,
                  g,
                  inr (
                    f,
                    (
                      r,
                      j,
                      c,
                      ready.closing.onward (slice_index table (16 * r + v)) q t (ready.next r v j h) i d,
                    ),
                  ),
                ))

  pub stepping-end : (v base : ℕ) (words : List ℕ) → v ≡ lists → Stepping n a v base enter sizes accepting before reached table s words
      → RangesStepped n lists a enter sizes accepting before reached table s (number_of words)
  stepping-end v base words e l =
      record {
        exact = λ i. subst (λ z. Member i (number_of words) ↔ StepNew n a z enter sizes accepting before reached table s i) e (l.exact i);
      }
