-- A step by ranges (Ranges) is the step of the cover set (Cover), turned.
use Rattle.std.specs.Prelude.{◌≡◌, ℕ, zero, suc, ◌+◌, ◌*◌, ◌/◌, ◌%◌, ◌^◌, ◌<◌, ◌≤◌, ◌⊎◌, ◌↔◌, List, length, slice_index, slice_index_or}
use Rattle.std.proofs.Common.{inl, inr, sym, ap, ◌∙◌, subst, mod-lt, arith}
use Rattle.std.specs.Prelude.{refl}
use Rattle.std.proofs.Math.Decide.{ℕ_discrete}
use Rattle.std.proofs.Math.Nat.{div-add-mod}
use Rattle.theory.specs.Places.{Member}
use Rattle.theory.specs.PlacesLaws.{member_below, equal-members}
use Rattle.theory.specs.Closure.{Reaches, here, onward}
use Rattle.places.specs.Words.{number_of}
use Rattle.verdict.specs.Cover.{cover_step}
use Rattle.verdict.specs.Tables.{automata_of, occupied, rewritten, Counted, Proper}
use Rattle.verdict.specs.CoverBounds.{state-of-place}
use Rattle.verdict.specs.CoverPlaces.{split_below, split-unique, state-below}
use Rattle.verdict.specs.CoverTold.{StepStands}
use Rattle.verdict.specs.Coded.{turned}
use Rattle.verdict.specs.Columns.{offset_in, Leading, Passing}
use Rattle.verdict.specs.ColumnOffsets.{offset_from, occupied-room, offset-below}
use Rattle.verdict.specs.ColumnsStep.{first_step, step-exactly}
use Rattle.verdict.specs.ColumnsStep as step
use Rattle.verdict.specs.TableMoves.{TableMove}
use Rattle.verdict.specs.TableEnds.{table-ends-there, table-ends-back, table-reached-there, table-reached-back}
use Rattle.verdict.specs.Turned.{Turned}
use Rattle.verdict.specs.TurnedLaws.{turn, turn-made, onto_same}
use Rattle.verdict.specs.RangesLaws.{ranges-below}
use Rattle.verdict.specs.Ranges.{Comes, StepNew, RangesStepped}

same-offset : (sizes : List ℕ) (v o : ℕ) → offset_from (occupied sizes 0 v) o ≡ offset_in sizes v o
same-offset sizes v zero = refl
same-offset sizes v (suc o) = refl

module _ (states n a : ℕ) (follow enter sizes accepting table before reached : List ℕ) (C s r : ℕ) (label : a < 32)
    (leading : Leading n follow sizes before) (passing : Passing 4 states n accepting table reached)
    (stepped : RangesStepped states n a enter sizes accepting before reached table s r)
    (proper : Proper states n follow enter sizes accepting table) (flags : List ℕ)
    (turned : Turned (suc (occupied sizes 0 n)) (suc (occupied sizes 0 n)) (λ o. o) states C s) where
  abbrev w : ℕ
  w = suc (occupied sizes 0 n)

  counted : Counted n sizes
  counted = proper.ready.counted

  room : 64 * n + 64 ≤ length follow
  room = proper.ready.follow-room

  abbrev next : ℕ
  next = cover_step (rewritten states table flags) (automata_of follow enter sizes accepting n) C a

  abbrev Reached : ℕ → ℕ → Type 0
  Reached x y = Reaches (step.Ends states n a follow enter sizes accepting table flags proper label) x y

  exactly : (y : ℕ) → Member y next
      ↔ ((x : ℕ) × (z : ℕ) × (x < states * w) × Member x C × TableMove n a follow enter sizes x z × Reached z y)
  exactly y = step-exactly states n a follow enter sizes accepting table flags proper label C y

  -- An occurrence that comes next and that the label enters: a place of the set leads there.
  moved-from : (v p q : ℕ) → v < n → 0 < p → p ≤ slice_index sizes (v + 1) → q < states → Member p (slice_index enter (32 * (v + 1) + a))
      → Comes states s before v (occupied sizes 0 v) p q
      → (x : ℕ) × (x < states * w) × Member x C × TableMove n a follow enter sizes x (w * q + (occupied sizes 0 v + p))
  moved-from v p q h some small inside enters (o, j, c) =
      let l : o ≤ slice_index_or sizes (v + 1) 0 = leading.within v o p h (omega (arith, counted.small v h)) j in
      let low : offset_in sizes v o < w = offset-below sizes v o n h l in (
        w * q + offset_in sizes v o,
        split_below w states q (offset_in sizes v o) low inside,
        (turned.exact q (offset_in sizes v o) inside low).1 (subst (λ z. Member (states * z + q) s) (same-offset sizes v o) c),
        record {
          state = q;
          list = v;
          from = o;
          to = p;
          inside = h;
          within = l;
          starts = refl;
          stops = refl;
          follows = (leading.exact v o p h l (omega (arith, counted.small v h))).0 j;
          enters = enters;
        },
      )

  -- A place that the label leads to.
  moves-to : (x z : ℕ) → x < states * w → Member x C → (t : TableMove n a follow enter sizes x z)
      → (t.state < states) × (0 < t.to) × (t.to ≤ slice_index sizes (t.list + 1))
      × Comes states s before t.list (occupied sizes 0 t.list) t.to t.state
  moves-to x z l m t =
      let v = t.list in
      let low : offset_in sizes v t.from < w = offset-below sizes v t.from n t.inside t.within in
      let inside : t.state < states =
      state-below w states t.state (offset_in sizes v t.from) (subst (λ y. y < states * w) t.starts l) in
      let small : t.to < suc (slice_index sizes (v + 1)) =
      member_below (suc (slice_index sizes (v + 1))) (slice_index follow (64 * (v + 1) + t.from)) t.to
      (proper.sets v t.from t.inside t.within) t.follows in
      let some : 0 < t.to = not_start (ℕ_discrete t.to 0) in (
        inside,
        some,
        omega arith,
        (
          t.from,
          (leading.exact v t.from t.to t.inside t.within (omega (arith, counted.small v t.inside))).1 t.follows,
          subst (λ y. Member (states * y + t.state) s) (sym (same-offset sizes v t.from))
              ((turned.exact t.state (offset_in sizes v t.from) inside low).0 (subst (λ y. Member y C) t.starts m)),
        ),
      )
    where
      not_start : Dec (t.to ≡ 0) → 0 < t.to
      not_start (yes e) =
          absurd (leading.no_start t.list t.from t.inside t.within
          (subst (λ y. Member y (slice_index follow (64 * (t.list + 1) + t.from))) e t.follows))
      not_start (no d) = omega arith

  place-low : (v p : ℕ) → v < n → p ≤ slice_index sizes (v + 1) → occupied sizes 0 v + p < w
  place-low v p h small = omega (arith, occupied-room sizes v n h)

  below : r < 2 ^ (states * w)
  below = ranges-below states n a enter sizes accepting before reached table s r w refl passing.within proper.next stepped

  there : (q o : ℕ) → q < states → o < w → StepNew states a n enter sizes accepting before reached table s (states * o + q)
      → Member (w * q + o) next
  there q o inside low (v, h, (p, some, small, enters, inl (q', k, c, e))) =
      let (same, state) = split-unique states o (occupied sizes 0 v + p) q q' inside k e in
      let (x, l, m, t) = moved-from v p q' h some small k enters c in
      subst (λ z. Member (w * z + o) next) (sym state)
      (subst (λ z. Member (w * q' + z) next) (sym same)
      ((exactly (w * q' + (occupied sizes 0 v + p))).1 (x, w * q' + (occupied sizes 0 v + p), l, m, t, here)))
  there q o inside low (v, h, (p, some, small, enters, inr (f, (q', k, c, leads)))) =
      let i = states * o + q in
      let state : i < states = passing.within (slice_index table (16 * q' + v)) i (proper.next q' v k h) leads in
      let e : states * o + q ≡ states * 0 + i = omega arith in
      let (same, t_same) = split-unique states o 0 q i inside state e in
      let (x, l, m, t) = moved-from v p q' h some small k enters c in
      let ends-here = table-ends-back states n follow enter sizes accepting table flags counted room q' v p h some small f in
      let onwards = table-reached-back states n follow enter sizes accepting table flags counted room
      (slice_index table (16 * q' + v)) i ((passing.exact (slice_index table (16 * q' + v)) i (proper.next q' v k h)).0 leads) in
      let place : w * i ≡ w * q + o = ap (λ z. w * z) (sym t_same) ∙ omega arith in
      subst (λ z. Member z next) place
      ((exactly (w * i)).1 (x, w * q' + (occupied sizes 0 v + p), l, m, t, onward ends-here onwards))

  abbrev Placed : ℕ → Type 0
  Placed y = (q : ℕ) × (o : ℕ) × (q < states) × (o < w) × (y ≡ w * q + o) × Member (states * o + q) r

  back : (y : ℕ) → Member y next → Placed y
  back y m =
      let (x, z, l, k, t, c) = (exactly y).0 m in
      go x z l k t (first_step c)
    where
      go : (x z : ℕ) → x < states * w → Member x C → (t : TableMove n a follow enter sizes x z)
          → (z ≡ y) ⊎ ((u : ℕ) × step.Ends states n a follow enter sizes accepting table flags proper label z u × Reached u y) → Placed y
      go x z l k t (inl e) =
          let (inside, some, small, c) = moves-to x z l k t in
          let v = t.list in
          let o = occupied sizes 0 v + t.to in (
            t.state,
            o,
            inside,
            place-low v t.to t.inside small,
            sym e ∙ t.stops,
            (stepped.exact (states * o + t.state)).1
                (v, t.inside, (t.to, some, small, t.enters, inl (t.state, inside, c, refl))),
          )
      go x z l k t (inr (u, e, f)) =
          let (inside, some, small, c) = moves-to x z l k t in
          let q = t.state in
          let v = t.list in
          let (i, g) = table-ends-there states n follow enter sizes accepting table flags counted room q v t.to u
          t.inside some small
          (subst (λ k. step.Ends states n a follow enter sizes accepting table flags proper label k u) t.stops e) in
          let (s', same, p) = table-reached-there states n follow enter sizes accepting table flags counted room
          (slice_index table (16 * q + v)) y (subst (λ k. Reached k y) g f) in
          let from : slice_index_or table (16 * q + v) 0 < states = proper.next q v inside t.inside in
          let leads = (passing.exact (slice_index table (16 * q + v)) s' from).1 p in
          let alone : states * 0 + s' ≡ s' = omega arith in (
            s',
            0,
            passing.within (slice_index table (16 * q + v)) s' from leads,
            omega arith,
            same ∙ omega arith,
            subst (λ z. Member z r) (sym alone)
                ((stepped.exact s').1 (v, t.inside, (t.to, some, small, t.enters, inr (i, (q, inside, c, leads))))),
          )

  same_step : turn w (λ o. o) states r ≡ next
  same_step = equal-members (turn w (λ o. o) states r) next λ y. (first y, second y)
    where
      made : Turned w w (λ o. o) states (turn w (λ o. o) states r) r
      made = turn-made w w (λ o. o) states r (omega arith) refl (onto_same w) below

      first : (y : ℕ) → Member y (turn w (λ o. o) states r) → Member y next
      first y m =
          let l : y < states * w = member_below (states * w) (turn w (λ o. o) states r) y made.below m in
          let q : y / w < states = state-of-place w states y (omega arith) l in
          let o : y % w < w = mod-lt y (omega arith) in
          let parts : w * (y / w) + y % w ≡ y = div-add-mod y w in
          subst (λ z. Member z next) parts
          (there (y / w) (y % w) q o
          ((stepped.exact (states * (y % w) + y / w)).0
          ((made.exact (y / w) (y % w) q o).0 (subst (λ z. Member z (turn w (λ o. o) states r)) (sym parts) m))))

      second : (y : ℕ) → Member y next → Member y (turn w (λ o. o) states r)
      second y m =
          let (q, o, h, k, e, i) = back y m in
          subst (λ z. Member z (turn w (λ o. o) states r)) (sym e) ((made.exact q o h k).1 i)

  turned-step : Turned w w (λ o. o) states next r
  turned-step = subst (λ z. Turned w w (λ o. o) states z r) same_step (turn-made w w (λ o. o) states r (omega arith) refl (onto_same w) below)

-- The set after the step stands turned as the step of the set that stands turned.
pub ranges-step : (states n a : ℕ) (follow enter sizes accepting table before reached set r : List ℕ) (w : ℕ)
    → w ≡ suc (occupied sizes 0 n) → Leading n follow sizes before → Passing 4 states n accepting table reached
    → RangesStepped states n a enter sizes accepting before reached table (number_of set) (number_of r)
    → StepStands (turned (suc (occupied sizes 0 n)) w (λ o. o)) states n follow enter sizes accepting table a set r
ranges-step states n a follow enter sizes accepting table before reached set r w wide leading passing stepped =
    subst (λ z. StepStands (turned (suc (occupied sizes 0 n)) z (λ o. o)) states n follow enter sizes accepting table a set r) (sym wide)
    (record {
      told = λ proper label flags C stands.
          turned-step states n a follow enter sizes accepting table before reached C (number_of set) (number_of r) label leading passing
          stepped proper flags stands;
    })
