-- A step by rows of two words (WideRows) is the step of the cover set (Cover).
use Rattle.std.specs.Prelude.{◌≡◌, ℕ, suc, ◌+◌, ◌*◌, ◌<◌, ◌≤◌, ◌⊎◌, ◌↔◌, List, length, slice_index}
use Rattle.std.proofs.Common.{inl, inr, sym, ap, ◌∙◌, subst, arith}
use Rattle.std.specs.Prelude.{refl}
use Rattle.std.proofs.Math.Decide.{ℕ_discrete, dec_lt}
use Rattle.theory.specs.Places.{Member}
use Rattle.theory.specs.PlacesLaws.{member_below, equal-members}
use Rattle.theory.specs.Closure.{Reaches, here, onward}
use Rattle.places.specs.Words.{number_of}
use Rattle.verdict.specs.Cover.{cover_step}
use Rattle.verdict.specs.Tables.{automata_of, occupied, rewritten, Counted, Proper}
use Rattle.verdict.specs.CoverPlaces.{split_below, state-below}
use Rattle.verdict.specs.CoverTold.{StepTold}
use Rattle.verdict.specs.Columns.{offset_in, Finishing}
use Rattle.verdict.specs.ColumnOffsets.{occupied-room, offset-below}
use Rattle.verdict.specs.ColumnsStep.{first_step, step-exactly}
use Rattle.verdict.specs.ColumnsStep as step
use Rattle.verdict.specs.TableMoves.{TableMove}
use Rattle.verdict.specs.TableEnds.{table-ends-there, table-ends-back, table-reached-there, table-reached-back}
use Rattle.verdict.specs.WideRows.{RowsPrepared, RowsLaid, LaidWithin, Steps, Ends, RowsStepped}

-- An occurrence of one list stands at an offset.
pub one-occurrence : (sizes : List ℕ) (u v p r : ℕ) → 0 < p → p ≤ slice_index sizes (u + 1) → 0 < r → r ≤ slice_index sizes (v + 1)
    → occupied sizes 0 u + p ≡ occupied sizes 0 v + r → (u ≡ v) × (p ≡ r)
one-occurrence sizes u v p r a b c d e = side (dec_lt u v) (dec_lt v u)
  where
    side : Dec (u < v) → Dec (v < u) → (u ≡ v) × (p ≡ r)
    side (yes h) k = absurd (omega (arith, occupied-room sizes u v h))
    side (no h) (yes k) = absurd (omega (arith, occupied-room sizes v u k))
    side (no h) (no k) =
        let same : u ≡ v = omega arith in
        (same, omega (arith, ap (occupied sizes 0) same))

-- What comes next is an occurrence.
pub laid-within : (states n : ℕ) (follow enter sizes accepting rows : List ℕ) (s : ℕ) (laid : List ℕ) → suc (occupied sizes 0 n) ≤ 128
    → RowsPrepared n follow enter sizes accepting rows → RowsLaid (suc (occupied sizes 0 n)) states rows s laid
    → LaidWithin (suc (occupied sizes 0 n)) states laid
laid-within states n follow enter sizes accepting rows s laid few prepared rows-laid q y h m =
    let (o, l, k, c) = (rows-laid.exact q y h).0 m in
    let (v, x, i, j, e, (p, some, small, f, t)) = (prepared.steps o y (omega arith)).0 c in
    (omega arith, omega (arith, occupied-room sizes v n i))

module _ (states n a : ℕ) (follow enter sizes accepting table rows : List ℕ) (s : ℕ) (laid : List ℕ) (label : a < 32)
    (few : suc (occupied sizes 0 n) ≤ 128) (prepared : RowsPrepared n follow enter sizes accepting rows)
    (rows-laid : RowsLaid (suc (occupied sizes 0 n)) states rows s laid) where
  abbrev w : ℕ
  w = suc (occupied sizes 0 n)

  -- An occurrence that the label enters: a place of the set leads there.
  moved-from : (q y : ℕ) → q < states → Steps a rows laid q y
      → (x : ℕ) × (x < states * w) × Member x s × TableMove n a follow enter sizes x (w * q + y)
  moved-from q y h (m, g) =
      let (o, l, k, c) = (rows-laid.exact q y h).0 m in
      let (v, x, i, j, e, (p, some, small, f, t)) = (prepared.steps o y (omega arith)).0 c in
      let (u, b, (d, pos, low, same, enters)) = (prepared.enters a y label).0 g in
      let (list, place) = one-occurrence sizes u v d p pos low some small (sym same ∙ f) in (
        w * q + o,
        split_below w states q o l h,
        k,
        record {
          state = q;
          list = v;
          from = x;
          to = p;
          inside = i;
          within = j;
          starts = ap (λ z. w * q + z) e;
          stops = ap (λ z. w * q + z) f;
          follows = t;
          enters = subst (λ z. Member z (slice_index enter (32 * (v + 1) + a))) place
              (subst (λ z. Member d (slice_index enter (32 * (z + 1) + a))) list enters);
        },
      )

  -- A place that the label leads to.
  moves-to : Proper states n follow enter sizes accepting table → (x z : ℕ) → x < states * w → Member x s
      → (t : TableMove n a follow enter sizes x z)
      → (t.state < states) × (0 < t.to) × (t.to ≤ slice_index sizes (t.list + 1))
      × Steps a rows laid t.state (occupied sizes 0 t.list + t.to)
  moves-to proper x z l m t =
      let v = t.list in
      let y = occupied sizes 0 v + t.to in
      let low : offset_in sizes v t.from < w = offset-below sizes v t.from n t.inside t.within in
      let inside : t.state < states =
      state-below w states t.state (offset_in sizes v t.from) (subst (λ y. y < states * w) t.starts l) in
      let small : t.to < suc (slice_index sizes (v + 1)) =
      member_below (suc (slice_index sizes (v + 1))) (slice_index follow (64 * (v + 1) + t.from)) t.to
      (proper.sets v t.from t.inside t.within) t.follows in
      let some : 0 < t.to = not_start (ℕ_discrete t.to 0) in (
        inside,
        some,
        omega arith,
        (
          (rows-laid.exact t.state y inside).1 (
            offset_in sizes v t.from,
            low,
            subst (λ y. Member y s) t.starts m,
            (prepared.steps (offset_in sizes v t.from) y (omega arith)).1
                (v, t.from, t.inside, t.within, refl, (t.to, some, omega arith, refl, t.follows)),
          ),
          (prepared.enters a y label).1 (v, t.inside, (t.to, some, omega arith, refl, t.enters)),
        ),
      )
    where
      not_start : Dec (t.to ≡ 0) → 0 < t.to
      not_start (yes e) =
          absurd (prepared.no_start t.list t.from t.inside t.within
          (subst (λ y. Member y (slice_index follow (64 * (t.list + 1) + t.from))) e t.follows))
      not_start (no d) = omega arith

  module _ (ended : List ℕ) (r : ℕ) (stepped : RowsStepped w states n a rows ended laid r)
      (finishing : Finishing states n accepting table ended) (proper : Proper states n follow enter sizes accepting table)
      (flags : List ℕ) where
    counted : Counted n sizes
    counted = proper.ready.counted

    room : 64 * n + 64 ≤ length follow
    room = proper.ready.follow-room

    abbrev next : ℕ
    next = cover_step (rewritten states table flags) (automata_of follow enter sizes accepting n) s a

    abbrev Reached : ℕ → ℕ → Type 0
    Reached x y = Reaches (step.Ends states n a follow enter sizes accepting table flags proper label) x y

    exactly : (y : ℕ) → Member y next
        ↔ ((x : ℕ) × (z : ℕ) × (x < states * w) × Member x s × TableMove n a follow enter sizes x z × Reached z y)
    exactly y = step-exactly states n a follow enter sizes accepting table flags proper label s y

    there : (i : ℕ) → ((q : ℕ) × (y : ℕ) × (q < states) × Steps a rows laid q y × (i ≡ w * q + y))
        ⊎ ((q : ℕ) × (t : ℕ) × (q < states) × Ends n rows ended q (Steps a rows laid q) t × (i ≡ w * t)) → Member i next
    there i (inl (q, y, h, m, e)) =
        let (x, l, k, t) = moved-from q y h m in
        subst (λ z. Member z next) (sym e) ((exactly (w * q + y)).1 (x, w * q + y, l, k, t, here))
    there i (inr (q, t, h, (v, y, j, m, c, d), e)) =
        let (x, l, k, move) = moved-from q y h m in
        let (p, some, small, f, g) = (prepared.ends v y j).0 c in
        let ends-here = table-ends-back states n follow enter sizes accepting table flags counted room q v p j some small g in
        let onwards = table-reached-back states n follow enter sizes accepting table flags counted room
        (slice_index table (16 * q + v)) t ((finishing.exact q v t h j).0 d) in
        subst (λ z. Member z next) (sym e)
        ((exactly (w * t)).1 (
          x,
          w * q + (occupied sizes 0 v + p),
          l,
          k,
          subst (λ z. TableMove n a follow enter sizes x (w * q + z)) f move,
          onward ends-here onwards,
        ))

    back : (y : ℕ) → Member y next → Member y r
    back y m =
        let (x, z, l, k, t, c) = (exactly y).0 m in
        go x z l k t (first_step c)
      where
        go : (x z : ℕ) → x < states * w → Member x s → (t : TableMove n a follow enter sizes x z)
            → (z ≡ y) ⊎ ((u : ℕ) × step.Ends states n a follow enter sizes accepting table flags proper label z u × Reached u y) → Member y r
        go x z l k t (inl e) =
            let (inside, some, small, c) = moves-to proper x z l k t in
            (stepped.exact y).1 (inl (t.state, occupied sizes 0 t.list + t.to, inside, c, sym e ∙ t.stops))
        go x z l k t (inr (u, e, f)) =
            let (inside, some, small, c) = moves-to proper x z l k t in
            let q = t.state in
            let v = t.list in
            let (i, g) = table-ends-there states n follow enter sizes accepting table flags counted room q v t.to u
            t.inside some small
            (subst (λ k. step.Ends states n a follow enter sizes accepting table flags proper label k u) t.stops e) in
            let (s', same, p) = table-reached-there states n follow enter sizes accepting table flags counted room
            (slice_index table (16 * q + v)) y (subst (λ k. Reached k y) g f) in
            (stepped.exact y).1 (inr (
              q,
              s',
              inside,
              (
                v,
                occupied sizes 0 v + t.to,
                t.inside,
                c,
                (prepared.ends v (occupied sizes 0 v + t.to) t.inside).1 (t.to, some, small, refl, i),
                (finishing.exact q v s' inside t.inside).1 p,
              ),
              same,
            ))

    same_step : r ≡ next
    same_step = equal-members r next λ y. (λ m. there y ((stepped.exact y).0 m), back y)

pub rows_step : (states n a : ℕ) (follow enter sizes accepting table rows ended set laid r : List ℕ)
    → suc (occupied sizes 0 n) ≤ 128 → RowsPrepared n follow enter sizes accepting rows
    → RowsLaid (suc (occupied sizes 0 n)) states rows (number_of set) laid
    → RowsStepped (suc (occupied sizes 0 n)) states n a rows ended laid (number_of r) → Finishing states n accepting table ended
    → StepTold states n follow enter sizes accepting table a set r
rows_step states n a follow enter sizes accepting table rows ended set laid r few prepared rows-laid stepped finishing =
    record {
      told = λ proper label flags.
          same_step states n a follow enter sizes accepting table rows (number_of set) laid label few prepared rows-laid ended (number_of r)
          stepped finishing proper flags;
    }
