-- A step by columns is the step of the cover set (Cover), whether each offset has a column of its own (Columns) or shares one (Classes): the
-- columns hold the places that the label leads to, and the states alone that are reached from them.
use Rattle.std.specs.Prelude.{◌≡◌, ℕ, zero, suc, ◌+◌, ◌*◌, ◌/◌, ◌%◌, ◌<◌, ◌≤◌, ◌⊎◌, ◌↔◌, List, length, slice_index}
use Rattle.std.proofs.Common.{inl, inr, sym, ◌∙◌, subst, mod-lt, arith}
use Rattle.std.specs.Prelude.{refl}
use Rattle.std.proofs.Math.Decide.{ℕ_discrete}
use Rattle.std.proofs.Math.Nat.{div-add-mod}
use Rattle.theory.specs.Places.{Member, union_over}
use Rattle.theory.specs.PlacesLaws.{member_below, member-union_over, union_over-below, equal-members}
use Rattle.theory.specs.Closure.{Reaches, here, onward, closure}
use Rattle.theory.specs.ClosureLaws.{closure-exactly}
use Rattle.theory.specs.Automaton.{Automaton}
use Rattle.finding.specs.Rewritten.{Rewritten}
use Rattle.verdict.specs.Cover.{places, moves, ends, settled, cover_step}
use Rattle.verdict.specs.Tables.{automata_of, occupied, rewritten, Counted, Proper}
use Rattle.verdict.specs.CoverBounds.{moves-below, ends-below, state-of-place}
use Rattle.verdict.specs.CoverPlaces.{split_below, state-below}
use Rattle.verdict.specs.CoverStepped.{places-ready}
use Rattle.verdict.specs.Columns.{offset_in, ColumnsOf, SetOf, Passes, Leading, Finishing, Stepped}
use Rattle.verdict.specs.ColumnOffsets.{occupied-room, offset-below, occurrence-at}
use Rattle.verdict.specs.TableMoves.{TableMove, table-moves-there, table-moves-back}
use Rattle.verdict.specs.TableEnds.{table-ends-there, table-ends-back, table-reached-there, table-reached-back}

-- What any step over the label a does to columns, said with the automata alone: an occurrence has the states of the places that lead to it,
-- and the states alone are those that are reached where paths of lists end.
pub record ColumnsStepped (n a : ℕ) (follow enter sizes accepting table : List ℕ) (column next : ℕ → ℕ) : Type 0 where
  pub moved : (v p q : ℕ) → v < n → 0 < p → p ≤ slice_index sizes (v + 1)
      → Member q (next (occupied sizes 0 v + p))
      ↔ (Member p (slice_index enter (32 * (v + 1) + a))
      × ((o : ℕ) × (o ≤ slice_index sizes (v + 1)) × Member p (slice_index follow (64 * (v + 1) + o)) × Member q (column (offset_in sizes v o))))
  pub alone : (t : ℕ) → Member t (next 0)
      ↔ ((v : ℕ) × (p : ℕ) × (q : ℕ) × (v < n) × (0 < p) × (p ≤ slice_index sizes (v + 1)) × Member p (slice_index accepting (v + 1))
      × Member q (next (occupied sizes 0 v + p)) × Reaches (Passes n accepting table) (slice_index table (16 * q + v)) t)
  pub no_start : (v o : ℕ) → v < n → o ≤ slice_index sizes (v + 1) → ¬ Member 0 (slice_index follow (64 * (v + 1) + o))

-- The first of some steps, if there is one.
pub first_step : {A : Type 0} {R : A → A → Type 0} {x z : A} → Reaches R x z → (x ≡ z) ⊎ ((y : A) × R x y × Reaches R y z)
first_step here = inl refl
first_step (onward {y = y} r p) = inr (y, r, p)

module _ (states n a : ℕ) (follow enter sizes accepting table flags : List ℕ) (proper : Proper states n follow enter sizes accepting table)
    (label : a < 32) where
  abbrev pub w : ℕ
  w = suc (occupied sizes 0 n)

  abbrev pub R : Rewritten
  R = rewritten states table flags

  abbrev pub lists : List Automaton
  lists = automata_of follow enter sizes accepting n

  abbrev pub Ends : ℕ → ℕ → Type 0
  Ends x y = Member y (ends R lists x)

  counted : Counted n sizes
  counted = proper.ready.counted

  room : 64 * n + 64 ≤ length follow
  room = proper.ready.follow-room

  count : places R lists ≡ states * w
  count = places-ready states n follow enter sizes accepting table w proper.ready flags

  -- What the step of a set has: the places reached from those that its places lead to.
  pub step-exactly : (s y : ℕ) → Member y (cover_step R lists s a)
      ↔ ((x : ℕ) × (z : ℕ) × (x < states * w) × Member x s × TableMove n a follow enter sizes x z × Reaches Ends z y)
  unfolding cover_step settled
  step-exactly s y = (there, back)
    where
      moved : ℕ
      moved = union_over (moves lists a) (places R lists) s

      exactly : Member y (closure (ends R lists) (places R lists) (places R lists) moved) ↔ ((z : ℕ) × Member z moved × Reaches Ends z y)
      exactly =
          closure-exactly (ends R lists) (places R lists) moved
          (union_over-below (moves lists a) (places R lists) (places R lists) s
          (λ x k. moves-below follow enter sizes accepting n counted room proper.sets R a x label k))
          (ends-below follow enter sizes accepting n counted room R proper.next) y

      there : Member y (closure (ends R lists) (places R lists) (places R lists) moved)
          → (x : ℕ) × (z : ℕ) × (x < states * w) × Member x s × TableMove n a follow enter sizes x z × Reaches Ends z y
      there m =
          let (z, i, r) = exactly.0 m in
          let (x, l, j, k) = (member-union_over (moves lists a) (places R lists) s z).0 i in (
            x,
            z,
            subst (λ c. x < c) count l,
            j,
            table-moves-there n a follow enter sizes accepting counted room label x z k,
            r,
          )

      back : (x : ℕ) × (z : ℕ) × (x < states * w) × Member x s × TableMove n a follow enter sizes x z × Reaches Ends z y
          → Member y (closure (ends R lists) (places R lists) (places R lists) moved)
      back (x, z, l, j, t, r) =
          exactly.1 (
            z,
            (member-union_over (moves lists a) (places R lists) s z).1 (
              x,
              subst (λ c. x < c) (sym count) l,
              j,
              table-moves-back n a follow enter sizes accepting counted room label x z t,
            ),
            r,
          )

  module _ (column : ℕ → ℕ) (C : ℕ) (next : ℕ → ℕ) (D : ℕ) (of : ColumnsOf w states C column)
      (stepped : ColumnsStepped n a follow enter sizes accepting table column next) (set-of : SetOf w states next D) where
    -- A state in the column of an occurrence: a place of the set leads there.
    moved-from : (v p q : ℕ) → v < n → 0 < p → p ≤ slice_index sizes (v + 1) → Member q (next (occupied sizes 0 v + p))
        → (q < states) × ((x : ℕ) × (x < states * w) × Member x C
        × TableMove n a follow enter sizes x (w * q + (occupied sizes 0 v + p)))
    moved-from v p q h s k m =
        let (i, (o, l, j, c)) = (stepped.moved v p q h s k).0 m in
        let low : offset_in sizes v o < w = offset-below sizes v o n h l in
        let inside : q < states = of.within q (offset_in sizes v o) low c in (
          inside,
          (
            w * q + offset_in sizes v o,
            split_below w states q (offset_in sizes v o) low inside,
            (of.exact q (offset_in sizes v o) inside low).0 c,
            record {
              state = q;
              list = v;
              from = o;
              to = p;
              inside = h;
              within = l;
              starts = refl;
              stops = refl;
              follows = j;
              enters = i;
            },
          ),
        )

    -- Every place of the stepped columns is one of the step.
    column-there : (q o : ℕ) → q < states → o < w → Member q (next o) → Member (w * q + o) (cover_step R lists C a)
    column-there q zero h k m =
        let (v, p, r, l, s, i, c, j, d) = (stepped.alone q).0 m in
        let (inside, (x, b, e, t)) = moved-from v p r l s i j in
        let z = w * r + (occupied sizes 0 v + p) in
        let ends-here = table-ends-back states n follow enter sizes accepting table flags counted room r v p l s i c in
        let onwards = table-reached-back states n follow enter sizes accepting table flags counted room
        (slice_index table (16 * r + v)) q d in
        let same : w * q ≡ w * q + 0 = omega arith in
        subst (λ y. Member y (cover_step R lists C a)) same
        ((step-exactly C (w * q)).1 (x, z, b, e, t, onward ends-here onwards))
    column-there q (suc o) h k m =
        let (v, i, l, s, e) = occurrence-at sizes n (suc o) (omega arith) (omega arith) in
        let (inside, (x, b, j, t)) = moved-from v (suc i) q l (omega arith) s (subst (λ y. Member q (next y)) e m) in
        subst (λ y. Member (w * q + y) (cover_step R lists C a)) (sym e)
        ((step-exactly C (w * q + (occupied sizes 0 v + suc i))).1 (x, w * q + (occupied sizes 0 v + suc i), b, j, t, here))

    -- A place that the label leads to is in its column, and so are the states alone that are reached from it.

    move-column : (x z : ℕ) → x < states * w → Member x C → (t : TableMove n a follow enter sizes x z)
        → (t.state < states) × (0 < t.to) × (t.to ≤ slice_index sizes (t.list + 1))
        × Member t.state (next (occupied sizes 0 t.list + t.to))
    move-column x z l m t =
        let v = t.list in
        let low : offset_in sizes v t.from < w = offset-below sizes v t.from n t.inside t.within in
        let inside : t.state < states =
        state-below w states t.state (offset_in sizes v t.from) (subst (λ y. y < states * w) t.starts l) in
        let small : t.to < suc (slice_index sizes (v + 1)) =
        member_below (suc (slice_index sizes (v + 1))) (slice_index follow (64 * (v + 1) + t.from)) t.to
        (proper.sets v t.from t.inside t.within) t.follows in
        let some : 0 < t.to = not_start (ℕ_discrete t.to 0) in (
          inside,
          some,
          omega arith,
          (stepped.moved v t.to t.state t.inside some (omega arith)).1 (
            t.enters,
            (
              t.from,
              t.within,
              t.follows,
              (of.exact t.state (offset_in sizes v t.from) inside low).1 (subst (λ y. Member y C) t.starts m),
            ),
          ),
        )
      where
        not_start : Dec (t.to ≡ 0) → 0 < t.to
        not_start (yes e) =
            absurd (stepped.no_start t.list t.from t.inside t.within
            (subst (λ y. Member y (slice_index follow (64 * (t.list + 1) + t.from))) e t.follows))
        not_start (no d) = omega arith

    reached-column : (x z y : ℕ) → x < states * w → Member x C → TableMove n a follow enter sizes x z → Reaches Ends z y
        → Member y D
    reached-column x z y l m t r = go (first_step r)
      where
        q : ℕ
        q = t.state

        v : ℕ
        v = t.list

        place : ℕ
        place = occupied sizes 0 v + t.to

        held : (q < states) × (0 < t.to) × (t.to ≤ slice_index sizes (v + 1)) × Member q (next place)
        held = move-column x z l m t

        go : (z ≡ y) ⊎ ((u : ℕ) × Ends z u × Reaches Ends u y) → Member y D
        go (inl e) =
            let (inside, some, small, c) = held in
            subst (λ u. Member u D) (sym t.stops ∙ e)
            ((set-of.exact q place inside (omega (arith, occupied-room sizes v n t.inside))).0 c)
        go (inr (u, e, f)) =
            let (inside, some, small, c) = held in
            let (i, g) = table-ends-there states n follow enter sizes accepting table flags counted room q v t.to u
            t.inside some small (subst (λ k. Ends k u) t.stops e) in
            let (s, k, p) = table-reached-there states n follow enter sizes accepting table flags counted room
            (slice_index table (16 * q + v)) y (subst (λ k. Reaches Ends k y) g f) in
            let alone : Member s (next 0) =
            (stepped.alone s).1 (v, t.to, q, t.inside, some, small, i, c, p) in
            let state : s < states = set-of.within s 0 (omega arith) alone in
            let same : w * s + 0 ≡ y = omega arith in
            subst (λ u. Member u D) same ((set-of.exact s 0 state (omega arith)).0 alone)

    pub same_step : D ≡ cover_step R lists C a
    same_step = equal-members D (cover_step R lists C a) λ y. (there y, back y)
      where
        there : (y : ℕ) → Member y D → Member y (cover_step R lists C a)
        there y m =
            let l : y < states * w = member_below (states * w) D y set-of.below m in
            let q : y / w < states = state-of-place w states y (omega arith) l in
            let o : y % w < w = mod-lt y (omega arith) in
            let parts : w * (y / w) + y % w ≡ y = div-add-mod y w in
            subst (λ z. Member z (cover_step R lists C a)) parts
            (column-there (y / w) (y % w) q o
            ((set-of.exact (y / w) (y % w) q o).1 (subst (λ z. Member z D) (sym parts) m)))

        back : (y : ℕ) → Member y (cover_step R lists C a) → Member y D
        back y m =
            let (x, z, l, i, t, r) = (step-exactly C y).0 m in
            reached-column x z y l i t r

-- The step by the places that lead to each occurrence (Leading) and by what is reached where lists end (Finishing).
stepped-by-columns : (states n a : ℕ) (follow enter sizes accepting table before ended columns : List ℕ) (next : ℕ → ℕ) (D : ℕ) → Counted n sizes
    → Leading n follow sizes before → Finishing states n accepting table ended → Stepped n a enter sizes accepting before ended columns next
    → SetOf (suc (occupied sizes 0 n)) states next D
    → ColumnsStepped n a follow enter sizes accepting table (λ o. slice_index columns o) next
stepped-by-columns states n a follow enter sizes accepting table before ended columns next D counted leading finishing stepped set-of =
    record {
      moved = λ v p q h s k.
          let low : p ≤ 63 = omega (arith, counted.small v h) in (
            λ m.
                let (i, (o, j, c)) = (stepped.moved v p q h s k).0 m in
                let l = leading.within v o p h low j in
                (i, (o, l, (leading.exact v o p h l low).0 j, c)),
            λ (i, (o, l, j, c)). (stepped.moved v p q h s k).1 (i, (o, (leading.exact v o p h l low).1 j, c)),
          );
      alone = λ t. (
        λ m.
            let (v, p, q, h, s, k, i, c, e) = (stepped.alone t).0 m in
            (v, p, q, h, s, k, i, c, (finishing.exact q v t (inside v p q h k c) h).0 e),
        λ (v, p, q, h, s, k, i, c, e). (stepped.alone t).1 (v, p, q, h, s, k, i, c, (finishing.exact q v t (inside v p q h k c) h).1 e),
      );
      no_start = leading.no_start;
    }
  where
    inside : (v p q : ℕ) → v < n → p ≤ slice_index sizes (v + 1) → Member q (next (occupied sizes 0 v + p)) → q < states
    inside v p q h k c = set-of.within q (occupied sizes 0 v + p) (omega (arith, occupied-room sizes v n h)) c

pub columns-step : (states n a : ℕ) (follow enter sizes accepting table before ended columns : List ℕ) (C : ℕ) (next : ℕ → ℕ) (D : ℕ)
    → Proper states n follow enter sizes accepting table → a < 32 → Leading n follow sizes before → Finishing states n accepting table ended
    → ColumnsOf (suc (occupied sizes 0 n)) states C (λ o. slice_index columns o) → Stepped n a enter sizes accepting before ended columns next
    → SetOf (suc (occupied sizes 0 n)) states next D → (flags : List ℕ)
    → D ≡ cover_step (rewritten states table flags) (automata_of follow enter sizes accepting n) C a
columns-step states n a follow enter sizes accepting table before ended columns C next D proper h leading finishing of s t flags =
    same_step states n a follow enter sizes accepting table flags proper h (λ o. slice_index columns o) C next D
    of
    (stepped-by-columns states n a follow enter sizes accepting table before ended columns next D proper.ready.counted leading finishing s t)
    t
