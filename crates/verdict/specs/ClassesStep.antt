-- A step by classes (Classes) is the step of the cover set (Cover): the occurrences of a class have their column in common before it and after
-- it, since the same labels enter them and the same classes lead to them.
use Rattle.std.specs.Prelude.{◌≡◌, ℕ, zero, suc, ◌+◌, ◌*◌, ◌^◌, ◌<◌, ◌≤◌, List, slice_index}
use Rattle.std.specs.Prelude.{refl}
use Rattle.std.proofs.Common.{sym, ap, ◌∙◌, subst, arith}
use Rattle.std.proofs.Math.Decide.{ℕ_discrete}
use Rattle.theory.specs.Places.{Member}
use Rattle.theory.specs.Closure.{Reaches}
use Rattle.places.specs.Words.{number_of}
use Rattle.verdict.specs.Cover.{cover_step}
use Rattle.verdict.specs.Tables.{automata_of, occupied, rewritten, Proper}
use Rattle.verdict.specs.Columns.{offset_in, Passes}
use Rattle.verdict.specs.ColumnOffsets.{occurrence-at}
use Rattle.verdict.specs.ColumnsStep.{ColumnsStepped, same_step}
use Rattle.verdict.specs.Classes.{class_at, EndsAt, ClassesReady, ClassStepped}
use Rattle.verdict.specs.Turned.{Turned, Stacked}
use Rattle.verdict.specs.TurnedColumns.{column_in, member-column, columns-turned, set-turned}
use Rattle.verdict.specs.TurnedLaws.{turn, turn-made}

-- The offset of an occurrence.
pub offset_at : (sizes : List ℕ) (v p : ℕ) → 0 < p → offset_in sizes v p ≡ occupied sizes 0 v + p
offset_at sizes v zero h = absurd (omega arith)
offset_at sizes v (suc p) h = refl

module _ (states n labels a : ℕ) (follow enter sizes accepting table merged ended classes columns : List ℕ) (k : ℕ) (r : List ℕ)
    (ready : ClassesReady states n labels follow enter sizes accepting table k merged ended classes) (label : a < labels)
    (stepped : ClassStepped states a k merged ended columns (column_in states r)) where
  abbrev pub class_of : ℕ → ℕ
  class_of o = slice_index classes o

  class-below : (o : ℕ) → o < suc (occupied sizes 0 n) → class_of o < k
  class-below zero h = omega (arith, ready.stable.alone, ready.some-class)
  class-below (suc o) h =
      let (v, x, l, s, e) = occurrence-at sizes n (suc o) (omega arith) (omega arith) in
      subst (λ z. class_of z < k) (sym e) (ready.stable.inside v (suc x) l (omega arith) s).1

  class-at : (v p : ℕ) → 0 < p → class_at sizes classes v p ≡ class_of (occupied sizes 0 v + p)
  class-at v p h = ap class_of (offset_at sizes v p h)

  -- Where the class has no sums, no path of a list ends at it.
  sums-there : (c q t : ℕ) → 0 < c → c < k → q < states → EndsAt n sizes accepting table classes c q t → 0 < slice_index ended c
  sums-there c q t s l h e = side (ℕ_discrete (slice_index ended c) 0)
    where
      side : Dec (slice_index ended c ≡ 0) → 0 < slice_index ended c
      side (yes z) = absurd (ready.sums.none c q t s l z h e)
      side (no d) = omega arith

  stepped-by-classes : ColumnsStepped n a follow enter sizes accepting table (λ o. slice_index columns (class_of o)) (λ o. column_in states r (class_of o))
  stepped-by-classes =
      record {
        moved = λ v p q h s l. (there v p q h s l, back v p q h s l);
        alone = λ t. (alone-there t, alone-back t);
        no_start = ready.leading.no_start;
      }
    where
      small : (v p : ℕ) → v < n → p ≤ slice_index sizes (v + 1) → p ≤ 63
      small v p h l = omega (arith, ready.ready.counted.small v h)

      there : (v p q : ℕ) → v < n → 0 < p → p ≤ slice_index sizes (v + 1) → Member q (column_in states r (class_of (occupied sizes 0 v + p)))
          → Member p (slice_index enter (32 * (v + 1) + a))
          × ((o : ℕ) × (o ≤ slice_index sizes (v + 1)) × Member p (slice_index follow (64 * (v + 1) + o))
          × Member q (slice_index columns (class_of (offset_in sizes v o))))
      there v p q h s l m =
          let (i, j) = ready.stable.inside v p h s l in
          let (b, (d, e, g)) =
          (stepped.moved (class_at sizes classes v p) q i j).0 (subst (λ z. Member q (column_in states r z)) (sym (class-at v p s)) m) in
          let (o, x, y) = (ready.stable.led v p d h s l).0 e in
          let low = ready.leading.within v o p h (small v p h l) x in (
            (ready.stable.entered v p a h s l label).0 b,
            (
              o,
              low,
              (ready.leading.exact v o p h low (small v p h l)).0 x,
              subst (λ z. Member q (slice_index columns z)) (sym y) g,
            ),
          )

      back : (v p q : ℕ) → v < n → 0 < p → p ≤ slice_index sizes (v + 1)
          → Member p (slice_index enter (32 * (v + 1) + a))
          × ((o : ℕ) × (o ≤ slice_index sizes (v + 1)) × Member p (slice_index follow (64 * (v + 1) + o))
          × Member q (slice_index columns (class_of (offset_in sizes v o))))
          → Member q (column_in states r (class_of (occupied sizes 0 v + p)))
      back v p q h s l (b, (o, low, f, g)) =
          let (i, j) = ready.stable.inside v p h s l in
          subst (λ z. Member q (column_in states r z)) (class-at v p s)
          ((stepped.moved (class_at sizes classes v p) q i j).1 (
            (ready.stable.entered v p a h s l label).1 b,
            (
              class_of (offset_in sizes v o),
              (ready.stable.led v p (class_of (offset_in sizes v o)) h s l).1
                  (o, (ready.leading.exact v o p h low (small v p h l)).1 f, refl),
              g,
            ),
          ))

      alone-there : (t : ℕ) → Member t (column_in states r (class_of 0))
          → (v : ℕ) × (p : ℕ) × (q : ℕ) × (v < n) × (0 < p) × (p ≤ slice_index sizes (v + 1)) × Member p (slice_index accepting (v + 1))
          × Member q (column_in states r (class_of (occupied sizes 0 v + p)))
          × Reaches (Passes n accepting table) (slice_index table (16 * q + v)) t
      alone-there t m =
          let (c, q, i, j, e, g, x) =
          (stepped.alone ready.sums.word ready.sums.summed t).0
          (subst (λ z. Member t (column_in states r z)) ready.stable.alone m) in
          let (v, p, h, s, l, b, y, f) = (ready.sums.ends c q t i j e ((member-column states r c q).0 g).0).0 x in
          (v, p, q, h, s, l, b, subst (λ z. Member q (column_in states r z)) (sym y ∙ class-at v p s) g, f)

      alone-back : (t : ℕ)
          → (v : ℕ) × (p : ℕ) × (q : ℕ) × (v < n) × (0 < p) × (p ≤ slice_index sizes (v + 1)) × Member p (slice_index accepting (v + 1))
          × Member q (column_in states r (class_of (occupied sizes 0 v + p)))
          × Reaches (Passes n accepting table) (slice_index table (16 * q + v)) t
          → Member t (column_in states r (class_of 0))
      alone-back t (v, p, q, h, s, l, b, g, f) =
          let c = class_at sizes classes v p in
          let (i, j) = ready.stable.inside v p h s l in
          let g' : Member q (column_in states r c) = subst (λ z. Member q (column_in states r z)) (sym (class-at v p s)) g in
          let inside : q < states = ((member-column states r c q).0 g').0 in
          let ends : EndsAt n sizes accepting table classes c q t = (v, p, h, s, l, b, refl, f) in
          let some = sums-there c q t i j inside ends in
          subst (λ z. Member t (column_in states r z)) (sym ready.stable.alone)
          ((stepped.alone ready.sums.word ready.sums.summed t).1
          (c, q, i, j, some, g', (ready.sums.ends c q t i j some inside).1 ends))

pub classes-step : (states n labels a : ℕ) (follow enter sizes accepting table merged ended classes columns : List ℕ) (k : ℕ) (set r : List ℕ)
    → ClassesReady states n labels follow enter sizes accepting table k merged ended classes
    → Proper states n follow enter sizes accepting table → a < 32 → a < labels → Stacked k states columns (number_of set)
    → ClassStepped states a k merged ended columns (column_in states r) → number_of r < 2 ^ (states * k) → (flags : List ℕ) (C : ℕ)
    → Turned (suc (occupied sizes 0 n)) k (λ o. slice_index classes o) states C (number_of set)
    → Turned (suc (occupied sizes 0 n)) k (λ o. slice_index classes o) states
    (cover_step (rewritten states table flags) (automata_of follow enter sizes accepting n) C a) (number_of r)
classes-step states n labels a follow enter sizes accepting table merged ended classes columns k set r ready proper h label of stepped below flags C t =
    subst (λ z. Turned w k f states z (number_of r)) same made
  where
    w : ℕ
    w = suc (occupied sizes 0 n)

    f : ℕ → ℕ
    f o = slice_index classes o

    made : Turned w k f states (turn w f states (number_of r)) (number_of r)
    made = turn-made w k f states (number_of r) (omega arith) t.alone t.onto below

    same : turn w f states (number_of r) ≡ cover_step (rewritten states table flags) (automata_of follow enter sizes accepting n) C a
    same =
        same_step states n a follow enter sizes accepting table flags proper h (λ o. slice_index columns (f o)) C (λ o. column_in states r (f o))
        (turn w f states (number_of r))
        (columns-turned w k states f C (number_of set) columns
        (class-below states n labels a follow enter sizes accepting table merged ended classes columns k r ready label stepped) t of)
        (stepped-by-classes states n labels a follow enter sizes accepting table merged ended classes columns k r ready label stepped)
        (set-turned w k states f (turn w f states (number_of r)) r made)
