-- The first cover set, of the empty path (Cover): it has states alone, those that lists with the empty path lead to from the first. So where
-- sets stand turned, with a column for the states alone, it is the set of these states.
use Rattle.std.specs.Prelude.{◌≡◌, ℕ, suc, ◌+◌, ◌*◌, ◌^◌, ◌<◌, ◌≤◌, Bool, true, false, ◌↔◌, List, length, slice_index}
use Rattle.std.specs.Prelude.{refl}
use Rattle.std.proofs.Common.{sym, ap, ◌∙◌, mul_comm, mul-zero}
use Rattle.std.proofs.Math.Path.{subst}
use Rattle.std.proofs.Math.Decide.{ℕ_discrete, dec_lt}
use native.Mathlib.Omega.{arith}
use Rattle.theory.specs.Places.{Member, one}
use Rattle.theory.specs.PlacesLaws.{member-one, members-below, one_below}
use Rattle.theory.specs.Closure.{Reaches}
use Rattle.theory.specs.ClosureLaws.{closed-under, closure-below, closure-exactly}
use Rattle.theory.specs.Automaton.{Automaton}
use Rattle.places.specs.Words.{number_of}
use Rattle.finding.specs.Rewritten.{Rewritten}
use Rattle.verdict.specs.Cover.{places, ends, settled, cover_start}
use Rattle.verdict.specs.Tables.{automata_of, occupied, rewritten, Counted, Proper}
use Rattle.verdict.specs.CoverBounds.{ends-below}
use Rattle.verdict.specs.CoverPlaces.{split_below, split-unique}
use Rattle.verdict.specs.CoverStepped.{places-ready}
use Rattle.verdict.specs.CoverTold.{StartTold, StartStands}
use Rattle.verdict.specs.Coded.{Layout, turned, layout_of}
use Rattle.verdict.specs.CodedLaws.{layout-plain, layout-apart, layout-classed}
use Rattle.verdict.specs.Columns.{Passes}
use Rattle.verdict.specs.Prepared.{FirstReached, WayReady}
use Rattle.verdict.specs.NextCover.{start_plain, classes-onto, classes-apart}
use Rattle.verdict.specs.TableEnds.{table-reached-there, table-reached-back}
use Rattle.verdict.specs.Turned.{Onto, Turned}
use Rattle.verdict.specs.TurnedLaws.{onto_same}

module _ (states n : ℕ) (follow enter sizes accepting table flags : List ℕ) (proper : Proper states n follow enter sizes accepting table) where
  abbrev w : ℕ
  w = suc (occupied sizes 0 n)

  abbrev R : Rewritten
  R = rewritten states table flags

  abbrev lists : List Automaton
  lists = automata_of follow enter sizes accepting n

  counted : Counted n sizes
  counted = proper.ready.counted

  room : 64 * n + 64 ≤ length follow
  room = proper.ready.follow-room

  count : places R lists ≡ states * w
  count = places-ready states n follow enter sizes accepting table w proper.ready flags

  ends-within : (p : ℕ) → p < places R lists → ends R lists p < 2 ^ places R lists
  ends-within = ends-below follow enter sizes accepting n counted room R proper.next

  first-within : one 0 < 2 ^ places R lists
  first-within = one_below _ 0 (omega (arith, count, split_below w states 0 0 (omega arith) proper.some-state))

  start-below : cover_start R lists < 2 ^ (states * w)
  unfolding cover_start settled
  start-below =
      subst (λ z. cover_start R lists < 2 ^ z) count (closure-below (ends R lists) _ _ (one 0) first-within ends-within)

  start-exactly : (y : ℕ) → Member y (cover_start R lists) ↔ Reaches (λ x z. Member z (ends R lists x)) (w * 0) y
  unfolding cover_start settled
  start-exactly y = (
    λ m.
        let (x, i, r) = (closure-exactly (ends R lists) _ (one 0) first-within ends-within y).0 m in
        let first : x ≡ w * 0 = (member-one x 0).0 i ∙ omega arith in
        subst (λ z. Reaches (λ x z. Member z (ends R lists x)) z y) first r,
    λ r.
        let first : w * 0 ≡ 0 = omega arith in
        (closure-exactly (ends R lists) _ (one 0) first-within ends-within y).1
        (w * 0, (member-one (w * 0) 0).1 first, r),
  )

  -- Only states are reached from the first.
  reached-below : {t : ℕ} → Reaches (Passes n accepting table) 0 t → t < states
  reached-below r =
      closed-under (λ z. z < states) (λ q t h (v, k, i, e). subst (λ z. z < states) (sym e) (proper.next q v h k)) proper.some-state r

  -- Where the states alone have their own column, the first of k.
  module _ (k : ℕ) (f : ℕ → ℕ) (column : 0 < k) (onto : Onto w k f) (alone : f 0 ≡ 0) (apart : (o : ℕ) → 0 < o → o < w → 0 < f o) where
    turned-start : (first : List ℕ) → FirstReached n accepting table first → Turned w k f states (cover_start R lists) (number_of first)
    turned-start first g =
        record {
          exact = λ q o h b. (there q o h b, back q o h b (ℕ_discrete o 0));
          below = start-below;
          turned-below = members-below (states * k) (number_of first) λ i m.
              omega (arith, mul_comm states k, split_below states k 0 i (reached-below ((g.exact i).0 m)) column);
          onto = onto;
          alone = alone;
        }
      where
        there : (q o : ℕ) → q < states → o < w → Member (w * q + o) (cover_start R lists) → Member (states * f o + q) (number_of first)
        there q o h b m =
            let (t, e, r) = table-reached-there states n follow enter sizes accepting table flags counted room 0 (w * q + o)
            ((start-exactly (w * q + o)).0 m) in
            let (state, start) = split-unique w q t o 0 b (omega arith) (e ∙ omega arith) in
            let none : states * f o ≡ 0 = ap (λ z. states * z) (ap f start ∙ alone) ∙ mul-zero states in
            let same : t ≡ states * f o + q = omega arith in
            subst (λ z. Member z (number_of first)) same ((g.exact t).1 r)

        back : (q o : ℕ) → q < states → o < w → Dec (o ≡ 0) → Member (states * f o + q) (number_of first) → Member (w * q + o) (cover_start R lists)
        back q o h b (yes start) m =
            let none : states * f o ≡ 0 = ap (λ z. states * z) (ap f start ∙ alone) ∙ mul-zero states in
            let state : states * f o + q ≡ q = omega arith in
            let same : w * q ≡ w * q + o = omega arith in
            subst (λ z. Member z (cover_start R lists)) same
            ((start-exactly (w * q)).1
            (table-reached-back states n follow enter sizes accepting table flags counted room 0 q
            (subst (λ z. Reaches (Passes n accepting table) 0 z) state ((g.exact (states * f o + q)).0 m))))
        back q o h b (no d) m =
            let r = reached-below ((g.exact (states * f o + q)).0 m) in
            let (none, state) = split-unique states (f o) 0 q (states * f o + q) h r (omega (arith, mul-zero states)) in
            absurd (omega (arith, apart o (omega arith) b))

-- r is the set of the states reached, at least where these are below the number of places: of proper tables they are.
pub first-stands : {states n : ℕ} {follow enter sizes accepting table : List ℕ} (k : ℕ) (f : ℕ → ℕ) → 0 < k
    → Onto (suc (occupied sizes 0 n)) k f → f 0 ≡ 0 → ((o : ℕ) → 0 < o → o < suc (occupied sizes 0 n) → 0 < f o)
    → (first r : List ℕ) → FirstReached n accepting table first → (number_of first < 2 ^ (states * k) → number_of r ≡ number_of first)
    → StartStands (turned (suc (occupied sizes 0 n)) k f) states n follow enter sizes accepting table r
first-stands {states} {n} {follow} {enter} {sizes} {accepting} {table} k f column onto alone apart first r g same =
    record {
      told = λ proper flags.
          let t = turned-start states n follow enter sizes accepting table flags proper k f column onto alone apart first g in
          subst (Turned (suc (occupied sizes 0 n)) k f states _) (sym (same t.turned-below)) t;
    }

-- The first set as it stands, whichever way steps go.
pub start-stands : {states n labels : ℕ} {follow enter sizes accepting table : List ℕ} {w : ℕ} {by : Bool} {before ended classes : List ℕ}
    → WayReady states n labels follow enter sizes accepting table w by before ended classes → (first r : List ℕ)
    → (0 < w → FirstReached n accepting table first) → (w ≡ 0 → StartTold states n follow enter sizes accepting table r)
    → (0 < w → number_of first < 2 ^ (states * w) → number_of r ≡ number_of first)
    → StartStands (layout_of (suc (occupied sizes 0 n)) w by classes) states n follow enter sizes accepting table r
start-stands {states} {n} {labels} {follow} {enter} {sizes} {accepting} {table} {w} {by} {before} {ended} {classes} ready first r reached plainly same =
    go (dec_lt 0 w) by refl
  where
    Stands : Layout → Type 0
    Stands L = StartStands L states n follow enter sizes accepting table r

    go : Dec (0 < w) → (b : Bool) → by ≡ b → Stands (layout_of (suc (occupied sizes 0 n)) w by classes)
    go (no z) b e = subst Stands (sym (layout-plain _ w by classes (omega arith))) (start_plain (plainly (omega arith)))
    go (yes h) false e =
        let wide : w ≡ suc (occupied sizes 0 n) = (ready.apart h e).ready.wide in
        subst Stands (sym (layout-apart _ w by classes h e))
        (first-stands w (λ o. o) h (subst (λ z. Onto (suc (occupied sizes 0 n)) z (λ o. o)) (sym wide) (onto_same _)) refl (λ o some small. some)
        first r (reached h) (same h))
    go (yes h) true e =
        let c = (ready.classed h e).stable in
        subst Stands (sym (layout-classed _ w by classes h e))
        (first-stands w (λ o. slice_index classes o) h (classes-onto c) c.alone (classes-apart c) first r (reached h) (same h))
