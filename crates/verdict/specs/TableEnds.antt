-- What is reached from one cover place without reading a label (`ends` of Cover), said with the entries of the tables (Tables): from a
-- state alone the states that lists with the empty path lead to, from an occurrence the state where its list may end.
use Rattle.std.specs.Prelude.{◌≡◌, ℕ, zero, suc, ◌+◌, ◌-◌, ◌*◌, ◌<◌, ◌≤◌, ◌⊎◌, List, length, slice_index, slice_index_or}
use Rattle.std.proofs.Common.{inl, inr, sym, ap₂, ◌∙◌}
use Rattle.std.specs.Prelude.{refl}
use Rattle.std.proofs.Math.Path.{ap, subst}
use native.Mathlib.Omega.{arith}
use Rattle.theory.specs.Places.{Member, member, one, when}
use Rattle.theory.specs.PlacesLaws.{member-none, member-one, member-test, member_union, member-when}
use Rattle.theory.specs.Closure.{Reaches, here, onward}
use Rattle.theory.specs.ClosureLaws.{closed-under, reaches_step}
use Rattle.theory.specs.Automaton.{Automaton}
use Rattle.finding.specs.Rewritten.{Rewritten}
use Rattle.verdict.specs.Cover.{width, passed, finished, ends}
use Rattle.verdict.specs.Tables.{automata_from, automata_of, occupied, rewritten, Counted}
use Rattle.verdict.specs.TablesLaws.{width-exactly}
use Rattle.verdict.specs.CoverSteps.{finished-here, finished-next, passed-next}
use Rattle.verdict.specs.CoverBounds.{ends-alone, ends-inside}
use Rattle.verdict.specs.CoverPlaces.{state-of, offset-of}
use Rattle.verdict.specs.Columns.{Passes}
use Rattle.verdict.specs.ColumnOffsets.{occupied-room}

-- The set of the place x where a set has the place i.

when-there : (i s x y : ℕ) → Member y (when (member i s) (one x)) → Member i s × (y ≡ x)
when-there i s x y h =
    let (t, k) = (member-when (member i s) y (one x)).0 h in
    ((member-test i s).0 t, (member-one y x).0 k)

when-back : (i s x : ℕ) → Member i s → Member x (when (member i s) (one x))
when-back i s x h = (member-when (member i s) x (one x)).1 ((member-test i s).1 h, (member-one x x).1 refl)

module _ (states n : ℕ) (follow enter sizes accepting table flags : List ℕ) (counted : Counted n sizes)
    (room : 64 * n + 64 ≤ length follow) where
  abbrev lists : ℕ → ℕ → List Automaton
  lists u m = automata_from follow enter sizes accepting u m

  abbrev R : Rewritten
  R = rewritten states table flags

  abbrev to : ℕ → ℕ → ℕ
  to q v = slice_index table (16 * q + v)

  -- The lists that are passed over, from the list u on.

  passed-there : (w u m q y : ℕ) → Member y (passed R w (lists u m) u q)
      → (v : ℕ) × (v < m) × Member 0 (slice_index accepting (u + v + 1)) × (y ≡ w * to q (u + v))
  unfolding passed automata_from
  passed-there w u zero q y h = absurd (member-none y h)
  passed-there w u (suc m) q y h =
      side (passed-there w (u + 1) m q y)
      ((member_union y (when (member 0 (slice_index accepting (u + 1))) (one (w * to q u))) (passed R w (lists (u + 1) m) (u + 1) q)).0
      (subst (Member y) (passed-next follow enter sizes accepting R w u m q) h))
    where
      side : (Member y (passed R w (lists (u + 1) m) (u + 1) q)
          → (v : ℕ) × (v < m) × Member 0 (slice_index accepting (u + 1 + v + 1)) × (y ≡ w * to q (u + 1 + v)))
          → Member y (when (member 0 (slice_index accepting (u + 1))) (one (w * to q u))) ⊎ Member y (passed R w (lists (u + 1) m) (u + 1) q)
          → (v : ℕ) × (v < suc m) × Member 0 (slice_index accepting (u + v + 1)) × (y ≡ w * to q (u + v))
      side later (inl k) =
          let (i, e) = when-there 0 (slice_index accepting (u + 1)) (w * to q u) y k in
          let same : u ≡ u + 0 = omega arith in
          (0, omega arith, subst (λ z. Member 0 (slice_index accepting (z + 1))) same i, e ∙ ap (λ z. w * to q z) same)
      side later (inr k) =
          let (v, l, i, e) = later k in
          let same : u + 1 + v ≡ u + suc v = omega arith in
          (suc v, omega arith, subst (λ z. Member 0 (slice_index accepting (z + 1))) same i, e ∙ ap (λ z. w * to q z) same)

  passed-back : (w u m q v : ℕ) → v < m → Member 0 (slice_index accepting (u + v + 1)) → Member (w * to q (u + v)) (passed R w (lists u m) u q)
  unfolding passed automata_from
  passed-back w u zero q v h k = absurd (omega arith)
  passed-back w u (suc m) q zero h k =
      let same : u + 0 ≡ u = omega arith in
      subst (λ z. Member (w * to q z) (passed R w (lists u (suc m)) u q)) (sym same)
      (subst (Member (w * to q u)) (sym (passed-next follow enter sizes accepting R w u m q))
      ((member_union (w * to q u) (when (member 0 (slice_index accepting (u + 1))) (one (w * to q u))) (passed R w (lists (u + 1) m) (u + 1) q)).1
      (inl (when-back 0 (slice_index accepting (u + 1)) (w * to q u) (subst (λ z. Member 0 (slice_index accepting (z + 1))) same k)))))
  passed-back w u (suc m) q (suc v) h k =
      let same : u + suc v ≡ u + 1 + v = omega arith in
      subst (λ z. Member (w * to q z) (passed R w (lists u (suc m)) u q)) (sym same)
      (subst (Member (w * to q (u + 1 + v))) (sym (passed-next follow enter sizes accepting R w u m q))
      ((member_union (w * to q (u + 1 + v)) (when (member 0 (slice_index accepting (u + 1))) (one (w * to q u)))
      (passed R w (lists (u + 1) m) (u + 1) q)).1
      (inr (passed-back w (u + 1) m q v (omega arith) (subst (λ z. Member 0 (slice_index accepting (z + 1))) same k)))))

  -- The list that ends, from the list u on.
  finished-at : (w u m q v x : ℕ) → u + m ≤ n → v < m → suc x ≤ slice_index sizes (u + v + 1)
      → finished R w (lists u m) u (occupied sizes u v + suc x) q
      ≡ when (member (suc x) (slice_index accepting (u + v + 1))) (one (w * to q (u + v)))
  unfolding occupied
  finished-at w u zero q v x h k l = absurd (omega arith)
  finished-at w u (suc m) q zero x h k l =
      let same : u + 0 ≡ u = omega arith in
      let first : 0 + suc x ≡ suc x = omega arith in
      let size : slice_index_or sizes (u + 0 + 1) 0 ≡ slice_index_or sizes (u + 1) 0 = ap (λ z. slice_index sizes (z + 1)) same in
      rw (first, same) (finished-here follow enter sizes accepting n counted room R w u m (suc x) q (omega arith) (omega arith))
  finished-at w u (suc m) q (suc v) x h k l =
      let size = slice_index_or sizes (u + 1) 0 in
      let same : u + 1 + v ≡ u + suc v = omega arith in
      let sized : slice_index_or sizes (u + 1 + v + 1) 0 ≡ slice_index_or sizes (u + suc v + 1) 0 = ap (λ z. slice_index sizes (z + 1)) same in
      let rest : size + occupied sizes (u + 1) v + suc x - size ≡ occupied sizes (u + 1) v + suc x = omega arith in
      finished-next follow enter sizes accepting n counted room R w u m (size + occupied sizes (u + 1) v + suc x) q (omega arith)
      (omega arith)
      ∙ ap (λ o. finished R w (lists (u + 1) m) (u + 1) o q) rest
      ∙ finished-at w (u + 1) m q v x (omega arith) (omega arith) (omega arith)
      ∙ ap (λ z. when (member (suc x) (slice_index accepting (z + 1))) (one (w * to q z))) same

  abbrev width_of : ℕ
  width_of = suc (occupied sizes 0 n)

  abbrev all : List Automaton
  all = automata_of follow enter sizes accepting n

  wide : width all ≡ width_of
  wide = width-exactly follow enter sizes accepting n counted room

  ends-at-alone : (q : ℕ) → ends R all (width_of * q) ≡ passed R width_of all 0 q
  ends-at-alone q =
      let none : width_of * q ≡ width_of * q + 0 = omega arith in
      ap (ends R all) none
      ∙ ends-alone R all width_of wide (width_of * q + 0) (offset-of width_of q 0 (omega arith))
      ∙ ap (passed R width_of all 0) (state-of width_of q 0 (omega arith))

  ends-at-occurrence : (q v p : ℕ) → v < n → 0 < p → p ≤ slice_index sizes (v + 1)
      → ends R all (width_of * q + (occupied sizes 0 v + p)) ≡ when (member p (slice_index accepting (v + 1))) (one (width_of * to q v))
  ends-at-occurrence q v zero h s k = absurd (omega arith)
  ends-at-occurrence q v (suc x) h s k =
      let o = occupied sizes 0 v + suc x in
      let low : o < width_of = omega (arith, occupied-room sizes v n h) in
      let first : 0 + v ≡ v = omega arith in
      let size : slice_index_or sizes (0 + v + 1) 0 ≡ slice_index_or sizes (v + 1) 0 = ap (λ z. slice_index sizes (z + 1)) first in
      ends-inside R all width_of wide (width_of * q + o) (λ e. omega (arith, offset-of width_of q o low))
      ∙ ap₂ (λ y z. finished R width_of all 0 y z) (offset-of width_of q o low) (state-of width_of q o low)
      ∙ finished-at width_of 0 n q v x (omega arith) h (omega arith)
      ∙ ap (λ z. when (member (suc x) (slice_index accepting (z + 1))) (one (width_of * to q z))) first

  -- The ends of a list at an occurrence.

  pub table-ends-there : (q v p y : ℕ) → v < n → 0 < p → p ≤ slice_index sizes (v + 1)
      → Member y (ends R all (width_of * q + (occupied sizes 0 v + p))) → Member p (slice_index accepting (v + 1)) × (y ≡ width_of * to q v)
  table-ends-there q v p y h s k m =
      when-there p (slice_index accepting (v + 1)) (width_of * to q v) y (subst (Member y) (ends-at-occurrence q v p h s k) m)

  pub table-ends-back : (q v p : ℕ) → v < n → 0 < p → p ≤ slice_index sizes (v + 1) → Member p (slice_index accepting (v + 1))
      → Member (width_of * to q v) (ends R all (width_of * q + (occupied sizes 0 v + p)))
  table-ends-back q v p h s k m =
      subst (Member (width_of * to q v)) (sym (ends-at-occurrence q v p h s k))
      (when-back p (slice_index accepting (v + 1)) (width_of * to q v) m)

  -- What is reached from a state alone are states alone, those that lists with the empty path lead to.

  abbrev Ends : ℕ → ℕ → Type 0
  Ends x y = Member y (ends R all x)

  passes-there : (q y : ℕ) → Ends (width_of * q) y → (t : ℕ) × (y ≡ width_of * t) × Passes n accepting table q t
  passes-there q y h =
      let (v, l, i, e) = passed-there width_of 0 n q y (subst (Member y) (ends-at-alone q) h) in
      let first : 0 + v ≡ v = omega arith in
      (to q v, e ∙ ap (λ z. width_of * to q z) first, (v, l, subst (λ z. Member 0 (slice_index accepting (z + 1))) first i, refl))

  passes-back : (q t : ℕ) → Passes n accepting table q t → Ends (width_of * q) (width_of * t)
  passes-back q t (v, l, i, e) =
      let first : v ≡ 0 + v = omega arith in
      let place : to q (0 + v) ≡ t = ap (to q) (sym first) ∙ sym e in
      subst (Member (width_of * t)) (sym (ends-at-alone q))
      (subst (λ z. Member (width_of * z) (passed R width_of all 0 q)) place
      (passed-back width_of 0 n q v l (subst (λ z. Member 0 (slice_index accepting (z + 1))) first i)))

  pub table-reached-there : (q y : ℕ) → Reaches Ends (width_of * q) y
      → (t : ℕ) × (y ≡ width_of * t) × Reaches (Passes n accepting table) q t
  table-reached-there q y r =
      closed-under {R = Ends} (λ z. (t : ℕ) × (z ≡ width_of * t) × Reaches (Passes n accepting table) q t) keep (q, refl, here) r
    where
      keep : (x y : ℕ) → (t : ℕ) × (x ≡ width_of * t) × Reaches (Passes n accepting table) q t → Ends x y
          → (t : ℕ) × (y ≡ width_of * t) × Reaches (Passes n accepting table) q t
      keep x y (t, e, s) h =
          let (u, f, p) = passes-there t y (subst (λ z. Ends z y) e h) in
          (u, f, reaches_step s p)

  pub table-reached-back : (q t : ℕ) → Reaches (Passes n accepting table) q t → Reaches Ends (width_of * q) (width_of * t)
  table-reached-back q t here = here
  table-reached-back q t (onward {y = u} p r) = onward (passes-back q u p) (table-reached-back u t r)
