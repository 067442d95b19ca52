-- The step of one cover place over a label (`moves` of Cover), said with the entries of the tables (Tables): from a place of a list to
-- those places that follow it and that the label enters.
use Rattle.std.specs.Prelude.{◌≡◌, ℕ, zero, suc, ◌+◌, ◌-◌, ◌*◌, ◌/◌, ◌%◌, ◌^◌, ◌<◌, ◌≤◌, ◌⊎◌, List, [], length, slice_index, slice_index_or}
use Rattle.std.proofs.Common.{inl, inr, sym, ◌∙◌, mod-lt}
use Rattle.std.specs.Prelude.{refl}
use Rattle.std.proofs.Math.Path.{ap, ap₂, subst}
use Rattle.std.proofs.Math.Decide.{ℕ_discrete}
use Rattle.std.proofs.Math.Nat.{div-add-mod}
use native.Mathlib.Omega.{arith}
use Rattle.theory.specs.Places.{Member}
use Rattle.theory.specs.PlacesLaws.{member-none, member_union, member-intersection}
use Rattle.theory.specs.PlacesShift.{member-moved}
use Rattle.theory.specs.Automaton.{Automaton}
use Rattle.verdict.specs.Cover.{width, entered, moved_within, moves}
use Rattle.verdict.specs.Tables.{automata_from, automata_of, occupied, rewritten, Counted}
use Rattle.verdict.specs.TablesLaws.{width-exactly}
use Rattle.verdict.specs.CoverSteps.{step_at, entered-next, moved_here, moved-next}
use Rattle.verdict.specs.CoverBounds.{moves-alone, moves-inside}
use Rattle.verdict.specs.CoverPlaces.{state-of, offset-of}
use Rattle.verdict.specs.Columns.{offset_in}
use Rattle.verdict.specs.ColumnOffsets.{occupied-room, occurrence-at}

-- `TableMove n a follow enter sizes x y`: the label a leads from the place x to the place y, which are a place and an occurrence of one
-- list with one state.
pub record TableMove (n a : ℕ) (follow enter sizes : List ℕ) (x y : ℕ) : Type 0 where
  pub state : ℕ
  pub list : ℕ
  pub from : ℕ
  pub to : ℕ
  pub inside : list < n
  pub within : from ≤ slice_index sizes (list + 1)
  pub starts : x ≡ suc (occupied sizes 0 n) * state + offset_in sizes list from
  pub stops : y ≡ suc (occupied sizes 0 n) * state + (occupied sizes 0 list + to)
  pub follows : Member to (slice_index follow (64 * (list + 1) + from))
  pub enters : Member to (slice_index enter (32 * (list + 1) + a))

module _ (n a : ℕ) (follow enter sizes accepting : List ℕ) (counted : Counted n sizes)
    (room : 64 * n + 64 ≤ length follow) (label : a < 32) where
  abbrev lists : ℕ → ℕ → List Automaton
  lists u m = automata_from follow enter sizes accepting u m

  -- What a label enters, from the list u on.

  entered-there : (u m base y : ℕ) → u + m ≤ n → Member y (entered (lists u m) base a)
      → (v : ℕ) × (p : ℕ) × (v < m) × (y ≡ base + (occupied sizes u v + p)) × Member p (step_at follow enter (u + v) 0 a)
  unfolding entered automata_from occupied
  entered-there u zero base y h k = absurd (member-none y k)
  entered-there u (suc m) base y h k =
      side (entered-there (u + 1) m (base + slice_index sizes (u + 1)) y (omega arith))
      ((member_union y (step_at follow enter u 0 a * 2 ^ base) (entered (lists (u + 1) m) (base + slice_index sizes (u + 1)) a)).0
      (subst (Member y) (entered-next follow enter sizes accepting n counted room u m base a (omega arith) label) k))
    where
      side : (Member y (entered (lists (u + 1) m) (base + slice_index sizes (u + 1)) a)
          → (v : ℕ) × (p : ℕ) × (v < m) × (y ≡ base + slice_index sizes (u + 1) + (occupied sizes (u + 1) v + p))
          × Member p (step_at follow enter (u + 1 + v) 0 a))
          → Member y (step_at follow enter u 0 a * 2 ^ base) ⊎ Member y (entered (lists (u + 1) m) (base + slice_index sizes (u + 1)) a)
          → (v : ℕ) × (p : ℕ) × (v < suc m) × (y ≡ base + (occupied sizes u v + p)) × Member p (step_at follow enter (u + v) 0 a)
      side later (inl i) =
          let (p, e, j) = (member-moved base y (step_at follow enter u 0 a)).0 i in
          let same : u ≡ u + 0 = omega arith in
          (0, p, omega arith, omega arith, subst (λ z. Member p (step_at follow enter z 0 a)) same j)
      side later (inr i) =
          let (v, p, l, e, j) = later i in
          let same : u + 1 + v ≡ u + suc v = omega arith in
          (suc v, p, omega arith, omega arith, subst (λ z. Member p (step_at follow enter z 0 a)) same j)

  entered-back : (u m base v p : ℕ) → u + m ≤ n → v < m → Member p (step_at follow enter (u + v) 0 a)
      → Member (base + (occupied sizes u v + p)) (entered (lists u m) base a)
  unfolding entered automata_from occupied
  entered-back u zero base v p h k i = absurd (omega arith)
  entered-back u (suc m) base zero p h k i =
      let same : u + 0 ≡ u = omega arith in
      subst (Member (base + (0 + p))) (sym (entered-next follow enter sizes accepting n counted room u m base a (omega arith) label))
      ((member_union (base + (0 + p)) (step_at follow enter u 0 a * 2 ^ base) (entered (lists (u + 1) m) (base + slice_index sizes (u + 1)) a)).1
      (inl ((member-moved base (base + (0 + p)) (step_at follow enter u 0 a)).1
      (p, omega arith, subst (λ z. Member p (step_at follow enter z 0 a)) same i))))
  entered-back u (suc m) base (suc v) p h k i =
      let same : u + suc v ≡ u + 1 + v = omega arith in
      let place : base + slice_index sizes (u + 1) + (occupied sizes (u + 1) v + p)
      ≡ base + (slice_index sizes (u + 1) + occupied sizes (u + 1) v + p) =
      omega arith in
      subst (Member (base + (slice_index sizes (u + 1) + occupied sizes (u + 1) v + p)))
      (sym (entered-next follow enter sizes accepting n counted room u m base a (omega arith) label))
      ((member_union (base + (slice_index sizes (u + 1) + occupied sizes (u + 1) v + p)) (step_at follow enter u 0 a * 2 ^ base)
      (entered (lists (u + 1) m) (base + slice_index sizes (u + 1)) a)).1
      (inr (subst (λ z. Member z (entered (lists (u + 1) m) (base + slice_index sizes (u + 1)) a)) place
      (entered-back (u + 1) m (base + slice_index sizes (u + 1)) v p (omega arith) (omega arith)
      (subst (λ z. Member p (step_at follow enter z 0 a)) same i)))))

  -- The move within a list, from the list u on.
  moved_at : (u m base v x : ℕ) → u + m ≤ n → v < m → suc x ≤ slice_index sizes (u + v + 1)
      → moved_within (lists u m) base (occupied sizes u v + suc x) a
      ≡ step_at follow enter (u + v) (suc x) a * 2 ^ (base + occupied sizes u v)
  unfolding occupied
  moved_at u zero base v x h k l = absurd (omega arith)
  moved_at u (suc m) base zero x h k l =
      let same : u + 0 ≡ u = omega arith in
      let here : 0 + suc x ≡ suc x = omega arith in
      let level : base + 0 ≡ base = omega arith in
      let size : slice_index_or sizes (u + 0 + 1) 0 ≡ slice_index_or sizes (u + 1) 0 = ap (λ z. slice_index sizes (z + 1)) same in
      rw (here, level, same) (moved_here follow enter sizes accepting n counted room u m base (suc x) a (omega arith) label (omega arith))
  moved_at u (suc m) base (suc v) x h k l =
      let size = slice_index_or sizes (u + 1) 0 in
      let same : u + 1 + v ≡ u + suc v = omega arith in
      let sized : slice_index_or sizes (u + 1 + v + 1) 0 ≡ slice_index_or sizes (u + suc v + 1) 0 = ap (λ z. slice_index sizes (z + 1)) same in
      let rest : size + occupied sizes (u + 1) v + suc x - size ≡ occupied sizes (u + 1) v + suc x = omega arith in
      let level : base + size + occupied sizes (u + 1) v ≡ base + (size + occupied sizes (u + 1) v) = omega arith in
      moved-next follow enter sizes accepting n counted room u m base (size + occupied sizes (u + 1) v + suc x) a (omega arith)
      (omega arith)
      ∙ ap (λ o. moved_within (lists (u + 1) m) (base + size) o a) rest
      ∙ moved_at (u + 1) m (base + size) v x (omega arith) (omega arith) (omega arith)
      ∙ ap₂ (λ y z. step_at follow enter y (suc x) a * 2 ^ z) same level

  abbrev w : ℕ
  w = suc (occupied sizes 0 n)

  abbrev all : List Automaton
  all = automata_of follow enter sizes accepting n

  wide : width all ≡ w
  wide = width-exactly follow enter sizes accepting n counted room

  moves-at-alone : (q : ℕ) → moves all a (w * q + 0) ≡ entered all 0 a * 2 ^ (w * q)
  moves-at-alone q =
      moves-alone (rewritten 0 [] []) all w wide a (w * q + 0) (offset-of w q 0 (omega arith))
      ∙ ap (λ z. entered all 0 a * 2 ^ (w * z)) (state-of w q 0 (omega arith))

  moves-at-occurrence : (q v x : ℕ) → v < n → suc x ≤ slice_index sizes (v + 1)
      → moves all a (w * q + (occupied sizes 0 v + suc x)) ≡ step_at follow enter v (suc x) a * 2 ^ (0 + occupied sizes 0 v) * 2 ^ (w * q)
  moves-at-occurrence q v x h k =
      let o = occupied sizes 0 v + suc x in
      let low : o < w = omega (arith, occupied-room sizes v n h) in
      let first : 0 + v ≡ v = omega arith in
      let size : slice_index_or sizes (0 + v + 1) 0 ≡ slice_index_or sizes (v + 1) 0 = ap (λ z. slice_index sizes (z + 1)) first in
      moves-inside (rewritten 0 [] []) all w wide a (w * q + o) (λ e. omega (arith, offset-of w q o low))
      ∙ ap₂ (λ y z. moved_within all 0 y a * 2 ^ (w * z)) (offset-of w q o low) (state-of w q o low)
      ∙ ap (λ z. z * 2 ^ (w * q)) (moved_at 0 n 0 v x (omega arith) h (omega arith)
      ∙ ap (λ y. step_at follow enter y (suc x) a * 2 ^ (0 + occupied sizes 0 v)) first)

  alone-there : (q y : ℕ) → Member y (moves all a (w * q + 0)) → TableMove n a follow enter sizes (w * q + 0) y
  alone-there q y h =
      let (z, e, i) = (member-moved (w * q) y (entered all 0 a)).0 (subst (Member y) (moves-at-alone q) h) in
      let (v, p, l, f, j) = entered-there 0 n 0 z (omega arith) i in
      let first : 0 + v ≡ v = omega arith in
      let (c, d) = (member-intersection p (slice_index follow (64 * (v + 1) + 0)) (slice_index enter (32 * (v + 1) + a))).0
      (subst (λ u. Member p (step_at follow enter u 0 a)) first j) in
      record {
        state = q;
        list = v;
        from = 0;
        to = p;
        inside = l;
        within = omega arith;
        starts = refl;
        stops = omega arith;
        follows = c;
        enters = d;
      }

  occurrence-there : (q v x y : ℕ) → v < n → suc x ≤ slice_index sizes (v + 1) → Member y (moves all a (w * q + (occupied sizes 0 v + suc x)))
      → TableMove n a follow enter sizes (w * q + (occupied sizes 0 v + suc x)) y
  occurrence-there q v x y l k h =
      let (z, e, i) = (member-moved (w * q) y (step_at follow enter v (suc x) a * 2 ^ (0 + occupied sizes 0 v))).0
      (subst (Member y) (moves-at-occurrence q v x l k) h) in
      let (p, f, j) = (member-moved (0 + occupied sizes 0 v) z (step_at follow enter v (suc x) a)).0 i in
      let (c, d) = (member-intersection p (slice_index follow (64 * (v + 1) + suc x)) (slice_index enter (32 * (v + 1) + a))).0 j in
      record {
        state = q;
        list = v;
        from = suc x;
        to = p;
        inside = l;
        within = k;
        starts = refl;
        stops = omega arith;
        follows = c;
        enters = d;
      }

  pub table-moves-there : (x y : ℕ) → Member y (moves all a x) → TableMove n a follow enter sizes x y
  table-moves-there x y h = go (ℕ_discrete (x % w) 0)
    where
      parts : w * (x / w) + x % w ≡ x
      parts = div-add-mod x w

      go : Dec (x % w ≡ 0) → TableMove n a follow enter sizes x y
      go (yes e) =
          let same : w * (x / w) + 0 ≡ x = omega (arith, parts) in
          subst (λ z. TableMove n a follow enter sizes z y) same
          (alone-there (x / w) y (subst (λ z. Member y (moves all a z)) (sym same) h))
      go (no d) =
          let small : x % w < w = mod-lt x (omega arith) in
          let (v, i, l, k, e) = occurrence-at sizes n (x % w) (omega arith) (omega arith) in
          let same : w * (x / w) + (occupied sizes 0 v + suc i) ≡ x = omega (arith, parts) in
          subst (λ z. TableMove n a follow enter sizes z y) same
          (occurrence-there (x / w) v i y l k (subst (λ z. Member y (moves all a z)) (sym same) h))

  back_at : (q v o p : ℕ) → v < n → o ≤ slice_index sizes (v + 1) → Member p (slice_index follow (64 * (v + 1) + o))
      → Member p (slice_index enter (32 * (v + 1) + a)) → Member (w * q + (occupied sizes 0 v + p)) (moves all a (w * q + offset_in sizes v o))
  back_at q v zero p l k c d =
      let first : v ≡ 0 + v = omega arith in
      let both = (member-intersection p (slice_index follow (64 * (v + 1) + 0)) (slice_index enter (32 * (v + 1) + a))).1 (c, d) in
      subst (Member (w * q + (occupied sizes 0 v + p))) (sym (moves-at-alone q))
      ((member-moved (w * q) (w * q + (occupied sizes 0 v + p)) (entered all 0 a)).1 (
        0 + (occupied sizes 0 v + p),
        omega arith,
        entered-back 0 n 0 v p (omega arith) l (subst (λ u. Member p (step_at follow enter u 0 a)) first both),
      ))
  back_at q v (suc x) p l k c d =
      let both = (member-intersection p (slice_index follow (64 * (v + 1) + suc x)) (slice_index enter (32 * (v + 1) + a))).1 (c, d) in
      subst (Member (w * q + (occupied sizes 0 v + p))) (sym (moves-at-occurrence q v x l k))
      ((member-moved (w * q) (w * q + (occupied sizes 0 v + p)) (step_at follow enter v (suc x) a * 2 ^ (0 + occupied sizes 0 v))).1 (
        occupied sizes 0 v + p,
        refl,
        (member-moved (0 + occupied sizes 0 v) (occupied sizes 0 v + p) (step_at follow enter v (suc x) a)).1 (p, omega arith, both),
      ))

  pub table-moves-back : (x y : ℕ) → TableMove n a follow enter sizes x y → Member y (moves all a x)
  table-moves-back x y r =
      rw (r.starts, r.stops) (back_at r.state r.list r.from r.to r.inside r.within r.follows r.enters)
