-- The laws of automata in tables (Tables): what each entry of an automaton is, and how many occurrences the lists have.
use Rattle.std.specs.Prelude.{◌≡◌, ℕ, zero, suc, pred, ◌+◌, ◌-◌, ◌*◌, ◌<◌, ◌≤◌, List, length, take, drop, slice_index, slice_index_or}
use Rattle.std.proofs.Math.Path.{refl, ap, ap₂}
use Rattle.std.proofs.Common.{sym, ◌∙◌, subst, add-one, arith, length-drop, length-take-le, get_or-take, get_or-drop}
use Rattle.theory.specs.Places.{intersection}
use Rattle.theory.specs.Automaton.{nexts, step}
use Rattle.verdict.specs.Cover.{occurrences, all_occurrences, width}
use Rattle.verdict.specs.Tables.{automaton_at, automata_from, automata_of, occupied, Counted, Ready}

module _ (follow enter sizes accepting : List ℕ) where
  pub occurrences-at : (x : ℕ) → 64 * x + 64 ≤ length follow → slice_index sizes x ≤ 63
      → occurrences (automaton_at follow enter sizes accepting x) ≡ slice_index sizes x
  occurrences-at x h s =
      ap pred (length-take-le (suc (slice_index sizes x)) (drop (64 * x) follow) (omega (arith, length-drop (64 * x) follow)))

  pub follow-at : (x o : ℕ) → o ≤ slice_index sizes x → slice_index (automaton_at follow enter sizes accepting x).follow o ≡ slice_index follow (64 * x + o)
  follow-at x o h = get_or-take (suc (slice_index sizes x)) (drop (64 * x) follow) o 0 (omega arith) ∙ get_or-drop (64 * x) follow o 0

  pub enter-at : (x a : ℕ) → a < 32 → (automaton_at follow enter sizes accepting x).enter a ≡ slice_index enter (32 * x + a)
  enter-at x a h = get_or-take 32 (drop (32 * x) enter) a 0 h ∙ get_or-drop (32 * x) enter a 0

  pub occupied-from : (n v m : ℕ) → v + m ≤ n → Counted n sizes → 64 * n + 64 ≤ length follow
      → all_occurrences (automata_from follow enter sizes accepting v m) ≡ occupied sizes v m
  unfolding all_occurrences automata_from occupied
  occupied-from n v zero h s r = refl
  occupied-from n v (suc m) h s r =
      ap₂ (λ x y. x + y) (occurrences-at (v + 1) (omega arith) (s.small v (omega arith)))
      (occupied-from n (v + 1) m (omega arith) s r)

  -- The width is 1 + all occurrences in all lists.
  pub width-exactly : (n : ℕ) → Counted n sizes → 64 * n + 64 ≤ length follow
      → width (automata_of follow enter sizes accepting n) ≡ suc (occupied sizes 0 n)
  unfolding width
  width-exactly n s r = ap suc (occupied-from n 0 n (omega arith) s r)

pub occupied-few : (sizes : List ℕ) (n v m : ℕ) → v + m ≤ n → Counted n sizes → occupied sizes v m ≤ 63 * m
unfolding occupied
occupied-few sizes n v zero h s = omega arith
occupied-few sizes n v (suc m) h s = omega (arith, s.small v (omega arith), occupied-few sizes n (v + 1) m (omega arith) s)

-- The occurrences of the first lists.

occupied-last : (sizes : List ℕ) (u m : ℕ) → occupied sizes u (suc m) ≡ occupied sizes u m + slice_index sizes (u + m + 1)
unfolding occupied
occupied-last sizes u zero =
    let e : slice_index_or sizes (u + 1) 0 ≡ slice_index_or sizes (u + 0 + 1) 0 = ap (λ z. slice_index sizes z) (omega arith) in
    omega arith
occupied-last sizes u (suc m) =
    let e : slice_index_or sizes (u + 1 + m + 1) 0 ≡ slice_index_or sizes (u + suc m + 1) 0 = ap (λ z. slice_index sizes z) (omega arith) in
    omega (arith, occupied-last sizes (u + 1) m)

pub occupied-none : (sizes : List ℕ) → 0 ≡ occupied sizes 0 0
unfolding occupied
occupied-none sizes = refl

pub occupied-more : (sizes : List ℕ) (v : ℕ) → occupied sizes 0 (v + 1) ≡ occupied sizes 0 v + slice_index sizes (v + 1)
occupied-more sizes v =
    let e : slice_index_or sizes (0 + v + 1) 0 ≡ slice_index_or sizes (v + 1) 0 = ap (λ z. slice_index sizes z) (omega arith) in
    ap (occupied sizes 0) (add-one v) ∙ occupied-last sizes 0 v ∙ ap (λ x. occupied sizes 0 v + x) e

pub occupied-grows : (sizes : List ℕ) (u v : ℕ) → u ≤ v → occupied sizes 0 u ≤ occupied sizes 0 v
occupied-grows sizes u v h =
    let e : u + (v - u) ≡ v = omega arith in
    subst (λ z. occupied sizes 0 u ≤ occupied sizes 0 z) e (by (v - u))
  where
    by : (d : ℕ) → occupied sizes 0 u ≤ occupied sizes 0 (u + d)
    by zero = let e : occupied sizes 0 u ≡ occupied sizes 0 (u + 0) = ap (occupied sizes 0) (omega arith) in omega arith
    by (suc d) =
        let e : occupied sizes 0 (u + d + 1) ≡ occupied sizes 0 (u + suc d) = ap (occupied sizes 0) (omega arith) in
        omega (arith, by d, occupied-more sizes (u + d))

-- Tables are ready with their own width.
pub ready-width : (states n w : ℕ) (follow enter sizes accepting table : List ℕ) → Ready states n follow enter sizes accepting table w
    → Ready states n follow enter sizes accepting table (suc (occupied sizes 0 n))
ready-width states n w follow enter sizes accepting table r = subst (Ready states n follow enter sizes accepting table) r.wide r

-- The step of the query's standing.
pub query-step : (follow enter sizes accepting : List ℕ) (s a : ℕ) → a < 32
    → intersection (nexts s (take (slice_index sizes 0 + 1) follow)) (slice_index enter a) ≡ step (automaton_at follow enter sizes accepting 0) s a
unfolding step
query-step follow enter sizes accepting s a h =
    ap₂ (λ n x. intersection (nexts s (take n follow)) x) (add-one (slice_index sizes 0)) (sym (get_or-take 32 enter a 0 h))
