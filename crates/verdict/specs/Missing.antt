-- The first pair whose paths are missed, among the pairs held in a workspace (PairTable).
use Rattle.std.specs.Prelude.{◌≡◌, ℕ, zero, suc, ◌+◌, ◌*◌, ◌^◌, ◌<◌, ◌≤◌, Bool, true, false, not, ◌&&◌, ◌↔◌, List, [], ◌∷◌, reverse, length, ◌==◌, ◌≢◌, slice_index, slice_index_or, Option, MatchOption}
use Rattle.std.proofs.Math.Option.{some, none}
use Rattle.std.proofs.Math.Path.{refl}
use Rattle.std.proofs.Common.{sym, ap, ap₂, ◌∙◌, subst, mul-le-mul_right, mul_comm, mul-suc, mul-zero, one-mul, add-one, lit<, shl_exact, eq-eqb, ne_eqb}
use Rattle.std.proofs.Math.Decide.{ℕ_discrete}
use native.Mathlib.Omega.{arith}
use Rattle.std.specs.Int.Bits.{or_zero_r}
use Rattle.theory.specs.Places.{Member, one, union, intersection, when}
use Rattle.theory.specs.PlacesLaws.{member-none, member-intersection, not_none}
use Rattle.theory.specs.Automaton.{Automaton, accepts}
use Rattle.theory.specs.Exploration.{System, Entry}
use Rattle.theory.specs.Explored.{entry_at}
use Rattle.places.specs.Words.{number_of}
use Rattle.finding.specs.Rewritten.{Rewritten}
use Rattle.verdict.specs.Cover.{width, yielding}
use Rattle.verdict.specs.CoverTold.{Gains}
use Rattle.verdict.specs.Coded.{Layout, plain, turned, Sided, StandsAs, Coded}
use Rattle.verdict.specs.MissedPairs.{member-yielding}
use Rattle.verdict.specs.Pairs.{Pair, misses, first_missed}
use Rattle.verdict.specs.PairTable.{pair_at, Holds}
use Rattle.verdict.specs.Tables.{rewritten}

-- The cover places whose state, alone, accepts.

pub record Yields (flags : List ℕ) (w n : ℕ) (set : List ℕ) : Type 0 where
  pub told : (states : ℕ) (table : List ℕ) → number_of set ≡ yielding (rewritten states table flags) w n

pub yields-in : (flags : List ℕ) (states w q : ℕ) (set set' : List ℕ) → 0 < w → states * w ≤ 1024 → q < states → slice_index flags q ≡ 1
    → Yields flags w q set → Gains set (1 * 2 ^ (w * q)) set' → Yields flags w (q + 1) set'
unfolding yielding
yields-in flags states w q set set' least few h e s g =
    record {
      told = λ any table.
          let b : suc (w * q) ≤ 1024 = omega (arith, mul-le-mul_right w h, mul_comm (suc q) w, mul-suc w q) in
          g
          ∙ ap (union (number_of set)) (shl_exact 1 (w * q) 1024 (lit< tt) (omega arith) ∙ one-mul (2 ^ (w * q)))
          ∙ ap (λ x. union x (one (w * q))) (s.told any table)
          ∙ ap (λ x. union (yielding (rewritten any table flags) w q) (when x (one (w * q)))) (sym (eq-eqb (slice_index flags q) 1 e))
          ∙ ap (yielding (rewritten any table flags) w) (sym (add-one q));
    }

pub yields-out : (flags : List ℕ) (w q : ℕ) (set : List ℕ) → (slice_index flags q ≢ 1) → Yields flags w q set → Yields flags w (q + 1) set
unfolding yielding
yields-out flags w q set d s =
    record {
      told = λ any table.
          s.told any table
          ∙ sym (or_zero_r (yielding (rewritten any table flags) w q))
          ∙ ap (λ x. union (yielding (rewritten any table flags) w q) (when x (one (w * q)))) (sym (ne_eqb (slice_index flags q) 1 d))
          ∙ ap (yielding (rewritten any table flags) w) (sym (add-one q));
    }

-- The paths of a pair are query paths and not yielded, told by the query's accepting places and the yielding cover places.
abbrev pub misses_with : ℕ → ℕ → Pair → Bool
misses_with ends yields x = not (intersection x.standing ends == 0) && intersection x.cover yields == 0

pub misses-with : (A : Automaton) (R : Rewritten) (lists : List Automaton) (x : Pair)
    → misses A R lists x ≡ misses_with A.accepting (yielding R (width lists) R.states) x
unfolding misses accepts
misses-with A R lists x = refl

-- How far apart the states alone stand: a width, or side by side where sets are turned.
abbrev pub gap : ℕ → ℕ → ℕ
gap zero w = w
gap (suc c) w = 1

-- A set has an accepting state alone exactly where it has one as it stands.
stands-yields : (R : Rewritten) (w c : ℕ) (L : Layout) (C D : ℕ) → 0 < w → Sided c w L → StandsAs L R.states C D
    → ((p : ℕ) × Member p (intersection C (yielding R w R.states))) ↔ ((p : ℕ) × Member p (intersection D (yielding R (gap c w) R.states)))
stands-yields R w zero plain C D least side e = subst (λ z. ((p : ℕ) × Member p (intersection C (yielding R w R.states))) ↔ ((p : ℕ) × Member p (intersection z (yielding R w R.states)))) e (λ x. x, λ x. x)
stands-yields R w (suc c) plain C D least side e = absurd (omega arith)
stands-yields R w zero (turned x k f) C D least side t = absurd (omega (arith, side.0))
stands-yields R w (suc c) (turned x k f) C D least side t = (there, back)
  where
    first : 0 < x
    first = omega (arith, side.1)

    -- The states alone stand first.
    placed : (q : ℕ) → R.states * f 0 + q ≡ 1 * q
    placed q = ap (λ z. R.states * z + q) t.alone ∙ omega (arith, mul-zero R.states)

    there : (p : ℕ) × Member p (intersection C (yielding R w R.states)) → (p : ℕ) × Member p (intersection D (yielding R 1 R.states))
    there (p, m) =
        let (a, b) = (member-intersection p C (yielding R w R.states)).0 m in
        let (q, h, e, g) = (member-yielding R w R.states p).0 b in
        let k : x * q + 0 ≡ p = ap (λ z. z * q + 0) side.1 ∙ omega (arith, e) in
        let d : Member (R.states * f 0 + q) D = (t.exact q 0 h first).0 (subst (λ z. Member z C) (sym k) a) in
        (1 * q, (member-intersection (1 * q) D (yielding R 1 R.states)).1 (subst (λ z. Member z D) (placed q) d, (member-yielding R 1 R.states (1 * q)).1 (q, h, refl, g)))

    back : (p : ℕ) × Member p (intersection D (yielding R 1 R.states)) → (p : ℕ) × Member p (intersection C (yielding R w R.states))
    back (p, m) =
        let (a, b) = (member-intersection p D (yielding R 1 R.states)).0 m in
        let (q, h, e, g) = (member-yielding R 1 R.states p).0 b in
        let k : R.states * f 0 + q ≡ p = placed q ∙ sym e in
        let d : Member (x * q + 0) C = (t.exact q 0 h first).1 (subst (λ z. Member z D) (sym k) a) in
        let y : x * q + 0 ≡ w * q = ap (λ z. z * q + 0) side.1 ∙ omega arith in
        (w * q, (member-intersection (w * q) C (yielding R w R.states)).1 (subst (λ z. Member z C) y d, (member-yielding R w R.states (w * q)).1 (q, h, refl, g)))

same-empty : (s t : ℕ) → ((p : ℕ) × Member p s) ↔ ((p : ℕ) × Member p t) → (s == 0) ≡ (t == 0)
same-empty s t e = side (ℕ_discrete s 0) (ℕ_discrete t 0)
  where
    side : Dec (s ≡ 0) → Dec (t ≡ 0) → (s == 0) ≡ (t == 0)
    side (yes a) (yes b) = eq-eqb s 0 a ∙ sym (eq-eqb t 0 b)
    side (yes a) (no b) = let (p, m) = e.1 (not_none t b) in absurd (member-none p (subst (Member p) a m))
    side (no a) (yes b) = let (p, m) = e.0 (not_none s a) in absurd (member-none p (subst (Member p) b m))
    side (no a) (no b) = ne_eqb s 0 a ∙ sym (ne_eqb t 0 b)

misses-coded : (R : Rewritten) (w ends c : ℕ) (L : Layout) → 0 < w → Sided c w L → (x y : Pair) → Coded L R.states x y
    → misses_with ends (yielding R w R.states) x ≡ misses_with ends (yielding R (gap c w) R.states) y
misses-coded R w ends c L least side x y e =
    ap₂ (λ s b. not (intersection s ends == 0) && b) e.standing
    (same-empty (intersection x.cover (yielding R w R.states)) (intersection y.cover (yielding R (gap c w) R.states))
    (stands-yields R w c L x.cover y.cover least side e.cover))

-- The first of n pairs whose paths are missed; n where there is none.
pub record FirstAt (n : ℕ) (space : List ℕ) (ends yields r : ℕ) : Type 0 where
  pub inside : r ≤ n
  pub before : (k : ℕ) → k < r → misses_with ends yields (pair_at space k) ≡ false
  pub here : r < n → misses_with ends yields (pair_at space r) ≡ true

-- The first one, if there is one.
abbrev pub FirstTold : ℕ → List ℕ → ℕ → ℕ → Option ℕ → Type 0
FirstTold n space ends yields r = MatchOption r (FirstAt n space ends yields n) (λ i. (i < n) × FirstAt n space ends yields i)

-- The same on entries.

module _ (A : Automaton) (R : Rewritten) (lists : List Automaton) where
  first-none : (l : List (Entry Pair)) (d : Entry Pair) → ((k : ℕ) → k < length l → misses A R lists (slice_index_or l k d).value ≡ false)
      → first_missed A R lists l ≡ none
  unfolding first_missed
  first-none [] d h = refl
  first-none (e ∷ l) d h = rw (h 0 (omega arith), first_missed) (first-none l d (λ k b. h (suc k) (omega arith)))

  first_some : (l : List (Entry Pair)) (d : Entry Pair) (r : ℕ) → r < length l → ((k : ℕ) → k < r → misses A R lists (slice_index_or l k d).value ≡ false)
      → misses A R lists (slice_index_or l r d).value ≡ true → first_missed A R lists l ≡ some (reverse (slice_index_or l r d).trail)
  unfolding first_missed
  first_some [] d r b h m = absurd (omega arith)
  first_some (e ∷ l) d zero b h m = rw (m, first_missed)
  first_some (e ∷ l) d (suc r) b h m = rw (h 0 (omega arith), first_missed) (first_some l d r (omega arith) (λ k c. h (suc k) (omega arith)) m)

  module _ (c : ℕ) (L : Layout) (side : Sided c (width lists) L) (S : System Pair) (space : List ℕ) (l : List (Entry Pair))
      (held : Holds L R.states S space l) (n : ℕ) (count : length l ≡ n) (r : ℕ)
      (told : FirstAt n space A.accepting (yielding R (gap c (width lists)) R.states) r) where
    some-width : 0 < width lists
    unfolding width
    some-width = omega arith

    misses-at : (k : ℕ) → k < length l → misses A R lists (entry_at S l k).value
        ≡ misses_with A.accepting (yielding R (gap c (width lists)) R.states) (pair_at space k)
    misses-at k b =
        misses-with A R lists (entry_at S l k).value
        ∙ misses-coded R (width lists) A.accepting c L some-width side (entry_at S l k).value (pair_at space k) (held.value k b)

    pub none-missed : r ≡ n → first_missed A R lists l ≡ none
    none-missed e =
        first-none l (record { value = S.start; trail = [] }) (λ k b. misses-at k b ∙ told.before k (omega (arith, count)))

    pub some-missed : r < n → first_missed A R lists l ≡ some (reverse (entry_at S l r).trail)
    some-missed h =
        let b : r < length l = omega (arith, count) in
        first_some l (record { value = S.start; trail = [] }) r b (λ k c. misses-at k (omega arith) ∙ told.before k c)
        (misses-at r b ∙ told.here h)

-- The three ways through the test.

pub misses-dead : (ends yields : ℕ) (x : Pair) → intersection x.standing ends ≡ 0 → misses_with ends yields x ≡ false
misses-dead ends yields x e = ap (λ b. not b && intersection x.cover yields == 0) (eq-eqb (intersection x.standing ends) 0 e)

pub misses-alive : (ends yields : ℕ) (x : Pair) → (intersection x.standing ends ≢ 0)
    → misses_with ends yields x ≡ (intersection x.cover yields == 0)
misses-alive ends yields x d = ap (λ b. not b && intersection x.cover yields == 0) (ne_eqb (intersection x.standing ends) 0 d)

pub not-not : (a b : Bool) → a ≡ not b → b ≡ not a
not-not a true e = sym (ap not e)
not-not a false e = sym (ap not e)
