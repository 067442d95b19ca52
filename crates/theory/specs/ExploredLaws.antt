-- What follows from the claims on what an exploration tells, however it is come by: the list is the only one of which they hold, it begins
-- with the start, it is closed under the steps, and it is no shorter than any list of distinct values reached.
use Prim.Native.Nat.{ℕ, zero, suc, ◌≤◌, ◌<◌}
use mathlib.Core.List.{List, [], reverse, reverse-reverse}
use Rattle.std.specs.Prelude.{◌⊎◌, ◌≡◌, refl}
use Rattle.std.proofs.Common.{inl, inr, ◌∙◌, subst, arith, ext_get_or}
use Rattle.std.proofs.Math.Option.{some}
use Rattle.std.proofs.Math.Path.{sym, ap}
use Rattle.std.proofs.Math.ListN.{length}
use Rattle.theory.specs.Path.{Path, Before, nothing}
use Rattle.theory.specs.PathOrder.{compared, nothing-before, before-irreflexive, before-transitive}
use Rattle.theory.specs.Counting.{pigeonhole, increasing}
use Rattle.theory.specs.Exploration.{System, Entry, run}
use Rattle.theory.specs.Explored.{Reached, entry_at, value_at, word_at, Explored, Exceeds}
use Rattle.theory.specs.Trails.{trail_at, stepped, leads-reached, reached-leads}

module _ {A : Type 0} {S : System A} where
  -- The first value found is the start, by the empty word.
  pub explored-start : {found : List (Entry A)} → Explored S found
      → (0 < length found) × (value_at S found 0 ≡ S.start) × ((entry_at S found 0).trail ≡ [])
  unfolding run
  explored-start {found} x =
      let (i, h, v) = x.reached S.start [] (nothing, refl) in
      side i h v (x.least i [] h (nothing, ap some (sym v)))
    where
      side : (i : ℕ) → i < length found → value_at S found i ≡ S.start → (word_at S found i ≡ []) ⊎ Before (word_at S found i) []
          → (0 < length found) × (value_at S found 0 ≡ S.start) × ((entry_at S found 0).trail ≡ [])
      side i h v (inr b) = absurd (nothing-before _ b)
      side zero h v (inl e) = (h, v, sym (reverse-reverse _) ∙ ap reverse e)
      side (suc i) h v (inl e) = absurd (nothing-before _ (subst (Before (word_at S found 0)) e (x.ordered 0 (suc i) (omega arith) h)))

  -- What is found is closed under the steps.
  pub found-step : {found : List (Entry A)} {i a : ℕ} {v : A} → Explored S found → i < length found → a < S.symbols
      → S.step (value_at S found i) a ≡ some v → (j : ℕ) × (j < length found) × (value_at S found j ≡ v)
  found-step {i = i} {v = v} x h l s =
      x.reached v _ (leads-reached S (stepped (reached-leads S (x.words i h)) l s))

  -- Where all that is reached is found and is within the limit, the limit is not exceeded.
  pub explored-not-exceeds : {found : List (Entry A)} {limit : ℕ} → Explored S found → length found ≤ limit → Exceeds S limit → ⊥
  explored-not-exceeds {found} x h y =
      omega (
        arith,
        y.count,
        pigeonhole (length y.found) (length found)
            (λ i k. (place i k).0) (λ i k. (place i k).1)
            (λ i j k l q. y.distinct i j k l (sym (place i k).2 ∙ ap (value_at S found) q ∙ (place j l).2)),
      )
    where
      place : (i : ℕ) → i < length y.found → (j : ℕ) × (j < length found) × (value_at S found j ≡ value_at S y.found i)
      place i k = x.reached (value_at S y.found i) (word_at S y.found i) (y.words i k)

  -- Two lists that are all that the system reaches have the same entries ..
  explored-entry : {f g : List (Entry A)} → Explored S f → Explored S g → (i : ℕ) → i < length f
      → (j : ℕ) × (j < length g) × (entry_at S f i ≡ entry_at S g j)
  explored-entry {f} {g} x y i h =
      let (j, k, v) = y.reached (value_at S f i) (word_at S f i) (x.words i h) in
      let there = x.least i (word_at S g j) h (subst (λ u. Reached S u (word_at S g j)) v (y.words j k)) in
      let back = y.least j (word_at S f i) k (subst (λ u. Reached S u (word_at S f i)) (sym v) (x.words i h)) in
      let word = side (word_at S f i) (word_at S g j) there back in
      let trail = sym (reverse-reverse (trail_at S f i)) ∙ ap reverse word ∙ reverse-reverse (trail_at S g j) in
      (j, k, λ d. record { value = sym v d; trail = trail d })
    where
      side : (p q : Path) → (p ≡ q) ⊎ Before p q → (q ≡ p) ⊎ Before q p → p ≡ q
      side p q (inl e) r = e
      side p q (inr b) (inl e) = sym e
      side p q (inr b) (inr c) = absurd (before-irreflexive p (before-transitive p q p b c))

  -- .. in the same order ..
  explored-increasing : {f g : List (Entry A)} (x : Explored S f) (y : Explored S g) (i j : ℕ) (h : i < length f) (k : j < length f)
      → i < j → (explored-entry x y i h).0 < (explored-entry x y j k).0
  explored-increasing {f} {g} x y i j h k l = side (explored-entry x y i h) (explored-entry x y j k)
    where
      wrong : (m n : ℕ) → m < length g → entry_at S f i ≡ entry_at S g m → entry_at S f j ≡ entry_at S g n → n < m → ⊥
      wrong m n a p q b =
          let half = subst (λ e. Before (word_at S g n) (reverse e.trail)) (sym p) (y.ordered n m b a) in
          let swapped = subst (λ e. Before (reverse e.trail) (word_at S f i)) (sym q) half in
          before-irreflexive (word_at S f i) (before-transitive (word_at S f i) (word_at S f j) (word_at S f i) (x.ordered i j l k) swapped)

      same : (m n : ℕ) → entry_at S f i ≡ entry_at S g m → entry_at S f j ≡ entry_at S g n → m ≡ n → ⊥
      same m n p q e =
          let twice : i ≡ j = x.distinct i j h k (ap (λ e. e.value) (p ∙ ap (entry_at S g) e ∙ sym q)) in
          omega arith

      side : (m : (n : ℕ) × (n < length g) × (entry_at S f i ≡ entry_at S g n)) (n : (o : ℕ) × (o < length g) × (entry_at S f j ≡ entry_at S g o))
          → m.0 < n.0
      side (m, a, p) (n, b, q) = order (compared m n)
        where
          order : (m ≡ n) ⊎ ((m < n) ⊎ (n < m)) → m < n
          order (inl e) = absurd (same m n p q e)
          order (inr (inl e)) = e
          order (inr (inr e)) = absurd (wrong m n a p q e)

  explored-shorter : {f g : List (Entry A)} → Explored S f → Explored S g → length f ≤ length g
  explored-shorter {f} {g} x y =
      pigeonhole (length f) (length g) (λ i h. (explored-entry x y i h).0) (λ i h. (explored-entry x y i h).1)
      (λ i j h k q. x.distinct i j h k
      (ap (λ e. e.value) ((explored-entry x y i h).2 ∙ ap (entry_at S g) q ∙ sym (explored-entry x y j k).2)))

  -- .. so at the same places.
  explored-at : {f g : List (Entry A)} → Explored S f → Explored S g → (i : ℕ) → i < length f → entry_at S f i ≡ entry_at S g i
  explored-at {f} {g} x y i h =
      let (j, k, p) = explored-entry x y i h in
      let (n, o, q) = explored-entry y x j k in
      let back : i ≡ n = x.distinct i n h o (ap (λ e. e.value) (p ∙ q)) in
      let up : i ≤ j = increasing (λ i h. (explored-entry x y i h).0) (explored-increasing x y) i h in
      let down : j ≤ n = increasing (λ i h. (explored-entry y x i h).0) (explored-increasing y x) j k in
      let place : j ≡ i = omega arith in
      p ∙ ap (entry_at S g) place

  -- What an exploration has to tell is one list.
  pub explored-unique : {f g : List (Entry A)} → Explored S f → Explored S g → f ≡ g
  explored-unique {f} {g} x y =
      let long = explored-shorter x y in
      let short = explored-shorter y x in
      ext_get_or _ f g (omega arith) (explored-at x y)
