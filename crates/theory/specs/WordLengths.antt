-- The words that an exploration finds are short: no word is longer than the place of its value, since all its beginnings lead to values
-- that stand before that one.
use Rattle.std.specs.Prelude.{ℕ, zero, suc, ◌≤◌, ◌<◌, List, ◌∷◌, reverse, ◌⊎◌, ◌≡◌, refl, length}
use Rattle.std.proofs.lemmas.List.{reverse-reverse, length-reverse}
use Rattle.std.proofs.Common.{inl, inr, sym, ap, subst, arith}
use Rattle.std.proofs.Math.Option.{some}
use Rattle.theory.specs.Path.{Path, Before}
use Rattle.theory.specs.PathOrder.{compared}
use Rattle.theory.specs.Exploration.{System, Entry}
use Rattle.theory.specs.Explored.{value_at, word_at, Explored}
use Rattle.theory.specs.Trails.{trail_at, Leads, started, stepped, leads-reached, reached-leads}

not-longer : (p q : Path) → (p ≡ q) ⊎ Before p q → length p ≤ length q
not-longer p q (inl e) = omega (arith, ap length e)
not-longer p q (inr (inl h)) = omega arith
not-longer p q (inr (inr h)) = omega (arith, h.0)

module _ {A : Type 0} {S : System A} {found : List (Entry A)} (x : Explored S found) where
  trail-leads : (i : ℕ) → i < length found → Leads S (trail_at S found i) (value_at S found i)
  trail-leads i h =
      subst (λ t. Leads S t (value_at S found i)) (reverse-reverse (trail_at S found i)) (reached-leads S (x.words i h))

  -- No trail to a value is shorter than the one found.
  trail-least : (i : ℕ) (t : List ℕ) → i < length found → Leads S t (value_at S found i) → length (trail_at S found i) ≤ length t
  trail-least i t h l =
      omega (
        arith,
        not-longer (word_at S found i) (reverse t) (x.least i (reverse t) h (leads-reached S l)),
        length-reverse (trail_at S found i),
        length-reverse t,
      )

  -- A value is the start, or one step away from a value that stands before it.
  one-step : (i : ℕ) → i < length found → {t : List ℕ} → trail_at S found i ≡ t → Leads S t (value_at S found i)
      → (length t ≡ 0) ⊎ ((j : ℕ) × (j < i) × (length t ≤ suc (length (trail_at S found j))))
  one-step i h p (started e) = inl refl
  one-step i h p (stepped {a} {t} {u} l b s) =
      let (j, k, v) = x.reached u (reverse t) (leads-reached S l) in
      let first = trail-least j t k (subst (Leads S t) (sym v) l) in
      let onward = trail-least i (a ∷ trail_at S found j) h
      (stepped (trail-leads j k) b (subst (λ w. S.step w a ≡ some (value_at S found i)) (sym v) s)) in
      inr (j, before j k first (compared j i), omega (arith, onward, ap length p))
    where
      before : (j : ℕ) → j < length found → length (trail_at S found j) ≤ length t → (j ≡ i) ⊎ ((j < i) ⊎ (i < j)) → j < i
      before j k f (inl e) = absurd (omega (arith, ap (λ n. length (trail_at S found n)) e, ap length p))
      before j k f (inr (inl l)) = l
      before j k f (inr (inr l)) =
          absurd (omega (
            arith,
            not-longer (word_at S found i) (word_at S found j) (inr (x.ordered i j l k)),
            length-reverse (trail_at S found i),
            length-reverse (trail_at S found j),
            ap length p,
          ))

  below : (n i : ℕ) → i < n → i < length found → length (trail_at S found i) ≤ i
  below zero i l h = absurd (omega arith)
  below (suc n) i l h = side (one-step i h refl (trail-leads i h)) (below n)
    where
      side : (length (trail_at S found i) ≡ 0) ⊎ ((j : ℕ) × (j < i) × (length (trail_at S found i) ≤ suc (length (trail_at S found j))))
          → ((j : ℕ) → j < n → j < length found → length (trail_at S found j) ≤ j) → length (trail_at S found i) ≤ i
      side (inl e) earlier = omega arith
      side (inr (j, k, m)) earlier = omega (arith, earlier j (omega arith) (omega arith))

  pub word-short : (i : ℕ) → i < length found → length (word_at S found i) ≤ i
  word-short i h = omega (arith, below (suc i) i (omega arith) h, length-reverse (trail_at S found i))
