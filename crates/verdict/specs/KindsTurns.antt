-- The loops that gather the labels which enter each occurrence (Classes, Kinds): what they keep, turn by turn.
use Rattle.std.specs.Prelude.{◌≡◌, ℕ, zero, suc, ◌+◌, ◌-◌, ◌*◌, ◌/◌, ◌<◌, ◌≤◌, ◌⊎◌, ◌↔◌, List, slice_index}
use Rattle.std.proofs.Common.{inl, inr, sym, ap, ◌∙◌, subst, arith}
use Rattle.std.specs.Prelude.{refl}
use Rattle.std.proofs.Math.Decide.{ℕ_discrete, dec_lt}
use Rattle.theory.specs.Places.{Member}
use Rattle.theory.specs.PlacesLaws.{member-none, member-suc, equal-members}
use Rattle.theory.specs.PlacesShift.{member-cut}
use Rattle.verdict.specs.Tables.{occupied}
use Rattle.verdict.specs.TablesLaws.{occupied-more}
use Rattle.verdict.specs.ColumnOffsets.{occupied-room}
use Rattle.verdict.specs.ColumnLists.{inner_of}
use Rattle.verdict.specs.LeadingTurns.{LedFrom}
use Rattle.verdict.specs.Classes.{Kinds}

-- The entries of the occurrences of the expression x, which come after the offset `base`, gain the labels below b that enter them.
pub record ListKinds (x size base b : ℕ) (enter kinds kinds' : List ℕ) : Type 0 where
  pub gains : (p a : ℕ) → 0 < p → p ≤ size → Member a (slice_index kinds' (base + p))
      ↔ (Member a (slice_index kinds (base + p)) ⊎ ((a < b) × Member p (slice_index enter (32 * x + a))))
  pub apart : (i : ℕ) → (i ≤ base) ⊎ (base + size < i) → slice_index kinds' i ≡ slice_index kinds i

pub kinds-start : (x size base : ℕ) (enter kinds : List ℕ) → ListKinds x size base 0 enter kinds kinds
kinds-start x size base enter kinds = record { gains = λ p a h k. (λ m. inl m, λ m. old p a m); apart = λ i h. refl }
  where
    old : (p a : ℕ) → Member a (slice_index kinds (base + p)) ⊎ ((a < 0) × Member p (slice_index enter (32 * x + a)))
        → Member a (slice_index kinds (base + p))
    old p a (inl m) = m
    old p a (inr (h, m)) = absurd (omega arith)

pub kinds-turn : (x size base b : ℕ) (enter kinds₀ kinds kinds' : List ℕ) (s : ℕ) → size ≤ 63
    → s ≡ inner_of (slice_index enter (32 * x + b)) size → LedFrom (base + 1) b s kinds kinds'
    → ListKinds x size base b enter kinds₀ kinds → ListKinds x size base (b + 1) enter kinds₀ kinds'
kinds-turn x size base b enter kinds₀ kinds kinds' s few e f l =
    record {
      gains = λ p a h k. (λ m. there p a h k ((at p a h k).0 m), λ m. (at p a h k).1 (back p a h k m (ℕ_discrete a b)));
      apart = λ i h. off i h ∙ l.apart i h;
    }
  where
    entered : ℕ → ℕ
    entered a = slice_index enter (32 * x + a)

    inside : (q : ℕ) → Member q s ↔ ((q < size) × Member (suc q) (entered b))
    inside q = (
      λ m.
          let r = (member-cut size q (entered b / 2)).0 (subst (Member q) e m) in
          (r.0, (member-suc q (entered b)).1 r.1),
      λ (h, m). subst (Member q) (sym e) ((member-cut size q (entered b / 2)).1 (h, (member-suc q (entered b)).0 m)),
    )

    at : (p a : ℕ) → 0 < p → p ≤ size
        → Member a (slice_index kinds' (base + p)) ↔ (Member a (slice_index kinds (base + p)) ⊎ ((a ≡ b) × Member p (entered b)))
    at zero a h k = absurd (omega arith)
    at (suc q) a h k =
        let g : base + 1 + q ≡ base + suc q = omega arith in
        subst
        (λ (z : ℕ). Member a (slice_index kinds' z) ↔ (Member a (slice_index kinds z) ⊎ ((a ≡ b) × Member (suc q) (entered b)))) g
        (λ m. right ((f.gains q a (omega arith)).0 m), λ m. (f.gains q a (omega arith)).1 (wrong m))
      where
        right : Member a (slice_index kinds (base + 1 + q)) ⊎ ((a ≡ b) × Member q s)
            → Member a (slice_index kinds (base + 1 + q)) ⊎ ((a ≡ b) × Member (suc q) (entered b))
        right (inl m) = inl m
        right (inr (d, m)) = inr (d, ((inside q).0 m).1)

        wrong : Member a (slice_index kinds (base + 1 + q)) ⊎ ((a ≡ b) × Member (suc q) (entered b))
            → Member a (slice_index kinds (base + 1 + q)) ⊎ ((a ≡ b) × Member q s)
        wrong (inl m) = inl m
        wrong (inr (d, m)) = inr (d, (inside q).1 (omega arith, m))

    there : (p a : ℕ) → 0 < p → p ≤ size → Member a (slice_index kinds (base + p)) ⊎ ((a ≡ b) × Member p (entered b))
        → Member a (slice_index kinds₀ (base + p)) ⊎ ((a < b + 1) × Member p (entered a))
    there p a h k (inl m) = earlier ((l.gains p a h k).0 m)
      where
        earlier : Member a (slice_index kinds₀ (base + p)) ⊎ ((a < b) × Member p (entered a))
            → Member a (slice_index kinds₀ (base + p)) ⊎ ((a < b + 1) × Member p (entered a))
        earlier (inl u) = inl u
        earlier (inr (d, u)) = inr (omega arith, u)
    there p a h k (inr (d, m)) = inr (omega arith, subst (Member p) (ap entered (sym d)) m)

    back : (p a : ℕ) → 0 < p → p ≤ size → Member a (slice_index kinds₀ (base + p)) ⊎ ((a < b + 1) × Member p (entered a)) → Dec (a ≡ b)
        → Member a (slice_index kinds (base + p)) ⊎ ((a ≡ b) × Member p (entered b))
    back p a h k (inl m) d = inl ((l.gains p a h k).1 (inl m))
    back p a h k (inr (j, m)) (yes d) = inr (d, subst (Member p) (ap entered d) m)
    back p a h k (inr (j, m)) (no d) = inl ((l.gains p a h k).1 (inr (omega arith, m)))

    past : (q : ℕ) → size ≤ q → Dec (q < 64) → slice_index kinds' (base + 1 + q) ≡ slice_index kinds (base + 1 + q)
    past q h (no k) = f.apart (base + 1 + q) (inr (omega arith))
    past q h (yes k) = equal-members _ _ (λ a. (λ m. only a ((f.gains q a k).0 m), λ m. (f.gains q a k).1 (inl m)))
      where
        only : (a : ℕ) → Member a (slice_index kinds (base + 1 + q)) ⊎ ((a ≡ b) × Member q s) → Member a (slice_index kinds (base + 1 + q))
        only a (inl m) = m
        only a (inr (d, m)) = absurd (omega (arith, ((inside q).0 m).0))

    off : (i : ℕ) → (i ≤ base) ⊎ (base + size < i) → slice_index kinds' i ≡ slice_index kinds i
    off i (inl h) = f.apart i (inl (omega arith))
    off i (inr h) =
        let g : base + 1 + (i - (base + 1)) ≡ i = omega arith in
        subst (λ (z : ℕ). slice_index kinds' z ≡ slice_index kinds z) g (past (i - (base + 1)) (omega arith) (dec_lt (i - (base + 1)) 64))

-- The entries of the lists before v are filled, and those of the others are empty; there are n lists.
pub record KindsLeft (n labels v : ℕ) (enter sizes kinds : List ℕ) : Type 0 where
  pub done : (u p a : ℕ) → u < v → 0 < p → p ≤ slice_index sizes (u + 1)
      → Member a (slice_index kinds (occupied sizes 0 u + p)) ↔ ((a < labels) × Member p (slice_index enter (32 * (u + 1) + a)))
  pub empty : (i : ℕ) → occupied sizes 0 v < i → i ≤ occupied sizes 0 n → slice_index kinds i ≡ 0

pub lists-start : (n labels : ℕ) (enter sizes kinds : List ℕ) → ((i : ℕ) → i ≤ occupied sizes 0 n → slice_index kinds i ≡ 0)
    → KindsLeft n labels 0 enter sizes kinds
lists-start n labels enter sizes kinds zeros = record { done = λ u p a h. absurd (omega arith); empty = λ i h k. zeros i k }

pub lists-turn : (n labels v base : ℕ) (enter sizes kinds kinds' : List ℕ) → v < n → base ≡ occupied sizes 0 v
    → ListKinds (v + 1) (slice_index sizes (v + 1)) base labels enter kinds kinds' → KindsLeft n labels v enter sizes kinds
    → KindsLeft n labels (v + 1) enter sizes kinds'
lists-turn n labels v base enter sizes kinds kinds' low e f l =
    record {
      done = λ u p a h k j. side u p a h k j (ℕ_discrete u v);
      empty = λ i h k.
          f.apart i (inr (omega (arith, occupied-more sizes v))) ∙ l.empty i (omega (arith, occupied-more sizes v)) k;
    }
  where
    Right : ℕ → ℕ → ℕ → Type 0
    Right u p a = (a < labels) × Member p (slice_index enter (32 * (u + 1) + a))

    here : (p a : ℕ) → 0 < p → p ≤ slice_index sizes (v + 1) → Member a (slice_index kinds' (base + p)) ↔ Right v p a
    here p a h k = (λ m. new ((f.gains p a h k).0 m), λ m. (f.gains p a h k).1 (inr m))
      where
        new : Member a (slice_index kinds (base + p)) ⊎ Right v p a → Right v p a
        new (inl m) =
            absurd (member-none a (subst (Member a)
            (l.empty (base + p) (omega arith) (omega (arith, occupied-room sizes v n low))) m))
        new (inr m) = m

    side : (u p a : ℕ) → u < v + 1 → 0 < p → p ≤ slice_index sizes (u + 1) → Dec (u ≡ v)
        → Member a (slice_index kinds' (occupied sizes 0 u + p)) ↔ Right u p a
    side u p a h k j (yes d) =
        subst (λ (z : ℕ). Member a (slice_index kinds' (occupied sizes 0 z + p)) ↔ Right z p a) (sym d)
        (subst (λ (z : ℕ). Member a (slice_index kinds' (z + p)) ↔ Right v p a) e
        (here p a k (subst (λ (z : ℕ). p ≤ slice_index sizes (z + 1)) d j)))
    side u p a h k j (no d) =
        subst (λ (z : ℕ). Member a z ↔ Right u p a)
        (sym (f.apart (occupied sizes 0 u + p) (inl (omega (arith, occupied-room sizes u v (omega arith))))))
        (l.done u p a (omega arith) k j)

pub lists-end : (n labels v : ℕ) (enter sizes kinds : List ℕ) → v ≡ n → KindsLeft n labels v enter sizes kinds
    → Kinds n labels enter sizes kinds
lists-end n labels v enter sizes kinds e l = record { exact = λ u p a h k j. l.done u p a (omega arith) k j }
