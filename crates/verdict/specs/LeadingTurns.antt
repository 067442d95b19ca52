-- The loops that turn the follow sets the other way round (Columns, Leading): what they keep, turn by turn.
use Rattle.std.specs.Prelude.{◌≡◌, ℕ, ◌+◌, ◌-◌, ◌*◌, ◌%◌, ◌^◌, ◌<◌, ◌≤◌, ◌≢◌, ◌⊎◌, ◌↔◌, List, length, bit_and, slice_index, slice_set}
use Rattle.std.proofs.Common.{inl, inr, sym, ap, ◌∙◌, subst, arith, get_or-set_same, get_or-set_other}
use Rattle.std.specs.Prelude.{refl}
use Rattle.std.proofs.Math.Decide.{ℕ_discrete}
use Rattle.std.specs.Int.Count.{count_trailing_zeros}
use Rattle.theory.specs.Places.{Member, union}
use Rattle.theory.specs.PlacesLaws.{member-none, member-one, member_union}
use Rattle.places.specs.NextPlace.{trailing-here}
use Rattle.verdict.specs.Columns.{Leading}
use Rattle.places.specs.Followed.{least-left, least-small}
use Rattle.verdict.specs.WordBits.{one_bit}

-- The entries from `base` on, of the places of a set, gain the place o.
pub record LedFrom (base o s : ℕ) (before before' : List ℕ) : Type 0 where
  pub gains : (p x : ℕ) → p < 64 → Member x (slice_index before' (base + p)) ↔ (Member x (slice_index before (base + p)) ⊎ ((x ≡ o) × Member p s))
  pub apart : (i : ℕ) → (i < base) ⊎ (base + 64 ≤ i) → slice_index before' i ≡ slice_index before i

-- What the entries gained, with what they gain for the places left, is what they gain for the set.
pub record LedLeft (base o s : ℕ) (before₀ before : List ℕ) (rest : ℕ) : Type 0 where
  pub sum : (p x : ℕ) → p < 64
      → (Member x (slice_index before (base + p)) ⊎ ((x ≡ o) × Member p rest)) ↔ (Member x (slice_index before₀ (base + p)) ⊎ ((x ≡ o) × Member p s))
  pub apart : (i : ℕ) → (i < base) ⊎ (base + 64 ≤ i) → slice_index before i ≡ slice_index before₀ i

pub led-start : (base o s : ℕ) (before : List ℕ) → LedLeft base o s before before s
led-start base o s before = record { sum = λ p x h. (λ m. m, λ m. m); apart = λ i h. refl }

pub led-turn : (base o s : ℕ) (before₀ before : List ℕ) (rest : ℕ) → rest ≢ 0 → rest < 2 ^ 64 → o < 64 → base + 64 ≤ length before
    → LedLeft base o s before₀ before rest
    → LedLeft base o s before₀
    (slice_set before (base + count_trailing_zeros 64 rest) (union (slice_index before (base + count_trailing_zeros 64 rest)) ((1 * 2 ^ o) % 2 ^ 64)))
    (bit_and rest (rest - 1))
led-turn base o s before₀ before rest d h small room l =
    record {
      sum = λ p x k. (λ m. (l.sum p x k).0 (there p x k m (ℕ_discrete p t)), λ m. back p x k ((l.sum p x k).1 m) (ℕ_discrete p t));
      apart = λ i k. get_or-set_other before (base + t) i new 0 (λ e. outside i k e) ∙ l.apart i k;
    }
  where
    t : ℕ
    t = count_trailing_zeros 64 rest

    in-word : t < 64
    in-word = least-small rest d h

    new : ℕ
    new = union (slice_index before (base + t)) ((1 * 2 ^ o) % 2 ^ 64)

    outside : (i : ℕ) → (i < base) ⊎ (base + 64 ≤ i) → i ≢ base + t
    outside i (inl k) e = omega (arith, in-word)
    outside i (inr k) e = omega (arith, in-word)

    left : ℕ
    left = bit_and rest (rest - 1)

    at : (x : ℕ) → Member x (slice_index (slice_set before (base + t) new) (base + t)) ↔ (Member x (slice_index before (base + t)) ⊎ (x ≡ o))
    at x =
        subst (λ (z : ℕ). Member x z ↔ (Member x (slice_index before (base + t)) ⊎ (x ≡ o)))
        (sym (get_or-set_same before (base + t) new 0 (omega (arith, in-word)))) (
          λ m. right ((member_union x (slice_index before (base + t)) ((1 * 2 ^ o) % 2 ^ 64)).0 m),
          λ m. (member_union x (slice_index before (base + t)) ((1 * 2 ^ o) % 2 ^ 64)).1 (wrong m),
        )
      where
        right : Member x (slice_index before (base + t)) ⊎ Member x ((1 * 2 ^ o) % 2 ^ 64) → Member x (slice_index before (base + t)) ⊎ (x ≡ o)
        right (inl m) = inl m
        right (inr m) = inr ((member-one x o).0 (subst (Member x) (one_bit o small) m))

        wrong : Member x (slice_index before (base + t)) ⊎ (x ≡ o) → Member x (slice_index before (base + t)) ⊎ Member x ((1 * 2 ^ o) % 2 ^ 64)
        wrong (inl m) = inl m
        wrong (inr e) = inr (subst (Member x) (sym (one_bit o small)) ((member-one x o).1 e))

    off : (p : ℕ) → p ≢ t → slice_index (slice_set before (base + t) new) (base + p) ≡ slice_index before (base + p)
    off p e = get_or-set_other before (base + t) (base + p) new 0 (λ f. e (omega arith))

    there : (p x : ℕ) → p < 64 → Member x (slice_index (slice_set before (base + t) new) (base + p)) ⊎ ((x ≡ o) × Member p left) → Dec (p ≡ t)
        → Member x (slice_index before (base + p)) ⊎ ((x ≡ o) × Member p rest)
    there p x k (inr (e, m)) f = inr (e, ((least-left 64 rest d h p).0 m).0)
    there p x k (inl m) (yes f) =
        subst (λ (z : ℕ). Member x (slice_index before (base + z)) ⊎ ((x ≡ o) × Member z rest)) (sym f)
        (added ((at x).0 (subst (λ (z : ℕ). Member x (slice_index (slice_set before (base + t) new) (base + z))) f m)))
      where
        added : Member x (slice_index before (base + t)) ⊎ (x ≡ o) → Member x (slice_index before (base + t)) ⊎ ((x ≡ o) × Member t rest)
        added (inl u) = inl u
        added (inr e) = inr (e, trailing-here 64 rest d h)
    there p x k (inl m) (no f) = inl (subst (Member x) (off p f) m)

    back : (p x : ℕ) → p < 64 → Member x (slice_index before (base + p)) ⊎ ((x ≡ o) × Member p rest) → Dec (p ≡ t)
        → Member x (slice_index (slice_set before (base + t) new) (base + p)) ⊎ ((x ≡ o) × Member p left)
    back p x k m (yes f) =
        inl (subst (λ (z : ℕ). Member x (slice_index (slice_set before (base + t) new) (base + z))) (sym f)
        ((at x).1 (given (subst (λ (z : ℕ). Member x (slice_index before (base + z)) ⊎ ((x ≡ o) × Member z rest)) f m))))
      where
        given : Member x (slice_index before (base + t)) ⊎ ((x ≡ o) × Member t rest) → Member x (slice_index before (base + t)) ⊎ (x ≡ o)
        given (inl u) = inl u
        given (inr (e, u)) = inr e
    back p x k (inl m) (no f) = inl (subst (Member x) (sym (off p f)) m)
    back p x k (inr (e, m)) (no f) = inr (e, (least-left 64 rest d h p).1 (m, f))

pub led-end : (base o s : ℕ) (before₀ before : List ℕ) (rest : ℕ) → rest ≡ 0 → LedLeft base o s before₀ before rest
    → LedFrom base o s before₀ before
led-end base o s before₀ before rest e l =
    record {
      gains = λ p x k. (λ m. (l.sum p x k).0 (inl m), λ m. only p x ((l.sum p x k).1 m));
      apart = l.apart;
    }
  where
    only : (p x : ℕ) → Member x (slice_index before (base + p)) ⊎ ((x ≡ o) × Member p rest) → Member x (slice_index before (base + p))
    only p x (inl m) = m
    only p x (inr (f, m)) = absurd (member-none p (subst (Member p) e m))

-- The entries of the list v gain its places before o, each in those that it leads to; none of these leads to the start.
pub record ListBefore (v o : ℕ) (follow before before' : List ℕ) : Type 0 where
  pub gains : (p x : ℕ) → p < 64 → Member x (slice_index before' (64 * v + p))
      ↔ (Member x (slice_index before (64 * v + p)) ⊎ ((x < o) × Member p (slice_index follow (64 * (v + 1) + x))))
  pub apart : (i : ℕ) → (i < 64 * v) ⊎ (64 * v + 64 ≤ i) → slice_index before' i ≡ slice_index before i
  pub no_start : (x : ℕ) → x < o → ¬ Member 0 (slice_index follow (64 * (v + 1) + x))

-- They gain all of its places.
abbrev pub ListLed : ℕ → ℕ → List ℕ → List ℕ → List ℕ → Type 0
ListLed v size follow before before' = ListBefore v (size + 1) follow before before'

pub list-start : (v : ℕ) (follow before : List ℕ) → ListBefore v 0 follow before before
list-start v follow before =
    record {
      gains = λ p x h. (λ m. inl m, λ m. old p x m);
      apart = λ i h. refl;
      no_start = λ x h. absurd (omega arith);
    }
  where
    old : (p x : ℕ) → Member x (slice_index before (64 * v + p)) ⊎ ((x < 0) × Member p (slice_index follow (64 * (v + 1) + x)))
        → Member x (slice_index before (64 * v + p))
    old p x (inl m) = m
    old p x (inr (h, m)) = absurd (omega arith)

pub list-turn : (v o : ℕ) (follow before₀ before before' : List ℕ) (s : ℕ) → s ≡ slice_index follow (64 * (v + 1) + o) → ¬ Member 0 s
    → LedFrom (64 * v) o s before before' → ListBefore v o follow before₀ before → ListBefore v (o + 1) follow before₀ before'
list-turn v o follow before₀ before before' s e none f l =
    record {
      gains = λ p x h. (λ m. there p x h ((f.gains p x h).0 m), λ m. (f.gains p x h).1 (back p x h m (ℕ_discrete x o)));
      apart = λ i h. f.apart i h ∙ l.apart i h;
      no_start = λ x h. start x h (ℕ_discrete x o);
    }
  where
    led : ℕ → ℕ
    led x = slice_index follow (64 * (v + 1) + x)

    there : (p x : ℕ) → p < 64 → Member x (slice_index before (64 * v + p)) ⊎ ((x ≡ o) × Member p s)
        → Member x (slice_index before₀ (64 * v + p)) ⊎ ((x < o + 1) × Member p (led x))
    there p x h (inl m) = earlier ((l.gains p x h).0 m)
      where
        earlier : Member x (slice_index before₀ (64 * v + p)) ⊎ ((x < o) × Member p (led x))
            → Member x (slice_index before₀ (64 * v + p)) ⊎ ((x < o + 1) × Member p (led x))
        earlier (inl u) = inl u
        earlier (inr (k, u)) = inr (omega arith, u)
    there p x h (inr (d, m)) = inr (omega arith, subst (Member p) (e ∙ ap led (sym d)) m)

    back : (p x : ℕ) → p < 64 → Member x (slice_index before₀ (64 * v + p)) ⊎ ((x < o + 1) × Member p (led x)) → Dec (x ≡ o)
        → Member x (slice_index before (64 * v + p)) ⊎ ((x ≡ o) × Member p s)
    back p x h (inl m) c = inl ((l.gains p x h).1 (inl m))
    back p x h (inr (k, m)) (yes d) = inr (d, subst (Member p) (ap led d ∙ sym e) m)
    back p x h (inr (k, m)) (no d) = inl ((l.gains p x h).1 (inr (omega arith, m)))

    start : (x : ℕ) → x < o + 1 → Dec (x ≡ o) → ¬ Member 0 (led x)
    start x h (yes d) m = none (subst (Member 0) (ap led d ∙ sym e) m)
    start x h (no d) m = l.no_start x (omega arith) m

-- The entries of the lists before v are filled, and those of the others are empty; there are n lists.
pub record ListsLed (n v : ℕ) (follow sizes before : List ℕ) : Type 0 where
  pub done : (u x p : ℕ) → u < v → p < 64 → Member x (slice_index before (64 * u + p))
      ↔ ((x ≤ slice_index sizes (u + 1)) × Member p (slice_index follow (64 * (u + 1) + x)))
  pub empty : (i : ℕ) → 64 * v ≤ i → i < 64 * n → slice_index before i ≡ 0
  pub no_start : (u x : ℕ) → u < v → x ≤ slice_index sizes (u + 1) → ¬ Member 0 (slice_index follow (64 * (u + 1) + x))

pub lists-start : (n : ℕ) (follow sizes before : List ℕ) → ((i : ℕ) → i < 64 * n → slice_index before i ≡ 0) → ListsLed n 0 follow sizes before
lists-start n follow sizes before zeros =
    record {
      done = λ u x p h. absurd (omega arith);
      empty = λ i h k. zeros i k;
      no_start = λ u x h. absurd (omega arith);
    }

pub lists-turn : (n v : ℕ) (follow sizes before before' : List ℕ) → v < n → ListLed v (slice_index sizes (v + 1)) follow before before'
    → ListsLed n v follow sizes before → ListsLed n (v + 1) follow sizes before'
lists-turn n v follow sizes before before' low f l =
    record {
      done = λ u x p h k. side u x p h k (ℕ_discrete u v);
      empty = λ i h k. f.apart i (inr (omega arith)) ∙ l.empty i (omega arith) k;
      no_start = λ u x h k. start u x h k (ℕ_discrete u v);
    }
  where
    Right : ℕ → ℕ → ℕ → Type 0
    Right u x p = (x ≤ slice_index sizes (u + 1)) × Member p (slice_index follow (64 * (u + 1) + x))

    here : (x p : ℕ) → p < 64 → Member x (slice_index before' (64 * v + p)) ↔ Right v x p
    here x p k = (λ m. new ((f.gains p x k).0 m), λ (h, m). (f.gains p x k).1 (inr (omega arith, m)))
      where
        new : Member x (slice_index before (64 * v + p))
            ⊎ ((x < slice_index sizes (v + 1) + 1) × Member p (slice_index follow (64 * (v + 1) + x))) → Right v x p
        new (inl m) = absurd (member-none x (subst (Member x) (l.empty (64 * v + p) (omega arith) (omega arith)) m))
        new (inr (h, m)) = (omega arith, m)

    side : (u x p : ℕ) → u < v + 1 → p < 64 → Dec (u ≡ v) → Member x (slice_index before' (64 * u + p)) ↔ Right u x p
    side u x p h k (yes e) = subst (λ (z : ℕ). Member x (slice_index before' (64 * z + p)) ↔ Right z x p) (sym e) (here x p k)
    side u x p h k (no d) =
        subst (λ (z : ℕ). Member x z ↔ Right u x p) (sym (f.apart (64 * u + p) (inl (omega arith)))) (l.done u x p (omega arith) k)

    start : (u x : ℕ) → u < v + 1 → x ≤ slice_index sizes (u + 1) → Dec (u ≡ v) → ¬ Member 0 (slice_index follow (64 * (u + 1) + x))
    start u x h k (yes e) m =
        f.no_start x (subst (λ (z : ℕ). x < slice_index sizes (z + 1) + 1) e (omega arith))
        (subst (λ (z : ℕ). Member 0 (slice_index follow (64 * (z + 1) + x))) e m)
    start u x h k (no d) m = l.no_start u x (omega arith) k m

pub lists-end : (n v : ℕ) (follow sizes before : List ℕ) → v ≡ n → ListsLed n v follow sizes before → Leading n follow sizes before
lists-end n v follow sizes before e l =
    record {
      exact = λ u x p h k b. (
        λ m. ((l.done u x p (omega arith) (omega arith)).0 m).1,
        λ m. (l.done u x p (omega arith) (omega arith)).1
            (k, m),
      );
      within = λ u x p h b m. ((l.done u x p (omega arith) (omega arith)).0 m).0;
      no_start = λ u x h k. l.no_start u x (omega arith) k;
    }
