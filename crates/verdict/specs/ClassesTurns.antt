-- The loops that number classes and gather those of places (Classes, ClassesOf and Numbered): what they keep, turn by turn.
use Rattle.std.specs.Prelude.{◌≡◌, ℕ, zero, suc, ◌+◌, ◌-◌, ◌*◌, ◌/◌, ◌%◌, ◌^◌, ◌<◌, ◌≤◌, ◌≢◌, ◌⊎◌, ◌↔◌, List, length, bit_and, slice_index, slice_index_or, slice_set}
use Rattle.std.proofs.Common.{inl, inr, sym, ap, ◌∙◌, subst, arith, get_or-set_same, get_or-set_other}
use Rattle.std.specs.Prelude.{refl}
use Rattle.std.proofs.Math.Decide.{ℕ_discrete}
use Rattle.std.proofs.lemmas.Nat.{and_mask}
use Rattle.std.specs.Int.Count.{count_trailing_zeros}
use Rattle.theory.specs.Places.{Member, union}
use Rattle.theory.specs.PlacesLaws.{member-zero, member-suc, member-none, member-one, member_union}
use Rattle.theory.specs.PlacesShift.{member-cut}
use Rattle.places.specs.NextPlace.{trailing-here}
use Rattle.places.specs.Followed.{least-left}
use Rattle.verdict.specs.WordBits.{one_bit}
use Rattle.verdict.specs.Classes.{ClassesOf, Numbered}

-- The class d is that of an occurrence of a set, which comes after the offset `base`.
abbrev pub ClassIn : List ℕ → ℕ → ℕ → ℕ → Type 0
ClassIn classes base s d = (o : ℕ) × Member (suc o) s × (slice_index classes (base + suc o) % 64 ≡ d)

-- The classes found, with those of the occurrences left, are those of the set.
pub record ClassesLeft (classes : List ℕ) (base s all rest : ℕ) : Type 0 where
  pub sum : (d : ℕ) → (Member d all ⊎ ClassIn classes base rest d) ↔ ((Member 0 s × (d ≡ 0)) ⊎ ClassIn classes base s d)
  pub inside : (p : ℕ) → Member p rest → (0 < p) × Member p s

pub classes-start : (classes : List ℕ) (base s : ℕ) → ClassesLeft classes base s (bit_and s 1) (s - bit_and s 1)
classes-start classes base s =
    subst (λ (z : ℕ). ClassesLeft classes base s z (s - z)) (sym (and_mask s 1)) (
    record {
      sum = λ d. (λ m. there d m, λ m. back d m);
      inside = λ p m. later p m;
    }
    )
  where
    half : (s - s % 2) / 2 ≡ s / 2
    half = omega arith

    same : (o : ℕ) → Member (suc o) (s - s % 2) ↔ Member (suc o) s
    same o = (
      λ m. (member-suc o s).1 (subst (Member o) half ((member-suc o (s - s % 2)).0 m)),
      λ m. (member-suc o (s - s % 2)).1 (subst (Member o) (sym half) ((member-suc o s).0 m)),
    )

    there : (d : ℕ) → Member d (s % 2) ⊎ ClassIn classes base (s - s % 2) d → (Member 0 s × (d ≡ 0)) ⊎ ClassIn classes base s d
    there d (inl m) =
        let r = (member-cut 1 d s).0 m in
        let e : d ≡ 0 = omega (arith, r.0) in
        inl (subst (λ (z : ℕ). Member z s) e r.1, e)
    there d (inr (o, m, e)) = inr (o, (same o).0 m, e)

    back : (d : ℕ) → (Member 0 s × (d ≡ 0)) ⊎ ClassIn classes base s d → Member d (s % 2) ⊎ ClassIn classes base (s - s % 2) d
    back d (inl (m, e)) = inl ((member-cut 1 d s).1 (omega arith, subst (λ (z : ℕ). Member z s) (sym e) m))
    back d (inr (o, m, e)) = inr (o, (same o).1 m, e)

    later : (p : ℕ) → Member p (s - s % 2) → (0 < p) × Member p s
    later zero m = absurd (omega (arith, (member-zero (s - s % 2)).0 m))
    later (suc o) m = (omega arith, (same o).0 m)

pub classes-turn : (classes : List ℕ) (base s all rest c : ℕ) → rest ≢ 0 → rest < 2 ^ 64 → c ≡ slice_index classes (base + count_trailing_zeros 64 rest)
    → ClassesLeft classes base s all rest
    → ClassesLeft classes base s (union all ((1 * 2 ^ (c % 64)) % 2 ^ 64)) (bit_and rest (rest - 1))
classes-turn classes base s all rest c d h e l =
    record {
      sum = λ y. (λ m. (l.sum y).0 (there y m), λ m. back y ((l.sum y).1 m));
      inside = λ p m. l.inside p ((least-left 64 rest d h p).0 m).0;
    }
  where
    t : ℕ
    t = count_trailing_zeros 64 rest

    here : Member t rest
    here = trailing-here 64 rest d h

    new : ℕ
    new = (1 * 2 ^ (c % 64)) % 2 ^ 64

    left : ℕ
    left = bit_and rest (rest - 1)

    next : suc (t - 1) ≡ t
    next = omega (arith, (l.inside t here).0)

    added : (y : ℕ) → Member y new ↔ (y ≡ c % 64)
    added y = subst (λ (z : ℕ). Member y z ↔ (y ≡ c % 64)) (sym (one_bit (c % 64) (omega arith))) (member-one y (c % 64))

    there : (y : ℕ) → Member y (union all new) ⊎ ClassIn classes base left y → Member y all ⊎ ClassIn classes base rest y
    there y (inl m) = side ((member_union y all new).0 m)
      where
        side : Member y all ⊎ Member y new → Member y all ⊎ ClassIn classes base rest y
        side (inl u) = inl u
        side (inr u) =
            inr (
              t - 1,
              subst (λ (z : ℕ). Member z rest) (sym next) here,
              ap (λ (z : ℕ). slice_index classes (base + z) % 64) next ∙ sym (ap (λ (z : ℕ). z % 64) e) ∙ sym ((added y).0 u),
            )
    there y (inr (o, m, f)) = inr (o, ((least-left 64 rest d h (suc o)).0 m).0, f)

    back : (y : ℕ) → Member y all ⊎ ClassIn classes base rest y → Member y (union all new) ⊎ ClassIn classes base left y
    back y (inl m) = inl ((member_union y all new).1 (inl m))
    back y (inr (o, m, f)) = side (ℕ_discrete (suc o) t)
      where
        side : Dec (suc o ≡ t) → Member y (union all new) ⊎ ClassIn classes base left y
        side (yes g) =
            inl ((member_union y all new).1 (inr ((added y).1
            (sym f ∙ ap (λ (z : ℕ). slice_index classes (base + z) % 64) g ∙ sym (ap (λ (z : ℕ). z % 64) e)))))
        side (no g) = inr (o, (least-left 64 rest d h (suc o)).1 (m, g), f)

pub classes-end : (classes : List ℕ) (base s all rest : ℕ) → rest ≡ 0 → ClassesLeft classes base s all rest → ClassesOf classes base s all
classes-end classes base s all rest e l = record { exact = λ d. (λ m. (l.sum d).0 (inl m), λ m. only d ((l.sum d).1 m)) }
  where
    only : (d : ℕ) → Member d all ⊎ ClassIn classes base rest d → Member d all
    only d (inl m) = m
    only d (inr (o, m, f)) = absurd (member-none (suc o) (subst (Member (suc o)) e m))

-- The offsets before o have classes from 1 on, below k; the class of the offset 0 is as it was.
pub record NumberedBefore (o k : ℕ) (classes₀ classes : List ℕ) : Type 0 where
  pub inside : (i : ℕ) → 0 < i → i < o → (0 < slice_index classes i) × (slice_index classes i < k)
  pub alone : slice_index_or classes 0 0 ≡ slice_index classes₀ 0

pub numbered-start : (k : ℕ) (classes : List ℕ) → NumberedBefore 1 k classes classes
numbered-start k classes = record { inside = λ i h j. absurd (omega arith); alone = refl }

pub numbered-turn : (o k k' c : ℕ) (classes₀ classes : List ℕ) → 0 < o → o < length classes → 0 < c → c < k' → k ≤ k'
    → NumberedBefore o k classes₀ classes → NumberedBefore (o + 1) k' classes₀ (slice_set classes o c)
numbered-turn o k k' c classes₀ classes some room low high more l =
    record {
      inside = λ i h j. side i h j (ℕ_discrete i o);
      alone = get_or-set_other classes o 0 c 0 (λ e. omega arith) ∙ l.alone;
    }
  where
    side : (i : ℕ) → 0 < i → i < o + 1 → Dec (i ≡ o) → (0 < slice_index (slice_set classes o c) i) × (slice_index (slice_set classes o c) i < k')
    side i h j (yes e) =
        let f : slice_index_or (slice_set classes o c) i 0 ≡ c = ap (λ (z : ℕ). slice_index (slice_set classes o c) z) e ∙ get_or-set_same classes o c 0 room in
        (omega arith, omega arith)
    side i h j (no e) =
        let f : slice_index_or (slice_set classes o c) i 0 ≡ slice_index_or classes i 0 = get_or-set_other classes o i c 0 e in
        let r = l.inside i h (omega arith) in
        (omega (arith, r.0), omega (arith, r.1))

pub numbered-end : (w o k : ℕ) (classes₀ classes : List ℕ) → 0 < k → k ≤ 63 → k ≤ w → w ≤ o → NumberedBefore o k classes₀ classes
    → Numbered w k classes
numbered-end w o k classes₀ classes some few narrow e l =
    record { some = some; few = few; narrow = narrow; inside = λ i h j. l.inside i h (omega arith) }
