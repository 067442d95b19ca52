-- The laws of rows of two words (WideRows): which offsets a row has whose words are joined, cut or put together.
use Rattle.std.specs.Prelude.{◌≡◌, ℕ, zero, suc, ◌+◌, ◌/◌, ◌%◌, ◌^◌, ◌<◌, ◌≤◌, ◌≢◌, ◌⊎◌, ◌↔◌, List, length, slice_index, slice_index_or, slice_set}
use Rattle.std.proofs.Common.{inl, inr, sym, ap, ◌∙◌, subst, arith, length-set, get_or-set_same, get_or-set_other}
use Rattle.std.specs.Prelude.{refl}
use Rattle.std.proofs.Math.Decide.{ℕ_discrete}
use Rattle.theory.specs.Places.{Member, union, intersection, union_over}
use Rattle.theory.specs.PlacesLaws.{member-none, member_below, member_union, member-intersection, member-union_over, not_none}
use Rattle.verdict.specs.WideRows.{word_of, Has, InPair, Gained}

-- The words of a row: the offsets below 64, and those from 64 on.

pub has-low : (low high y : ℕ) → y < 64 → Member y low → Has low high y
has-low low high y h m =
    let p : y % 64 ≡ y = omega arith in
    let q : y / 64 ≡ 0 = omega arith in
    record { below = omega arith; bit = rw (p, q) m }

pub has-high : (low high z : ℕ) → z < 64 → Member z high → Has low high (64 + z)
has-high low high z h m =
    let p : (64 + z) % 64 ≡ z = omega arith in
    let q : (64 + z) / 64 ≡ 1 = omega arith in
    record { below = omega arith; bit = rw (p, q) m }

pub has-cases : (low high y : ℕ) → Has low high y
    → ((y < 64) × Member y low) ⊎ ((z : ℕ) × (z < 64) × (y ≡ 64 + z) × Member z high)
has-cases low high y h = side (y / 64) refl h.bit
  where
    side : (k : ℕ) → y / 64 ≡ k → Member (y % 64) (word_of low high k)
        → ((y < 64) × Member y low) ⊎ ((z : ℕ) × (z < 64) × (y ≡ 64 + z) × Member z high)
    side zero e m =
        let p : y % 64 ≡ y = omega arith in
        inl (omega arith, subst (λ z. Member z low) p m)
    side (suc k) e m = inr (y % 64, omega arith, omega (arith, h.below), m)

pub has-none : (y : ℕ) → ¬ Has 0 0 y
has-none y h = side (y / 64) h.bit
  where
    side : (k : ℕ) → Member (y % 64) (word_of 0 0 k) → ⊥
    side zero m = member-none (y % 64) m
    side (suc k) m = member-none (y % 64) m

-- Word by word.

word-union : (a b c d k : ℕ) → word_of (union a c) (union b d) k ≡ union (word_of a b k) (word_of c d k)
word-union a b c d zero = refl
word-union a b c d (suc k) = refl

word-both : (a b c d k : ℕ) → word_of (intersection a c) (intersection b d) k ≡ intersection (word_of a b k) (word_of c d k)
word-both a b c d zero = refl
word-both a b c d (suc k) = refl

word_over : (f g : ℕ → ℕ) (s k : ℕ)
    → word_of (union_over f 64 s) (union_over g 64 s) k ≡ union_over (λ o. word_of (f o) (g o) k) 64 s
word_over f g s zero = refl
word_over f g s (suc k) = refl

pub has-union : (a b c d y : ℕ) → Has (union a c) (union b d) y ↔ (Has a b y ⊎ Has c d y)
has-union a b c d y = (
  λ h. there h.below ((member_union (y % 64) (word_of a b (y / 64)) (word_of c d (y / 64))).0
      (subst (Member (y % 64)) (word-union a b c d (y / 64)) h.bit)),
  back,
)
  where
    there : y < 128 → Member (y % 64) (word_of a b (y / 64)) ⊎ Member (y % 64) (word_of c d (y / 64)) → Has a b y ⊎ Has c d y
    there l (inl m) = inl (record { below = l; bit = m })
    there l (inr m) = inr (record { below = l; bit = m })

    join : Member (y % 64) (word_of a b (y / 64)) ⊎ Member (y % 64) (word_of c d (y / 64))
        → Member (y % 64) (word_of (union a c) (union b d) (y / 64))
    join m =
        subst (Member (y % 64)) (sym (word-union a b c d (y / 64)))
        ((member_union (y % 64) (word_of a b (y / 64)) (word_of c d (y / 64))).1 m)

    back : Has a b y ⊎ Has c d y → Has (union a c) (union b d) y
    back (inl h) = record { below = h.below; bit = join (inl h.bit) }
    back (inr h) = record { below = h.below; bit = join (inr h.bit) }

pub has_both : (a b c d y : ℕ) → Has (intersection a c) (intersection b d) y ↔ (Has a b y × Has c d y)
has_both a b c d y = (
  λ h.
      let (m, k) = (member-intersection (y % 64) (word_of a b (y / 64)) (word_of c d (y / 64))).0
      (subst (Member (y % 64)) (word-both a b c d (y / 64)) h.bit) in
      (record { below = h.below; bit = m }, record { below = h.below; bit = k }),
  λ (h, k). record {
    below = h.below;
    bit = subst (Member (y % 64)) (sym (word-both a b c d (y / 64)))
        ((member-intersection (y % 64) (word_of a b (y / 64)) (word_of c d (y / 64))).1 (h.bit, k.bit));
  },
)

pub has-over : (f g : ℕ → ℕ) (s y : ℕ)
    → Has (union_over f 64 s) (union_over g 64 s) y ↔ ((o : ℕ) × (o < 64) × Member o s × Has (f o) (g o) y)
has-over f g s y = (
  λ h.
      let (o, l, m, k) = (member-union_over (λ o. word_of (f o) (g o) (y / 64)) 64 s (y % 64)).0
      (subst (Member (y % 64)) (word_over f g s (y / 64)) h.bit) in
      (o, l, m, record { below = h.below; bit = k }),
  λ (o, l, m, k). record {
    below = k.below;
    bit = subst (Member (y % 64)) (sym (word_over f g s (y / 64)))
        ((member-union_over (λ o. word_of (f o) (g o) (y / 64)) 64 s (y % 64)).1 (o, l, m, k.bit));
  },
)

-- Two rows that have an offset in common, and two that have none.

pub has-meets : (a b c d : ℕ) → a < 2 ^ 64 → b < 2 ^ 64 → union (intersection a c) (intersection b d) ≢ 0
    → (y : ℕ) × Has a b y × Has c d y
has-meets a b c d ha hb e =
    let (i, m) = not_none (union (intersection a c) (intersection b d)) e in
    side i ((member_union i (intersection a c) (intersection b d)).0 m)
  where
    side : (i : ℕ) → Member i (intersection a c) ⊎ Member i (intersection b d) → (y : ℕ) × Has a b y × Has c d y
    side i (inl m) =
        let (x, z) = (member-intersection i a c).0 m in
        let l = member_below 64 a i ha x in
        (i, has-low a b i l x, has-low c d i l z)
    side i (inr m) =
        let (x, z) = (member-intersection i b d).0 m in
        let l = member_below 64 b i hb x in
        (64 + i, has-high a b i l x, has-high c d i l z)

pub has-apart : (a b c d : ℕ) → union (intersection a c) (intersection b d) ≡ 0 → (y : ℕ) → Has a b y → ¬ Has c d y
has-apart a b c d e y h k = side (has-cases (intersection a c) (intersection b d) y ((has_both a b c d y).1 (h, k)))
  where
    side : ((y < 64) × Member y (intersection a c)) ⊎ ((z : ℕ) × (z < 64) × (y ≡ 64 + z) × Member z (intersection b d)) → ⊥
    side (inl (l, m)) = member-none y (subst (Member y) e ((member_union y (intersection a c) (intersection b d)).1 (inl m)))
    side (inr (z, l, f, m)) = member-none z (subst (Member z) e ((member_union z (intersection a c) (intersection b d)).1 (inr m)))

-- A row whose words are unchanged.
pub same-pair : (l l' : List ℕ) (i : ℕ) → slice_index l' i ≡ slice_index l i → slice_index l' (i + 1) ≡ slice_index l (i + 1)
    → (y : ℕ) → InPair l' i y ↔ InPair l i y
same-pair l l' i p q y = (
  λ h. subst (λ z. Has (slice_index l i) z y) q (subst (λ z. Has z (slice_index l' (i + 1)) y) p h),
  λ h. subst (λ z. Has z (slice_index l' (i + 1)) y) (sym p) (subst (λ z. Has (slice_index l i) z y) (sym q) h),
)

-- Two words are joined to those that stand at i.
pub joins_pair : (l : List ℕ) (i low high : ℕ) (New : ℕ → Type 0) → i + 2 ≤ length l → ((y : ℕ) → Has low high y ↔ New y)
    → Gained i New l
    (slice_set (slice_set l i (union (slice_index l i) low)) (i + 1) (union (slice_index (slice_set l i (union (slice_index l i) low)) (i + 1)) high))
joins_pair l i low high New room exact =
    record {
      here = λ y. (
        λ h. there y ((has-union (slice_index l i) (slice_index l (i + 1)) low high y).0
            (subst (λ z. Has (union (slice_index l i) low) z y) second (subst (λ z. Has z (slice_index l'' (i + 1)) y) first h))),
        λ h. subst (λ z. Has z (slice_index l'' (i + 1)) y) (sym first) (subst (λ z. Has (union (slice_index l i) low) z y) (sym second)
            ((has-union (slice_index l i) (slice_index l (i + 1)) low high y).1 (back y h))),
      );
      others = λ j d e. get_or-set_other l' (i + 1) j (union (slice_index l' (i + 1)) high) 0 e ∙ get_or-set_other l i j (union (slice_index l i) low) 0 d;
    }
  where
    l' : List ℕ
    l' = slice_set l i (union (slice_index l i) low)

    l'' : List ℕ
    l'' = slice_set l' (i + 1) (union (slice_index l' (i + 1)) high)

    first : slice_index_or l'' i 0 ≡ union (slice_index l i) low
    first =
        get_or-set_other l' (i + 1) i (union (slice_index l' (i + 1)) high) 0 (λ e. omega arith)
        ∙ get_or-set_same l i (union (slice_index l i) low) 0 (omega arith)

    second : slice_index_or l'' (i + 1) 0 ≡ union (slice_index l (i + 1)) high
    second =
        get_or-set_same l' (i + 1) (union (slice_index l' (i + 1)) high) 0 (omega (arith, length-set l i (union (slice_index l i) low)))
        ∙ ap (λ z. union z high) (get_or-set_other l i (i + 1) (union (slice_index l i) low) 0 (λ e. omega arith))

    there : (y : ℕ) → InPair l i y ⊎ Has low high y → InPair l i y ⊎ New y
    there y (inl h) = inl h
    there y (inr h) = inr ((exact y).0 h)

    back : (y : ℕ) → InPair l i y ⊎ New y → InPair l i y ⊎ Has low high y
    back y (inl h) = inl h
    back y (inr h) = inr ((exact y).1 h)

-- A row that gains offsets or stands apart from the one that does.
pub gained-row : (i j : ℕ) (New : ℕ → Type 0) (l l' : List ℕ) → i ≢ j + 1 → i + 1 ≢ j → Gained j New l l'
    → (y : ℕ) → InPair l' i y ↔ (InPair l i y ⊎ ((i ≡ j) × New y))
gained-row i j New l l' a b g y = side (ℕ_discrete i j)
  where
    side : Dec (i ≡ j) → InPair l' i y ↔ (InPair l i y ⊎ ((i ≡ j) × New y))
    side (yes e) = (
      λ h. there ((g.here y).0 (subst (λ z. InPair l' z y) e h)),
      λ h. subst (λ z. InPair l' z y) (sym e) ((g.here y).1 (back h)),
    )
      where
        there : InPair l j y ⊎ New y → InPair l i y ⊎ ((i ≡ j) × New y)
        there (inl h) = inl (subst (λ z. InPair l z y) (sym e) h)
        there (inr h) = inr (e, h)

        back : InPair l i y ⊎ ((i ≡ j) × New y) → InPair l j y ⊎ New y
        back (inl h) = inl (subst (λ z. InPair l z y) e h)
        back (inr (f, h)) = inr h
    side (no d) =
        let same = same-pair l l' i (g.others i d a) (g.others (i + 1) b (λ e. d (omega arith))) y in
        (λ h. inl (same.0 h), λ h. back h same)
      where
        back : InPair l i y ⊎ ((i ≡ j) × New y) → (InPair l' i y ↔ InPair l i y) → InPair l' i y
        back (inl h) same = same.1 h
        back (inr (f, h)) same = absurd (d f)
