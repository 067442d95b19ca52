-- The laws of sets of places (Places): what is in each set, which places a set below 2 ^ w can hold, and that a set is known by its
-- members. Nothing here names a width.
use Rattle.std.specs.Prelude.{ℕ, zero, suc, ◌/◌, ◌%◌, ◌^◌, ◌≤◌, ◌<◌, min, max, Bool, true, false, ◌↔◌, ◌≢◌, ◌⊎◌, ◌≡◌, refl}
use Rattle.std.proofs.lemmas.Bool.{false≢true}
use Rattle.std.proofs.Common.{inl, inr, sym, ap, ◌∙◌, subst, div-one, le_trans, le_refl, pow-suc, one-add, arith, pow_pos, pow_mono, shr-shr, eqb-true, eq-eqb}
use Rattle.std.proofs.Math.Decide.{ℕ_discrete, dec_lt}
use Rattle.std.proofs.Math.Nat.{zero-div, div-eq_of_lt, suc_inj}
use Rattle.std.proofs.Math.Arith.{bin_ind}
use Rattle.std.specs.Int.Bits.{bit_and, bit_or, and_step, or_step}
use Rattle.std.proofs.lemmas.Nat.{and_shr, or_shr, or_lt}
use Rattle.std.proofs.Math.Pow.{pow-lt}
use Rattle.theory.specs.Places.{Member, member, none, one, union, intersection, when, collect, union_over}

-- Member by member: the lowest place, and the others in the half.

pub member-zero : (s : ℕ) → Member 0 s ↔ (s % 2 ≡ 1)
member-zero s = (λ m. sym (ap (λ (x : ℕ). x % 2) (div-one s)) ∙ m, λ m. ap (λ (x : ℕ). x % 2) (div-one s) ∙ m)

half-bit : (i s : ℕ) → s / 2 ^ suc i % 2 ≡ s / 2 / 2 ^ i % 2
half-bit i s = ap (λ (x : ℕ). s / 2 ^ x % 2) (sym (one-add i)) ∙ sym (ap (λ (x : ℕ). x % 2) (shr-shr s 1 i))

pub member-suc : (i s : ℕ) → Member (suc i) s ↔ Member i (s / 2)
member-suc i s = (λ m. sym (half-bit i s) ∙ m, λ m. half-bit i s ∙ m)

pub member-none : (i : ℕ) → ¬ Member i 0
member-none i m = let e : 0 / 2 ^ i ≡ 0 = zero-div (2 ^ i) in omega arith

even_power : (j : ℕ) → 2 ^ suc j % 2 ≡ 0
even_power j = rw (pow-suc 2 j) (omega arith)

half-power : (j : ℕ) → 2 ^ suc j / 2 ≡ 2 ^ j
half-power j = rw (pow-suc 2 j) (omega arith)

pub member-one : (i j : ℕ) → Member i (one j) ↔ (i ≡ j)
member-one zero zero = (λ m. refl, λ e. refl)
member-one zero (suc j) = (λ m. absurd (even m), λ e. absurd (omega arith))
  where
    even : Member 0 (one (suc j)) → ⊥
    even m = omega (arith, (member-zero (2 ^ suc j)).0 m, even_power j)
member-one (suc i) zero = (λ m. absurd (member-none i ((member-suc i 1).0 m)), λ e. absurd (omega arith))
member-one (suc i) (suc j) = (
  λ m. ap suc ((member-one i j).0 (rw (half-power j) at ((member-suc i (2 ^ suc j)).0 m))),
  λ e. (member-suc i (2 ^ suc j)).1 (rw (half-power j) ((member-one i j).1 (suc_inj e))),
)

-- The test for a member.

pub member-test : (i s : ℕ) → (member i s ≡ true) ↔ Member i s
member-test i s = (eqb-true (s / 2 ^ i % 2) 1, eq-eqb (s / 2 ^ i % 2) 1)

pub dec_member : (i s : ℕ) → Dec (Member i s)
dec_member i s = ℕ_discrete (s / 2 ^ i % 2) 1

-- Union, intersection and the conditional set.

or-bit : (i s t : ℕ) → union s t / 2 ^ i % 2 ≡ max (s / 2 ^ i % 2) (t / 2 ^ i % 2)
or-bit i s t = ap (λ (x : ℕ). x % 2) (or_shr s t i) ∙ odd (s / 2 ^ i) (t / 2 ^ i)
  where
    odd : (a b : ℕ) → bit_or a b % 2 ≡ max (a % 2) (b % 2)
    odd a b = omega (arith, or_step a b)

and-bit : (i s t : ℕ) → intersection s t / 2 ^ i % 2 ≡ min (s / 2 ^ i % 2) (t / 2 ^ i % 2)
and-bit i s t = ap (λ (x : ℕ). x % 2) (and_shr s t i) ∙ odd (s / 2 ^ i) (t / 2 ^ i)
  where
    odd : (a b : ℕ) → bit_and a b % 2 ≡ min (a % 2) (b % 2)
    odd a b = omega (arith, and_step a b)

either-bit : (x y : ℕ) → x < 2 → max x y ≡ 1 → (x ≡ 1) ⊎ (y ≡ 1)
either-bit zero y h e = inr (omega arith)
either-bit (suc zero) y h e = inl refl
either-bit (suc (suc x)) y h e = absurd (omega arith)

pub member_union : (i s t : ℕ) → Member i (union s t) ↔ (Member i s ⊎ Member i t)
member_union i s t = (λ m. either-bit (s / 2 ^ i % 2) (t / 2 ^ i % 2) (omega arith) (sym (or-bit i s t) ∙ m), back)
  where
    back : Member i s ⊎ Member i t → Member i (union s t)
    back (inl m) = or-bit i s t ∙ omega arith
    back (inr m) = or-bit i s t ∙ omega arith

pub member-intersection : (i s t : ℕ) → Member i (intersection s t) ↔ (Member i s × Member i t)
member-intersection i s t = (
  λ m. let e : min (s / 2 ^ i % 2) (t / 2 ^ i % 2) ≡ 1 = sym (and-bit i s t) ∙ m in (omega arith, omega arith),
  λ m. and-bit i s t ∙ omega arith,
)

pub member-when : (b : Bool) (i s : ℕ) → Member i (when b s) ↔ ((b ≡ true) × Member i s)
member-when true i s = (λ m. (refl, m), λ m. m.1)
member-when false i s = (λ m. absurd (member-none i m), λ m. absurd (false≢true m.0))

-- Sets of places below w are the numbers below 2 ^ w.

pub member_below : (w s i : ℕ) → s < 2 ^ w → Member i s → i < w
member_below w s i h m = go (dec_lt i w)
  where
    go : Dec (i < w) → i < w
    go (yes l) = l
    go (no l) =
        let e : s / 2 ^ i ≡ 0 = div-eq_of_lt (le_trans h (pow_mono (omega arith))) in
        absurd (omega arith)

-- No place from w on is in a set of places below w.
pub member-beyond : (w s i : ℕ) → s < 2 ^ w → w ≤ i → member i s ≡ false
member-beyond w s i h l = not-member (member i s) refl
  where
    not-member : (b : Bool) → member i s ≡ b → member i s ≡ false
    not-member true e = let k = member_below w s i h ((member-test i s).0 e) in absurd (omega arith)
    not-member false e = e

pub none_below : (w : ℕ) → none < 2 ^ w
none_below w = pow_pos w

pub one_below : (w i : ℕ) → i < w → one i < 2 ^ w
one_below w i h = pow-lt h

pub union-below : (w s t : ℕ) → s < 2 ^ w → t < 2 ^ w → union s t < 2 ^ w
union-below w s t h l = or_lt w s t h l

pub when-below : (w : ℕ) (b : Bool) (s : ℕ) → s < 2 ^ w → when b s < 2 ^ w
when-below w true s h = h
when-below w false s h = pow_pos w

pub wider : (v w s : ℕ) → v ≤ w → s < 2 ^ v → s < 2 ^ w
wider v w s l h = le_trans h (pow_mono l)

-- A set is known by its members.

pub not_none : (s : ℕ) → s ≢ 0 → (i : ℕ) × Member i s
not_none = bin_ind (λ (s : ℕ). s ≢ 0 → (i : ℕ) × Member i s) (λ h. absurd (h refl)) (λ s more h. pick s more h (dec_member 0 s))
  where
    pick : (s : ℕ) → (s / 2 ≢ 0 → (i : ℕ) × Member i (s / 2)) → s ≢ 0 → Dec (Member 0 s) → (i : ℕ) × Member i s
    pick s more h (yes m) = (0, m)
    pick s more h (no m) = let r = more (half-nonzero s h (λ e. m ((member-zero s).1 e))) in (suc r.0, (member-suc r.0 s).1 r.1)
      where
        half-nonzero : (s : ℕ) → s ≢ 0 → ¬ (s % 2 ≡ 1) → s / 2 ≢ 0
        half-nonzero s h m e = omega arith

pub no-members : (s : ℕ) → ((i : ℕ) → ¬ Member i s) → s ≡ 0
no-members s h = go (ℕ_discrete s 0)
  where
    go : Dec (s ≡ 0) → s ≡ 0
    go (yes e) = e
    go (no e) = let r = not_none s e in absurd (h r.0 r.1)

pub equal-members : (s t : ℕ) → ((i : ℕ) → Member i s ↔ Member i t) → s ≡ t
equal-members =
    bin_ind (λ (s : ℕ). (t : ℕ) → ((i : ℕ) → Member i s ↔ Member i t) → s ≡ t)
    (λ t h. sym (no-members t (λ i m. member-none i ((h i).1 m))))
    (λ s half t h. join s t (half (t / 2) (λ i. halves s t h i)) (low s t (h 0)))
  where
    halves : (s t : ℕ) → ((i : ℕ) → Member i s ↔ Member i t) → (i : ℕ) → Member i (s / 2) ↔ Member i (t / 2)
    halves s t h i = (λ m. (member-suc i t).0 ((h (suc i)).0 ((member-suc i s).1 m)), λ m. (member-suc i s).0 ((h (suc i)).1 ((member-suc i t).1 m)))

    low : (s t : ℕ) → Member 0 s ↔ Member 0 t → s % 2 ≡ t % 2
    low s t h = go (ℕ_discrete (s % 2) 1)
      where
        go : Dec (s % 2 ≡ 1) → s % 2 ≡ t % 2
        go (yes e) = e ∙ sym ((member-zero t).0 (h.0 ((member-zero s).1 e)))
        go (no e) =
            let f : ¬ (t % 2 ≡ 1) = λ d. e ((member-zero s).0 (h.1 ((member-zero t).1 d))) in
            omega arith

    join : (s t : ℕ) → s / 2 ≡ t / 2 → s % 2 ≡ t % 2 → s ≡ t
    join s t p q = omega arith

pub same-members : (w s t : ℕ) → s < 2 ^ w → t < 2 ^ w → ((i : ℕ) → i < w → Member i s ↔ Member i t) → s ≡ t
same-members w s t hs ht h =
    equal-members s t (λ i. (λ m. (h i (member_below w s i hs m)).0 m, λ m. (h i (member_below w t i ht m)).1 m))

pub members-below : (w s : ℕ) → ((i : ℕ) → Member i s → i < w) → s < 2 ^ w
members-below zero s h = rw (no-members s (λ i m. absurd (omega (arith, h i m)))) (pow_pos 0)
members-below (suc w) s h =
    let l : s / 2 < 2 ^ w = members-below w (s / 2) (λ i m. omega (arith, h (suc i) ((member-suc i s).1 m))) in
    rw (pow-suc 2 w) (omega arith)

-- The set that a test collects, and the union over a set.

pub member-collect : (test : ℕ → Bool) (n i : ℕ) → Member i (collect test n) ↔ ((i < n) × (test i ≡ true))
unfolding collect
member-collect test zero i = (λ m. absurd (member-none i m), λ m. absurd (omega arith))
member-collect test (suc n) i = (
  λ m. there (member-collect test n i) ((member_union i (collect test n) (when (test n) (one n))).0 m),
  λ m. back (member-collect test n i) m.0 m.1 (ℕ_discrete i n),
)
  where
    there : Member i (collect test n) ↔ ((i < n) × (test i ≡ true)) → Member i (collect test n) ⊎ Member i (when (test n) (one n))
        → (i < suc n) × (test i ≡ true)
    there ih (inl m) = let r = ih.0 m in (omega arith, r.1)
    there ih (inr m) =
        let r = (member-when (test n) i (one n)).0 m in
        let e : i ≡ n = (member-one i n).0 r.1 in
        (omega arith, rw e r.0)

    back : Member i (collect test n) ↔ ((i < n) × (test i ≡ true)) → i < suc n → test i ≡ true → Dec (i ≡ n)
        → Member i (union (collect test n) (when (test n) (one n)))
    back ih h t (yes e) =
        (member_union i (collect test n) (when (test n) (one n))).1
        (inr ((member-when (test n) i (one n)).1 (rw e at t, (member-one i n).1 e)))
    back ih h t (no e) = (member_union i (collect test n) (when (test n) (one n))).1 (inl (ih.1 (omega arith, t)))

pub collect-below : (test : ℕ → Bool) (n : ℕ) → collect test n < 2 ^ n
unfolding collect
collect-below test zero = pow_pos 0
collect-below test (suc n) =
    union-below (suc n) (collect test n) (when (test n) (one n)) (wider n (suc n) (collect test n) (omega arith) (collect-below test n))
    (when-below (suc n) (test n) (one n) (one_below (suc n) n (le_refl (suc n))))

pub member-union_over : (next : ℕ → ℕ) (n s y : ℕ)
    → Member y (union_over next n s) ↔ ((x : ℕ) × (x < n) × Member x s × Member y (next x))
unfolding union_over
member-union_over next zero s y = (λ m. absurd (member-none y m), λ m. absurd (omega arith))
member-union_over next (suc n) s y = (
  λ m. there (member-union_over next n s y).0 ((member_union y (union_over next n s) (when (member n s) (next n))).0 m),
  λ m. (member_union y (union_over next n s) (when (member n s) (next n))).1
      (back (member-union_over next n s y).1 m.0 m.1 m.2 m.3 (ℕ_discrete m.0 n)),
)
  where
    there : (Member y (union_over next n s) → (x : ℕ) × (x < n) × Member x s × Member y (next x))
        → Member y (union_over next n s) ⊎ Member y (when (member n s) (next n)) → (x : ℕ) × (x < suc n) × Member x s × Member y (next x)
    there ih (inl m) = let r = ih m in (r.0, omega arith, r.2, r.3)
    there ih (inr m) = let r = (member-when (member n s) y (next n)).0 m in (n, le_refl (suc n), (member-test n s).0 r.0, r.1)

    back : (((x : ℕ) × (x < n) × Member x s × Member y (next x)) → Member y (union_over next n s))
        → (x : ℕ) → x < suc n → Member x s → Member y (next x) → Dec (x ≡ n)
        → Member y (union_over next n s) ⊎ Member y (when (member n s) (next n))
    back ih x h a b (yes e) =
        let m : Member n s = subst (λ (z : ℕ). Member z s) e a in
        inr ((member-when (member n s) y (next n)).1 ((member-test n s).1 m, subst (λ (z : ℕ). Member y (next z)) e b))
    back ih x h a b (no e) = inl (ih (x, omega arith, a, b))

pub union_over-below : (next : ℕ → ℕ) (w n s : ℕ) → ((x : ℕ) → x < n → next x < 2 ^ w) → union_over next n s < 2 ^ w
unfolding union_over
union_over-below next w zero s h = pow_pos w
union_over-below next w (suc n) s h =
    union-below w (union_over next n s) (when (member n s) (next n)) (union_over-below next w n s (λ x l. h x (omega arith)))
    (when-below w (member n s) (next n) (h n (le_refl (suc n))))
