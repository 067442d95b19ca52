-- A word is followed place by place, the least first: its least place by the trailing zeros, and the places that are left without it.
use Rattle.std.specs.Prelude.{ℕ, zero, suc, ◌*◌, ◌-◌, ◌/◌, ◌%◌, ◌^◌, ◌<◌, List, ◌↔◌, ◌≢◌, ◌⊎◌, ◌≡◌, refl, get_or}
use Rattle.std.proofs.Common.{inl, inr, sym, ap, ◌∙◌, subst, pow-suc, arith}
use Rattle.std.proofs.Math.Decide.{ℕ_discrete}
use Rattle.std.specs.Int.Bits.{bit_and, and_step, and_self, or_zero_l, or_zero_r}
use Rattle.std.specs.Int.Count.{count_trailing_zeros, under}
use Rattle.theory.specs.Places.{Member, union, union_over}
use Rattle.theory.specs.PlacesLaws.{member-zero, member-suc, member-none, member_below, member_union, member-union_over}
use Rattle.theory.specs.PlacesLaws.{equal-members, no-members}
use Rattle.theory.specs.Automaton.{nexts}
use Rattle.theory.proofs.AutomatonLaws.{member-nexts, entry-within}
use Rattle.places.specs.UnionLaws.{union_assoc}
use Rattle.places.specs.NextPlace.{trailing-here}

-- The places of a word but the least.

pub least-left : (k n : ℕ) → n ≢ 0 → n < 2 ^ k → (i : ℕ) → Member i (bit_and n (n - 1)) ↔ (Member i n × ¬ (i ≡ count_trailing_zeros k n))
unfolding count_trailing_zeros
least-left zero n d h i = absurd (d (omega arith))
least-left (suc k) n d h i =
    go (n % 2) refl i
    (λ e. least-left k (n / 2) (λ z. d (omega arith)) (let p : n < 2 ^ k * 2 = rw (pow-suc 2 k) at h in omega arith))
  where
    go : (b : ℕ) → n % 2 ≡ b → (i : ℕ)
        → (n % 2 ≡ 0 → (j : ℕ) → Member j (bit_and (n / 2) (n / 2 - 1)) ↔ (Member j (n / 2) × ¬ (j ≡ count_trailing_zeros k (n / 2))))
        → Member i (bit_and n (n - 1)) ↔ (Member i n × ¬ (i ≡ under b (count_trailing_zeros k (n / 2))))
    go zero e zero ih = (
      λ m. absurd (omega (arith, (member-zero (bit_and n (n - 1))).0 m, and_step n (n - 1))),
      λ m. absurd (omega (arith, (member-zero n).0 m.0)),
    )
    go zero e (suc j) ih =
        let p : (n - 1) / 2 ≡ n / 2 - 1 = omega arith in
        let q : bit_and (n / 2) ((n - 1) / 2) ≡ bit_and (n / 2) (n / 2 - 1) = ap (bit_and (n / 2)) p in
        let half : bit_and n (n - 1) / 2 ≡ bit_and (n / 2) (n / 2 - 1) = omega (arith, and_step n (n - 1)) in (
          λ m.
              let r = (ih e j).0 (subst (Member j) half ((member-suc j (bit_and n (n - 1))).0 m)) in
              ((member-suc j n).1 r.0, λ z. r.1 (omega arith)),
          λ (m, u). (member-suc j (bit_and n (n - 1))).1 (subst (Member j) (sym half) ((ih e j).1 ((member-suc j n).0 m, λ z. u (ap suc z)))),
        )
    go (suc b) e zero ih = (λ m. absurd (omega (arith, (member-zero (bit_and n (n - 1))).0 m, and_step n (n - 1))), λ m. absurd (m.1 refl))
    go (suc b) e (suc j) ih =
        let p : (n - 1) / 2 ≡ n / 2 = omega arith in
        let q : bit_and (n / 2) ((n - 1) / 2) ≡ n / 2 = ap (bit_and (n / 2)) p ∙ and_self (n / 2) in
        let half : bit_and n (n - 1) / 2 ≡ n / 2 = omega (arith, and_step n (n - 1)) in (
          λ m. ((member-suc j n).1 (subst (Member j) half ((member-suc j (bit_and n (n - 1))).0 m)), λ z. omega arith),
          λ (m, u). (member-suc j (bit_and n (n - 1))).1 (subst (Member j) (sym half) ((member-suc j n).0 m)),
        )

pub least-small : (s : ℕ) → s ≢ 0 → s < 2 ^ 64 → count_trailing_zeros 64 s < 64
least-small s d h = member_below 64 s (count_trailing_zeros 64 s) h (trailing-here 64 s d h)

-- The places of `whole` that have been passed where those of `rest` are left.
abbrev pub Passed : ℕ → ℕ → ℕ → Type 0
Passed whole rest i = Member i whole × ¬ Member i rest

pub passed_none : (whole i : ℕ) → ¬ Passed whole whole i
passed_none whole i p = p.1 p.0

-- Taking the least place off passes this place, and no other.
pub passed-turn : (whole rest : ℕ) → ((i : ℕ) → Member i rest → Member i whole) → rest ≢ 0 → rest < 2 ^ 64
    → (i : ℕ) → Passed whole (bit_and rest (rest - 1)) i ↔ (Passed whole rest i ⊎ (i ≡ count_trailing_zeros 64 rest))
passed-turn whole rest within d h i = (λ p. there p (ℕ_discrete i (count_trailing_zeros 64 rest)), back)
  where
    there : Passed whole (bit_and rest (rest - 1)) i → Dec (i ≡ count_trailing_zeros 64 rest) → Passed whole rest i ⊎ (i ≡ count_trailing_zeros 64 rest)
    there p (yes e) = inr e
    there p (no e) = inl (p.0, λ m. p.1 ((least-left 64 rest d h i).1 (m, e)))

    back : Passed whole rest i ⊎ (i ≡ count_trailing_zeros 64 rest) → Passed whole (bit_and rest (rest - 1)) i
    back (inl p) = (p.0, λ m. p.1 ((least-left 64 rest d h i).0 m).0)
    back (inr e) = (
      within i (subst (λ z. Member z rest) (sym e) (trailing-here 64 rest d h)),
      λ m. ((least-left 64 rest d h i).0 m).1 e,
    )

-- What is left is of the whole.
pub rest-within : (whole rest : ℕ) → ((i : ℕ) → Member i rest → Member i whole) → rest ≢ 0 → rest < 2 ^ 64
    → (i : ℕ) → Member i (bit_and rest (rest - 1)) → Member i whole
rest-within whole rest within d h i m = within i ((least-left 64 rest d h i).0 m).0

-- Where nothing is left, all are passed.
pub passed-all : (whole rest : ℕ) → rest ≡ 0 → (i : ℕ) → Passed whole rest i ↔ Member i whole
passed-all whole rest e i = (λ p. p.0, λ m. (m, λ n. member-none i (subst (Member i) e n)))

-- A word is followed place by place, the least first: what is left, with what has been followed, is what the whole gives.

abbrev pub FollowedLeft : (ℕ → ℕ) → ℕ → ℕ → ℕ → Type 0
FollowedLeft f row next rest = union next (union_over f 64 rest) ≡ union_over f 64 row

pub least_first : (f : ℕ → ℕ) (s : ℕ) → s ≢ 0 → s < 2 ^ 64
    → union (f (count_trailing_zeros 64 s)) (union_over f 64 (bit_and s (s - 1))) ≡ union_over f 64 s
least_first f s d h = equal-members (union (f t) (union_over f 64 left)) (union_over f 64 s) λ y. (
  λ m. there y ((member_union y (f t) (union_over f 64 left)).0 m),
  λ m.
      let (x, l, a, b) = (member-union_over f 64 s y).0 m in
      (member_union y (f t) (union_over f 64 left)).1 (back y x l a b (ℕ_discrete x t)),
)
  where
    t : ℕ
    t = count_trailing_zeros 64 s

    left : ℕ
    left = bit_and s (s - 1)

    there : (y : ℕ) → Member y (f t) ⊎ Member y (union_over f 64 left) → Member y (union_over f 64 s)
    there y (inl m) =
        let u = trailing-here 64 s d h in
        (member-union_over f 64 s y).1 (t, member_below 64 s t h u, u, m)
    there y (inr m) =
        let (x, l, a, b) = (member-union_over f 64 left y).0 m in
        (member-union_over f 64 s y).1 (x, l, ((least-left 64 s d h x).0 a).0, b)

    back : (y x : ℕ) → x < 64 → Member x s → Member y (f x) → Dec (x ≡ t) → Member y (f t) ⊎ Member y (union_over f 64 left)
    back y x l a b (yes e) = inl (subst (λ z. Member y (f z)) e b)
    back y x l a b (no e) = inr ((member-union_over f 64 left y).1 (x, l, (least-left 64 s d h x).1 (a, e), b))

pub over_none : (f : ℕ → ℕ) (n : ℕ) → union_over f n 0 ≡ 0
over_none f n = no-members (union_over f n 0) λ y m. let (x, l, a, b) = (member-union_over f n 0 y).0 m in member-none x a

pub followed-start : (f : ℕ → ℕ) (row : ℕ) → FollowedLeft f row 0 row
followed-start f row = or_zero_l (union_over f 64 row)

pub followed-turn : (f : ℕ → ℕ) (row next rest : ℕ) → rest ≢ 0 → rest < 2 ^ 64 → FollowedLeft f row next rest
    → FollowedLeft f row (union next (f (count_trailing_zeros 64 rest))) (bit_and rest (rest - 1))
followed-turn f row next rest d h s =
    union_assoc next (f (count_trailing_zeros 64 rest)) (union_over f 64 (bit_and rest (rest - 1))) ∙ ap (union next) (least_first f rest d h) ∙ s

pub followed-end : (f : ℕ → ℕ) (row next rest : ℕ) → rest ≡ 0 → FollowedLeft f row next rest → next ≡ union_over f 64 row
followed-end f row next rest e s =
    sym (or_zero_r next) ∙ ap (union next) (sym (ap (union_over f 64) e ∙ over_none f 64)) ∙ s

-- A table followed from the places of a word: its entries at these places.
pub nexts-over-word : (s : ℕ) (t : List ℕ) → s < 2 ^ 64 → union_over (λ x. get_or t x 0) 64 s ≡ nexts s t
nexts-over-word s t h = equal-members (union_over (λ x. get_or t x 0) 64 s) (nexts s t) λ y. (
  λ m. let (x, l, a, b) = (member-union_over (λ x. get_or t x 0) 64 s y).0 m in (member-nexts s t y).1 (x, entry-within t x y b, a, b),
  λ m.
      let (x, l, a, b) = (member-nexts s t y).0 m in
      (member-union_over (λ x. get_or t x 0) 64 s y).1 (x, member_below 64 s x h a, a, b),
)
