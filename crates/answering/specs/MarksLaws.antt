-- What the marks tell (Product): a recording is marked exactly when a path leads to it that ends in an accepting state; there is one mark
-- for each recording, 0 or 1; and the sum of such numbers is how many of them are 1.
use Rattle.std.specs.Prelude.{◌≡◌, ℕ, zero, suc, ◌+◌, ◌*◌, ◌/◌, ◌%◌, ◌^◌, ◌<◌, Bool, true, false, not, ◌⊎◌, ◌↔◌, List, [], ◌∷◌, length, ◌==◌, nat_eq, slice_index}
use Rattle.std.proofs.lemmas.Bool.{false≢true, eqb-false}
use Rattle.std.proofs.Common.{inl, inr, sym, ◌∙◌, ap, ap₂, subst, add-zero, zero-add, arith, ne_eqb}
use Rattle.std.proofs.Math.Logic.Iff
use Rattle.std.specs.Prelude.{refl}
use Rattle.theory.specs.Graph.{Table, Leads, EndsBelow}
use Rattle.theory.specs.Places.{Member, intersection}
use Rattle.theory.specs.PlacesLaws.{member-none, member-intersection, not_none}
use Rattle.theory.specs.PlacesShift.{member-down, member-cut}
use Rattle.answering.specs.Product.{Machine, reached_nodes, marked, marks_from, marks}
use Rattle.answering.specs.Marked.{ones}
use Rattle.answering.specs.ProductLaws.{ends_at, StaysWithin, ends-within, reached-exactly}

-- A recording is marked where it is reached in an accepting state ..

marked-state : (M : Machine) (nodes y : ℕ)
    → (marked M nodes y ≡ true) ↔ ((s : ℕ) × (s < M.states) × Member (M.states * y + s) nodes × Member s M.accepting)
unfolding marked
marked-state M nodes y = (λ e. there (intersection part M.accepting == 0) refl e, back)
  where
    part : ℕ
    part = nodes / 2 ^ (M.states * y) % 2 ^ M.states

    there : (b : Bool) → (intersection part M.accepting == 0) ≡ b → not b ≡ true
        → (s : ℕ) × (s < M.states) × Member (M.states * y + s) nodes × Member s M.accepting
    there true p e = absurd (false≢true e)
    there false p e =
        let (s, m) = not_none (intersection part M.accepting) (eqb-false (intersection part M.accepting) 0 p) in
        let (f, g) = (member-intersection s part M.accepting).0 m in
        let (h, k) = (member-cut M.states s (nodes / 2 ^ (M.states * y))).0 f in
        (s, h, (member-down (M.states * y) s nodes).0 k, g)

    back : ((s : ℕ) × (s < M.states) × Member (M.states * y + s) nodes × Member s M.accepting)
        → not (intersection part M.accepting == 0) ≡ true
    back (s, h, m, k) =
        let f : Member s part = (member-cut M.states s (nodes / 2 ^ (M.states * y))).1 (h, (member-down (M.states * y) s nodes).1 m) in
        ap not (ne_eqb (intersection part M.accepting) 0 (λ z.
        member-none s (subst (Member s) z ((member-intersection s part M.accepting).1 (f, k)))))

-- .. which is where a path leads to it that ends in an accepting state.
pub marked-exactly : (M : Machine) (t : Table) → StaysWithin M t → (N : ℕ) → EndsBelow N t → 0 < M.states → (x y : ℕ) → x < N
    → (marked M (reached_nodes M N t x) y ≡ true) ↔ ((p : List ℕ) × Leads t p x y × Member (ends_at M 0 p) M.accepting)
marked-exactly M t stays N ends some-state x y h = Iff.trans (marked-state M (reached_nodes M N t x) y) (there, back)
  where
    there : ((s : ℕ) × (s < M.states) × Member (M.states * y + s) (reached_nodes M N t x) × Member s M.accepting)
        → (p : List ℕ) × Leads t p x y × Member (ends_at M 0 p) M.accepting
    there (s, k, m, f) =
        let (p, l, e) = (reached-exactly M t stays N ends some-state x y s h k).0 m in
        (p, l, subst (λ s. Member s M.accepting) (sym e) f)

    back : ((p : List ℕ) × Leads t p x y × Member (ends_at M 0 p) M.accepting)
        → (s : ℕ) × (s < M.states) × Member (M.states * y + s) (reached_nodes M N t x) × Member s M.accepting
    back (p, l, f) =
        let k : ends_at M 0 p < M.states = ends-within M t stays some-state l in
        (ends_at M 0 p, k, (reached-exactly M t stays N ends some-state x y (ends_at M 0 p) h k).1 (p, l, refl), f)

-- The list of marks.

pub length-marks_from : (M : Machine) (nodes n y : ℕ) → length (marks_from M nodes n y) ≡ n
unfolding marks_from
length-marks_from M nodes zero y = refl
length-marks_from M nodes (suc n) y = ap suc (length-marks_from M nodes n (suc y))

pub length-marks : (M : Machine) (N : ℕ) (t : Table) (x : ℕ) → length (marks M N t x) ≡ N
unfolding marks
length-marks M N t x = length-marks_from M (reached_nodes M N t x) N 0

-- A mark for a test: 1 where it holds, else 0.
abbrev pub mark_of : Bool → ℕ
mark_of true = 1
mark_of false = 0

mark_of-one : (b : Bool) → (mark_of b ≡ 1) ↔ (b ≡ true)
mark_of-one true = (λ e. refl, λ e. refl)
mark_of-one false = (λ e. absurd (omega arith), λ e. absurd (false≢true e))

mark_of-bit : (b : Bool) → (mark_of b ≡ 0) ⊎ (mark_of b ≡ 1)
mark_of-bit true = inr refl
mark_of-bit false = inl refl

mark-from : (M : Machine) (nodes n y i : ℕ) → i < n → slice_index (marks_from M nodes n y) i ≡ mark_of (marked M nodes (y + i))
unfolding marks_from
mark-from M nodes zero y i h = absurd (omega arith)
mark-from M nodes (suc n) y zero h = ap (λ z. mark_of (marked M nodes z)) (sym (add-zero y))
mark-from M nodes (suc n) y (suc i) h =
    mark-from M nodes n (suc y) i (omega arith) ∙ ap (λ z. mark_of (marked M nodes z)) later
  where
    later : suc y + i ≡ y + suc i
    later = omega arith

mark-at : (M : Machine) (N : ℕ) (t : Table) (x y : ℕ) → y < N → slice_index (marks M N t x) y ≡ mark_of (marked M (reached_nodes M N t x) y)
unfolding marks
mark-at M N t x y h = mark-from M (reached_nodes M N t x) N 0 y h ∙ ap (λ z. mark_of (marked M (reached_nodes M N t x) z)) (zero-add y)

pub mark-bit : (M : Machine) (N : ℕ) (t : Table) (x y : ℕ) → y < N → (slice_index (marks M N t x) y ≡ 0) ⊎ (slice_index (marks M N t x) y ≡ 1)
mark-bit M N t x y h = rw (mark-at M N t x y h) (mark_of-bit (marked M (reached_nodes M N t x) y))

pub mark-marked : (M : Machine) (N : ℕ) (t : Table) (x y : ℕ) → y < N
    → (slice_index (marks M N t x) y ≡ 1) ↔ (marked M (reached_nodes M N t x) y ≡ true)
mark-marked M N t x y h = rw (mark-at M N t x y h) (mark_of-one (marked M (reached_nodes M N t x) y))

pub mark-exactly : (M : Machine) (t : Table) → StaysWithin M t → (N : ℕ) → EndsBelow N t → 0 < M.states → (x y : ℕ) → x < N → y < N
    → (slice_index (marks M N t x) y ≡ 1) ↔ ((p : List ℕ) × Leads t p x y × Member (ends_at M 0 p) M.accepting)
mark-exactly M t stays N ends some-state x y h k =
    Iff.trans (mark-marked M N t x y k) (marked-exactly M t stays N ends some-state x y h)

-- The number of ones.

-- How many numbers below n pass a test.
unfoldable pub count_below : (ℕ → Bool) → ℕ → ℕ
count_below test zero = 0
count_below test (suc n) = count_below test n + mark_of (test n)

count-front : (test : ℕ → Bool) (n : ℕ) → count_below test (suc n) ≡ mark_of (test 0) + count_below (λ i. test (suc i)) n
unfolding count_below
count-front test zero = omega arith
count-front test (suc n) = omega (arith, count-front test n)

-- Where every number is 0 or 1, their sum counts the ones.
pub ones-counted : (l : List ℕ) → ((i : ℕ) → i < length l → (slice_index l i ≡ 0) ⊎ (slice_index l i ≡ 1))
    → ones l ≡ count_below (λ i. nat_eq (slice_index l i) 1) (length l)
unfolding ones count_below
ones-counted [] bits = refl
ones-counted (b ∷ l) bits =
    ap₂ (λ m n. m + n) (same (bits 0 (omega arith))) (ones-counted l (λ i h. bits (suc i) (omega arith)))
    ∙ sym (count-front (λ i. nat_eq (slice_index (b ∷ l) i) 1) (length l))
  where
    same : (b ≡ 0) ⊎ (b ≡ 1) → b ≡ mark_of (b == 1)
    same (inl e) = rw e
    same (inr e) = rw e
