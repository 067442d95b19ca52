-- The laws of tables (Table): the test for a table is exact; a table's ends and labels are within range, its length is a multiple of
-- three, and its triples are sorted.
use Rattle.std.specs.Prelude.{◌≡◌, ℕ, zero, suc, ◌+◌, ◌*◌, ◌%◌, ◌<◌, Bool, true, false, ◌&&◌, ◌||◌, ◌⊎◌, ◌↔◌, List, [], ◌∷◌, length, ◌==◌, nat_le, nat_lt, slice_index}
use Rattle.std.proofs.lemmas.Bool.{false≢true}
use Rattle.std.proofs.Common.{inl, inr, ◌∙◌, subst, subst₂, arith, ltb-true, leb-true, eqb-true, lt-ltb, le-leb, eq-eqb}
use Rattle.std.proofs.Math.Logic.Iff
use Rattle.std.specs.Prelude.{refl}
use Rattle.theory.specs.Path as P
use Rattle.theory.specs.Path.{Below, nothing}
use Rattle.theory.specs.Graph.{Table, Linked, here, later, Leads, stay, along, EndsBelow}
use Rattle.answering.specs.Table.{most_links, Rises, RisingAfter, last, next, Rising, none, some, IsTable}
use Rattle.answering.specs.Table.{rises, rising_after, rising, is_table}

-- The length is a multiple of three.

after-length : {N k x a y : ℕ} {t : Table} → RisingAfter N k x a y t → length t % 3 ≡ 0
after-length last = refl
after-length (next h i j r more) = omega (arith, after-length more)

rising-length : {N k : ℕ} {t : Table} → Rising N k t → length t % 3 ≡ 0
rising-length none = refl
rising-length (some h i j r) = omega (arith, after-length r)

pub table-length : {N k : ℕ} {t : Table} → IsTable N k t → length t % 3 ≡ 0
table-length h = rising-length h.1

-- The tests are exact.

either-test : (a b : Bool) {C D : Type 0} → (a ≡ true) ↔ C → (b ≡ true) ↔ D → ((a || b) ≡ true) ↔ (C ⊎ D)
either-test true b f g = (λ e. inl (f.0 refl), λ h. refl)
either-test false b {C} {D} f g = (λ e. inr (g.0 e), back)
  where
    back : C ⊎ D → b ≡ true
    back (inl c) = absurd (false≢true (f.1 c))
    back (inr d) = g.1 d

both-test : (a b : Bool) {C D : Type 0} → (a ≡ true) ↔ C → (b ≡ true) ↔ D → ((a && b) ≡ true) ↔ (C × D)
both-test true b f g = (λ e. (f.0 refl, g.0 e), λ h. g.1 h.1)
both-test false b f g = (λ e. absurd (false≢true e), λ h. f.1 h.0)

pub rises-exactly : (x a y u b v : ℕ) → (rises x a y u b v ≡ true) ↔ Rises x a y u b v
unfolding rises
rises-exactly x a y u b v =
    either-test (nat_lt x u) (x == u && (nat_lt a b || (a == b && nat_lt y v))) (ltb-true x u, lt-ltb x u)
    (both-test (x == u) (nat_lt a b || (a == b && nat_lt y v)) (eqb-true x u, eq-eqb x u)
    (either-test (nat_lt a b) (a == b && nat_lt y v) (ltb-true a b, lt-ltb a b)
    (both-test (a == b) (nat_lt y v) (eqb-true a b, eq-eqb a b) (ltb-true y v, lt-ltb y v))))

within-exactly : (N k u b v : ℕ) → ((nat_lt u N && (nat_lt b k && nat_lt v N)) ≡ true) ↔ ((u < N) × ((b < k) × (v < N)))
within-exactly N k u b v =
    both-test (nat_lt u N) (nat_lt b k && nat_lt v N) (ltb-true u N, lt-ltb u N)
    (both-test (nat_lt b k) (nat_lt v N) (ltb-true b k, lt-ltb b k) (ltb-true v N, lt-ltb v N))

after-exactly : (N k x a y : ℕ) (t : Table) → (rising_after N k x a y t ≡ true) ↔ RisingAfter N k x a y t
unfolding rising_after
after-exactly N k x a y [] = (λ e. last, λ r. refl)
after-exactly N k x a y (u ∷ []) = (λ e. absurd (false≢true e), λ r. absurd (omega (arith, after-length r)))
after-exactly N k x a y (u ∷ (b ∷ [])) = (λ e. absurd (false≢true e), λ r. absurd (omega (arith, after-length r)))
after-exactly N k x a y (u ∷ (b ∷ (v ∷ t))) =
    Iff.trans
    (both-test (nat_lt u N && (nat_lt b k && nat_lt v N)) (rises x a y u b v && rising_after N k u b v t) (within-exactly N k u b v)
    (both-test (rises x a y u b v) (rising_after N k u b v t) (rises-exactly x a y u b v) (after-exactly N k u b v t)))
    (λ h. next h.0.0 h.0.1.0 h.0.1.1 h.1.0 h.1.1, back)
  where
    back : RisingAfter N k x a y (u ∷ (b ∷ (v ∷ t))) → ((u < N) × ((b < k) × (v < N))) × (Rises x a y u b v × RisingAfter N k u b v t)
    back (next h i j r more) = ((h, (i, j)), (r, more))

rising-exactly : (N k : ℕ) (t : Table) → (rising N k t ≡ true) ↔ Rising N k t
unfolding rising
rising-exactly N k [] = (λ e. none, λ r. refl)
rising-exactly N k (u ∷ []) = (λ e. absurd (false≢true e), λ r. absurd (omega (arith, rising-length r)))
rising-exactly N k (u ∷ (b ∷ [])) = (λ e. absurd (false≢true e), λ r. absurd (omega (arith, rising-length r)))
rising-exactly N k (u ∷ (b ∷ (v ∷ t))) =
    Iff.trans
    (both-test (nat_lt u N && (nat_lt b k && nat_lt v N)) (rising_after N k u b v t) (within-exactly N k u b v) (after-exactly N k u b v t))
    (λ h. some h.0.0 h.0.1.0 h.0.1.1 h.1, back)
  where
    back : Rising N k (u ∷ (b ∷ (v ∷ t))) → ((u < N) × ((b < k) × (v < N))) × RisingAfter N k u b v t
    back (some h i j r) = ((h, (i, j)), r)

pub is-table-exactly : (N k : ℕ) (t : Table) → (is_table N k t ≡ true) ↔ IsTable N k t
unfolding is_table
is-table-exactly N k t =
    both-test (nat_le (length t) (3 * most_links)) (rising N k t) (leb-true (length t) (3 * most_links), le-leb (length t) (3 * most_links))
    (rising-exactly N k t)

-- Every triple is within range.

after-within : {N k x a y u b v : ℕ} {t : Table} → RisingAfter N k x a y t → Linked t u b v → (u < N) × ((b < k) × (v < N))
after-within last l = elim l [ ]
after-within (next h i j r more) here = (h, (i, j))
after-within (next h i j r more) (later l) = after-within more l

rising-within : {N k u b v : ℕ} {t : Table} → Rising N k t → Linked t u b v → (u < N) × ((b < k) × (v < N))
rising-within none l = elim l [ ]
rising-within (some h i j r) here = (h, (i, j))
rising-within (some h i j r) (later l) = after-within r l

pub table-ends : {N k : ℕ} {t : Table} → IsTable N k t → EndsBelow N t
table-ends h x a y l = let (u, v) = rising-within h.1 l in (u, v.1)

pub table-labels : {N k : ℕ} {t : Table} → IsTable N k t → {x a y : ℕ} → Linked t x a y → a < k
table-labels h l = (rising-within h.1 l).1.0

-- A path that leads anywhere has its labels below k.
pub table-path : {N k : ℕ} {t : Table} → IsTable N k t → {p : List ℕ} {x y : ℕ} → Leads t p x y → Below k p
table-path h stay = nothing
table-path h (along l more) = P.next (table-labels h l) (table-path h more)

-- The order of triples.

pub rises-transitive : {x a y u b v z c w : ℕ} → Rises x a y u b v → Rises u b v z c w → Rises x a y z c w
rises-transitive (inl h) (inl k) = inl (omega arith)
rises-transitive (inl h) (inr (e, k)) = inl (omega arith)
rises-transitive (inr (d, h)) (inl k) = inl (omega arith)
rises-transitive (inr (d, inl h)) (inr (e, inl k)) = inr (d ∙ e, inl (omega arith))
rises-transitive (inr (d, inl h)) (inr (e, inr (f, k))) = inr (d ∙ e, inl (omega arith))
rises-transitive (inr (d, inr (g, h))) (inr (e, inl k)) = inr (d ∙ e, inl (omega arith))
rises-transitive (inr (d, inr (g, h))) (inr (e, inr (f, k))) = inr (d ∙ e, inr (g ∙ f, omega arith))

-- Every triple behind another comes after it in the order.
pub after-beyond : {N k x a y u b v : ℕ} {t : Table} → RisingAfter N k x a y t → Linked t u b v → Rises x a y u b v
after-beyond last l = elim l [ ]
after-beyond (next h i j r more) here = r
after-beyond (next h i j r more) (later l) = rises-transitive r (after-beyond more l)

-- The triples of a table, by their numbers: the triple number i begins at the place 3 × i.

abbrev pub TripleAt : Table → ℕ → (ℕ → ℕ → ℕ → Type 0) → Type 0
TripleAt t n P = P (slice_index t n) (slice_index t (suc n)) (slice_index t (suc (suc n)))

abbrev pub RisesAt : Table → ℕ → ℕ → Type 0
RisesAt t m n = TripleAt t m (λ x a y. TripleAt t n (Rises x a y))

next-triple : (i : ℕ) → suc (suc (suc (3 * i))) ≡ 3 * suc i
next-triple i = omega arith

pub linked-at : (t : Table) (i : ℕ) → 3 * i + 2 < length t → TripleAt t (3 * i) (Linked t)
linked-at [] i h = absurd (omega arith)
linked-at (u ∷ []) i h = absurd (omega arith)
linked-at (u ∷ (b ∷ [])) i h = absurd (omega arith)
linked-at (u ∷ (b ∷ (v ∷ t))) zero h = here
linked-at (u ∷ (b ∷ (v ∷ t))) (suc i) h =
    subst (λ n. TripleAt (u ∷ (b ∷ (v ∷ t))) n (Linked (u ∷ (b ∷ (v ∷ t))))) (next-triple i) (later (linked-at t i (omega arith)))

-- Each triple of a table comes before every later one.

first-rises : {N k u b v : ℕ} {t : Table} → RisingAfter N k u b v t → (i j : ℕ) → i < j → 3 * j + 2 < length (u ∷ (b ∷ (v ∷ t)))
    → RisesAt (u ∷ (b ∷ (v ∷ t))) (3 * i) (3 * j)
first-rises r zero zero l h = absurd (omega arith)
first-rises {u = u} {b = b} {v = v} {t = t} r zero (suc j) l h =
    subst (λ n. TripleAt (u ∷ (b ∷ (v ∷ t))) n (Rises u b v)) (next-triple j) (after-beyond r (linked-at t j (omega arith)))
first-rises r (suc i) zero l h = absurd (omega arith)
first-rises last (suc i) (suc j) l h = absurd (omega arith)
first-rises {u = u} {b = b} {v = v} {t = t} (next f g k r more) (suc i) (suc j) l h =
    subst₂ (RisesAt (u ∷ (b ∷ (v ∷ t)))) (next-triple i) (next-triple j) (first-rises more i j (omega arith) (omega arith))

pub table-rises : {N k : ℕ} {t : Table} → IsTable N k t → (i j : ℕ) → i < j → 3 * j + 2 < length t → RisesAt t (3 * i) (3 * j)
table-rises {N} {k} h = go h.1
  where
    go : {t : Table} → Rising N k t → (i j : ℕ) → i < j → 3 * j + 2 < length t → RisesAt t (3 * i) (3 * j)
    go none i j l h = absurd (omega arith)
    go (some f g k r) i j l h = first-rises r i j l h
