-- The ends of links: for each symbol a and each recording x, of N, the set of the recordings that the links from x over a lead to, in four
-- words; it is the row N × a + x (Pairs). There are at most 256 recordings.
use Rattle.std.specs.Prelude.{◌≡◌, ℕ, ◌+◌, ◌*◌, ◌/◌, ◌<◌, ◌≤◌, ◌⊎◌, ◌↔◌, List, length, replicate, slice_index}
use Rattle.std.proofs.Common.{inl, inr, sym, ◌∙◌, subst, subst₂, mul_comm, arith}
use Rattle.std.proofs.Math.Decide.{ℕ_discrete}
use Rattle.std.proofs.lemmas.List.{length-replicate}
use Rattle.theory.specs.Graph.{Table, Linked}
use Rattle.answering.specs.ProductLaws.{same-node, node-below}
use Rattle.answering.specs.Links.{leaves, InRange}
use Rattle.answering.specs.LinkReading.{linked-index, linked-triple}
use Rattle.answering.specs.Pairs.{Has, place, place-below, put, has-put-there, has-put-new, has-put-kept, zeros-idle}

-- There are rows for k symbols and N recordings.
pub record EndsFit (k N : ℕ) (ends : List ℕ) : Type 0 where
  pub few : N ≤ 256
  pub few-rows : k * N ≤ 768
  pub rows : 4 * (N * k) ≤ length ends

-- Nothing is in the rows.
abbrev pub NoEnds : List ℕ → Type 0
NoEnds ends = (i y : ℕ) → ¬ Has 4 ends i y

-- All recordings in the rows are below N.
abbrev pub EndsBelow : ℕ → ℕ → List ℕ → Type 0
EndsBelow k N ends = (a x y : ℕ) → a < k → x < N → y < 256 → Has 4 ends (N * a + x) y → y < N

-- The ends of all links of a table over k symbols.
abbrev pub Ends : Table → ℕ → ℕ → List ℕ → Type 0
Ends t k N ends = (a x y : ℕ) → a < k → x < N → y < 256 → Has 4 ends (N * a + x) y ↔ Linked t x a y

-- The triple number j of a table is (x, a, y).
abbrev pub TripleAt : Table → ℕ → ℕ → ℕ → ℕ → Type 0
TripleAt t j x a y = (leaves t j ≡ x) × (slice_index t (3 * j + 1) ≡ a) × (slice_index t (3 * j + 2) ≡ y)

-- The rows have the ends of the links whose triples have numbers below i.
pub record EndsTo (t : Table) (k N i : ℕ) (ends : List ℕ) : Type 0 where
  pub exactly : (a x y : ℕ) → a < k → x < N → y < 256 → Has 4 ends (N * a + x) y ↔ ((j : ℕ) × (j < i) × TripleAt t j x a y)

-- The triple number i is (x, a, y), and y has its place in the row of a and x.
pub record LinkFits (t : Table) (k N i : ℕ) (ends : List ℕ) (x a y : ℕ) : Type 0 where
  pub is : TripleAt t i x a y
  pub from : x < N
  pub end : y < 256
  pub row : N * a + x < 768
  pub fits : place 4 (N * a + x) y < length ends

-- Rows that fit, fit in as many words again; and zeros are rows with nothing in them.

pub fit-kept : {k N : ℕ} {ends ends' : List ℕ} → length ends' ≡ length ends → EndsFit k N ends → EndsFit k N ends'
fit-kept e f = record { few = f.few; few-rows = f.few-rows; rows = let r = f.rows in omega arith }

pub zero-ends : {k N : ℕ} (n : ℕ) → N ≤ 256 → k * N ≤ 768 → 4 * (k * N) ≤ n → EndsFit k N (replicate n 0) × NoEnds (replicate n 0)
zero-ends {k} {N} n few few-rows l = (
  record { few = few; few-rows = few-rows; rows = omega (arith, mul_comm k N, length-replicate {A = ℕ} n 0) },
  zeros-idle 4 n,
)

-- A triple in range has its place.
pub link_fits : {t : Table} {k N i : ℕ} {before ends : List ℕ} {x a y : ℕ} → InRange k N t → EndsFit k N before
    → length ends ≡ length before → i < length t / 3 → TripleAt t i x a y → LinkFits t k N i ends x a y
link_fits {k = k} {N = N} {i = i} {x = x} {a = a} {y = y} r f e l (p, q, s) =
    let c : a < k = subst (λ a. a < k) q (r.label i l) in
    let d : x < N = subst (λ x. x < N) p (r.from i l) in
    let m : y < N = subst (λ y. y < N) s (r.end i l) in
    let n = f.few in
    let b = node-below N k c d in
    let g = place-below 4 (N * k) {s = y} b (omega arith) in
    record {
      is = (p, q, s);
      from = d;
      end = omega arith;
      row = omega (arith, f.few-rows, mul_comm k N);
      fits = omega (arith, f.rows);
    }

-- The links are taken one after the other.

pub ends-none : {t : Table} {k N : ℕ} {ends : List ℕ} → NoEnds ends → EndsTo t k N 0 ends
ends-none {N = N} e =
    record { exactly = λ a x y c d m. (λ h. absurd (e (N * a + x) y h), λ (j, g, r). absurd (omega arith)) }

module _ {t : Table} {k N i : ℕ} {ends : List ℕ} {x a y : ℕ} (f : LinkFits t k N i ends x a y) (e : EndsTo t k N i ends) where
  pub ends_more : EndsTo t k N (i + 1) (put 4 ends (N * a + x) y)
  ends_more = record {
    exactly = λ b u v c d m. (
      λ h. there b u v c d m (has-put-there 4 ends (N * a + x) y f.end f.fits (N * b + u) v m h),
      λ (j, g, r). back b u v c d m j g r (ℕ_discrete j i),
    );
  }
    where
      there : (b u v : ℕ) → b < k → u < N → v < 256 → Has 4 ends (N * b + u) v ⊎ ((N * b + u ≡ N * a + x) × (v ≡ y))
          → (j : ℕ) × (j < i + 1) × TripleAt t j u b v
      there b u v c d m (inl h) = let (j, g, r) = (e.exactly b u v c d m).0 h in (j, omega arith, r)
      there b u v c d m (inr (h, q)) =
          let (p, r) = same-node N d f.from h in
          (i, omega arith, (f.is.0 ∙ sym r, f.is.1 ∙ sym p, f.is.2 ∙ sym q))

      back : (b u v : ℕ) → b < k → u < N → v < 256 → (j : ℕ) → j < i + 1 → TripleAt t j u b v → Dec (j ≡ i)
          → Has 4 (put 4 ends (N * a + x) y) (N * b + u) v
      back b u v c d m j g r (no n) =
          has-put-kept 4 ends (N * a + x) y f.end f.fits (N * b + u) v ((e.exactly b u v c d m).1 (j, omega arith, r))
      back b u v c d m j g (p, q, r) (yes n) =
          let row : N * a + x ≡ N * b + u = cc in
          let end : y ≡ v = cc in
          subst₂ (Has 4 (put 4 ends (N * a + x) y)) row end (has-put-new 4 ends (N * a + x) y f.end f.fits)

pub ends-all : {t : Table} {k N i : ℕ} {ends : List ℕ} → i ≡ length t / 3 → EndsTo t k N i ends → Ends t k N ends
ends-all {t} {i = i} q e a x y c d m = (
  λ h. there ((e.exactly a x y c d m).0 h),
  λ l. let (j, g, f, p, r) = linked-index l in (e.exactly a x y c d m).1 (j, omega arith, (f, p, r)),
)
  where
    there : ((j : ℕ) × (j < i) × TripleAt t j x a y) → Linked t x a y
    there (j, g, (f, p, r)) = rw (← f, ← p, ← r) (linked-triple t j (omega arith))

-- The ends lie below N, where the table is in range.
pub ends-below : {t : Table} {k N : ℕ} (ends : List ℕ) → InRange k N t → Ends t k N ends → EndsBelow k N ends
ends-below {N = N} ends r e a x y c d m h =
    let (j, g, f, p, q) = linked-index ((e a x y c d m).0 h) in
    subst (λ y. y < N) q (r.end j (omega arith))
