-- The links of a recording are read one after the other: what is read stands at the first triple that leaves the recording or a later one,
-- or behind it.
use Rattle.std.specs.Prelude.{◌≡◌, ℕ, suc, ◌+◌, ◌*◌, ◌/◌, ◌<◌, ◌≤◌, true, ◌⊎◌, Option, Some, None, ◌∷◌, length, slice_index}
use Rattle.std.proofs.Common.{inl, inr, sym, ap, ◌∙◌, subst₂, add-one, arith}
use Rattle.std.specs.Prelude.{refl}
use Rattle.std.proofs.Math.Decide.{ℕ_discrete, dec_lt}
use Rattle.std.proofs.Math.Numerals.{add-two}
use Rattle.theory.specs.Graph as G
use Rattle.theory.specs.Graph.{Table, Linked}
use Rattle.answering.specs.Table.{is_table}
use Rattle.answering.specs.TableLaws.{is-table-exactly, table-ends, table-labels, linked-at}
use Rattle.answering.specs.Links.{leaves, FirstLink, InRange}
use Rattle.answering.specs.LinkAt.{link_at, place_after, place-next, link-there, link-beyond, link-other}
use Rattle.answering.specs.declared.links.Link.{Link}

pub record Reading (t : Table) (x i : ℕ) (leaving : Option Link) : Type 0 where
  pub first : ℕ
  pub begins : FirstLink t x first
  pub onward : first ≤ i
  pub reads : leaving ≡ link_at t i x

-- A link of x stands at the place, and this is it.
pub record Leaves (t : Table) (x i : ℕ) (link : Link) : Type 0 where
  pub place : link.at ≡ i
  pub within : i < length t / 3
  pub from : leaves t i ≡ x
  pub label : link.label ≡ slice_index t (3 * i + 1)
  pub end : link.end ≡ slice_index t (3 * i + 2)

-- No link of x stands at the place.
abbrev pub Ended : Table → ℕ → ℕ → Type 0
Ended t x i = (length t / 3 ≤ i) ⊎ ((i < length t / 3) × ¬ (leaves t i ≡ x))

module _ {t : Table} {x i : ℕ} {leaving : Option Link} (r : Reading t x i leaving) where
  pub reading-leaves : {link : Link} → leaving ≡ Some link → Leaves t x i link
  reading-leaves {link} told = go (dec_lt i (length t / 3)) (ℕ_discrete (leaves t i) x)
    where
      go : Dec (i < length t / 3) → Dec (leaves t i ≡ x) → Leaves t x i link
      go (no h) d = let e = r.reads ∙ link-beyond t i x (omega arith) in cc
      go (yes h) (no d) = let e = r.reads ∙ link-other t i x h d in cc
      go (yes h) (yes q) =
          let f = r.reads ∙ link-there t i x h q in
          let e : link ≡ record { at = i; label = slice_index t (3 * i + 1); end = slice_index t (3 * i + 2) } = cc in
          record { place = ap (λ l. l.at) e; within = h; from = q; label = ap (λ l. l.label) e; end = ap (λ l. l.end) e }

  pub reading-ended : leaving ≡ None → Ended t x i
  reading-ended told = go (dec_lt i (length t / 3)) (ℕ_discrete (leaves t i) x)
    where
      go : Dec (i < length t / 3) → Dec (leaves t i ≡ x) → Ended t x i
      go (no h) d = inl (omega arith)
      go (yes h) (no d) = inr (h, d)
      go (yes h) (yes q) = let e = r.reads ∙ link-there t i x h q in cc

  -- The next link is read one place further.
  pub reading-next : {link : Link} {next : Option Link} → leaving ≡ Some link → next ≡ link_at t (place_after t link.at) x
      → Reading t x (i + 1) next
  reading-next {link} told read =
      let l = reading-leaves told in
      record {
        first = r.first;
        begins = r.begins;
        onward = omega (arith, r.onward);
        reads = read ∙ ap (λ i. link_at t i x) (ap (place_after t) l.place ∙ place-next t i l.within);
      }

-- The links of a table by the numbers of their triples.

pub linked-index : {t : Table} {x a y : ℕ} → Linked t x a y
    → (k : ℕ) × (3 * k + 2 < length t) × (leaves t k ≡ x) × (slice_index t (3 * k + 1) ≡ a) × (slice_index t (3 * k + 2) ≡ y)
linked-index (G.here {x} {a} {y} {t}) = (0, omega arith, refl, refl, refl)
linked-index (G.later {u = u} {b = b} {v = v} {t = t} l) =
    let (k, h, d, e, f) = linked-index l in
    let p : 3 * suc k ≡ suc (suc (suc (3 * k))) = omega arith in
    let q : 3 * suc k + 1 ≡ suc (suc (suc (3 * k + 1))) = omega arith in
    let r : 3 * suc k + 2 ≡ suc (suc (suc (3 * k + 2))) = omega arith in
    let whole : Table = u ∷ (b ∷ (v ∷ t)) in (
      suc k,
      omega arith,
      ap (λ i. slice_index whole i) p ∙ d,
      ap (λ i. slice_index whole i) q ∙ e,
      ap (λ i. slice_index whole i) r ∙ f,
    )

pub linked-triple : (t : Table) (i : ℕ) → 3 * i + 2 < length t → Linked t (slice_index t (3 * i)) (slice_index t (3 * i + 1)) (slice_index t (3 * i + 2))
linked-triple t i h =
    subst₂ (λ m n. Linked t (slice_index t (3 * i)) (slice_index t m) (slice_index t n)) (sym (add-one (3 * i))) (sym (add-two (3 * i))) (linked-at t i h)

-- The triples of a table are in range.
pub table-in-range : (k N : ℕ) (t : Table) → is_table N k t ≡ true → InRange k N t
table-in-range k N t e =
    let is = (is-table-exactly N k t).0 e in
    record {
      from = λ i h. (table-ends is _ _ _ (linked-triple t i (omega arith))).0;
      label = λ i h. table-labels is (linked-triple t i (omega arith));
      end = λ i h. (table-ends is _ _ _ (linked-triple t i (omega arith))).1;
    }
