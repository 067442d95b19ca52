-- The laws of the lines of the printed form: with one name, list or state more, what is written for it stands behind what is written for those
-- before.
use Prim.Native.Nat.{ℕ, zero, suc, ◌+◌, ◌*◌, ◌/◌, ◌≤◌, ◌<◌}
use mathlib.Core.List.{List, [], ◌∷◌, ◌++◌, append_assoc}
use Rattle.std.specs.Prelude.{◌≡◌, refl, length, get_or, take, drop}
use Rattle.std.proofs.Common.{sym, ap₂, ◌∙◌, add-zero, zero-add, add-one}
use Rattle.std.proofs.Math.Path.{ap}
use Rattle.std.proofs.lemmas.List.{append-nil, take_more}
use native.Mathlib.Omega.{arith}
use Rattle.std.proofs.Math.ListN.{get_or-eq_default}
use Rattle.syntax.specs.declared.refusal.Refusal.{Refusal}
use Rattle.syntax.specs.declared.table.Span.{Span}
use Rattle.syntax.specs.Byte.{Bytes}
use Rattle.syntax.specs.Number.{number}
use Rattle.syntax.specs.Resolve.{names_at}
use Rattle.syntax.specs.TableLaws.{name_at, length-names_at}
use Rattle.reading.specs.Text.{space, line}
use Rattle.finding.specs.Find.{row_width}
use Rattle.output.specs.Decimal.{decimal}
use Rattle.printing.specs.Lines.{refused_word, line_word, in_line, refusal_line, spelled, nexts, row, rows}

-- Where a refusal is.
pub no-place : (m : ℕ) → m ≡ 0 → [] ≡ in_line m
unfolding in_line
no-place m e = ap in_line (sym e)

pub a-place : (m : ℕ) → 0 < m → line_word ++ decimal m ≡ in_line m
unfolding in_line
a-place zero h = absurd (omega arith)
a-place (suc m) h = refl

-- A refusal's line tells its number alone.
pub same-refusal : (r s : Refusal) {m n : ℕ} → number r ≡ number s → m ≡ n → refusal_line r m ≡ refusal_line s n
unfolding refusal_line
same-refusal r s e f = ap₂ (λ (k i : ℕ). line (refused_word ++ (decimal k ++ in_line i))) e f

-- The name at a place of a table, and past the table's end.
pub name-at : (text : Bytes) (l : List Span) (i : ℕ) → i < length l → get_or (names_at text l) i [] ≡ name_at text l i
unfolding names_at
name-at text [] i h = absurd (omega arith)
name-at text (s ∷ l) zero h = refl
name-at text (s ∷ l) (suc i) h = name-at text l i (omega arith)

pub name-past : (text : Bytes) (l : List Span) (i : ℕ) → length l ≤ i → get_or (names_at text l) i [] ≡ []
name-past text l i h = get_or-eq_default (names_at text l) [] (omega (arith, length-names_at text l))

-- The names at the places of a list, with one more.
spelled-last : (names : List Bytes) (l : List ℕ) (i : ℕ) → spelled names l ++ (space ∷ get_or names i []) ≡ spelled names (l ++ (i ∷ []))
unfolding spelled
spelled-last names [] i = sym (append-nil (space ∷ get_or names i []))
spelled-last names (j ∷ l) i =
    append_assoc (space ∷ get_or names j []) (spelled names l) (space ∷ get_or names i [])
    ∙ ap (λ (r : Bytes). (space ∷ get_or names j []) ++ r) (spelled-last names l i)

pub spelled-more : (names : List Bytes) (l : List ℕ) (i : ℕ) → i < length l
    → spelled names (take i l) ++ (space ∷ get_or names (get_or l i 0) []) ≡ spelled names (take (i + 1) l)
spelled-more names l i h = spelled-last names (take i l) (get_or l i 0) ∙ ap (spelled names) (sym (take_more l i 0 h))

-- The next states for the lists from v on, with one more.
nexts-last : (table : List ℕ) (s n v : ℕ)
    → nexts table s n v ++ (space ∷ decimal (get_or table (row_width * s + (v + n)) 0)) ≡ nexts table s (suc n) v
unfolding nexts
nexts-last table s zero v = rw (add-zero v) (sym (append-nil (space ∷ decimal (get_or table (row_width * s + v) 0))))
nexts-last table s (suc n) v =
    let next : Bytes = space ∷ decimal (get_or table (row_width * s + v) 0) in
    let e : v + suc n ≡ suc v + n = omega arith in
    append_assoc next (nexts table s n (suc v)) (space ∷ decimal (get_or table (row_width * s + (v + suc n)) 0))
    ∙ ap (λ (r : Bytes). next ++ r)
    (ap (λ (k : ℕ). nexts table s n (suc v) ++ (space ∷ decimal (get_or table (row_width * s + k) 0))) e ∙ nexts-last table s n (suc v))

pub nexts-more : (table : List ℕ) (s n : ℕ)
    → nexts table s n 0 ++ (space ∷ decimal (get_or table (row_width * s + n) 0)) ≡ nexts table s (n + 1) 0
nexts-more table s n =
    ap (λ (k : ℕ). nexts table s n 0 ++ (space ∷ decimal (get_or table (row_width * s + k) 0))) (sym (zero-add n))
    ∙ (nexts-last table s n 0 ∙ ap (λ (k : ℕ). nexts table s k 0) (sym (add-one n)))

-- The rows of the states from s on, with one more.
rows-last : (table flags : List ℕ) (k n s : ℕ) → rows table flags k n s ++ row table flags k (s + n) ≡ rows table flags k (suc n) s
unfolding rows
rows-last table flags k zero s = rw (add-zero s) (sym (append-nil (row table flags k s)))
rows-last table flags k (suc n) s =
    let e : s + suc n ≡ suc s + n = omega arith in
    append_assoc (row table flags k s) (rows table flags k n (suc s)) (row table flags k (s + suc n))
    ∙ ap (λ (r : Bytes). row table flags k s ++ r)
    (ap (λ (j : ℕ). rows table flags k n (suc s) ++ row table flags k j) e ∙ rows-last table flags k n (suc s))

pub rows-more : (table flags : List ℕ) (k n : ℕ) → rows table flags k n 0 ++ row table flags k n ≡ rows table flags k (n + 1) 0
rows-more table flags k n =
    ap (λ (j : ℕ). rows table flags k n 0 ++ row table flags k j) (sym (zero-add n))
    ∙ (rows-last table flags k n 0 ∙ ap (λ (j : ℕ). rows table flags k j 0) (sym (add-one n)))
