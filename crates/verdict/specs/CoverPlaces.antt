-- The numbers of cover places (document 01): where a state with a place of one list stands, over the lists' expressions. Place 0 of a list,
-- its start, is the state alone, for every list; the occurrences of the lists come after it, list by list. So every number is that of one
-- cover place.
use Rattle.std.specs.Prelude.{◌≡◌, ℕ, zero, suc, ◌+◌, ◌-◌, ◌*◌, ◌/◌, ◌%◌, ◌<◌, ◌≤◌, ◌⊎◌, List, [], ◌∷◌, map, length, take, ◌≢◌, slice_index_or}
use Rattle.std.proofs.Common.{inl, inr, sym, ap, ◌∙◌, mod-lt, add-zero, mul_comm, mul-le-mul_right, arith}
use Rattle.std.specs.Prelude.{refl}
use Rattle.std.proofs.Math.Decide.{dec_le, ℕ_discrete}
use Rattle.std.proofs.Math.Nat.{div-add-mod}
use Rattle.std.proofs.Math.Arith.{digits_lt, digits_div, digits_mod}
use Rattle.theory.specs.Expression.{Expression, empty}
use Rattle.theory.specs.Standing.{size}
use Rattle.theory.specs.Automaton.{glushkov}
use Rattle.theory.proofs.AutomatonLaws.{length-follows}
use Rattle.verdict.specs.Cover.{occurrences, all_occurrences, width}
use Rattle.verdict.specs.Verdicts.{total_size}

-- The expression of the list v.
abbrev pub list_at : List Expression → ℕ → Expression
list_at es v = slice_index_or es v empty

-- The number of the occurrences of all lists before the list v.
abbrev pub base : List Expression → ℕ → ℕ
base es v = total_size (take v es)

-- The offset of a place of the list v: 0 for the start, which is the state alone.
abbrev pub offset : List Expression → ℕ → ℕ → ℕ
offset es v zero = 0
offset es v (suc x) = base es v + suc x

-- The number of offsets, and of the state q with the place x of the list v.
abbrev pub offsets : List Expression → ℕ
offsets es = width (map glushkov es)

abbrev pub numbered : List Expression → ℕ → ℕ → ℕ → ℕ
numbered es q v x = offsets es * q + offset es v x

pub size-exactly : (e : Expression) → occurrences (glushkov e) ≡ size e
unfolding glushkov
size-exactly e = length-follows 1 e

pub occurrences-exactly : (es : List Expression) → all_occurrences (map glushkov es) ≡ total_size es
unfolding all_occurrences
occurrences-exactly [] = refl
occurrences-exactly (e ∷ l) = omega (arith, size-exactly e, occurrences-exactly l)

pub offsets-exactly : (es : List Expression) → offsets es ≡ suc (total_size es)
unfolding width
offsets-exactly es = ap suc (occurrences-exactly es)

pub occurrence-below : (es : List Expression) (v x : ℕ) → v < length es → x < size (list_at es v) → base es v + suc x ≤ total_size es
occurrence-below [] v x h k = absurd (omega arith)
occurrence-below (e ∷ l) zero x h k = omega arith
occurrence-below (e ∷ l) (suc v) x h k = omega (arith, occurrence-below l v x (omega arith) k)

pub offset-below : (es : List Expression) (v x : ℕ) → v < length es → x ≤ size (list_at es v) → offset es v x < offsets es
offset-below es v zero h k = omega (arith, offsets-exactly es)
offset-below es v (suc x) h k = omega (arith, offsets-exactly es, occurrence-below es v x h k)

-- Every offset but 0 is that of an occurrence of one list.
pub occurrence-at : (es : List Expression) (o : ℕ) → 0 < o → o ≤ total_size es
    → (v : ℕ) × (x : ℕ) × (v < length es) × (x < size (list_at es v)) × (o ≡ base es v + suc x)
occurrence-at [] o h k = absurd (omega arith)
occurrence-at (e ∷ l) o h k = side (dec_le o (size e)) (occurrence-at l (o - size e))
  where
    side : Dec (o ≤ size e)
        → (0 < o - size e → o - size e ≤ total_size l
        → (v : ℕ) × (x : ℕ) × (v < length l) × (x < size (list_at l v)) × (o - size e ≡ base l v + suc x))
        → (v : ℕ) × (x : ℕ) × (v < length (e ∷ l)) × (x < size (list_at (e ∷ l) v)) × (o ≡ base (e ∷ l) v + suc x)
    side (yes i) later = (0, o - 1, omega arith, omega arith, omega arith)
    side (no i) later = let (v, x, a, b, c) = later (omega arith) (omega arith) in (suc v, x, omega arith, b, omega arith)

pub occurrence-unique : (es : List Expression) (v u x y : ℕ) → v < length es → u < length es → x < size (list_at es v) → y < size (list_at es u)
    → base es v + suc x ≡ base es u + suc y → (v ≡ u) × (x ≡ y)
occurrence-unique [] v u x y h i k l e = absurd (omega arith)
occurrence-unique (d ∷ t) zero zero x y h i k l e = (refl, omega arith)
occurrence-unique (d ∷ t) zero (suc u) x y h i k l e = absurd (omega arith)
occurrence-unique (d ∷ t) (suc v) zero x y h i k l e = absurd (omega arith)
occurrence-unique (d ∷ t) (suc v) (suc u) x y h i k l e =
    let (a, b) = occurrence-unique t v u x y (omega arith) (omega arith) k l (omega arith) in
    (ap suc a, b)

-- A number of the form w × q + o with o below w tells q and o.

pub state-of : (w q o : ℕ) → o < w → (w * q + o) / w ≡ q
state-of w q o h = rw (mul_comm w q) (digits_div q h)

pub offset-of : (w q o : ℕ) → o < w → (w * q + o) % w ≡ o
offset-of w q o h = rw (mul_comm w q) (digits_mod q h)

pub split-unique : (w q r o n : ℕ) → o < w → n < w → w * q + o ≡ w * r + n → (q ≡ r) × (o ≡ n)
split-unique w q r o n h k e = (
  sym (state-of w q o h) ∙ ap (λ (z : ℕ). z / w) e ∙ state-of w r n k,
  sym (offset-of w q o h) ∙ ap (λ (z : ℕ). z % w) e ∙ offset-of w r n k,
)

pub split_below : (w s q o : ℕ) → o < w → q < s → w * q + o < s * w
split_below w s q o h k = rw (mul_comm w q) (digits_lt k h)

-- The state's part of a number below s × w is below s.
pub state-below : (w s q o : ℕ) → w * q + o < s * w → q < s
state-below w s q o h = side (dec_le s q)
  where
    side : Dec (s ≤ q) → q < s
    side (yes k) = absurd (omega (arith, mul_comm w q, mul-le-mul_right w k))
    side (no k) = omega arith

-- A state alone is no state with an occurrence, and two occurrences of lists have two numbers.

pub alone-unique : (es : List Expression) (q r : ℕ) → offsets es * q ≡ offsets es * r → q ≡ r
alone-unique es q r e =
    let some : 0 < offsets es = omega (arith, offsets-exactly es) in
    (split-unique (offsets es) q r 0 0 some some (rw (add-zero (offsets es * q), add-zero (offsets es * r)) e)).0

pub alone-apart : (es : List Expression) (q r v x : ℕ) → v < length es → x < size (list_at es v) → offsets es * q ≢ numbered es r v (suc x)
alone-apart es q r v x h k e =
    let s : (q ≡ r) × (0 ≡ base es v + suc x) =
    split-unique (offsets es) q r 0 (base es v + suc x) (omega (arith, offsets-exactly es)) (offset-below es v (suc x) h k)
    (rw (add-zero (offsets es * q)) e) in
    omega (arith, s.1)

pub occurrence-number-unique : (es : List Expression) (q r v u x y : ℕ) → v < length es → u < length es → x < size (list_at es v)
    → y < size (list_at es u) → numbered es q v (suc x) ≡ numbered es r u (suc y) → (q ≡ r) × (v ≡ u) × (x ≡ y)
occurrence-number-unique es q r v u x y h i k l e =
    let s =
    split-unique (offsets es) q r (base es v + suc x) (base es u + suc y) (offset-below es v (suc x) h k) (offset-below es u (suc y) i l) e in
    let t = occurrence-unique es v u x y h i k l s.1 in
    (s.0, t.0, t.1)

-- Every number is that of a state alone, or of a state with an occurrence of one list.
pub placed : (es : List Expression) (n : ℕ)
    → ((q : ℕ) × (n ≡ offsets es * q))
    ⊎ ((q : ℕ) × (v : ℕ) × (x : ℕ) × (v < length es) × (x < size (list_at es v)) × (n ≡ numbered es q v (suc x)))
placed es n = side (ℕ_discrete (n % offsets es) 0)
  where
    parts : offsets es * (n / offsets es) + n % offsets es ≡ n
    parts = div-add-mod n (offsets es)

    side : Dec (n % offsets es ≡ 0)
        → ((q : ℕ) × (n ≡ offsets es * q))
        ⊎ ((q : ℕ) × (v : ℕ) × (x : ℕ) × (v < length es) × (x < size (list_at es v)) × (n ≡ numbered es q v (suc x)))
    side (yes e) = inl (n / offsets es, omega (arith, parts))
    side (no d) =
        let small : n % offsets es < offsets es = mod-lt n (omega (arith, offsets-exactly es)) in
        let (v, x, h, k, e) = occurrence-at es (n % offsets es) (omega arith) (omega (arith, offsets-exactly es)) in
        inr (n / offsets es, v, x, h, k, omega (arith, parts))

-- The offset of an occurrence, which is a place from 1 on.
pub offset-occurrence : (es : List Expression) (v x : ℕ) → 0 < x → offset es v x ≡ base es v + x
offset-occurrence es v zero h = absurd (omega arith)
offset-occurrence es v (suc x) h = refl
