-- How often the bytes `li` stand in a text. Each line of a list begins with them, so that a text has no more lists than these.
use Rattle.std.specs.Prelude.{ℕ, zero, suc, ◌+◌, ◌-◌, ◌≤◌, ◌<◌, Bool, true, false, ◌&&◌, [], ◌∷◌, ◌++◌, ◌≡◌, refl, eqb, length, get_or, take, drop}
use Rattle.std.proofs.Common.{ap, ◌∙◌, arith, drop-cons, get_or-drop, eq-eqb, ne_eqb}
use Rattle.syntax.specs.Byte.{Bytes}
use Rattle.reading.specs.Text.{list_word}

-- 1 where two bytes are `l` and `i`.
unfoldable pub start : ℕ → ℕ → ℕ
start c d = elim (eqb c 108 && eqb d 105) [ true ↦ 1 | false ↦ 0 ]

unfoldable pub list_starts : Bytes → ℕ
list_starts [] = 0
list_starts (c ∷ s) = start c (get_or s 0 0) + list_starts s

-- As told by a test of the two bytes.
pub start-told : (c d : ℕ) → (eqb c 108 && eqb d 105) ≡ true → start c d ≡ 1
unfolding start
start-told c d e = rw (e, start) refl

pub start-not : (c d : ℕ) → (eqb c 108 && eqb d 105) ≡ false → start c d ≡ 0
unfolding start
start-not c d e = rw (e, start) refl

start-there : (c d : ℕ) → c ≡ 108 → d ≡ 105 → start c d ≡ 1
start-there c d e f = start-told c d (rw (eq-eqb c 108 e, eq-eqb d 105 f) refl)

start-second : (c d : ℕ) → ¬ (d ≡ 105) → start c d ≡ 0
start-second c d n = start-not c d (rw (ne_eqb d 105 n) (go (eqb c 108)))
  where
    go : (b : Bool) → (b && false) ≡ false
    go true = refl
    go false = refl

start_small : (c d : ℕ) → start c d ≤ 1
unfolding start
start_small c d = go (eqb c 108 && eqb d 105)
  where
    go : (b : Bool) → elim b [ true ↦ 1 | false ↦ 0 ] ≤ 1
    go true = omega arith
    go false = omega arith

-- By the bytes before i and at i.
pub starts-next : (s : Bytes) (i : ℕ) → 0 < i → i ≤ length s
    → list_starts (drop (i - 1) s) ≡ start (get_or s (i - 1) 0) (get_or s i 0) + list_starts (drop (i + 1 - 1) s)
unfolding list_starts
starts-next s i h l =
    let e : suc (i - 1) ≡ i = omega arith in
    let f : suc (i - 1) + 0 ≡ i = omega arith in
    let g : i ≡ i + 1 - 1 = omega arith in
    ap list_starts (drop-cons s (i - 1) 0 (omega arith))
    ∙ ap (λ d. start (get_or s (i - 1) 0) d + list_starts (drop (suc (i - 1)) s)) (get_or-drop (suc (i - 1)) s 0 0 ∙ ap (λ k. get_or s k 0) f)
    ∙ ap (λ k. start (get_or s (i - 1) 0) (get_or s i 0) + list_starts (drop k s)) (e ∙ g)

-- The last byte begins nothing.
pub starts_none : (s : Bytes) → length s ≤ 1 → list_starts s ≡ 0
unfolding list_starts
starts_none [] h = refl
starts_none (c ∷ []) h = rw (start-second c 0 (λ e. omega arith))
starts_none (c ∷ (d ∷ s)) h = absurd (omega arith)

pub starts-within : (s : Bytes) → list_starts s ≤ length s
unfolding list_starts
starts-within [] = omega arith
starts-within (c ∷ s) = omega (arith, start_small c (get_or s 0 0), starts-within s)

-- What stands before a byte, and behind it.
pub starts-cut : (k : ℕ) (s : Bytes) → list_starts (take k s) + list_starts (drop (suc k) s) ≤ list_starts s
unfolding list_starts
starts-cut zero [] = omega arith
starts-cut zero (c ∷ s) = omega arith
starts-cut (suc k) [] = omega arith
starts-cut (suc k) (c ∷ s) = omega (arith, starts-cut k s, fewer k s)
  where
    fewer : (k : ℕ) (s : Bytes) → start c (get_or (take k s) 0 0) ≤ start c (get_or s 0 0)
    fewer zero s = rw (start-second c 0 (λ e. omega arith)) (omega arith)
    fewer (suc k) [] = omega arith
    fewer (suc k) (d ∷ s) = omega arith

-- A line of a list has one.
pub word-starts : (s : Bytes) → 1 ≤ list_starts (list_word ++ s)
unfolding list_starts
word-starts s = omega (arith, start-there 108 105 refl refl)
