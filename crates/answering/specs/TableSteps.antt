-- The test for a table (Table) one triple at a time, by the numbers of the triples: from the place i on, the triples are in range, and their
-- numbers rise.
use Rattle.std.specs.Prelude.{◌≡◌, ℕ, zero, suc, ◌+◌, ◌*◌, ◌%◌, ◌<◌, ◌≤◌, Bool, true, false, ◌&&◌, ◌||◌, [], ◌∷◌, length, drop, nat_le, nat_lt, slice_index, slice_index_or}
use Rattle.std.proofs.Math.Bool.{and-true, and-false}
use Rattle.std.specs.Prelude.{refl}
use Rattle.std.proofs.Common.{sym, ◌∙◌, add-one, arith, drop_of_length-le, drop-cons, le-leb, lt-ltb, le-ltb, eq-eqb, ne_eqb}
use Rattle.std.proofs.Math.Path.{ap}
use Rattle.std.proofs.Math.Decide.{ℕ_discrete, dec_lt}
use Rattle.std.proofs.Math.Numerals.{add-two}
use Rattle.std.proofs.lemmas.Bool.{lt-leb}
use Rattle.theory.specs.Graph.{Table}
use Rattle.answering.specs.Table.{most_links, rises, rising_after, rising, is_table}
use Rattle.answering.specs.TableLaws.{is-table-exactly, table-length}

-- Triples of numbers below 65,536 are in the order of these numbers.
abbrev pub triple_number : ℕ → ℕ → ℕ → ℕ
triple_number x a y = 4294967296 * x + 65536 * a + y

-- The least number of those that leave no recording below N.
abbrev pub past_triples : ℕ → ℕ
past_triples N = triple_number N 0 0

-- The numbers are triples within range, whose own numbers rise from n on.
unfoldable pub numbers_rise : ℕ → ℕ → ℕ → Table → Bool
numbers_rise N k n [] = true
numbers_rise N k n (u ∷ []) = false
numbers_rise N k n (u ∷ (b ∷ [])) = false
numbers_rise N k n (u ∷ (b ∷ (v ∷ t))) =
    (nat_lt u N && (nat_lt b k && nat_lt v N)) && (nat_le n (triple_number u b v) && numbers_rise N k (suc (triple_number u b v)) t)

-- .. from the place i on.
unfoldable pub rises_from : ℕ → ℕ → ℕ → Table → ℕ → Bool
rises_from N k n t i = numbers_rise N k n (drop i t)

-- The order of two triples.

or-false : (b : Bool) → b ≡ (b || false)
or-false true = refl
or-false false = refl

rises-from : (x a y u b v : ℕ) → ¬ (x ≡ u) → nat_lt x u ≡ rises x a y u b v
unfolding rises
rises-from x a y u b v h = rw (ne_eqb x u h) (or-false (nat_lt x u))

rises-label : (x a y u b v : ℕ) → x ≡ u → ¬ (a ≡ b) → nat_lt a b ≡ rises x a y u b v
unfolding rises
rises-label x a y u b v e h = rw (le-ltb x u (omega arith), eq-eqb x u e, ne_eqb a b h) (or-false (nat_lt a b))

rises-to : (x a y u b v : ℕ) → x ≡ u → a ≡ b → nat_lt y v ≡ rises x a y u b v
unfolding rises
rises-to x a y u b v e f = rw (le-ltb x u (omega arith), eq-eqb x u e, le-ltb a b (omega arith), eq-eqb a b f)

same-order : (m n i j : ℕ) → (i < j → m < n) → (j ≤ i → n ≤ m) → nat_lt m n ≡ nat_lt i j
same-order m n i j f g = go (dec_lt i j)
  where
    go : Dec (i < j) → nat_lt m n ≡ nat_lt i j
    go (yes l) = lt-ltb m n (f l) ∙ sym (lt-ltb i j l)
    go (no l) = le-ltb m n (g (omega arith)) ∙ sym (le-ltb i j (omega arith))

number-rises : (x a y u b v : ℕ) → a < 65536 → y < 65536 → b < 65536 → v < 65536
    → nat_lt (triple_number x a y) (triple_number u b v) ≡ rises x a y u b v
number-rises x a y u b v ha hy hb hv = go (ℕ_discrete x u) (ℕ_discrete a b)
  where
    m : ℕ
    m = triple_number x a y

    n : ℕ
    n = triple_number u b v

    go : Dec (x ≡ u) → Dec (a ≡ b) → nat_lt m n ≡ rises x a y u b v
    go (no d) e = same-order m n x u (λ l. omega arith) (λ l. omega arith) ∙ rises-from x a y u b v d
    go (yes d) (no e) = same-order m n a b (λ l. omega arith) (λ l. omega arith) ∙ rises-label x a y u b v d e
    go (yes d) (yes e) = same-order m n y v (λ l. omega arith) (λ l. omega arith) ∙ rises-to x a y u b v d e

-- The order of all triples is that of their numbers.

after-numbers : (N k x a y : ℕ) (t : Table) → a < 65536 → y < 65536 → ((i : ℕ) → slice_index t i < 65536)
    → rising_after N k x a y t ≡ numbers_rise N k (suc (triple_number x a y)) t
unfolding rising_after numbers_rise
after-numbers N k x a y [] ha hy h = refl
after-numbers N k x a y (u ∷ []) ha hy h = refl
after-numbers N k x a y (u ∷ (b ∷ [])) ha hy h = refl
after-numbers N k x a y (u ∷ (b ∷ (v ∷ t))) ha hy h =
    rw (← number-rises x a y u b v ha hy (h 1) (h 2), after-numbers N k u b v t (h 1) (h 2) (λ i. h (suc (suc (suc i)))))

rising-numbers : (N k : ℕ) (t : Table) → ((i : ℕ) → slice_index t i < 65536) → rising N k t ≡ numbers_rise N k 0 t
unfolding rising numbers_rise
rising-numbers N k [] h = refl
rising-numbers N k (u ∷ []) h = refl
rising-numbers N k (u ∷ (b ∷ [])) h = refl
rising-numbers N k (u ∷ (b ∷ (v ∷ t))) h =
    rw (le-leb 0 (triple_number u b v) (omega arith), after-numbers N k u b v t (h 1) (h 2) (λ i. h (suc (suc (suc i)))))

triple-at : (t : Table) (i : ℕ) → i + 2 < length t → drop i t ≡ slice_index t i ∷ (slice_index t (i + 1) ∷ (slice_index t (i + 2) ∷ drop (i + 3) t))
triple-at t i h =
    let e : i + 3 ≡ suc (suc (suc i)) = omega arith in
    rw (e, add-one, add-two)
    (drop-cons t i 0 (omega arith)
    ∙ ap (λ l. slice_index t i ∷ l) (drop-cons t (suc i) 0 (omega arith)
    ∙ ap (λ l. slice_index t (suc i) ∷ l) (drop-cons t (suc (suc i)) 0 (omega arith))))

pub table-too-long : (N k : ℕ) (t : Table) → 3 * most_links < length t → is_table N k t ≡ false
unfolding is_table
table-too-long N k t h = rw (lt-leb (length t) (3 * most_links) h)

table-short : (N k : ℕ) (t : Table) → length t ≤ 3 * most_links → is_table N k t ≡ rising N k t
unfolding is_table
table-short N k t h = rw (le-leb (length t) (3 * most_links) h)

pub table-uneven : (N k : ℕ) (t : Table) → ¬ (length t % 3 ≡ 0) → is_table N k t ≡ false
table-uneven N k t h = go (is_table N k t) refl
  where
    go : (b : Bool) → is_table N k t ≡ b → is_table N k t ≡ false
    go true e = absurd (h (table-length ((is-table-exactly N k t).0 e)))
    go false e = e

-- The triples are tested from the last to the first. From the place i on, they are in range and rise ..

-- .. from those numbers, as far as past_triples N, that are at most `after` ..
abbrev pub RiseUpTo : ℕ → ℕ → Table → ℕ → ℕ → Type 0
RiseUpTo N k t i after = (n : ℕ) → n ≤ past_triples N → rises_from N k n t i ≡ nat_le n after

-- .. or from no number.
abbrev pub RiseNever : ℕ → ℕ → Table → ℕ → Type 0
RiseNever N k t i = (n : ℕ) → rises_from N k n t i ≡ false

pub rise-end : (N k : ℕ) (t : Table) (i : ℕ) → length t ≤ i → RiseUpTo N k t i (past_triples N)
unfolding rises_from numbers_rise
rise-end N k t i h n l = rw (drop_of_length-le t h) (sym (le-leb n (past_triples N) l))

module _ (N k : ℕ) (t : Table) (i : ℕ) (h : i + 2 < length t) where
  abbrev number_at : ℕ
  number_at = triple_number (slice_index t i) (slice_index t (i + 1)) (slice_index t (i + 2))

  abbrev in_range : Bool
  in_range = nat_lt (slice_index t i) N && (nat_lt (slice_index t (i + 1)) k && nat_lt (slice_index t (i + 2)) N)

  triple-tested : (n : ℕ) → rises_from N k n t i ≡ (in_range && (nat_le n number_at && rises_from N k (suc number_at) t (i + 3)))
  unfolding rises_from numbers_rise
  triple-tested n = ap (numbers_rise N k n) (triple-at t i h)

  -- The triple is out of range ..
  first_out : N ≤ slice_index t i → RiseNever N k t i
  first_out f n = triple-tested n ∙ rw (le-ltb (slice_index t i) N f)

  pub label-out : k ≤ slice_index t (i + 1) → RiseNever N k t i
  label-out g n = triple-tested n ∙ rw (le-ltb (slice_index t (i + 1)) k g, and-false (nat_lt (slice_index t i) N))

  pub last_out : N ≤ slice_index t (i + 2) → RiseNever N k t i
  last_out l n =
      triple-tested n ∙ rw (le-ltb (slice_index t (i + 2)) N l, and-false (nat_lt (slice_index t (i + 1)) k), and-false (nat_lt (slice_index t i) N))

  -- .. or the triples behind it rise from no number ..
  never-before : RiseNever N k t (i + 3) → RiseNever N k t i
  never-before f n = triple-tested n ∙ rw (f (suc number_at), and-false (nat_le n number_at)) (and-false in_range)

  module _ (g : slice_index_or t (i + 1) 0 < k) (l : slice_index_or t (i + 2) 0 < N) (narrow : (j : ℕ) → slice_index t j < 65536) (after : ℕ)
      (below : after ≤ past_triples N) (rest : RiseUpTo N k t (i + 3) after) where
    triple-in : slice_index_or t i 0 < N → (n : ℕ) → rises_from N k n t i ≡ (nat_le n number_at && nat_lt number_at after)
    triple-in f n =
        triple-tested n
        ∙ rw (
          lt-ltb (slice_index t i) N f,
          lt-ltb (slice_index t (i + 1)) k g,
          lt-ltb (slice_index t (i + 2)) N l,
          rest (suc number_at) (omega (arith, narrow (i + 1), narrow (i + 2))),
        )

    -- .. or from no number above its own, or it leaves no recording below N ..
    pub unordered : after ≤ number_at → RiseNever N k t i
    unordered o = go (dec_lt (slice_index t i) N)
      where
        go : Dec (slice_index t i < N) → RiseNever N k t i
        go (yes f) n = triple-in f n ∙ rw (le-ltb number_at after o) (and-false (nat_le n number_at))
        go (no f) n = first_out (omega arith) n

    module _ (o : number_at < after) where
      -- .. or it leaves one, and all of them rise.
      pub first-in : slice_index_or t i 0 < N
      first-in = omega (arith, narrow (i + 1), narrow (i + 2))

      pub rise-more : RiseUpTo N k t i number_at
      rise-more n m = triple-in first-in n ∙ rw (lt-ltb number_at after o) (and-true (nat_le n number_at))

-- What the whole test says.

module _ (N k : ℕ) (t : Table) (short : length t ≤ 3 * most_links) (narrow : (i : ℕ) → slice_index t i < 65536) where
  whole : is_table N k t ≡ rises_from N k 0 t 0
  unfolding rises_from
  whole = table-short N k t short ∙ rising-numbers N k t narrow

  pub table-rises : (after : ℕ) → RiseUpTo N k t 0 after → is_table N k t ≡ true
  table-rises after r = whole ∙ r 0 (omega arith) ∙ le-leb 0 after (omega arith)

  pub table-fails : (m : ℕ) → 3 * m + 2 < length t → RiseNever N k t (3 * m) → is_table N k t ≡ false
  table-fails zero h f = whole ∙ f 0
  table-fails (suc m) h f =
      let e : 3 * suc m ≡ 3 * m + 3 = omega arith in
      table-fails m (omega arith) (never-before N k t (3 * m) (omega arith) (rw e at f))
