-- Laws of the kept bytes: how long they are, which entries of a rewriting they depend on, and how they grow by a list, a state or a
-- name.
use Rattle.std.specs.Prelude.{◌≡◌, ℕ, zero, suc, ◌+◌, ◌-◌, ◌*◌, ◌%◌, ◌<◌, ◌≤◌, List, [], ◌∷◌, ◌++◌, length, get_or, take, drop, slice_index}
use Rattle.std.proofs.Math.Path.{refl, sym, ap, ap₂}
use Rattle.std.proofs.lemmas.List.{append-nil, take_more}
use Rattle.std.proofs.Common.{◌∙◌, append_assoc, zero-add, add-zero, add-one, length-append}
use native.Mathlib.Omega.{arith}
use Rattle.syntax.specs.Byte.{Bytes}
use Rattle.syntax.specs.Resolve.{names_at}
use Rattle.syntax.specs.declared.table.Span.{Span}
use Rattle.reading.specs.ReadFacts.{ShortNames}
use Rattle.finding.specs.Find.{Rewriting, row_width}
use Rattle.keeping.specs.Kept.{kept_length, two_bytes, kept_names, kept_nexts, kept_states, kept}
use Rattle.keeping.specs.Write.{one_name, name_bytes, Agree}

short-first : (n : Bytes) (t : List Bytes) → ShortNames (n ∷ t) → length n ≤ 16
short-first n t h = h 0 (omega arith)

short-rest : (n : Bytes) (t : List Bytes) → ShortNames (n ∷ t) → ShortNames t
short-rest n t h = λ i l. h (suc i) (omega arith)

pub name_bytes-kept : (names : List Bytes) → ShortNames names → name_bytes names ≡ kept_names names
unfolding name_bytes kept_names
name_bytes-kept [] h = refl
name_bytes-kept (n ∷ t) h =
    let s : length n ≤ 16 = short-first n t h in
    let e : length n % 256 ≡ length n = omega arith in
    ap₂ (λ (k : ℕ) (r : Bytes). k ∷ (n ++ r)) e (name_bytes-kept t (short-rest n t h))

-- Each name takes at most 17 bytes, each next state 2, and with at most 16 lists each state at most 33.
kept_names-length : (names : List Bytes) → ShortNames names → length (kept_names names) ≤ 17 * length names
unfolding kept_names
kept_names-length [] h = omega arith
kept_names-length (n ∷ t) h =
    let s : length n ≤ 16 = short-first n t h in
    let r : length (kept_names t) ≤ 17 * length t = kept_names-length t (short-rest n t h) in
    omega (arith, length-append n (kept_names t))

pub kept_nexts-length : (table : List ℕ) (s n v : ℕ) → length (kept_nexts table s n v) ≡ 2 * n
unfolding kept_nexts
kept_nexts-length table s zero v = refl
kept_nexts-length table s (suc n) v = omega (arith, kept_nexts-length table s n (suc v))

kept_states-length : (R : Rewriting) (k n s : ℕ) → k ≤ 16 → length (kept_states R k n s) ≤ 33 * n
unfolding kept_states
kept_states-length R k zero s h = omega arith
kept_states-length R k (suc n) s h =
    let r : length (kept_states R k n (suc s)) ≤ 33 * n = kept_states-length R k n (suc s) h in
    omega (arith, length-append (kept_nexts R.table s k 0) (kept_states R k n (suc s)), kept_nexts-length R.table s k 0)

-- All kept bytes fit the output: 8 + 16 × 17 + 256 × 33 = 8,728.
pub kept-fits : (names : List Bytes) (R : Rewriting) → length names ≤ 16 → ShortNames names → R.states ≤ 256
    → length (kept names R) ≤ kept_length
unfolding kept
kept-fits names R few short states =
    let a = kept_names-length names short in
    let b = kept_states-length R (length names) R.states 0 few in
    omega (arith, length-append (kept_names names) (kept_states R (length names) R.states 0))

-- The kept bytes depend on no more than the number of states, the flags and the next states.
module _ (R S : Rewriting) (lists states : ℕ) (agree : Agree R S lists states) where
  nexts-agree : (s n v : ℕ) → s < states → v + n ≡ lists → kept_nexts R.table s n v ≡ kept_nexts S.table s n v
  unfolding kept_nexts
  nexts-agree s zero v h e = refl
  nexts-agree s (suc n) v h e =
      ap₂ (λ (k : ℕ) (r : Bytes). two_bytes k ++ r) (agree.nexts s v h (omega arith)) (nexts-agree s n (suc v) h (omega arith))

  states-agree : (n s : ℕ) → s + n ≡ states → kept_states R lists n s ≡ kept_states S lists n s
  unfolding kept_states
  states-agree zero s e = refl
  states-agree (suc n) s e =
      ap₂ (λ (b : ℕ) (r : Bytes). b ∷ r) (agree.flags s (omega arith))
      (ap₂ (λ (a b : Bytes). a ++ b) (nexts-agree s lists 0 (omega arith) (omega arith)) (states-agree n (suc s) (omega arith)))

pub kept-agree : (names : List Bytes) (R S : Rewriting) → R.states ≡ S.states → Agree R S (length names) R.states
    → kept names R ≡ kept names S
unfolding kept
kept-agree names R S e agree = rw (states-agree R S (length names) R.states agree R.states 0 (zero-add R.states), e)

-- The kept bytes piece by piece: those of a list or a state are the first of what is left from there on.
pub nexts-from : (table : List ℕ) (s k v : ℕ) → v < k
    → kept_nexts table s (k - v) v ≡ two_bytes (slice_index table (row_width * s + v)) ++ kept_nexts table s (k - (v + 1)) (v + 1)
unfolding kept_nexts
nexts-from table s k v h = let e : k - v ≡ suc (k - (v + 1)) = omega arith in rw (e, kept_nexts, add-one)

pub states-from : (R : Rewriting) (k n s : ℕ) → s < n
    → kept_states R k (n - s) s ≡ (slice_index R.flags s ∷ kept_nexts R.table s k 0) ++ kept_states R k (n - (s + 1)) (s + 1)
unfolding kept_states
states-from R k n s h = let e : n - s ≡ suc (n - (s + 1)) = omega arith in rw (e, kept_states, add-one)

-- The next states for the lists from v on, with one more; and the states from s on.
nexts-last : (table : List ℕ) (s n v : ℕ)
    → kept_nexts table s n v ++ two_bytes (slice_index table (row_width * s + (v + n))) ≡ kept_nexts table s (suc n) v
unfolding kept_nexts
nexts-last table s zero v = rw (add-zero v) (sym (append-nil (two_bytes (slice_index table (row_width * s + v)))))
nexts-last table s (suc n) v =
    let next : Bytes = two_bytes (slice_index table (row_width * s + v)) in
    let e : v + suc n ≡ suc v + n = omega arith in
    append_assoc next (kept_nexts table s n (suc v)) (two_bytes (slice_index table (row_width * s + (v + suc n))))
    ∙ ap (λ (r : Bytes). next ++ r)
    (ap (λ (k : ℕ). kept_nexts table s n (suc v) ++ two_bytes (slice_index table (row_width * s + k))) e ∙ nexts-last table s n (suc v))

pub nexts-more : (table : List ℕ) (s n : ℕ)
    → kept_nexts table s n 0 ++ two_bytes (slice_index table (row_width * s + n)) ≡ kept_nexts table s (n + 1) 0
nexts-more table s n =
    ap (λ (k : ℕ). kept_nexts table s n 0 ++ two_bytes (slice_index table (row_width * s + k))) (sym (zero-add n))
    ∙ (nexts-last table s n 0 ∙ ap (λ (k : ℕ). kept_nexts table s k 0) (sym (add-one n)))

module _ (R : Rewriting) (k : ℕ) where
  one-state : ℕ → Bytes
  one-state s = slice_index R.flags s ∷ kept_nexts R.table s k 0

  states-last : (n s : ℕ) → kept_states R k n s ++ one-state (s + n) ≡ kept_states R k (suc n) s
  unfolding kept_states one-state
  states-last zero s = rw (add-zero s) (sym (append-nil (slice_index R.flags s ∷ kept_nexts R.table s k 0)))
  states-last (suc n) s =
      let e : s + suc n ≡ suc s + n = omega arith in
      append_assoc (one-state s) (kept_states R k n (suc s)) (one-state (s + suc n))
      ∙ ap (λ (r : Bytes). one-state s ++ r)
      (ap (λ (j : ℕ). kept_states R k n (suc s) ++ one-state j) e ∙ states-last n (suc s))

  pub states-more : (n : ℕ) → kept_states R k n 0 ++ (slice_index R.flags n ∷ kept_nexts R.table n k 0) ≡ kept_states R k (n + 1) 0
  unfolding one-state
  states-more n =
      ap (λ (j : ℕ). kept_states R k n 0 ++ one-state j) (sym (zero-add n))
      ∙ (states-last n 0 ∙ ap (λ (j : ℕ). kept_states R k j 0) (sym (add-one n)))

-- The names at the first places of a table, with one more.
names-last : (text : Bytes) (l : List Span) (span : Span)
    → name_bytes (names_at text l) ++ one_name (take span.size (drop span.start text)) ≡ name_bytes (names_at text (l ++ (span ∷ [])))
unfolding name_bytes names_at
names-last text [] span = sym (append-nil (one_name (take span.size (drop span.start text))))
names-last text (s ∷ l) span =
    append_assoc (one_name (take s.size (drop s.start text))) (name_bytes (names_at text l)) (one_name (take span.size (drop span.start text)))
    ∙ ap (λ (r : Bytes). one_name (take s.size (drop s.start text)) ++ r) (names-last text l span)

pub names-more : (text : Bytes) (l : List Span) (i : ℕ) (d : Span) → i < length l
    → name_bytes (names_at text (take i l)) ++ one_name (take (get_or l i d).size (drop (get_or l i d).start text))
    ≡ name_bytes (names_at text (take (i + 1) l))
names-more text l i d h =
    names-last text (take i l) (get_or l i d) ∙ ap (λ (k : List Span). name_bytes (names_at text k)) (sym (take_more l i d h))
