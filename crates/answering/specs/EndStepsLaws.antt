-- The laws of the steps of the search by sets of recordings (EndSteps): how rows come one after the other, and how symbols are followed.
use Rattle.std.specs.Prelude.{◌≡◌, ℕ, ◌+◌, ◌-◌, ◌*◌, ◌/◌, ◌%◌, ◌^◌, ◌<◌, ◌≤◌, ◌≢◌, ◌⊎◌, ◌↔◌, List, length, replicate, bit_and, slice_index}
use Rattle.std.proofs.Common.{inl, inr, ⊎_elim, sym, ◌∙◌, subst, mul_comm, mul-le-mul_left, arith}
use Rattle.std.specs.Prelude.{refl}
use Rattle.std.proofs.Math.Decide.{ℕ_discrete}
use Rattle.std.proofs.lemmas.Nat.{and_le_r}
use Rattle.std.specs.Int.Count.{count_trailing_zeros}
use Rattle.theory.specs.Places.{Member}
use Rattle.theory.specs.PlacesLaws.{member-none, member_below}
use Rattle.places.specs.NextPlace.{trailing-here}
use Rattle.places.specs.Followed.{Passed, passed_none, passed-turn, passed-all, rest-within}
use Rattle.answering.specs.ProductLaws.{node-below}
use Rattle.answering.specs.Pairs.{Has, zeros-idle}
use Rattle.answering.specs.SetSearch.{Steps}
use Rattle.answering.specs.SetRows.{word_of, United, united-has, united-new, united-there}
use Rattle.answering.specs.WordSteps.{has_word}
use Rattle.answering.specs.Ends.{EndsFit}
use Rattle.answering.specs.EndSteps.{Turnable, InRows, RowsThere, RowsJoined, Given, MembersFollowed}

-- What has come, and then what has come after it.
came-then : {A B C X Y Z : Type 0} → B ↔ (A ⊎ X) → C ↔ (B ⊎ Y) → Z ↔ (X ⊎ Y) → C ↔ (A ⊎ Z)
came-then f g e = (
  λ c. ⊎_elim (λ b. ⊎_elim inl (λ x. inr (e.1 (inl x))) (f.0 b)) (λ y. inr (e.1 (inr y))) (g.0 c),
  λ z. ⊎_elim (λ a. g.1 (inl (f.1 (inl a)))) (λ z. ⊎_elim (λ x. g.1 (inl (f.1 (inr x)))) (λ y. g.1 (inr y)) (e.0 z)) z,
)

-- Nothing has come where nothing was to come.
came-none : {A X : Type 0} → ¬ X → A ↔ (A ⊎ X)
came-none d = (inl, λ z. ⊎_elim (λ a. a) (λ x. absurd (d x)) z)

-- A row has come to another.
row-came : {P P' : List ℕ} (words : List ℕ) (x z : ℕ) → United (4 * z) 4 (word_of words (4 * x)) P P'
    → (t y : ℕ) → y < 256 → Has 4 P' t y ↔ (Has 4 P t y ⊎ ((t ≡ z) × Has 4 words x y))
unfolding Has
row-came {P} {P'} words x z u t y h = (united-there z u t y (omega arith), λ m. ⊎_elim (united-has z u t y) new m)
  where
    new : (t ≡ z) × Member (y % 64) (slice_index words (4 * x + y / 64)) → Has 4 P' t y
    new (e, m) = subst (λ t. Has 4 P' t y) (sym e) (united-new z u y (omega arith) m)

-- The rows of the members of a set come one after the other: that of the member p is the row `source p` of the words, and comes to the row
-- `target p`.
abbrev Came : List ℕ → (ℕ → ℕ) → (ℕ → ℕ) → ℕ → ℕ → ℕ → Type 0
Came words source target p t y = (t ≡ target p) × Has 4 words (source p) y

-- Those of the members that have been passed have come, where those of `rest` are left, and nothing else.
pub record Coming (words : List ℕ) (source target : ℕ → ℕ) (set rest : ℕ) (before after : List ℕ) : Type 0 where
  pub small : rest < 2 ^ 64
  pub within : (p : ℕ) → Member p rest → Member p set
  pub words-kept : length after ≡ length before
  pub came : (t y : ℕ) → y < 256
      → Has 4 after t y ↔ (Has 4 before t y ⊎ ((p : ℕ) × Passed set rest p × Came words source target p t y))

pub coming-none : {words : List ℕ} {source target : ℕ → ℕ} {set rest : ℕ} {before : List ℕ} → set < 2 ^ 64 → rest ≡ set
    → Coming words source target set rest before before
coming-none {set = set} h e = rw e record {
  small = h;
  within = λ p m. m;
  words-kept = refl;
  came = λ t y l. came-none (λ (p, n, c). passed_none set p n);
}

module _ {words : List ℕ} {source target : ℕ → ℕ} {set rest : ℕ} {before mid : List ℕ} (v : Coming words source target set rest before mid)
    (d : rest ≢ 0) where
  abbrev least : ℕ
  least = count_trailing_zeros 64 rest

  -- The least member that is left is one of the set.
  pub coming-here : Member (count_trailing_zeros 64 rest) set
  coming-here = v.within least (trailing-here 64 rest d v.small)

  turn : (p : ℕ) → Passed set (bit_and rest (rest - 1)) p ↔ (Passed set rest p ⊎ (p ≡ least))
  turn = passed-turn set rest v.within d v.small

  turn-there : (t y : ℕ) → ((p : ℕ) × Passed set (bit_and rest (rest - 1)) p × Came words source target p t y)
      → ((p : ℕ) × Passed set rest p × Came words source target p t y) ⊎ Came words source target least t y
  turn-there t y (p, n, c) = ⊎_elim (λ n. inl (p, n, c)) (λ e. inr (subst (λ p. Came words source target p t y) e c)) ((turn p).0 n)

  turn-back : (t y : ℕ) → ((p : ℕ) × Passed set rest p × Came words source target p t y) ⊎ Came words source target least t y
      → (p : ℕ) × Passed set (bit_and rest (rest - 1)) p × Came words source target p t y
  turn-back t y (inl (p, n, c)) = (p, (turn p).1 (inl n), c)
  turn-back t y (inr c) = (least, (turn least).1 (inr refl), c)

  pub coming-turn : {after : List ℕ} → length after ≡ length mid
      → United (4 * target (count_trailing_zeros 64 rest)) 4 (word_of words (4 * source (count_trailing_zeros 64 rest))) mid after
      → Coming words source target set (bit_and rest (rest - 1)) before after
  coming-turn e u = record {
    small = omega (arith, v.small, and_le_r rest (rest - 1));
    within = rest-within set rest v.within d v.small;
    words-kept = e ∙ v.words-kept;
    came = λ t y h. came-then (v.came t y h) (row-came words (source least) (target least) u t y h) (turn-there t y, turn-back t y);
  }

-- All rows have come: to the first row ..
pub joined-all : {ends : List ℕ} (row : ℕ) {set rest : ℕ} {before after : List ℕ} → rest ≡ 0
    → Coming ends (λ p. row + p) (λ p. 0) set rest before after → RowsJoined ends row set before after
joined-all row {set} {rest} e v y h = (
  λ m. ⊎_elim inl (λ (p, n, (q, c)). inr (p, (passed-all set rest e p).0 n, c)) ((v.came 0 y h).0 m),
  λ m. (v.came 0 y h).1 (⊎_elim inl (λ (p, n, c). inr (p, (passed-all set rest e p).1 n, (refl, c))) m),
)

-- .. or the first row to those of the states of an image.
pub given-all : {joined : List ℕ} {image rest : ℕ} {before after : List ℕ} → rest ≡ 0
    → Coming joined (λ p. 0) (λ p. p) image rest before after → Given (Has 4 joined 0) image before after
given-all {image = image} {rest} e v t y h = (
  λ m. ⊎_elim inl (λ (p, n, (q, c)). inr (subst (λ p. Member p image) (sym q) ((passed-all image rest e p).0 n), c)) ((v.came t y h).0 m),
  λ m. (v.came t y h).1 (⊎_elim inl (λ (n, c). inr (t, (passed-all image rest e t).1 n, (refl, c))) m),
)

-- The ends are given as they were joined, or to no state.

pub given-joined : (ends : List ℕ) (row set image n : ℕ) (joined before after : List ℕ) → RowsJoined ends row set (replicate n 0) joined
    → Given (Has 4 joined 0) image before after → Given (InRows ends row set) image before after
given-joined ends row set image n joined before after j g t y h = (
  λ m. ⊎_elim inl (λ (i, c). inr (i, ⊎_elim (λ z. absurd (zeros-idle 4 n 0 y z)) (λ r. r) ((j y h).0 c))) ((g t y h).0 m),
  λ m. (g t y h).1 (⊎_elim inl (λ (i, r). inr (i, (j y h).1 (inr r))) m),
)

pub given-none : (Some : ℕ → Type 0) (image : ℕ) (l : List ℕ) → image ≡ 0 → Given Some image l l
given-none Some image l e t y h = came-none (λ (m, c). member-none t (subst (Member t) e m))

-- The symbols are followed one after the other: the state t is next of s over a symbol below b whose links lead to y (LedTo).
abbrev LedBelow : ℕ → List ℕ → ℕ → ℕ → List ℕ → ℕ → ℕ → ℕ → ℕ → ℕ → Type 0
LedBelow b rows k N ends from set s t y = (a : ℕ) × (a < b) × Steps rows k 1 s a t × InRows ends (N * a + from) set y

-- The links of the members over the symbols below b have been followed from the state s.
pub record FollowedBelow (b : ℕ) (rows : List ℕ) (k N : ℕ) (ends : List ℕ) (from set s : ℕ) (before after : List ℕ) : Type 0 where
  pub at_most : b ≤ k
  pub words-kept : length after ≡ length before
  pub came : (t y : ℕ) → t < 64 → y < 256 → Has 4 after t y ↔ (Has 4 before t y ⊎ LedBelow b rows k N ends from set s t y)

pub followed-none : {rows : List ℕ} {k N : ℕ} {ends : List ℕ} {from set s : ℕ} {l : List ℕ} → FollowedBelow 0 rows k N ends from set s l l
followed-none = record {
  at_most = omega arith;
  words-kept = refl;
  came = λ t y h g. came-none (λ (a, i, m, c). omega arith);
}

pub followed-more : {b : ℕ} {rows : List ℕ} {k N : ℕ} {ends : List ℕ} {from set s : ℕ} {before mid after : List ℕ}
    → FollowedBelow b rows k N ends from set s before mid → b < k → length after ≡ length mid
    → Given (InRows ends (N * b + from) set) (slice_index rows (k * s + b)) mid after
    → FollowedBelow (b + 1) rows k N ends from set s before after
followed-more {b} {rows} {k} {N} {ends} {from} {set} {s} v l e g = record {
  at_most = omega arith;
  words-kept = e ∙ v.words-kept;
  came = λ t y h i. came-then (v.came t y h i) (g t y i) (
    λ (a, j, m, c). there t y h a j m c (ℕ_discrete a b),
    λ z. ⊎_elim (λ (a, j, m, c). (a, omega arith, m, c)) (λ (m, c). (b, omega arith, (has_word rows (k * s + b) t h).1 m, c)) z,
  );
}
  where
    there : (t y : ℕ) → t < 64 → (a : ℕ) → a < b + 1 → Steps rows k 1 s a t → InRows ends (N * a + from) set y → Dec (a ≡ b)
        → LedBelow b rows k N ends from set s t y ⊎ (Member t (slice_index rows (k * s + b)) × InRows ends (N * b + from) set y)
    there t y h a j m c (no d) = inl (a, omega arith, m, c)
    there t y h a j m c (yes e) = inr (
      (has_word rows (k * s + b) t h).0 (subst (λ a. Steps rows k 1 s a t) e m),
      subst (λ a. InRows ends (N * a + from) set y) e c,
    )

pub followed-all : {b : ℕ} {rows : List ℕ} {k N : ℕ} {ends : List ℕ} {from set s : ℕ} {before after : List ℕ}
    → FollowedBelow b rows k N ends from set s before after → k ≤ b → MembersFollowed rows k N ends from set s before after
followed-all {b} {k = k} v l t y h i = (
  λ m. ⊎_elim inl (λ (a, j, r, c). inr (a, omega (arith, v.at_most), r, c)) ((v.came t y h i).0 m),
  λ m. (v.came t y h i).1 (⊎_elim inl (λ (a, j, r, c). inr (a, omega arith, r, c)) m),
)

-- The number of a row is small.
pub row_small : {k N a : ℕ} {ends : List ℕ} → EndsFit k N ends → a < k → N * a ≤ 768
row_small {k} {N} {a} v h =
    let m : N * a ≤ N * k = mul-le-mul_left N (omega arith) in
    omega (arith, mul_comm N k, v.few-rows)

-- The word of an image is there, and so are the rows of its states and those of the members.

pub word-there : {rows : List ℕ} {k states s a : ℕ} → Turnable rows k states → s < states → a < k → k * s + a < length rows
word-there {k = k} {states = states} v h l = omega (arith, node-below k states h l, v.rows_fit)

pub image-there : {rows : List ℕ} {k states s a : ℕ} (sets : List ℕ) → Turnable rows k states → s < states → a < k
    → slice_index rows (k * s + a) < 2 ^ 64 → 4 * states ≤ length sets → RowsThere sets 0 (slice_index rows (k * s + a))
image-there {rows} {k} {states} {s} {a} sets v h l small fits t m =
    let b = member_below 64 (slice_index rows (k * s + a)) t small m in
    let w = v.within s a t h l b ((has_word rows (k * s + a) t b).1 m) in
    omega arith

pub ends_there : {k N a : ℕ} (from set : ℕ) {ends : List ℕ} → EndsFit k N ends → a < k → ((p : ℕ) → Member p set → from + p < N)
    → RowsThere ends (N * a + from) set
ends_there {k} {N} {a} from set v h below p m =
    let n : N * a + (from + p) < N * k = node-below N k h (below p m) in
    omega (arith, v.rows)
