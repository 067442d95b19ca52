-- The loops that tell which states lists with the empty path lead to (Columns, Passing): what they keep, turn by turn.
use Rattle.std.specs.Prelude.{◌≡◌, ℕ, ◌+◌, ◌*◌, ◌/◌, ◌%◌, ◌^◌, ◌<◌, ◌≤◌, Bool, false, ◌≢◌, ◌⊎◌, ◌↔◌, List, length, slice_index, slice_index_or, slice_set}
use Rattle.std.proofs.Common.{inl, inr, sym, ap, ◌∙◌, subst, mul_comm, mul-le-mul_right, arith, get_or-set_same, get_or-set_other}
use Rattle.std.specs.Prelude.{refl}
use Rattle.std.proofs.Math.Decide.{ℕ_discrete}
use Rattle.theory.specs.Places.{Member, one, union}
use Rattle.theory.specs.PlacesLaws.{member-none, member-one, member_union}
use Rattle.theory.specs.Closure.{Reaches, here, onward}
use Rattle.verdict.specs.Columns.{Passes, NextBelow, LeadsIn, Passing}
use Rattle.verdict.specs.CoverPlaces.{split-unique, split_below}
use Rattle.verdict.specs.WordBits.{one_bit}

-- The next states of the state q over the first v lists are states.
abbrev pub RowBelow : ℕ → List ℕ → ℕ → ℕ → Type 0
RowBelow states table q v = (u : ℕ) → u < v → slice_index table (16 * q + u) < states

-- From the state q, those of the first v lists that have the empty path lead to states that do not come before it.
abbrev pub RowOnward : List ℕ → List ℕ → ℕ → ℕ → Type 0
RowOnward accepting table q v = (u : ℕ) → u < v → Member 0 (slice_index accepting (u + 1)) → q ≤ slice_index table (16 * q + u)

-- The lists with the empty path lead from each state to one that does not come before it.
abbrev pub Onward : ℕ → ℕ → List ℕ → List ℕ → Type 0
Onward states n accepting table = (q : ℕ) → q < states → RowOnward accepting table q n

-- The states can be passed, with k words each.
pub record Passable (k states n : ℕ) (accepting table : List ℕ) : Type 0 where
  pub few_words : k ≤ 4
  pub few-states : states ≤ 64 * k
  pub few-lists : n ≤ 16
  pub accepting-room : n < length accepting
  pub table-room : 16 * states ≤ length table
  pub next : NextBelow states n table

-- What the loops over the states are given, with next states that are states.
pub passable : (k states n words : ℕ) (accepting table : List ℕ)
    → (k ≤ 4) × (states ≤ 64 * k) × (n ≤ 16) × (n < length accepting) × (16 * states ≤ length table) × (k * states ≤ words)
    → NextBelow states n table → Passable k states n accepting table
passable k states n words accepting table (a, b, c, d, e, f) next =
    record { few_words = a; few-states = b; few-lists = c; accepting-room = d; table-room = e; next = next }

-- Each state leads to itself alone.
abbrev pub Alone : ℕ → ℕ → List ℕ → Type 0
Alone k states passes = (q t : ℕ) → q < states → LeadsIn k passes q t ↔ (t ≡ q)

-- No word is changed.
abbrev pub Same : List ℕ → List ℕ → Type 0
Same passes passes' = (i : ℕ) → slice_index passes' i ≡ slice_index passes i

-- The word number x gains the places of the word number y; r is false where it has them already.
pub record WordJoined (x y : ℕ) (passes passes' : List ℕ) (r : Bool) : Type 0 where
  pub joined : slice_index_or passes' x 0 ≡ union (slice_index passes x) (slice_index passes y)
  pub others : (i : ℕ) → i ≢ x → slice_index passes' i ≡ slice_index passes i
  pub unchanged : r ≡ false → slice_index passes' x ≡ slice_index passes x

-- The state t gains what the state s leads to; r is false where it leads there already.
pub record StateJoined (k t s : ℕ) (passes passes' : List ℕ) (r : Bool) : Type 0 where
  pub gains : (u : ℕ) → LeadsIn k passes' t u ↔ (LeadsIn k passes t u ⊎ LeadsIn k passes s u)
  pub others : (q u : ℕ) → q ≢ t → LeadsIn k passes' q u ↔ LeadsIn k passes q u
  pub unchanged : r ≡ false → Same passes passes'

-- One list with the empty path, from the list v on, leads from the state t to one that leads to the state y.
abbrev pub GainsFrom : ℕ → ℕ → ℕ → List ℕ → List ℕ → List ℕ → ℕ → ℕ → Type 0
GainsFrom k n v accepting table passes t y =
    (u : ℕ) × (v ≤ u) × (u < n) × Member 0 (slice_index accepting (u + 1)) × LeadsIn k passes (slice_index table (16 * t + u)) y

-- Every state leads to itself, and only to states that are reached.
pub record Sound (k states n : ℕ) (accepting table passes : List ℕ) : Type 0 where
  pub own : (q : ℕ) → q < states → LeadsIn k passes q q
  pub reached : (q t : ℕ) → q < states → LeadsIn k passes q t → Reaches (Passes n accepting table) q t

-- The state t has gained what the states lead to that one of the lists from v on, with the empty path, leads to, and leads to all of this;
-- the other states lead where they led. What is sound stays so.
pub record Gathered (k states n v : ℕ) (accepting table : List ℕ) (t : ℕ) (passes passes' : List ℕ) (r : Bool) : Type 0 where
  pub sound : Sound k states n accepting table passes → Sound k states n accepting table passes'
  pub others : (q y : ℕ) → q ≢ t → LeadsIn k passes' q y ↔ LeadsIn k passes q y
  pub unchanged : r ≡ false → Same passes passes'
  pub closed : (y : ℕ) → GainsFrom k n v accepting table passes' t y → LeadsIn k passes' t y

-- The states from t on lead to what the states after them lead to.
abbrev pub ClosedFrom : ℕ → ℕ → ℕ → List ℕ → List ℕ → List ℕ → ℕ → Type 0
ClosedFrom k states n accepting table passes t =
    (q y : ℕ) → t ≤ q → q < states → GainsFrom k n 0 accepting table passes q y → LeadsIn k passes q y

-- A round; where it changed nothing, or the lists with the empty path lead to no state before, the states are closed.
pub record Rounded (k states n : ℕ) (accepting table passes : List ℕ) (changed : Bool) : Type 0 where
  pub sound : Sound k states n accepting table passes
  pub closed : changed ≡ false → ClosedFrom k states n accepting table passes 0
  pub once : Onward states n accepting table → ClosedFrom k states n accepting table passes 0

-- The next states of the states before q are states.
abbrev pub BelowBefore : ℕ → ℕ → List ℕ → ℕ → Type 0
BelowBefore states n table q = (p : ℕ) → p < q → RowBelow states table p n

pub below-turn : (states n : ℕ) (table : List ℕ) (q : ℕ) → RowBelow states table q n → BelowBefore states n table q
    → BelowBefore states n table (q + 1)
below-turn states n table q new l p h = side (ℕ_discrete p q)
  where
    side : Dec (p ≡ q) → RowBelow states table p n
    side (yes e) = subst (λ (z : ℕ). RowBelow states table z n) (sym e) new
    side (no d) = l p (omega arith)

-- The words of a state are among those of all states, and there are few.

pub word-inside : (k states q i : ℕ) → i < k → q < states → k * q + i < k * states
word-inside k states q i h l = omega (arith, split_below k states q i h l, mul_comm k states)

pub words_inside : (k states q : ℕ) → q < states → k * q + k ≤ k * states
words_inside k states q h = omega (arith, mul-le-mul_right k h, mul_comm k q, mul_comm k states)

pub words-few : (k q : ℕ) → k ≤ 4 → k * q ≤ 4 * q
words-few k q h = mul-le-mul_right q h

same_back : (k : ℕ) (passes passes' : List ℕ) → Same passes passes' → (q u : ℕ) → LeadsIn k passes' q u → LeadsIn k passes q u
same_back k passes passes' e q u (h, m) = (h, subst (Member (u % 64)) (e (k * q + u / 64)) m)

-- Each state alone: the states before t have themselves, and every other word of the states is empty.

pub record AloneBefore (k states : ℕ) (passes : List ℕ) (t : ℕ) : Type 0 where
  pub own : (q : ℕ) → q < t → slice_index passes (k * q + q / 64) ≡ one (q % 64)
  pub others : (q i : ℕ) → q < states → i < k → (q < t → i ≢ q / 64) → slice_index passes (k * q + i) ≡ 0

pub alone-start : (k states : ℕ) (passes : List ℕ) → ((i : ℕ) → i < k * states → slice_index passes i ≡ 0) → AloneBefore k states passes 0
alone-start k states passes zeros =
    record { own = λ q h. absurd (omega arith); others = λ q i h l d. zeros (k * q + i) (word-inside k states q i l h) }

pub alone-turn : (k states : ℕ) (passes : List ℕ) (t : ℕ) → states ≤ 64 * k → t < states → k * t + t / 64 < length passes
    → AloneBefore k states passes t → AloneBefore k states (slice_set passes (k * t + t / 64) ((1 * 2 ^ (t % 64)) % 2 ^ 64)) (t + 1)
alone-turn k states passes t few inside room l =
    record { own = λ q h. mine q h (ℕ_discrete q t); others = λ q i h a d. other q i h a d }
  where
    bit : ℕ
    bit = (1 * 2 ^ (t % 64)) % 2 ^ 64

    at : ℕ
    at = k * t + t / 64

    new : slice_index_or (slice_set passes at bit) at 0 ≡ one (t % 64)
    new = get_or-set_same passes at bit 0 room ∙ one_bit (t % 64) (omega arith)

    mine : (q : ℕ) → q < t + 1 → Dec (q ≡ t) → slice_index (slice_set passes at bit) (k * q + q / 64) ≡ one (q % 64)
    mine q h (yes e) = subst (λ (z : ℕ). slice_index (slice_set passes at bit) (k * z + z / 64) ≡ one (z % 64)) (sym e) new
    mine q h (no d) =
        get_or-set_other passes at (k * q + q / 64) bit 0 (λ e. d (split-unique k q t (q / 64) (t / 64) (omega arith) (omega arith) e).0)
        ∙ l.own q (omega arith)

    other : (q i : ℕ) → q < states → i < k → (q < t + 1 → i ≢ q / 64) → slice_index (slice_set passes at bit) (k * q + i) ≡ 0
    other q i h a d = get_or-set_other passes at (k * q + i) bit 0 apart ∙ l.others q i h a (λ b. d (omega arith))
      where
        apart : k * q + i ≢ at
        apart e =
            let (x, y) = split-unique k q t i (t / 64) a (omega arith) e in
            d (omega arith) (y ∙ ap (λ (z : ℕ). z / 64) (sym x))

pub alone-end : (k states : ℕ) (passes : List ℕ) (t : ℕ) → states ≤ 64 * k → states ≤ t → AloneBefore k states passes t → Alone k states passes
alone-end k states passes t few all l q u h = (λ (a, m). same a m (ℕ_discrete (u / 64) (q / 64)), λ e. back e)
  where
    word : slice_index_or passes (k * q + q / 64) 0 ≡ one (q % 64)
    word = l.own q (omega arith)

    same : u / 64 < k → Member (u % 64) (slice_index passes (k * q + u / 64)) → Dec (u / 64 ≡ q / 64) → u ≡ q
    same a m (yes e) =
        let low : u % 64 ≡ q % 64 =
        (member-one (u % 64) (q % 64)).0 (subst (Member (u % 64)) (ap (λ (z : ℕ). slice_index passes (k * q + z)) e ∙ word) m) in
        omega arith
    same a m (no d) = absurd (member-none (u % 64) (subst (Member (u % 64)) (l.others q (u / 64) h a (λ b. d)) m))

    back : u ≡ q → LeadsIn k passes q u
    back e =
        subst (LeadsIn k passes q) (sym e)
        (omega arith, subst (Member (q % 64)) (sym word) ((member-one (q % 64) (q % 64)).1 refl))

pub sound-start : (k states n : ℕ) (accepting table passes : List ℕ) → Alone k states passes → Sound k states n accepting table passes
sound-start k states n accepting table passes alone =
    record {
      own = λ q h. (alone q q h).1 refl;
      reached = λ q t h m. subst (Reaches (Passes n accepting table) q) (sym ((alone q t h).0 m)) here;
    }

-- One state's words gain those of another: the words from j on have gained.

pub record Joining (k t s j : ℕ) (passes passes' : List ℕ) (r : Bool) : Type 0 where
  pub done : (i : ℕ) → j ≤ i → i < k → slice_index passes' (k * t + i) ≡ union (slice_index passes (k * t + i)) (slice_index passes (k * s + i))
  pub others : (x : ℕ) → ((i : ℕ) → j ≤ i → i < k → x ≢ k * t + i) → slice_index passes' x ≡ slice_index passes x
  pub unchanged : r ≡ false → Same passes passes'

pub joining-start : (k t s : ℕ) (passes : List ℕ) (r : Bool) → Joining k t s k passes passes r
joining-start k t s passes r = record { done = λ i h l. absurd (omega arith); others = λ x d. refl; unchanged = λ e i. refl }

-- A word more: r and r' tell of the words before and of this one, b of both.
pub joining-turn : (k t s j next : ℕ) (passes₀ passes passes' : List ℕ) (r r' b : Bool) → next ≡ j + 1 → j < k
    → (b ≡ false → (r ≡ false) × (r' ≡ false)) → WordJoined (k * t + j) (k * s + j) passes passes' r' → Joining k t s next passes₀ passes r
    → Joining k t s j passes₀ passes' b
joining-turn k t s j next passes₀ passes passes' r r' b turn small both w l =
    record {
      done = λ i h a. this i h a (ℕ_discrete i j);
      others = λ x d. w.others x (d j (omega arith) small) ∙ l.others x (λ i h a. d i (omega arith) a);
      unchanged = λ e x. same e x (ℕ_discrete x (k * t + j));
    }
  where
    -- The words number j were not yet changed.
    before : (q : ℕ) → slice_index passes (k * q + j) ≡ slice_index passes₀ (k * q + j)
    before q = l.others (k * q + j) (λ i h a e. omega (arith, (split-unique k q t j i small a e).1))

    this : (i : ℕ) → j ≤ i → i < k → Dec (i ≡ j)
        → slice_index passes' (k * t + i) ≡ union (slice_index passes₀ (k * t + i)) (slice_index passes₀ (k * s + i))
    this i h a (yes e) =
        subst (λ z. slice_index passes' (k * t + z) ≡ union (slice_index passes₀ (k * t + z)) (slice_index passes₀ (k * s + z))) (sym e)
        (w.joined ∙ ap (λ z. union z (slice_index passes (k * s + j))) (before t) ∙ ap (union (slice_index passes₀ (k * t + j))) (before s))
    this i h a (no d) = w.others (k * t + i) (λ e. d (omega arith)) ∙ l.done i (omega arith) a

    same : b ≡ false → (x : ℕ) → Dec (x ≡ k * t + j) → slice_index passes' x ≡ slice_index passes₀ x
    same e x (yes d) =
        ap (λ z. slice_index passes' z) d ∙ w.unchanged (both e).1 ∙ sym (ap (λ z. slice_index passes z) d) ∙ l.unchanged (both e).0 x
    same e x (no d) = w.others x d ∙ l.unchanged (both e).0 x

pub joining-end : (k t s j : ℕ) (passes passes' : List ℕ) (r : Bool) → j ≡ 0 → Joining k t s j passes passes' r
    → StateJoined k t s passes passes' r
joining-end k t s j passes passes' r e l =
    record {
      gains = λ u. (λ (h, m). there u h ((member_union (u % 64) _ _).0 (subst (Member (u % 64)) (word u h) m)), back u);
      others = λ q u d. (
        λ (h, m). (h, subst (Member (u % 64)) (other q u d h) m),
        λ (h, m). (h, subst (Member (u % 64)) (sym (other q u d h)) m),
      );
      unchanged = l.unchanged;
    }
  where
    word : (u : ℕ) → u / 64 < k
        → slice_index passes' (k * t + u / 64) ≡ union (slice_index passes (k * t + u / 64)) (slice_index passes (k * s + u / 64))
    word u h = l.done (u / 64) (omega arith) h

    other : (q u : ℕ) → q ≢ t → u / 64 < k → slice_index passes' (k * q + u / 64) ≡ slice_index passes (k * q + u / 64)
    other q u d h = l.others (k * q + u / 64) (λ i b a f. d (split-unique k q t (u / 64) i h a f).0)

    there : (u : ℕ) → u / 64 < k → Member (u % 64) (slice_index passes (k * t + u / 64)) ⊎ Member (u % 64) (slice_index passes (k * s + u / 64))
        → LeadsIn k passes t u ⊎ LeadsIn k passes s u
    there u h (inl m) = inl (h, m)
    there u h (inr m) = inr (h, m)

    back : (u : ℕ) → LeadsIn k passes t u ⊎ LeadsIn k passes s u → LeadsIn k passes' t u
    back u (inl (h, m)) = (
      h,
      subst (Member (u % 64)) (sym (word u h))
          ((member_union (u % 64) (slice_index passes (k * t + u / 64)) (slice_index passes (k * s + u / 64))).1 (inl m)),
    )
    back u (inr (h, m)) = (
      h,
      subst (Member (u % 64)) (sym (word u h))
          ((member_union (u % 64) (slice_index passes (k * t + u / 64)) (slice_index passes (k * s + u / 64))).1 (inr m)),
    )

-- Gathering.

pub gathered-start : (k states n : ℕ) (accepting table : List ℕ) (t : ℕ) (passes : List ℕ) (r : Bool)
    → Gathered k states n n accepting table t passes passes r
gathered-start k states n accepting table t passes r =
    record {
      sound = λ s. s;
      others = λ q y d. (λ m. m, λ m. m);
      unchanged = λ e i. refl;
      closed = λ y (u, h, l, a, m). absurd (omega arith);
    }

-- The list v has not the empty path.
pub gathered-skip : (k states n v next : ℕ) (accepting table : List ℕ) (t : ℕ) (passes passes' : List ℕ) (r : Bool) → next ≡ v + 1
    → ¬ Member 0 (slice_index accepting (v + 1)) → Gathered k states n next accepting table t passes passes' r
    → Gathered k states n v accepting table t passes passes' r
gathered-skip k states n v next accepting table t passes passes' r turn none g =
    record {
      sound = g.sound;
      others = g.others;
      unchanged = g.unchanged;
      closed = λ y (u, h, l, a, m). g.closed y (u, more u h a (ℕ_discrete u v), l, a, m);
    }
  where
    more : (u : ℕ) → v ≤ u → Member 0 (slice_index accepting (u + 1)) → Dec (u ≡ v) → next ≤ u
    more u h a (yes e) = absurd (none (subst (λ (z : ℕ). Member 0 (slice_index accepting (z + 1))) e a))
    more u h a (no d) = omega arith

-- It has: the state gains what its next state leads to. r and r' tell of the lists before and of this one, b of both.
pub gathered-more : (k states n v next : ℕ) (accepting table : List ℕ) (t : ℕ) (passes₀ passes passes' : List ℕ) (r r' b : Bool)
    → next ≡ v + 1 → v < n → t < states → NextBelow states n table → (b ≡ false → (r ≡ false) × (r' ≡ false))
    → Member 0 (slice_index accepting (v + 1)) → StateJoined k t (slice_index table (16 * t + v)) passes passes' r'
    → Gathered k states n next accepting table t passes₀ passes r → Gathered k states n v accepting table t passes₀ passes' b
gathered-more k states n v next accepting table t passes₀ passes passes' r r' b turn below inside step both some j g =
    record {
      sound = λ s. sound-turn (g.sound s);
      others = λ q y d. (λ m. (g.others q y d).0 ((j.others q y d).0 m), λ m. (j.others q y d).1 ((g.others q y d).1 m));
      unchanged = λ e i. j.unchanged (both e).1 i ∙ g.unchanged (both e).0 i;
      closed = λ y (u, h, l, a, m). led y u h l a m (ℕ_discrete (slice_index table (16 * t + u)) t);
    }
  where
    s : ℕ
    s = slice_index table (16 * t + v)

    sound-turn : Sound k states n accepting table passes → Sound k states n accepting table passes'
    sound-turn sound = record { own = λ q h. mine q h (ℕ_discrete q t); reached = λ q y h m. led q y h m (ℕ_discrete q t) }
      where
        mine : (q : ℕ) → q < states → Dec (q ≡ t) → LeadsIn k passes' q q
        mine q h (yes e) = subst (λ (z : ℕ). LeadsIn k passes' z z) (sym e) ((j.gains t).1 (inl (sound.own t inside)))
        mine q h (no d) = (j.others q q d).1 (sound.own q h)

        from : (y : ℕ) → LeadsIn k passes t y ⊎ LeadsIn k passes s y → Reaches (Passes n accepting table) t y
        from y (inl m) = sound.reached t y inside m
        from y (inr m) = onward (v, below, some, refl) (sound.reached s y (step t v inside below) m)

        led : (q y : ℕ) → q < states → LeadsIn k passes' q y → Dec (q ≡ t) → Reaches (Passes n accepting table) q y
        led q y h m (yes e) =
            subst (λ (z : ℕ). Reaches (Passes n accepting table) z y) (sym e)
            (from y ((j.gains y).0 (subst (λ (z : ℕ). LeadsIn k passes' z y) e m)))
        led q y h m (no d) = sound.reached q y h ((j.others q y d).0 m)

    -- What a list leads to, the state t leads to already, or gains it now; where the list leads to t itself, there is nothing to gain.
    gained : (y u : ℕ) → v ≤ u → u < n → Member 0 (slice_index accepting (u + 1)) → LeadsIn k passes (slice_index table (16 * t + u)) y
        → Dec (u ≡ v) → LeadsIn k passes t y ⊎ LeadsIn k passes s y
    gained y u h l a m (yes e) = inr (subst (λ (z : ℕ). LeadsIn k passes (slice_index table (16 * t + z)) y) e m)
    gained y u h l a m (no d) = inl (g.closed y (u, omega arith, l, a, m))

    led : (y u : ℕ) → v ≤ u → u < n → Member 0 (slice_index accepting (u + 1)) → LeadsIn k passes' (slice_index table (16 * t + u)) y
        → Dec (slice_index table (16 * t + u) ≡ t) → LeadsIn k passes' t y
    led y u h l a m (yes e) = subst (λ (z : ℕ). LeadsIn k passes' z y) e m
    led y u h l a m (no d) =
        (j.gains y).1 (gained y u h l a ((j.others (slice_index table (16 * t + u)) y d).0 m) (ℕ_discrete u v))

-- A round: the state t has gathered. The states from it on are closed, where those after it were and the states that they lead to have
-- gained nothing.
closed-more : (k states n : ℕ) (accepting table passes passes' : List ℕ) (t next : ℕ) (r : Bool) → next ≡ t + 1
    → Gathered k states n 0 accepting table t passes passes' r → ClosedFrom k states n accepting table passes next
    → ((q y : ℕ) → t < q → q < states → GainsFrom k n 0 accepting table passes' q y → GainsFrom k n 0 accepting table passes q y)
    → ClosedFrom k states n accepting table passes' t
closed-more k states n accepting table passes passes' t next r turn g c old q y h l m = side (ℕ_discrete q t)
  where
    side : Dec (q ≡ t) → LeadsIn k passes' q y
    side (yes e) =
        subst (λ (z : ℕ). LeadsIn k passes' z y) (sym e)
        (g.closed y (subst (λ (z : ℕ). GainsFrom k n 0 accepting table passes' z y) e m))
    side (no d) = (g.others q y d).1 (c q y (omega arith) l (old q y (omega arith) l m))

-- Nothing has changed.
pub closed-turn : (k states n : ℕ) (accepting table passes passes' : List ℕ) (t next : ℕ) (r r' b : Bool) → next ≡ t + 1
    → (b ≡ false → (r ≡ false) × (r' ≡ false)) → Gathered k states n 0 accepting table t passes passes' r'
    → (r ≡ false → ClosedFrom k states n accepting table passes next) → b ≡ false → ClosedFrom k states n accepting table passes' t
closed-turn k states n accepting table passes passes' t next r r' b turn both g c f =
    closed-more k states n accepting table passes passes' t next r' turn g (c (both f).0)
    (λ q y h l (u, i, o, a, m). (u, i, o, a, same_back k passes passes' (g.unchanged (both f).1) (slice_index table (16 * q + u)) y m))

-- The lists with the empty path lead to no state before, so none leads from a state after t to t.
pub once-turn : (k states n : ℕ) (accepting table passes passes' : List ℕ) (t next : ℕ) (r : Bool) → next ≡ t + 1
    → Gathered k states n 0 accepting table t passes passes' r
    → (Onward states n accepting table → ClosedFrom k states n accepting table passes next) → Onward states n accepting table
    → ClosedFrom k states n accepting table passes' t
once-turn k states n accepting table passes passes' t next r turn g c on =
    closed-more k states n accepting table passes passes' t next r turn g (c on)
    (λ q y h l (u, i, o, a, m). (u, i, o, a, (g.others (slice_index table (16 * q + u)) y (λ e. omega (arith, on q l u o a))).0 m))

-- Closed states are the closure.
pub closed-passing : (k states n : ℕ) (accepting table passes : List ℕ) → NextBelow states n table → Sound k states n accepting table passes
    → ClosedFrom k states n accepting table passes 0 → Passing k states n accepting table passes
closed-passing k states n accepting table passes next s c =
    record {
      exact = λ q t h. (s.reached q t h, λ r. found r h);
      within = λ q t h m. below (s.reached q t h m) h;
    }
  where
    R : ℕ → ℕ → Type 0
    R = Passes n accepting table

    found : {q t : ℕ} → Reaches R q t → q < states → LeadsIn k passes q t
    found {q} here h = s.own q h
    found {q} {t} (onward (v, l, a, e) r) h =
        c q t (omega arith) h
        (v, omega arith, l, a, subst (λ (z : ℕ). LeadsIn k passes z t) e (found r (subst (λ (z : ℕ). z < states) (sym e) (next q v h l))))

    below : {q t : ℕ} → Reaches R q t → q < states → t < states
    below here h = h
    below {q} (onward (v, l, a, e) r) h = below r (subst (λ (z : ℕ). z < states) (sym e) (next q v h l))
