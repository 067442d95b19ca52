-- Sets of recordings, one for each state, turned back into sets of states, one for each recording (Pairs).
use Rattle.std.specs.Prelude.{◌≡◌, ℕ, ◌+◌, ◌-◌, ◌*◌, ◌/◌, ◌%◌, ◌^◌, ◌<◌, ◌≤◌, ◌≢◌, ◌⊎◌, List, length, bit_and, slice_index}
use Rattle.std.proofs.Common.{inl, inr, sym, ◌∙◌, subst, subst₂, one-mul, arith}
use Rattle.std.specs.Prelude.{refl}
use Rattle.std.proofs.Math.Decide.{ℕ_discrete}
use Rattle.std.specs.Int.Count.{count_trailing_zeros}
use Rattle.theory.specs.Places.{Member}
use Rattle.theory.specs.PlacesLaws.{member-none, member_below}
use Rattle.places.specs.NextPlace.{trailing-here}
use Rattle.places.specs.Followed.{least-left}
use Rattle.answering.specs.Pairs.{place, Has, put, put_other, has-put-there, has-put-new, has-put-kept}
use Rattle.answering.specs.TurnedRunLaws.{word-has}

-- The members of a word, which count recordings from `from` on, have got the state s; no other recording has got anything.
pub record WordTurned (set from s : ℕ) (before after : List ℕ) : Type 0 where
  pub kept : (y t : ℕ) → Has 1 before y t → Has 1 after y t
  pub there : (p : ℕ) → Member p set → Has 1 after (from + p) s
  pub only : (y t : ℕ) → t < 64 → Has 1 after y t → Has 1 before y t ⊎ ((t ≡ s) × (p : ℕ) × Member p set × (y ≡ from + p))
  pub others : (i : ℕ) → ((p : ℕ) → Member p set → ¬ (i ≡ from + p)) → slice_index after i ≡ slice_index before i

-- There are rows for the states, with recordings below N, which have their words.
pub record Turning (states N : ℕ) (sets reached : List ℕ) : Type 0 where
  pub few-states : states ≤ 16
  pub sets-fit : 4 * states ≤ length sets
  pub below : (s y : ℕ) → s < states → y < 256 → Has 4 sets s y → y < N
  pub reached-fit : N ≤ length reached

-- Each recording has got the states whose sets have it, and nothing has changed behind the recordings.
pub record TurnedBack (states N : ℕ) (sets before after : List ℕ) : Type 0 where
  pub kept : (y t : ℕ) → Has 1 before y t → Has 1 after y t
  pub there : (s y : ℕ) → s < states → y < 256 → Has 4 sets s y → Has 1 after y s
  pub only : (y t : ℕ) → t < 64 → Has 1 after y t → Has 1 before y t ⊎ ((t < states) × (y < 256) × Has 4 sets t y)
  pub others : (i : ℕ) → N ≤ i → slice_index after i ≡ slice_index before i

-- The place of a state in a recording's only word.
only-place : (y s : ℕ) → s < 64 → place 1 y s ≡ y
only-place y s h = let e = one-mul y in omega arith

-- Nothing is left; or the least member gets the state, and then those that are left.

pub turned_none : {set : ℕ} (from s : ℕ) (l : List ℕ) → set ≡ 0 → WordTurned set from s l l
turned_none {set} from s l e = record {
  kept = λ y t m. m;
  there = λ p m. absurd (none p m);
  only = λ y t h m. inl m;
  others = λ i n. refl;
}
  where
    none : (p : ℕ) → ¬ Member p set
    none p m = member-none p (subst (Member p) e m)

pub turned-least : {set from s : ℕ} (l : List ℕ) {after : List ℕ} → set ≢ 0 → set < 2 ^ 64 → s < 64
    → from + count_trailing_zeros 64 set < length l
    → WordTurned (bit_and set (set - 1)) from s (put 1 l (from + count_trailing_zeros 64 set) s) after → WordTurned set from s l after
turned-least {set} {from} {s} l {after} d small k h w = record {
  kept = λ y t m. w.kept y t (has-put-kept 1 l least s k inside y t m);
  there = λ p m. there' p m (ℕ_discrete p (count_trailing_zeros 64 set));
  only = λ y t i m. only' y t i (w.only y t i m);
  others = λ i n. w.others i (λ p m. n p (of-set p m))
      ∙ put_other 1 l least s i (λ e. n (count_trailing_zeros 64 set) (trailing-here 64 set d small) (e ∙ only-place least s k));
}
  where
    least : ℕ
    least = from + count_trailing_zeros 64 set

    inside : place 1 least s < length l
    inside = let e = only-place least s k in omega arith

    of-set : (p : ℕ) → Member p (bit_and set (set - 1)) → Member p set
    of-set p m = ((least-left 64 set d small p).0 m).0

    there' : (p : ℕ) → Member p set → Dec (p ≡ count_trailing_zeros 64 set) → Has 1 after (from + p) s
    there' p m (yes e) = subst (λ (q : ℕ). Has 1 after (from + q) s) (sym e) (w.kept least s (has-put-new 1 l least s k inside))
    there' p m (no e) = w.there p ((least-left 64 set d small p).1 (m, e))

    put-there : (y t : ℕ) → Has 1 l y t ⊎ ((y ≡ least) × (t ≡ s)) → Has 1 l y t ⊎ ((t ≡ s) × (p : ℕ) × Member p set × (y ≡ from + p))
    put-there y t (inl m) = inl m
    put-there y t (inr (e, f)) = inr (f, count_trailing_zeros 64 set, trailing-here 64 set d small, e)

    only' : (y t : ℕ) → t < 64
        → Has 1 (put 1 l least s) y t ⊎ ((t ≡ s) × (p : ℕ) × Member p (bit_and set (set - 1)) × (y ≡ from + p))
        → Has 1 l y t ⊎ ((t ≡ s) × (p : ℕ) × Member p set × (y ≡ from + p))
    only' y t i (inl m) = put-there y t (has-put-there 1 l least s k inside y t i m)
    only' y t i (inr (e, p, m, f)) = inr (e, p, of-set p m, f)

-- The recordings of a word of the sets have their words.
pub word_below : {states N : ℕ} {sets reached : List ℕ} → Turning states N sets reached → {i : ℕ} → i < 4 * states
    → slice_index sets i < 2 ^ 64 → (p : ℕ) → Member p (slice_index sets i) → 64 * (i % 4) + p < N
word_below {sets = sets} t {i} h small p m =
    let l = member_below 64 (slice_index sets i) p small m in
    t.below (i / 4) (64 * (i % 4) + p) (omega arith) (omega arith) ((word-has sets i p l).1 m)

-- The words before the word i have been turned.
pub record TurnedBelow (i N : ℕ) (sets before after : List ℕ) : Type 0 where
  pub kept : (y t : ℕ) → Has 1 before y t → Has 1 after y t
  pub there : (s y : ℕ) → y < 256 → 4 * s + y / 64 < i → Has 4 sets s y → Has 1 after y s
  pub only : (y t : ℕ) → t < 64 → Has 1 after y t → Has 1 before y t ⊎ ((4 * t + y / 64 < i) × (y < 256) × Has 4 sets t y)
  pub others : (j : ℕ) → N ≤ j → slice_index after j ≡ slice_index before j

pub turned-start : (N : ℕ) (sets l : List ℕ) → TurnedBelow 0 N sets l l
turned-start N sets l = record {
  kept = λ y t m. m;
  there = λ s y b h m. absurd (omega arith);
  only = λ y t h m. inl m;
  others = λ j h. refl;
}

pub turned_more : {states i N : ℕ} {sets before after after' reached : List ℕ} → Turning states N sets reached → i < 4 * states
    → slice_index sets i < 2 ^ 64 → TurnedBelow i N sets before after → WordTurned (slice_index sets i) (64 * (i % 4)) (i / 4) after after'
    → TurnedBelow (i + 1) N sets before after'
turned_more {states} {i} {N} {sets} {before} {after} {after'} t h small b w = record {
  kept = λ y t m. w.kept y t (b.kept y t m);
  there = λ s y c l m. there' s y c l m (ℕ_discrete (4 * s + y / 64) i);
  only = λ y t l m. only' y t l (w.only y t l m);
  others = λ j l. w.others j (λ p m e. let q = word_below t h small p m in omega arith) ∙ b.others j l;
}
  where
    here : (s y : ℕ) → y < 256 → 4 * s + y / 64 ≡ i → Has 4 sets s y → Has 1 after' y s
    here s y c e m =
        let f : 64 * (i % 4) + y % 64 ≡ y = omega arith in
        let g : i / 4 ≡ s = omega arith in
        subst₂ (Has 1 after') f g
        (w.there (y % 64) ((word-has sets i (y % 64) (omega arith)).0 (subst₂ (Has 4 sets) (sym g) (sym f) m)))

    there' : (s y : ℕ) → y < 256 → 4 * s + y / 64 < i + 1 → Has 4 sets s y → Dec (4 * s + y / 64 ≡ i) → Has 1 after' y s
    there' s y c l m (yes e) = here s y c e m
    there' s y c l m (no e) = w.kept y s (b.there s y c (omega arith) m)

    old : (y t : ℕ) → Has 1 before y t ⊎ ((4 * t + y / 64 < i) × (y < 256) × Has 4 sets t y)
        → Has 1 before y t ⊎ ((4 * t + y / 64 < i + 1) × (y < 256) × Has 4 sets t y)
    old y t (inl m) = inl m
    old y t (inr (l, c, m)) = inr (omega arith, c, m)

    only' : (y t : ℕ) → t < 64
        → Has 1 after y t ⊎ ((t ≡ i / 4) × (p : ℕ) × Member p (slice_index sets i) × (y ≡ 64 * (i % 4) + p))
        → Has 1 before y t ⊎ ((4 * t + y / 64 < i + 1) × (y < 256) × Has 4 sets t y)
    only' y t l (inl m) = old y t (b.only y t l m)
    only' y t l (inr (e, p, m, f)) =
        let c = member_below 64 (slice_index sets i) p small m in
        inr (omega arith, omega arith, subst₂ (Has 4 sets) (sym e) (sym f) ((word-has sets i p c).1 m))

pub turned-all : {states i N : ℕ} {sets before after : List ℕ} → i ≡ 4 * states → TurnedBelow i N sets before after
    → TurnedBack states N sets before after
turned-all {states} {i} {N} {sets} {before} {after} e b = record {
  kept = b.kept;
  there = λ s y h c m. b.there s y c (omega arith) m;
  only = λ y t l m. only' y t (b.only y t l m);
  others = b.others;
}
  where
    only' : (y t : ℕ) → Has 1 before y t ⊎ ((4 * t + y / 64 < i) × (y < 256) × Has 4 sets t y)
        → Has 1 before y t ⊎ ((t < states) × (y < 256) × Has 4 sets t y)
    only' y t (inl m) = inl m
    only' y t (inr (l, c, m)) = inr (omega arith, c, m)
