-- Ranks: the states of a machine that are kept, numbered from 0 on, so that a set of them takes few words. A state that leads nowhere may be
-- left out, but for the start: a search finds no accepting state from it. A state is kept where its rank is below the number of ranks; where
-- it is left out its rank is 256.
use Rattle.std.specs.Prelude.{◌≡◌, ℕ, ◌+◌, ◌*◌, ◌/◌, ◌%◌, ◌<◌, ◌≤◌, ◌⊎◌, ◌↔◌, List, length, replicate, slice_index, slice_index_or, slice_set}
use Rattle.std.proofs.Common.{inl, inr, sym, ap, ◌∙◌, subst, arith, get_or-set_same, get_or-set_other}
use Rattle.std.proofs.Math.Decide.{ℕ_discrete}
use Rattle.theory.specs.Places.{Member}
use Rattle.theory.specs.PlacesLaws.{member-none}
use Rattle.finding.specs.Filling.{filled_more}
use Rattle.answering.specs.Pairs.{place, Has, put, zero-at, has-put-there, has-put-new, has-put-kept}

-- The next state of s over the list v. The next states of the state s over the lists stand from 16 × s on.
abbrev pub next_of : List ℕ → ℕ → ℕ → ℕ
next_of next s v = slice_index next (16 * s + v)

-- Over each list the state s is its own next state.
abbrev pub OwnNext : List ℕ → ℕ → ℕ → Type 0
OwnNext next lists s = (v : ℕ) → v < lists → next_of next s v ≡ s

-- The state s leads nowhere: it is not accepting, and leads to itself alone.
abbrev pub LeadsNowhere : List ℕ → ℕ → List ℕ → ℕ → Type 0
LeadsNowhere next lists flags s = (¬ (slice_index flags s ≡ 1)) × OwnNext next lists s

-- One list more.
module _ (next : List ℕ) (s : ℕ) where
  pub own-next-none : OwnNext next 0 s
  own-next-none v h = absurd (omega arith)

  pub own-next-more : {n : ℕ} → OwnNext next n s → next_of next s n ≡ s → OwnNext next (n + 1) s
  own-next-more {n} f e v h = go (ℕ_discrete v n)
    where
      go : Dec (v ≡ n) → next_of next s v ≡ s
      go (yes q) = ap (next_of next s) q ∙ e
      go (no d) = f v (omega arith)

-- The next states have their rows, there is room for the ranks of all states, and the start has rank 0.
pub record RankRoom (next : List ℕ) (lists states : ℕ) (ranks kept : List ℕ) : Type 0 where
  pub some : 0 < states
  pub few : states ≤ 256
  pub few-lists : lists ≤ 16
  pub rows : 16 * states ≤ length next
  pub ranks-fit : states ≤ length ranks
  pub kept-fit : states ≤ length kept
  pub first : slice_index_or ranks 0 0 ≡ 0
  pub start : slice_index_or kept 0 0 ≡ 0

-- The state s is kept, and r is its rank; or it leads nowhere, and is left out.
abbrev pub KeptOrOut : List ℕ → ℕ → List ℕ → ℕ → ℕ → ℕ → Type 0
KeptOrOut next lists flags count s r = (r < count) ⊎ ((r ≡ 256) × LeadsNowhere next lists flags s)

-- The ranks of the states below n and, by their ranks, the states that are kept. The start has rank 0.
pub record Ranks (next : List ℕ) (lists n : ℕ) (flags ranks kept : List ℕ) (count : ℕ) : Type 0 where
  pub few : count ≤ n
  pub some : 0 < count
  pub first : slice_index_or ranks 0 0 ≡ 0
  pub inside : (r : ℕ) → r < count → slice_index kept r < n
  pub back : (s : ℕ) → s < n → slice_index ranks s < count → slice_index kept (slice_index ranks s) ≡ s
  pub ranked : (s : ℕ) → s < n → KeptOrOut next lists flags count s (slice_index ranks s)

-- The start alone.
pub ranks-start : {next : List ℕ} {lists states : ℕ} (flags : List ℕ) {ranks kept : List ℕ} → RankRoom next lists states ranks kept
    → Ranks next lists 1 flags ranks kept 1
ranks-start flags {ranks} {kept} b = record {
  few = omega arith;
  some = omega arith;
  first = b.first;
  inside = λ r l. omega (arith, state r l);
  back = λ s l m. state (slice_index ranks s) m ∙ omega arith;
  ranked = λ s l. let e : s ≡ 0 = omega arith in inl (omega (arith, ap (λ s. slice_index ranks s) e, b.first));
}
  where
    state : (r : ℕ) → r < 1 → slice_index kept r ≡ 0
    state r l = ap (λ r. slice_index kept r) (omega arith) ∙ b.start

-- The state n gets the rank r: the rank 256, where it is left out, or the next one.
module _ {next : List ℕ} {lists n : ℕ} {flags ranks kept : List ℕ} {count : ℕ} (g : Ranks next lists n flags ranks kept count)
    (few : n < 256) (fits : n < length ranks) where
  module _ (r : ℕ) where
    other : {s : ℕ} → ¬ (s ≡ n) → slice_index (slice_set ranks n r) s ≡ slice_index ranks s
    other {s} d = get_or-set_other ranks n s r 0 d

    start : slice_index_or (slice_set ranks n r) 0 0 ≡ 0
    start = let f = g.few in let m = g.some in other (λ e. omega arith) ∙ g.first

  pub ranks-out : LeadsNowhere next lists flags n → Ranks next lists (n + 1) flags (slice_set ranks n 256) kept count
  ranks-out o = record {
    few = let f = g.few in omega arith;
    some = g.some;
    first = start 256;
    inside = λ q h. let f = g.inside q h in omega arith;
    back = filled_more (λ s q. q < count → slice_index kept q ≡ s) ranks n 256 fits g.back (λ h. absurd (let f = g.few in omega arith));
    ranked = filled_more (KeptOrOut next lists flags count) ranks n 256 fits g.ranked (inr (omega arith, o));
  }

  pub ranks-next : count < length kept → Ranks next lists (n + 1) flags (slice_set ranks n count) (slice_set kept count n) (count + 1)
  ranks-next fits' = record {
    few = let f = g.few in omega arith;
    some = omega arith;
    first = start count;
    inside = λ q h. inside' q h (ℕ_discrete q count);
    back = filled_more (λ s q. q < count + 1 → slice_index (slice_set kept count n) q ≡ s) ranks n count fits (λ s h l. back' s h l (g.ranked s h)) (λ h. listed);
    ranked = filled_more (KeptOrOut next lists flags (count + 1)) ranks n count fits (λ s h. ranked' s (g.ranked s h)) (inl (omega arith));
  }
    where
      listed : slice_index_or (slice_set kept count n) count 0 ≡ n
      listed = get_or-set_same kept count n 0 fits'

      before : (q : ℕ) → q < count → slice_index (slice_set kept count n) q ≡ slice_index kept q
      before q k = get_or-set_other kept count q n 0 (λ e. omega arith)

      inside' : (q : ℕ) → q < count + 1 → Dec (q ≡ count) → slice_index (slice_set kept count n) q < n + 1
      inside' q k (yes e) = omega (arith, ap (λ q. slice_index (slice_set kept count n) q) e, listed)
      inside' q k (no e) = omega (arith, before q (omega arith), g.inside q (omega arith))

      back' : (s : ℕ) → s < n → slice_index ranks s < count + 1 → KeptOrOut next lists flags count s (slice_index ranks s)
          → slice_index (slice_set kept count n) (slice_index ranks s) ≡ s
      back' s h l (inl k) = before (slice_index ranks s) k ∙ g.back s h k
      back' s h l (inr (e, o)) = absurd (let f = g.few in omega arith)

      ranked' : (s : ℕ) → KeptOrOut next lists flags count s (slice_index ranks s)
          → KeptOrOut next lists flags (count + 1) s (slice_index ranks s)
      ranked' s (inl k) = inl (omega arith)
      ranked' s (inr o) = inr o

-- The ranks of the accepting states, of at most 256, stand in four words: they are the states of recording 0 (Pairs).

abbrev pub InWords : List ℕ → ℕ → Type 0
InWords words r = Member (r % 64) (slice_index words (r / 64))

word-place : (s : ℕ) → place 4 0 s ≡ s / 64
word-place s = omega arith

in_words : (l : List ℕ) (s : ℕ) → Has 4 l 0 s ↔ InWords l s
unfolding Has
in_words l s = (
  subst (λ i. Member (s % 64) (slice_index l i)) (word-place s),
  subst (λ i. Member (s % 64) (slice_index l i)) (sym (word-place s)),
)

module _ (l : List ℕ) {states : ℕ} (few : states ≤ 256) (words : 4 ≤ length l) {s : ℕ} (h : s < states) where
  pub member-room : place 4 0 s < length l
  member-room = let e = word-place s in omega arith

  put_in : InWords (put 4 l 0 s) s
  put_in = (in_words (put 4 l 0 s) s).0 (has-put-new 4 l 0 s (omega arith) member-room)

  put-still : (t : ℕ) → InWords l t → InWords (put 4 l 0 s) t
  put-still t m = (in_words (put 4 l 0 s) t).0 (has-put-kept 4 l 0 s (omega arith) member-room 0 t ((in_words l t).1 m))

  put_only : (t : ℕ) → t < 256 → InWords (put 4 l 0 s) t → InWords l t ⊎ (t ≡ s)
  put_only t k m = go (has-put-there 4 l 0 s (omega arith) member-room 0 t (omega arith) ((in_words (put 4 l 0 s) t).1 m))
    where
      go : Has 4 l 0 t ⊎ ((◌≡◌ {A = ℕ} 0 0) × (t ≡ s)) → InWords l t ⊎ (t ≡ s)
      go (inl n) = inl ((in_words l t).0 n)
      go (inr (e, f)) = inr f

-- The ranks below n of states with flag 1; nothing else is in the words.
pub record AcceptedRanks (flags kept : List ℕ) (n : ℕ) (accepts : List ℕ) : Type 0 where
  pub exactly : (r : ℕ) → r < 256 → InWords accepts r ↔ ((r < n) × (slice_index flags (slice_index kept r) ≡ 1))

pub accepted-none : (flags kept : List ℕ) (n : ℕ) → AcceptedRanks flags kept 0 (replicate n 0)
accepted-none flags kept n = record {
  exactly = λ r h. (
    λ m. absurd (member-none (r % 64) (subst (Member (r % 64)) (zero-at n (r / 64)) m)),
    λ m. absurd (omega arith),
  );
}

module _ {flags kept : List ℕ} {n : ℕ} {l : List ℕ} (a : AcceptedRanks flags kept n l) where
  pub accepted-pass : ¬ (slice_index flags (slice_index kept n) ≡ 1) → AcceptedRanks flags kept (n + 1) l
  accepted-pass d = record {
    exactly = λ r h. (
      λ m. let (b, e) = (a.exactly r h).0 m in (omega arith, e),
      λ (b, e). (a.exactly r h).1 (below r b e (ℕ_discrete r n), e),
    );
  }
    where
      below : (r : ℕ) → r < n + 1 → slice_index flags (slice_index kept r) ≡ 1 → Dec (r ≡ n) → r < n
      below r b e (yes q) = absurd (d (subst (λ r. slice_index flags (slice_index kept r) ≡ 1) q e))
      below r b e (no q) = omega arith

  pub accepted-put : {count : ℕ} → count ≤ 256 → 4 ≤ length l → n < count → slice_index flags (slice_index kept n) ≡ 1
      → AcceptedRanks flags kept (n + 1) (put 4 l 0 n)
  accepted-put few words h e = record {
    exactly = λ r k. (λ m. there r k (put_only l few words h r k m), λ (b, f). back r k b f (ℕ_discrete r n));
  }
    where
      there : (r : ℕ) → r < 256 → InWords l r ⊎ (r ≡ n) → (r < n + 1) × (slice_index flags (slice_index kept r) ≡ 1)
      there r k (inl m) = let (b, f) = (a.exactly r k).0 m in (omega arith, f)
      there r k (inr q) = (omega arith, subst (λ r. slice_index flags (slice_index kept r) ≡ 1) (sym q) e)

      back : (r : ℕ) → r < 256 → r < n + 1 → slice_index flags (slice_index kept r) ≡ 1 → Dec (r ≡ n) → InWords (put 4 l 0 n) r
      back r k b f (yes q) = subst (InWords (put 4 l 0 n)) (sym q) (put_in l few words h)
      back r k b f (no q) = put-still l few words h r ((a.exactly r k).1 (omega arith, f))
