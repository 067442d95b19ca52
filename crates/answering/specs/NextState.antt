-- The states of a recording one after the other, in words (Pairs): the least from a state on, by the trailing zeros of a word.
use Rattle.std.specs.Prelude.{◌≡◌, ℕ, ◌+◌, ◌*◌, ◌/◌, ◌%◌, ◌^◌, ◌<◌, ◌≤◌, ◌≢◌, ◌↔◌, Option, MatchOption, List, slice_index}
use Rattle.std.proofs.Common.{subst, arith}
use Rattle.std.proofs.Math.Decide.{dec_lt}
use Rattle.std.specs.Int.Count.{count_trailing_zeros}
use Rattle.theory.specs.Places.{Member}
use Rattle.theory.specs.PlacesLaws.{member_below}
use Rattle.places.specs.LeastPlace.{none_from, least-passed, least-here}
use Rattle.answering.specs.Pairs.{place, Has}

-- The recording has no state from `from` on and before s.
abbrev pub Passed : ℕ → List ℕ → ℕ → ℕ → ℕ → Type 0
Passed w l x from s = (t : ℕ) → from ≤ t → t < s → ¬ Has w l x t

-- s is its least state from `from` on, of those below `most`.
pub record LeastState (w : ℕ) (l : List ℕ) (x from most s : ℕ) : Type 0 where
  pub onward : from ≤ s
  pub inside : s < most
  pub passed : Passed w l x from s
  pub had : Has w l x s

-- That state, where there is one.
abbrev pub NextState : ℕ → List ℕ → ℕ → ℕ → ℕ → Option ℕ → Type 0
NextState w l x from most r = MatchOption r (Passed w l x from most) (LeastState w l x from most)

module _ (w : ℕ) (l : List ℕ) (x s : ℕ) where
  -- The word of the state s, and how far behind s its next state stands.
  abbrev pub word_of : ℕ
  word_of = slice_index l (place w x s)

  abbrev pub behind : ℕ
  behind = count_trailing_zeros 64 (word_of / 2 ^ (s % 64))

  in-word : (t : ℕ) → t / 64 ≡ s / 64 → Has w l x t ↔ Member (t % 64) word_of
  unfolding Has
  in-word t e = (λ m. rw e at m, λ m. rw e m)

  module _ (from : ℕ) (before : Passed w l x from s) where
    none_before : (r : ℕ) → ((t : ℕ) → s ≤ t → t < r → ¬ Has w l x t) → Passed w l x from r
    none_before r none t a b m = go (dec_lt t s)
      where
        go : Dec (t < s) → ⊥
        go (yes c) = before t a c m
        go (no c) = none t (omega arith) b m

    -- A word without a state is passed.
    pub passed-word : word_of / 2 ^ (s % 64) ≡ 0 → Passed w l x from (64 * (s / 64 + 1))
    passed-word z =
        none_before (64 * (s / 64 + 1))
        (λ t a b m. none_from word_of (s % 64) z (t % 64) (omega arith) ((in-word t (omega arith)).0 m))

    module _ (small : word_of < 2 ^ 64) (some : word_of / 2 ^ (s % 64) ≢ 0) where
      inside-word : s % 64 + behind < 64
      inside-word = member_below 64 word_of (s % 64 + behind) small (least-here word_of (s % 64) small some)

      passed-behind : Passed w l x from (s + behind)
      passed-behind =
          let h = inside-word in
          none_before (s + behind)
          (λ t a b m. least-passed word_of (s % 64) (t % 64) (omega arith) (omega arith) ((in-word t (omega arith)).0 m))

      pub next-found : (most : ℕ) → from ≤ s → s + behind < most → LeastState w l x from most (s + behind)
      next-found most f h =
          let i = inside-word in
          let e : s % 64 + behind ≡ (s + behind) % 64 = omega arith in
          record {
            onward = omega arith;
            inside = omega arith;
            passed = passed-behind;
            had = (in-word (s + behind) (omega arith)).1 (subst (λ z. Member z word_of) e (least-here word_of (s % 64) small some));
          }

      pub next-over : (most : ℕ) → most ≤ s + behind → Passed w l x from most
      next-over most h t a b = passed-behind t a (omega arith)

pub next-none : (w : ℕ) (l : List ℕ) (x from most s : ℕ) → most ≤ s → Passed w l x from s → Passed w l x from most
next-none w l x from most s h p t a b = p t a (omega arith)
