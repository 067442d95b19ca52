-- The laws of the index of numbers (NumberIndex): it grows by a number that is not among those indexed, and the walk along a chain gives
-- the place of a number.
use Rattle.std.specs.Prelude.{◌≡◌, ℕ, zero, suc, ◌+◌, ◌-◌, ◌<◌, ◌≤◌, ◌≢◌, List, length, take, replicate, slice_index, slice_index_or, slice_set, Some, None}
use Rattle.std.proofs.Common.{sym, ap, ◌∙◌, subst, add-one, arith, get_or-set_same, get_or-set_other, length-take-le, get_or-take}
use Rattle.std.proofs.Math.Decide.{ℕ_discrete}
use Rattle.finding.specs.Standings.{place_of}
use Rattle.finding.specs.Numbers.{NoDuplicates, place_of-finds, place_of-only}
use Rattle.finding.specs.PlaceOfLaws.{place-absent}
use Rattle.finding.specs.Buckets.{Chained, Noted, Walk}
use Rattle.finding.specs.BucketsLaws.{chained-none, chained_more}
use Rattle.finding.specs.NumberIndex.{bucket_of, number_after, Indexed, IndexedAll}

-- The start alone.
pub indexed-first : (found : List ℕ) → Indexed found 1 (replicate 509 0) (replicate 255 0)
indexed-first found =
    record { some = omega arith; chained = chained-none bucket_of 509 255 (number_after found); distinct = λ i j h k e. omega arith }

-- The number x that is not among the first m becomes the number m, and is put in front of its chain.
pub indexed-more : (found : List ℕ) (m x b : ℕ) (heads nexts heads' nexts' : List ℕ) → b ≡ bucket_of x → m < 256 → m < length found
    → m ≤ place_of x (take m found) → Indexed found m heads nexts → Noted b (m - 1) heads nexts heads' nexts'
    → Indexed (slice_set found m x) (m + 1) heads' nexts'
indexed-more found m x b heads nexts heads' nexts' at few room fresh old noted =
    record {
      some = omega arith;
      chained =
          subst (λ n. Chained bucket_of 509 255 (number_after (slice_set found m x)) n heads' nexts') size
          (chained_more bucket_of (number_after found) (number_after (slice_set found m x)) (m - 1) x
          (λ i h. others (i + 1) (omega arith)) (ap (λ n. slice_index (slice_set found m x) n) last ∙ new) 509 255 b heads nexts heads' nexts'
          at (omega arith) (omega (arith, old.some)) old.chained noted);
      distinct = λ i j h k e. distinct i j h k e (ℕ_discrete i m) (ℕ_discrete j m);
    }
  where
    last : m - 1 + 1 ≡ m
    last = omega (arith, old.some)

    size : m - 1 + 1 ≡ m + 1 - 1
    size = omega (arith, old.some)

    others : (i : ℕ) → i < m → slice_index (slice_set found m x) i ≡ slice_index found i
    others i h = get_or-set_other found m i x 0 (λ e. omega arith)

    new : slice_index_or (slice_set found m x) m 0 ≡ x
    new = get_or-set_same found m x 0 room

    absent : (j : ℕ) → j < m → slice_index found j ≢ x
    absent j h e =
        let size = length-take-le m found (omega arith) in
        let here = place_of-finds x (take m found) j (omega (arith, size)) (get_or-take m found j 0 h ∙ e) in
        omega (arith, size, here.0)

    distinct : (i j : ℕ) → i < m + 1 → j < m + 1 → slice_index (slice_set found m x) i ≡ slice_index (slice_set found m x) j → Dec (i ≡ m) → Dec (j ≡ m) → i ≡ j
    distinct i j h k e (yes p) (yes q) = p ∙ sym q
    distinct i j h k e (yes p) (no q) =
        absurd (absent j (omega arith) (sym (others j (omega arith)) ∙ sym e ∙ ap (λ n. slice_index (slice_set found m x) n) p ∙ new))
    distinct i j h k e (no p) (yes q) =
        absurd (absent i (omega arith) (sym (others i (omega arith)) ∙ e ∙ ap (λ n. slice_index (slice_set found m x) n) q ∙ new))
    distinct i j h k e (no p) (no q) =
        old.distinct i j (omega arith) (omega arith) (sym (others i (omega arith)) ∙ e ∙ others j (omega arith))

pub indexed-all : {found heads nexts : List ℕ} {n : ℕ} → Indexed found n heads nexts → IndexedAll found heads nexts (Some n)
indexed-all {found} {heads} {nexts} {n} old m e = let z : n ≡ m = cc in subst (λ k. Indexed found k heads nexts) z old

pub indexed-over : {found heads nexts : List ℕ} → IndexedAll found heads nexts None
indexed-over m e = let z : ◌≡◌ {A = ℕ} 0 1 = cc in absurd (omega arith)

-- What the walk along the chain of x's bucket, and then the start, end with.
module _ (found : List ℕ) (n x : ℕ) (heads nexts : List ℕ) (fits : n ≤ length found) (indexed : Indexed found n heads nexts) (c : ℕ)
    (walk : Walk bucket_of (number_after found) (n - 1) x c) where
  size : length (take n found) ≡ n
  size = length-take-le n found fits

  at : (i : ℕ) → i < n → slice_index (take n found) i ≡ slice_index found i
  at i h = get_or-take n found i 0 h

  distinct : NoDuplicates (take n found)
  distinct i j h k e =
      let p : i < n = omega (arith, size) in
      let q : j < n = omega (arith, size) in
      indexed.distinct i j p q (sym (at i p) ∙ e ∙ at j q)

  pub walk-found : slice_index_or found c 0 ≡ x → c ≡ place_of x (take n found)
  walk-found e =
      let h : c < n = omega (arith, walk.within, indexed.some) in
      sym (place_of-only x (take n found) c distinct (omega (arith, size)) (at c h ∙ e))

  pub walk_end : c ≤ 0 → slice_index found 0 ≢ x → n ≡ place_of x (take n found)
  walk_end h d = sym (place-absent x (take n found) (λ j k e. absent j (omega (arith, size)) (sym (at j (omega (arith, size))) ∙ e)) ∙ size)
    where
      absent : (j : ℕ) → j < n → slice_index found j ≢ x
      absent zero l e = d e
      absent (suc j) l e = walk.passed j (omega arith) (omega arith) (ap (λ i. slice_index found i) (add-one j) ∙ e)

-- The walk goes on where the number differs.
pub number-before : (found : List ℕ) (x c : ℕ) → 0 < c → slice_index found c ≢ x → number_after found (c - 1) ≢ x
number-before found x c h d e = let z : c ≡ c - 1 + 1 = omega arith in d (ap (λ i. slice_index found i) z ∙ e)
