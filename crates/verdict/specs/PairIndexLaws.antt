-- The laws of the index of pairs (PairIndex): the bucket is computed word by word, the index grows with the pairs, and the walk along a
-- chain finds a pair that is among them (finding: BucketsLaws).
use Rattle.std.specs.Prelude.{◌≡◌, ℕ, zero, suc, ◌+◌, ◌-◌, ◌*◌, ◌/◌, ◌%◌, ◌^◌, ◌<◌, ◌≤◌, true, false, List, [], ◌∷◌, length, drop, replicate, bit_xor, slice_index, slice_index_or, Some, None}
use Rattle.std.proofs.Common.{true≢false, sym, ap, ap₂, ◌∙◌, subst, subst₂, arith, below_none, below_more}
use Rattle.std.proofs.lemmas.Bool.{false≢true}
use Rattle.std.specs.Prelude.{refl}
use Rattle.places.specs.Words.{number_of}
use Rattle.finding.specs.Buckets.{Noted, Walk}
use Rattle.finding.specs.BucketsLaws.{chained-none, chained_more}
use Rattle.verdict.specs.Pairs.{Pair}
use Rattle.verdict.specs.PairTable.{pair_at, Stored, Seen}
use Rattle.verdict.specs.PairTableLaws.{stored-pair, other-pair}
use Rattle.verdict.specs.Workspace.{pair}
use Rattle.verdict.specs.WordBits.{number_past}
use Rattle.verdict.specs.PairIndex.{rotated, mix_of, bucket_of, Indexed, IndexedAll, Short, ShortAll}

pub bucket-below : (x : Pair) → bucket_of x < 4093
unfolding bucket_of
bucket-below x = omega arith

-- The bucket, word by word from the last: the words from j on are mixed.

number-from : (l : List ℕ) (j : ℕ) → number_of (drop j l) ≡ number_of (drop (suc j) l) * 2 ^ 64 + slice_index l j
unfolding number_of
number-from [] zero = refl
number-from [] (suc j) = refl
number-from (w ∷ l) zero = refl
number-from (w ∷ l) (suc j) = number-from l j

-- A set without a place mixes to nothing.
mix-none : (k : ℕ) → mix_of k 0 ≡ 0
unfolding mix_of
mix-none zero = refl
mix-none (suc k) = ap (λ (z : ℕ). bit_xor (rotated z) 0) (mix-none k)

-- The word in front of the mixed ones joins them.
mix-more : (l : List ℕ) (k i : ℕ) → slice_index l i < 2 ^ 64
    → bit_xor (rotated (mix_of k (number_of (drop (suc i) l)))) (slice_index l i) ≡ mix_of (suc k) (number_of (drop i l))
unfolding mix_of
mix-more l k i fits =
    let up : number_of (drop (suc i) l) ≡ number_of (drop i l) / 2 ^ 64 = omega (arith, number-from l i) in
    let low : slice_index_or l i 0 ≡ number_of (drop i l) % 2 ^ 64 = omega (arith, number-from l i) in
    ap₂ (λ (x y : ℕ). bit_xor (rotated (mix_of k x)) y) up low

-- All places of the set are in the first j words.
pub mixed-start : (l : List ℕ) (j : ℕ) → number_of l < 2 ^ (64 * j) → 0 ≡ mix_of (16 - j) (number_of (drop j l))
mixed-start l j h = sym (ap (mix_of (16 - j)) (number_past l j h) ∙ mix-none (16 - j))

pub mixed-turn : (l : List ℕ) (j mix : ℕ) → 0 < j → j ≤ 16 → slice_index l (j - 1) < 2 ^ 64 → mix ≡ mix_of (16 - j) (number_of (drop j l))
    → bit_xor (rotated mix) (slice_index l (j - 1)) ≡ mix_of (16 - (j - 1)) (number_of (drop (j - 1) l))
mixed-turn l j mix p h fits e =
    let i = j - 1 in
    let one : j ≡ suc i = omega arith in
    let count : suc (16 - j) ≡ 16 - i = omega arith in
    ap (λ (z : ℕ). bit_xor (rotated z) (slice_index l i)) (e ∙ ap (λ (z : ℕ). mix_of (16 - j) (number_of (drop z l))) one)
    ∙ mix-more l (16 - j) i fits
    ∙ ap (λ (z : ℕ). mix_of z (number_of (drop i l))) count

-- All words are mixed.
pub mixed-end : (l : List ℕ) (standing j mix : ℕ) → j ≤ 0 → mix ≡ mix_of (16 - j) (number_of (drop j l))
    → bit_xor (rotated mix) standing % 4093 ≡ bucket_of (pair standing l)
unfolding bucket_of
mixed-end l standing j mix h e =
    let z : j ≡ 0 = omega arith in
    ap (λ (x : ℕ). bit_xor (rotated x) standing % 4093) (e ∙ ap (λ (k : ℕ). mix_of (16 - k) (number_of (drop k l))) z)

-- No pair is indexed.
pub indexed-none : (space : List ℕ) → Indexed space 0 (replicate 4093 0) (replicate 4096 0)
indexed-none space = record { chained = chained-none bucket_of 4093 4096 (pair_at space) }

-- The pair number m is stored and put in front of its chain.
pub indexed-more : {space : List ℕ} {m standing : ℕ} {cover : List ℕ} {link : ℕ} {space' : List ℕ}
    → Stored space m standing cover link space' → length cover ≡ 16 → (b : ℕ) (heads nexts heads' nexts' : List ℕ) → b ≡ bucket_of (pair standing cover) → m < 4096
    → Indexed space m heads nexts → Noted b m heads nexts heads' nexts' → Indexed space' (m + 1) heads' nexts'
indexed-more {space} {m} {standing} {cover} {space'} s sized b heads nexts heads' nexts' at few old noted =
    record {
      chained =
          chained_more bucket_of (pair_at space) (pair_at space') m (pair standing cover) (other-pair s) (stored-pair s sized) 4093 4096 b
          heads nexts heads' nexts' at (omega (arith, bucket-below (pair standing cover))) few old.chained noted;
    }

pub indexed-same : {space space' heads heads' nexts nexts' : List ℕ} {n n' : ℕ} → space' ≡ space → heads' ≡ heads → nexts' ≡ nexts → n' ≡ n
    → Indexed space n heads nexts → Indexed space' n' heads' nexts'
indexed-same {space} {heads'} {nexts'} {n} e p q z old =
    subst₂ (λ l k. Indexed l k heads' nexts') (sym e) (sym z) (subst₂ (Indexed space n) (sym p) (sym q) old)

pub indexed-all : {space heads nexts : List ℕ} {n : ℕ} → Indexed space n heads nexts → IndexedAll space heads nexts (Some n)
indexed-all {space} {heads} {nexts} {n} old m e = let z : n ≡ m = cc in subst (λ k. Indexed space k heads nexts) z old

pub indexed-over : {space heads nexts : List ℕ} → IndexedAll space heads nexts None
indexed-over m e = let z : ◌≡◌ {A = ℕ} 0 1 = cc in absurd (omega arith)

-- No pair is in the workspace.
pub short_none : (used : ℕ) (space : List ℕ) → Short used space 0
short_none used space = record { below = below_none (λ i. (pair_at space i).cover < 2 ^ (64 * used)) }

-- The pair number m is stored.
pub short-more : {space : List ℕ} {m standing : ℕ} {cover : List ℕ} {link : ℕ} {space' : List ℕ} → Stored space m standing cover link space'
    → length cover ≡ 16 → {used : ℕ} → number_of cover < 2 ^ (64 * used) → Short used space m → Short used space' (m + 1)
short-more {space} {m} {cover} {space'} s sized {used} h old =
    record {
      below = below_more (λ i. (pair_at space' i).cover < 2 ^ (64 * used)) m
          (λ i k. subst (λ x. x.cover < 2 ^ (64 * used)) (sym (other-pair s i k)) (old.below i k))
          (subst (λ x. x.cover < 2 ^ (64 * used)) (sym (stored-pair s sized)) h);
    }

pub short-same : {used : ℕ} {space space' : List ℕ} {n n' : ℕ} → space' ≡ space → n' ≡ n → Short used space n → Short used space' n'
short-same {used} e z old = subst₂ (Short used) (sym e) (sym z) old

pub short-all : {used : ℕ} {space : List ℕ} {n : ℕ} → Short used space n → ShortAll used space (Some n)
short-all {used} {space} {n} old m e = let z : n ≡ m = cc in subst (Short used space) z old

pub short-over : {used : ℕ} {space : List ℕ} → ShortAll used space None
short-over m e = let z : ◌≡◌ {A = ℕ} 0 1 = cc in absurd (omega arith)

-- What the walk along the chain of x's bucket ends with.
module _ (space : List ℕ) (n : ℕ) (x : Pair) (c : ℕ) (walk : Walk bucket_of (pair_at space) n x c) where
  pub walk-found : 0 < c → pair_at space (c - 1) ≡ x → Seen n space x true
  walk-found p e = record { found = λ q. (c - 1, omega (arith, walk.within), e); new = λ q. absurd (true≢false q) }

  pub walk_end : c ≤ 0 → Seen n space x false
  walk_end h = record { found = λ q. absurd (false≢true q); new = λ q j k. walk.passed j (omega arith) k }
