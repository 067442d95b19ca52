-- An index of the pairs in a workspace (PairTable), by which a pair is found again (finding: Buckets): 4,093 buckets.
use Rattle.std.specs.Prelude.{◌≡◌, ℕ, zero, suc, ◌+◌, ◌*◌, ◌/◌, ◌%◌, ◌^◌, ◌<◌, List, bit_xor, Option, Some}
use Rattle.theory.specs.Places.{union}
use Rattle.places.specs.Words.{number_of}
use Rattle.finding.specs.Buckets.{Chained}
use Rattle.verdict.specs.Pairs.{Pair}
use Rattle.verdict.specs.PairTable.{words_at, pair_at}

-- A word of 64 bits rotated by 23 places: what leaves it at the upper end comes in at the lower.
abbrev pub rotated : ℕ → ℕ
rotated m = union (m * 2 ^ 23 % 2 ^ 64) (m / 2 ^ 41)

-- The k lowest words of a set mixed into one, from the last to the first: what was mixed before is rotated, then the word joins it. Words of
-- zeros behind the others change nothing.
unfoldable pub mix_of : ℕ → ℕ → ℕ
mix_of zero s = 0
mix_of (suc k) s = bit_xor (rotated (mix_of k (s / 2 ^ 64))) (s % 2 ^ 64)

-- The bucket of a pair. It is no number with a meaning; it only spreads the pairs. Its seventeen words, the standing as the lowest, are mixed
-- into one, of which it is the remainder: the rotation by 23 keeps words at different places apart, as no two of the seventeen are rotated by
-- the same number of places.
unfoldable pub bucket_of : Pair → ℕ
bucket_of x = bit_xor (rotated (mix_of 16 x.cover)) x.standing % 4093

-- The first n pairs are indexed.
pub record Indexed (space : List ℕ) (n : ℕ) (heads nexts : List ℕ) : Type 0 where
  pub chained : Chained bucket_of 4093 4096 (pair_at space) n heads nexts

-- As many pairs as are told are indexed.
abbrev pub IndexedAll : (space heads nexts : List ℕ) → Option ℕ → Type 0
IndexedAll space heads nexts r = (m : ℕ) → r ≡ Some m → Indexed space m heads nexts

-- The cover sets of the first n pairs stand in their first `used` words.
pub record Short (used : ℕ) (space : List ℕ) (n : ℕ) : Type 0 where
  pub below : (i : ℕ) → i < n → number_of (words_at space (18 * i + 1) 16) < 2 ^ (64 * used)

-- Those of as many pairs as are told do.
abbrev pub ShortAll : (used : ℕ) (space : List ℕ) → Option ℕ → Type 0
ShortAll used space r = (m : ℕ) → r ≡ Some m → Short used space m
