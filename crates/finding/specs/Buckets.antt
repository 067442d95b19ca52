-- An index by which a value is found again among the first n of numbered values: buckets of values, each a chain from its newest value to
-- its oldest. In the index the value number i stands as i + 1, and 0 is none.
use Rattle.std.specs.Prelude.{◌≡◌, ℕ, ◌+◌, ◌-◌, ◌<◌, ◌≤◌, List, length, ◌≢◌, slice_index, slice_set}

-- c stands for the newest value of the bucket b among the first n, or for none.
pub record Newest {A : Type 0} (bucket : A → ℕ) (value : ℕ → A) (n b c : ℕ) : Type 0 where
  pub within : c ≤ n
  pub member : 0 < c → bucket (value (c - 1)) ≡ b
  pub newest : (j : ℕ) → j < n → bucket (value j) ≡ b → j < c

-- The first n values are indexed: `heads` has the newest value of each bucket, `nexts` for each value the newest of its bucket before it.
pub record Chained {A : Type 0} (bucket : A → ℕ) (width most : ℕ) (value : ℕ → A) (n : ℕ) (heads nexts : List ℕ) : Type 0 where
  pub buckets : length heads ≡ width
  pub room : length nexts ≡ most
  pub head : (b : ℕ) → b < width → Newest bucket value n b (slice_index heads b)
  pub next : (i : ℕ) → i < n → Newest bucket value i (bucket (value i)) (slice_index nexts i)

-- The value number m is put in front of the chain of the bucket b.
pub record Noted (b m : ℕ) (heads nexts heads' nexts' : List ℕ) : Type 0 where
  pub in-heads : heads' ≡ slice_set heads b (m + 1)
  pub in-nexts : nexts' ≡ slice_set nexts m (slice_index heads b)

-- What the walk along the chain of x's bucket keeps: c stands for a value of the bucket or for none, and the values from c on are not x.
pub record Walk {A : Type 0} (bucket : A → ℕ) (value : ℕ → A) (n : ℕ) (x : A) (c : ℕ) : Type 0 where
  pub within : c ≤ n
  pub member : 0 < c → bucket (value (c - 1)) ≡ bucket x
  pub passed : (j : ℕ) → c ≤ j → j < n → value j ≢ x
