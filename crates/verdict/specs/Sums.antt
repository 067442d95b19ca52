-- Sums of what is reached where a path of a list ends (Columns, Finishing): one word for each set of four neighbouring states. The words of
-- the lists stand first, 64 for each; behind them stand the sums, sixteen for each four states of a list.
use Rattle.std.specs.Prelude.{◌≡◌, ℕ, ◌+◌, ◌*◌, ◌/◌, ◌%◌, ◌^◌, ◌<◌, ◌≤◌, List, length, slice_index}
use Rattle.theory.specs.Places.{Member, union_over}

-- How many times four states there are, an even number, the last perhaps empty.
abbrev pub quarters : ℕ → ℕ
quarters n = 2 * ((n + 7) / 8)

-- There is room for the sums of the lists, of n states.
abbrev pub SumsRoom : ℕ → ℕ → List ℕ → Type 0
SumsRoom lists n ended = 64 * lists + 16 * quarters n * lists ≤ length ended

-- The sums of the four words from `from` on are put down from `at` on; nothing else is changed.
pub record FourSummed (from at : ℕ) (before after : List ℕ) : Type 0 where
  pub summed : (m : ℕ) → m < 16 → slice_index after (at + m) ≡ union_over (λ i. slice_index before (from + i)) 4 m
  pub below : (j : ℕ) → j < at → slice_index after j ≡ slice_index before j
  pub beyond : (j : ℕ) → at + 16 ≤ j → slice_index after j ≡ slice_index before j

-- The same of the words of a list, four after four, `count` times.
pub record ListSummed (from at count : ℕ) (before after : List ℕ) : Type 0 where
  pub summed : (k m : ℕ) → k < count → m < 16 → slice_index after (at + 16 * k + m) ≡ union_over (λ i. slice_index before (from + 4 * k + i)) 4 m
  pub below : (j : ℕ) → j < at → slice_index after j ≡ slice_index before j
  pub beyond : (j : ℕ) → at + 16 * count ≤ j → slice_index after j ≡ slice_index before j

-- The sums of all lists.
pub record Sums (lists n : ℕ) (ended : List ℕ) : Type 0 where
  pub room : SumsRoom lists n ended
  pub summed : (v k m : ℕ) → v < lists → k < quarters n → m < 16
      → slice_index ended (64 * lists + 16 * quarters n * v + 16 * k + m) ≡ union_over (λ i. slice_index ended (64 * v + 4 * k + i)) 4 m

-- The sums of words, four after four, `count` times, stand from `from` on.
pub record SummedBy (word : ℕ → ℕ) (from count : ℕ) (ended : List ℕ) : Type 0 where
  pub summed : (k m : ℕ) → k < count → m < 16 → slice_index ended (from + 16 * k + m) ≡ union_over (λ i. word (4 * k + i)) 4 m

-- The state t is in a sum, which stands from `sums` on, of four states up to the eight of one of a set.
abbrev pub SumHas : List ℕ → ℕ → ℕ → ℕ → Type 0
SumHas ended sums ends t =
    (q : ℕ) × (k : ℕ) × (m : ℕ) × Member q ends × (8 * (k / 2) ≤ q) × (m < 16) × Member t (slice_index ended (sums + 16 * k + m))

-- The word r is joined from the words of the states of a set by their sums, which stand from `sums` on, an even number of times four, whatever
-- words they are the sums of; it has nothing that is not in a sum of states up to the eight of one of the set.
pub record SumsJoined (ended : List ℕ) (sums ends r : ℕ) : Type 0 where
  pub exact : (word : ℕ → ℕ) (count : ℕ) → count % 2 ≡ 0 → SummedBy word sums count ended → ends < 2 ^ (4 * count)
      → r ≡ union_over word 64 ends
  pub inside : (t : ℕ) → Member t r → SumHas ended sums ends t
