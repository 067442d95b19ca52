-- Sets of places as lists of words of 64 bits, the lowest word first: place i is in the set where bit i % 64 of word i / 64 is 1.
use Rattle.std.specs.Prelude.{ℕ, ◌+◌, ◌*◌, ◌^◌, ◌<◌, List, [], ◌∷◌, ◌↔◌, get_or}
use Rattle.theory.specs.Places.{Member}

-- The number of a list of words: Σ word i × 2 ^ (64 × i).
unfoldable pub number_of : List ℕ → ℕ
number_of [] = 0
number_of (w ∷ l) = number_of l * 2 ^ 64 + w

-- Every word has at most 64 bits.
abbrev pub Words : List ℕ → Type 0
Words l = (i : ℕ) → get_or l i 0 < 2 ^ 64

-- r holds the places of s that are not in t.
abbrev pub Without : ℕ → ℕ → ℕ → Type 0
Without s t r = (i : ℕ) → Member i r ↔ (Member i s × ¬ Member i t)
