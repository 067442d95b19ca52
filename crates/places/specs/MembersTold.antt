-- The places of a set of at most 64 places, one after the other: the next one is the least that is left.
use Rattle.std.specs.Prelude.{ℕ, ◌-◌, Option, MatchOption, ◌≡◌, ◌≢◌}
use Rattle.std.specs.Int.Bits.{bit_and}
use Rattle.std.specs.Int.Count.{count_trailing_zeros}

-- Of the places `rest` the least is given, and the others are left; of none, none.
abbrev pub NextMember : ℕ → Option ℕ → ℕ → Type 0
NextMember rest r left =
    MatchOption r ((rest ≡ 0) × (left ≡ 0))
    (λ place. (rest ≢ 0) × (place ≡ count_trailing_zeros 64 rest) × (left ≡ bit_and rest (rest - 1)))
