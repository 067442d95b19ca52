-- Sets of places as numbers: place i is in the set s where bit i of s is 1. A set of places below w is a number below 2 ^ w; nothing
-- here names a width.
use Rattle.std.specs.Prelude.{ℕ, zero, suc, ◌/◌, ◌%◌, ◌^◌, Bool, true, false, ◌≡◌, eqb}
use Rattle.std.specs.Int.Bits.{bit_and, bit_or}

-- `Member i s`: place i is in the set s.
abbrev pub Member : ℕ → ℕ → Type 0
Member i s = s / 2 ^ i % 2 ≡ 1

abbrev pub member : ℕ → ℕ → Bool
member i s = eqb (s / 2 ^ i % 2) 1

abbrev pub none : ℕ
none = 0

-- The set of the one place i.
abbrev pub one : ℕ → ℕ
one i = 2 ^ i

abbrev pub union : ℕ → ℕ → ℕ
union = bit_or

abbrev pub intersection : ℕ → ℕ → ℕ
intersection = bit_and

-- s where the test holds, else the empty set.
abbrev pub when : Bool → ℕ → ℕ
when true s = s
when false s = none

-- The set of the places below n that pass a test.
unfoldable pub collect : (ℕ → Bool) → ℕ → ℕ
collect test zero = none
collect test (suc n) = union (collect test n) (when (test n) (one n))

-- The union of the sets `next i` over the members i of s that are below n.
unfoldable pub union_over : (ℕ → ℕ) → ℕ → ℕ → ℕ
union_over next zero s = none
union_over next (suc n) s = union (union_over next n s) (when (member n s) (next n))
