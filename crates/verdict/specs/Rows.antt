-- Places of a set that lie together, as a set: a row of a cover set, or of a turned set a column.
use Rattle.std.specs.Prelude.{ℕ, ◌/◌, ◌%◌, ◌^◌}

-- The w places of s from `at` on, counted from `at`.
abbrev pub row_of : ℕ → ℕ → ℕ → ℕ
row_of s at w = s / 2 ^ at % 2 ^ w
