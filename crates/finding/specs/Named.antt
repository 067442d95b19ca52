-- The named part of a lent buffer (document 01, "The operations"): what is written there has zeros behind it, and nothing beyond the named
-- part changes.
use Rattle.std.specs.Prelude.{ℕ, ◌-◌, List, ◌++◌, length, drop, replicate}

-- Find's: 4,096 numbers of the table and 256 flags.
abbrev pub table_part : ℕ
table_part = 4096

abbrev pub flags_part : ℕ
flags_part = 256

-- The first n numbers are zeros.
abbrev pub cleared : ℕ → List ℕ → List ℕ
cleared n lent = replicate n 0 ++ drop n lent

-- The first n numbers are xs, and zeros behind them.
abbrev pub written : ℕ → List ℕ → List ℕ → List ℕ
written n xs lent = (xs ++ replicate (n - length xs) 0) ++ drop n lent
