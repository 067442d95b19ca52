-- The parts of a returned number, as the functions of include/cezhappu.h compute them: a shift to the right is a division, a mask of low
-- bits a remainder.
use Rattle.std.specs.Prelude.{ℕ, ◌/◌, ◌%◌}

abbrev pub refusal_of : ℕ → ℕ
refusal_of n = n % 256

abbrev pub line_of : ℕ → ℕ
line_of n = n / 256 % 16777216

-- From bit 32, in 8 bits: Read's labels, Find's standings.
abbrev pub labels_of : ℕ → ℕ
labels_of n = n / 4294967296 % 256

abbrev pub standings_of : ℕ → ℕ
standings_of n = n / 4294967296 % 256

abbrev pub lists_of : ℕ → ℕ
lists_of n = n / 1099511627776 % 256

abbrev pub states_of : ℕ → ℕ
states_of n = n / 1099511627776 % 4096

-- One more than the first word's length, or 0.
abbrev pub word_of : ℕ → ℕ
word_of n = n / 4503599627370496

abbrev pub pairs_of : ℕ → ℕ
pairs_of n = n / 4294967296 % 65536

-- One more than the missed path's length, or 0.
abbrev pub missed_of : ℕ → ℕ
missed_of n = n / 281474976710656

abbrev pub ones_of : ℕ → ℕ
ones_of n = n / 4294967296

abbrev pub kept_of : ℕ → ℕ
kept_of n = n / 4294967296
