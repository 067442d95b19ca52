-- The bytes of a kept rewriting (document 01, "Keep"): the mark, the version, the counts, the lists' names and, for each state, its flag and
-- its next states. Numbers of 16 bits stand high byte first.
use Rattle.std.specs.Prelude.{ℕ, zero, suc, ◌+◌, ◌*◌, ◌/◌, ◌%◌, List, [], ◌∷◌, ◌++◌, length, slice_index}
use Rattle.syntax.specs.Byte.{Bytes}
use Rattle.finding.specs.Find.{Rewriting, row_width}

-- The least length of the output, and its named part: what 16 lists with names of 16 bytes and 256 states take.
abbrev pub kept_length : ℕ
kept_length = 8728

-- `LRW`
abbrev pub kept_mark : Bytes
kept_mark = 76 ∷ (82 ∷ (87 ∷ []))

-- A number of 16 bits.
abbrev pub two_bytes : ℕ → Bytes
two_bytes n = (n / 256) ∷ ((n % 256) ∷ [])

-- For each list a length byte and its name.
unfoldable pub kept_names : List Bytes → Bytes
kept_names [] = []
kept_names (n ∷ t) = length n ∷ (n ++ kept_names t)

-- The next states of the state s for n lists, from the list v on.
unfoldable pub kept_nexts : List ℕ → ℕ → ℕ → ℕ → Bytes
kept_nexts table s zero v = []
kept_nexts table s (suc n) v = two_bytes (slice_index table (row_width * s + v)) ++ kept_nexts table s n (suc v)

-- For each of n states, from s on, a flag byte and its next states for k lists.
unfoldable pub kept_states : Rewriting → ℕ → ℕ → ℕ → Bytes
kept_states R k zero s = []
kept_states R k (suc n) s = slice_index R.flags s ∷ (kept_nexts R.table s k 0 ++ kept_states R k n (suc s))

-- The kept bytes of a rewriting in terms of the lists of these names.
unfoldable pub kept : List Bytes → Rewriting → Bytes
kept names R =
    kept_mark
    ++ (two_bytes 1
    ++ (length names ∷ (two_bytes R.states ++ (kept_names names ++ kept_states R (length names) R.states 0))))
