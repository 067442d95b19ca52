-- The one number that each function of the boundary returns; document 01 leaves its form free. A refusal's number stands in bits 0 to 7 and
-- its line in bits 8 to 31, both 0 where nothing is refused; the values of an answer stand from bit 32 on, all 0 with a refusal.
use Rattle.std.specs.Prelude.{ℕ, ◌+◌, ◌*◌, List, [], ◌∷◌, get_or, Option, Some, None}
use Rattle.syntax.specs.Reply.{Reply}
use Rattle.finding.specs.declared.first.FirstWord.{FirstWord}

abbrev pub packed : Reply → ℕ → ℕ
packed r values = r.number + 256 * r.line + 4294967296 * values

-- Read: the labels from bit 32, the lists from bit 40.
abbrev pub read_values : List ℕ → ℕ
read_values values = get_or values 0 0 + 256 * get_or values 1 0

abbrev pub read_number : Reply → ℕ
read_number r = packed r (read_values r.values)

-- One more than the length of the first word; 0 where no word is accepted.
abbrev pub word_number : Option FirstWord → ℕ
word_number None = 0
word_number (Some w) = w.length + 1

-- Find: the standings from bit 32, the states from bit 40, the first word's number from bit 52.
abbrev pub find_values : List ℕ → Option FirstWord → ℕ
find_values [] w = 0
find_values (standings ∷ more) w = standings + 256 * get_or more 0 0 + 1048576 * word_number w

abbrev pub find_number : Reply → Option FirstWord → ℕ
find_number r w = packed r (find_values r.values w)

-- One more than the length of the missed path; 0 where the verdict is complete, and so has no second value.
abbrev pub missed_number : List ℕ → ℕ
missed_number [] = 0
missed_number (pairs ∷ []) = 0
missed_number (pairs ∷ (size ∷ more)) = size + 1

-- Verdict: the pairs from bit 32, the missed path's number from bit 48.
abbrev pub verdict_values : List ℕ → ℕ
verdict_values values = get_or values 0 0 + 65536 * missed_number values

abbrev pub verdict_number : Reply → ℕ
verdict_number r = packed r (verdict_values r.values)

-- Both answers and Keep: their one value from bit 32.
abbrev pub one_number : Reply → ℕ
one_number r = packed r (get_or r.values 0 0)
