-- A kept file, read off its bytes by the layout of document 01 ("Keep") alone: what somebody does who has the file and nothing else.
use Rattle.std.specs.Prelude.{ℕ, zero, suc, ◌+◌, ◌*◌, [], ◌∷◌, take, drop, slice_index}
use Rattle.theory.specs.Word.{Word}
use Rattle.syntax.specs.Byte.{Bytes}

-- The number of 16 bits at a place, high byte first.
abbrev pub number_at : Bytes → ℕ → ℕ
number_at b i = 256 * slice_index b i + slice_index b (suc i)

-- The number of lists is at byte 5, that of states at bytes 6 and 7.
abbrev pub file_lists : Bytes → ℕ
file_lists b = slice_index b 5

abbrev pub file_states : Bytes → ℕ
file_states b = number_at b 6

-- Where the length byte of a list's name stands: the first at byte 8, each further one behind the name before it.
unfoldable pub name_place : Bytes → ℕ → ℕ
name_place b zero = 8
name_place b (suc v) = suc (name_place b v + slice_index b (name_place b v))

abbrev pub file_name : Bytes → ℕ → Bytes
file_name b v = take (slice_index b (name_place b v)) (drop (suc (name_place b v)) b)

-- The states begin behind the last name. Each takes a flag byte and two bytes for each list.
abbrev pub states_at : Bytes → ℕ
states_at b = name_place b (file_lists b)

abbrev pub state_place : Bytes → ℕ → ℕ
state_place b s = states_at b + (1 + 2 * file_lists b) * s

abbrev pub file_flag : Bytes → ℕ → ℕ
file_flag b s = slice_index b (state_place b s)

abbrev pub file_next : Bytes → ℕ → ℕ → ℕ
file_next b s v = number_at b (suc (state_place b s) + 2 * v)

-- The file, followed from the state s by list numbers.
unfoldable pub file_followed : Bytes → ℕ → Word → ℕ
file_followed b s [] = s
file_followed b s (v ∷ w) = file_followed b (file_next b s v) w
