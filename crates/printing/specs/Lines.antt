-- The lines of the printed form (document 01, "The printed form"), byte for byte.
use Rattle.std.specs.Prelude.{ℕ, zero, suc, ◌+◌, ◌*◌, Bool, true, false, List, [], ◌∷◌, ◌++◌, eqb, length, get_or}
use Rattle.std.proofs.Math.Option.{Option, some, none}
use Rattle.theory.specs.Word.{Word}
use Rattle.syntax.specs.declared.refusal.Refusal.{Refusal}
use Rattle.syntax.specs.Byte.{Bytes}
use Rattle.syntax.specs.Number.{number}
use Rattle.reading.specs.Text.{space, query_word, line}
use Rattle.finding.specs.Find.{Rewriting, row_width}
use Rattle.output.specs.Decimal.{decimal}

-- The words of the form: `states `, `first`, `empty`, `missed`, `complete`, `pairs `, `refused `, ` line `.
abbrev pub states_word : Bytes
states_word = 115 ∷ (116 ∷ (97 ∷ (116 ∷ (101 ∷ (115 ∷ (space ∷ []))))))

abbrev pub first_word : Bytes
first_word = 102 ∷ (105 ∷ (114 ∷ (115 ∷ (116 ∷ []))))

abbrev pub empty_word : Bytes
empty_word = 101 ∷ (109 ∷ (112 ∷ (116 ∷ (121 ∷ []))))

abbrev pub missed_word : Bytes
missed_word = 109 ∷ (105 ∷ (115 ∷ (115 ∷ (101 ∷ (100 ∷ [])))))

abbrev pub complete_word : Bytes
complete_word = 99 ∷ (111 ∷ (109 ∷ (112 ∷ (108 ∷ (101 ∷ (116 ∷ (101 ∷ [])))))))

abbrev pub pairs_word : Bytes
pairs_word = 112 ∷ (97 ∷ (105 ∷ (114 ∷ (115 ∷ (space ∷ [])))))

abbrev pub refused_word : Bytes
refused_word = 114 ∷ (101 ∷ (102 ∷ (117 ∷ (115 ∷ (101 ∷ (100 ∷ (space ∷ [])))))))

abbrev pub line_word : Bytes
line_word = space ∷ (108 ∷ (105 ∷ (110 ∷ (101 ∷ (space ∷ [])))))

-- ` line M`, and nothing without a line.
unfoldable pub in_line : ℕ → Bytes
in_line zero = []
in_line (suc m) = line_word ++ decimal (suc m)

-- `refused N line M`, or `refused N`.
unfoldable pub refusal_line : Refusal → ℕ → Bytes
refusal_line r m = line (refused_word ++ (decimal (number r) ++ in_line m))

-- A word and a number, as `query 5`.
unfoldable pub count_line : Bytes → ℕ → Bytes
count_line word n = line (word ++ decimal n)

-- The names of these numbers, each after a space.
unfoldable pub spelled : List Bytes → List ℕ → Bytes
spelled names [] = []
spelled names (i ∷ l) = (space ∷ get_or names i []) ++ spelled names l

-- A word and names, as `first episodes mixes`.
unfoldable pub named_line : Bytes → List Bytes → List ℕ → Bytes
named_line word names l = line (word ++ spelled names l)

-- `+` for a state that accepts, and `-` for another.
abbrev pub sign_of : Bool → ℕ
sign_of true = 43
sign_of false = 45

abbrev pub sign : ℕ → ℕ
sign flag = sign_of (eqb flag 1)

-- The next states of the state s for n lists, from the list v on.
unfoldable pub nexts : List ℕ → ℕ → ℕ → ℕ → Bytes
nexts table s zero v = []
nexts table s (suc n) v = (space ∷ decimal (get_or table (row_width * s + v) 0)) ++ nexts table s n (suc v)

-- A row: state, flag, and next states in the order of k lists.
unfoldable pub row : List ℕ → List ℕ → ℕ → ℕ → Bytes
row table flags k s = line (decimal s ++ (space ∷ (sign (get_or flags s 0) ∷ nexts table s k 0)))

-- The rows of n states, from s on.
unfoldable pub rows : List ℕ → List ℕ → ℕ → ℕ → ℕ → Bytes
rows table flags k zero s = []
rows table flags k (suc n) s = row table flags k s ++ rows table flags k n (suc s)

-- `first` with the first accepted word, or `empty`.
unfoldable pub first_line : List Bytes → Option Word → Bytes
first_line names none = line empty_word
first_line names (some w) = named_line first_word names w

-- The lines from `query` to `first`, with the names of the lists.
unfoldable pub rewriting_lines : List Bytes → Rewriting → Bytes
rewriting_lines names R =
    count_line query_word R.standings
    ++ (count_line states_word R.states
    ++ (rows R.table R.flags (length names) R.states 0 ++ first_line names R.first))
