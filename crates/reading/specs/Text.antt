-- The fixed bytes of a job text, and its limits (document 01, "The job text").
use Rattle.std.specs.Prelude.{ℕ, [], ◌∷◌, ◌++◌}
use Rattle.syntax.specs.Byte.{Bytes}

abbrev pub newline : ℕ
newline = 10

abbrev pub space : ℕ
space = 32

-- `label ` with its space
abbrev pub label_word : Bytes
label_word = 108 ∷ (97 ∷ (98 ∷ (101 ∷ (108 ∷ (space ∷ [])))))

-- `query ` with its space
abbrev pub query_word : Bytes
query_word = 113 ∷ (117 ∷ (101 ∷ (114 ∷ (121 ∷ (space ∷ [])))))

-- `list ` with its space
abbrev pub list_word : Bytes
list_word = 108 ∷ (105 ∷ (115 ∷ (116 ∷ (space ∷ []))))

-- A line: each ends with byte 10.
abbrev pub line : Bytes → Bytes
line s = s ++ (newline ∷ [])

abbrev pub most_text : ℕ
most_text = 8192

abbrev pub most_labels : ℕ
most_labels = 32

abbrev pub most_lists : ℕ
most_lists = 16
