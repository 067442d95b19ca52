-- The job texts of document 01's listed cases ("Jobs on each side of a limit"). Those of P1 to P8 are the bytes that T10 speaks of (Cases);
-- the others are made of small pieces.
use Rattle.std.specs.Prelude.{ℕ, zero, suc, List, [], ◌∷◌, ◌++◌}
use Rattle.syntax.specs.Byte.{Bytes}
use Rattle.reading.specs.Text.{space, label_word, query_word, list_word, line}
use Rattle.listed.specs.declared.texts.Listed.{Listed}
use Rattle.listed.specs.declared.texts.Listed.TheVariants.{Proved, Sequence, Followed, Optional, Joined}
use Rattle.listed.specs.Cases.{Case, cases}

abbrev pub text_at : List Case → ℕ → Bytes
text_at [] n = []
text_at (c ∷ l) zero = c.text
text_at (c ∷ l) (suc n) = text_at l n

-- The text of P1 to P8, numbered from 1; there is no other.
unfoldable pub proved_text : ℕ → Bytes
proved_text zero = []
proved_text (suc n) = text_at cases n

-- So many times the same bytes.
unfoldable pub repeated : ℕ → Bytes → Bytes
repeated zero s = []
repeated (suc n) s = s ++ repeated n s

-- `a`, `.a` and `.(a|b)`
abbrev pub letter : Bytes
letter = 97 ∷ []

abbrev pub dot_letter : Bytes
dot_letter = 46 ∷ letter

abbrev pub dot_either : Bytes
dot_either = 46 ∷ (40 ∷ (97 ∷ (124 ∷ (98 ∷ (41 ∷ [])))))

-- So many a's in sequence.
unfoldable pub sequence_of : ℕ → Bytes
sequence_of zero = []
sequence_of (suc n) = letter ++ repeated n dot_letter

-- So many a's in sequence, and no list.
unfoldable pub sequence_text : ℕ → Bytes
sequence_text n = line (label_word ++ letter) ++ line (query_word ++ sequence_of n)

-- `(a|b)*.a` followed by so many `.(a|b)`, and no list.
unfoldable pub followed_text : ℕ → Bytes
followed_text n =
    (line (label_word ++ letter) ++ line (label_word ++ (98 ∷ [])))
    ++ line ((query_word ++ (40 ∷ (97 ∷ (124 ∷ (98 ∷ (41 ∷ (42 ∷ dot_letter))))))) ++ repeated n dot_either)

-- The list `l`: `a`.
abbrev pub letter_list : Bytes
letter_list = line (list_word ++ (108 ∷ (space ∷ letter)))

-- So many a's, lists `a` and `a?`.
unfoldable pub optional_text : ℕ → Bytes
optional_text n = sequence_text n ++ (letter_list ++ line (list_word ++ (109 ∷ (space ∷ (letter ++ (63 ∷ []))))))

-- So many a's, lists `a` and so many a's.
unfoldable pub joined_text : ℕ → ℕ → Bytes
joined_text n m = sequence_text n ++ (letter_list ++ line ((list_word ++ (109 ∷ (space ∷ []))) ++ sequence_of m))

abbrev pub text_of : Listed → Bytes
text_of (Proved n) = proved_text n
text_of (Sequence n) = sequence_text n
text_of (Followed n) = followed_text n
text_of (Optional n) = optional_text n
text_of (Joined n m) = joined_text n m
