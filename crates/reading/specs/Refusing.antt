-- Which refusal a text gets, and at which line (document 01, "Read"), not by way of any reader. The lines before it are all good; of the
-- line itself the first fault counts: its form, then too many names, then its name, then its expression.
use Rattle.std.specs.Prelude.{ℕ, suc, ◌≤◌, ◌<◌, ◌≢◌, ◌≡◌, length, get_or}
use mathlib.Core.List.{List, [], ◌∷◌, ◌++◌}
use Rattle.std.proofs.Math.Option.{Option, some, none}
use Rattle.theory.specs.Expression.{Expression}
use Rattle.syntax.specs.declared.refusal.Refusal.{Refusal}
use Rattle.syntax.specs.declared.refusal.Refusal.TheVariants.{TextTooLong, BadLine, BadName, TooManyNames}
use Rattle.syntax.specs.Byte.{Bytes}
use Rattle.syntax.specs.Name.{IsName, SameName}
use Rattle.syntax.specs.Check.{IsExpression, Fault}
use Rattle.reading.specs.Text.{newline, space, label_word, query_word, list_word, line, most_text, most_labels, most_lists}

-- What the lines read so far give.
pub record Progress : Type 0 where
  pub labels : List Bytes
  pub query : Option Expression
  pub list_names : List Bytes
  pub lists : List Expression

abbrev pub beginning : Progress
beginning = record { labels = []; query = none; list_names = []; lists = [] }

abbrev pub with_label : Progress → Bytes → Progress
with_label P n = record { labels = P.labels ++ (n ∷ []); query = P.query; list_names = P.list_names; lists = P.lists }

abbrev pub with_query : Progress → Expression → Progress
with_query P e = record { labels = P.labels; query = some e; list_names = P.list_names; lists = P.lists }

abbrev pub with_list : Progress → Bytes → Expression → Progress
with_list P n e = record { labels = P.labels; query = P.query; list_names = P.list_names ++ (n ∷ []); lists = P.lists ++ (e ∷ []) }

-- The byte b is not in the text.
abbrev pub Without : ℕ → Bytes → Type 0
Without b s = (i : ℕ) → i < length s → get_or s i 0 ≢ b

-- A proper name that is not in the table yet.
abbrev pub Fresh : Bytes → List Bytes → Type 0
Fresh n names = IsName n × ((i : ℕ) → i < length names → ¬ SameName (get_or names i []) n)

-- The line s, in its place, is `label NAME`, `query EXPR` or `list NAME EXPR` by its opening word and spaces.
abbrev pub AsLabel : Progress → Bytes → Bytes → Type 0
AsLabel P s n = (P.query ≡ none) × (s ≡ label_word ++ n)

abbrev pub AsQuery : Progress → Bytes → Bytes → Type 0
AsQuery P s text = (P.query ≡ none) × (1 ≤ length P.labels) × (s ≡ query_word ++ text)

abbrev pub AsList : Progress → Bytes → Bytes → Bytes → Type 0
AsList P s n text = (P.query ≢ none) × (s ≡ list_word ++ (n ++ (space ∷ text))) × Without space n

-- A good line, and what is given with it.
pub data GoodLine (P : Progress) (s : Bytes) : Progress → Type 0 where
  label : (n : Bytes) → AsLabel P s n → length P.labels < most_labels → Fresh n P.labels → GoodLine P s (with_label P n)
  query : (text : Bytes) {e : Expression} → AsQuery P s text → IsExpression P.labels text e → GoodLine P s (with_query P e)
  list : (n text : Bytes) {e : Expression} → AsList P s n text → length P.list_names < most_lists → Fresh n P.list_names
      → IsExpression P.labels text e → GoodLine P s (with_list P n e)

-- The first fault of a line.
pub data LineFault (P : Progress) (s : Bytes) : Refusal → Type 0 where
  form : ((n : Bytes) → ¬ AsLabel P s n) → ((t : Bytes) → ¬ AsQuery P s t) → ((n t : Bytes) → ¬ AsList P s n t) → LineFault P s BadLine
  many-labels : (n : Bytes) → AsLabel P s n → most_labels ≤ length P.labels → LineFault P s TooManyNames
  label-name : (n : Bytes) → AsLabel P s n → length P.labels < most_labels → ¬ Fresh n P.labels → LineFault P s BadName
  query : (text : Bytes) {r : Refusal} → AsQuery P s text → Fault P.labels text r → LineFault P s r
  many-lists : (n text : Bytes) → AsList P s n text → most_lists ≤ length P.list_names → LineFault P s TooManyNames
  list-name : (n text : Bytes) → AsList P s n text → length P.list_names < most_lists → ¬ Fresh n P.list_names → LineFault P s BadName
  list : (n text : Bytes) {r : Refusal} → AsList P s n text → length P.list_names < most_lists → Fresh n P.list_names
      → Fault P.labels text r → LineFault P s r

-- `GoodLines s n P`: the text s is n good lines, and P is what they give.
pub data GoodLines : Bytes → ℕ → Progress → Type 0 where
  nothing : GoodLines [] 0 beginning
  next : {s t : Bytes} {n : ℕ} {P Q : Progress} (l : Bytes) → t ≡ s ++ line l → GoodLines s n P → Without newline l → GoodLine P l Q
      → GoodLines t (suc n) Q

-- `Refused text r n`: the text gets the refusal r at the line n.
pub data Refused (text : Bytes) : Refusal → ℕ → Type 0 where
  long : most_text < length text → Refused text TextTooLong 0
  faulty : {s : Bytes} {n : ℕ} {P : Progress} {r : Refusal} (l more : Bytes) → length text ≤ most_text → text ≡ s ++ (line l ++ more)
      → GoodLines s n P → Without newline l → LineFault P l r → Refused text r (suc n)
  unclosed : {s : Bytes} {n : ℕ} {P : Progress} (l : Bytes) → length text ≤ most_text → text ≡ s ++ l → 1 ≤ length l → GoodLines s n P
      → Without newline l → Refused text BadLine (suc n)
  no-query : {n : ℕ} {P : Progress} → length text ≤ most_text → GoodLines text n P → P.query ≡ none → Refused text BadLine (suc n)
