-- What a job text is (document 01, "The job text"), not by way of any reader: 1 to 32 lines `label NAME`, one line `query EXPR`, then 0 to
-- 16 lines `list NAME EXPR`; names proper, labels distinct among themselves, lists among themselves; the expressions over the labels.
use Rattle.std.specs.Prelude.{◌≤◌, List, [], ◌∷◌, ◌++◌, ◌≡◌, length}
use Rattle.theory.specs.Expression.{Expression}
use Rattle.theory.specs.Job.{Job}
use Rattle.syntax.specs.Byte.{Bytes}
use Rattle.syntax.specs.Name.{IsName}
use Rattle.syntax.specs.Check.{Distinct, IsExpression}
use Rattle.reading.specs.Text.{space, label_word, query_word, list_word, line, most_text, most_labels, most_lists}

-- A job with its names, in line order.
pub record NamedJob : Type 0 where
  pub labels : List Bytes
  pub query : Expression
  pub list_names : List Bytes
  pub lists : List Expression

-- The job without its names.
abbrev pub job_of : NamedJob → Job
job_of J = record { labels = length J.labels; query = J.query; lists = J.lists }

-- The text s is one line `label NAME` for each of the names.
pub data LabelLines : List Bytes → Bytes → Type 0 where
  nothing : LabelLines [] []
  next : {n : Bytes} {t : List Bytes} {s : Bytes} (more : Bytes) → IsName n → s ≡ line (label_word ++ n) ++ more → LabelLines t more
      → LabelLines (n ∷ t) s

-- The text s is one line `list NAME EXPR` for each of the names and expressions.
pub data ListLines (labels : List Bytes) : List Bytes → List Expression → Bytes → Type 0 where
  nothing : ListLines labels [] [] []
  next : {n : Bytes} {t : List Bytes} {e : Expression} {l : List Expression} {s : Bytes} (text more : Bytes) → IsName n
      → IsExpression labels text e → s ≡ line (list_word ++ (n ++ (space ∷ text))) ++ more → ListLines labels t l more
      → ListLines labels (n ∷ t) (e ∷ l) s

-- `IsJob text J`: the text is a job text, and J is its job.
pub record IsJob (text : Bytes) (J : NamedJob) : Type 0 where
  pub short : length text ≤ most_text
  pub label_text : Bytes
  pub query_text : Bytes
  pub list_text : Bytes
  pub lines : text ≡ label_text ++ (line (query_word ++ query_text) ++ list_text)
  pub labels : LabelLines J.labels label_text
  pub some-label : 1 ≤ length J.labels
  pub few-labels : length J.labels ≤ most_labels
  pub distinct-labels : Distinct J.labels
  pub query : IsExpression J.labels query_text J.query
  pub lists : ListLines J.labels J.list_names J.lists list_text
  pub few-lists : length J.list_names ≤ most_lists
  pub distinct-lists : Distinct J.list_names
