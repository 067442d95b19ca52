-- What reading into tables keeps from line to line: the numbers and the tables hold what the lines read so far give. Beside what
-- `HoldsSoFar` says, the names and expressions are few enough for the tables.
use Rattle.std.specs.Prelude.{ℕ, ◌≤◌, ◌<◌, List, ◌≡◌, length, get_or}
use Rattle.std.proofs.Math.Option.{some}
use Rattle.std.proofs.Common.{ap, ◌∙◌}
use Rattle.theory.specs.Expression.{Expression, empty}
use Rattle.theory.specs.Standing.{size}
use Rattle.syntax.specs.declared.refusal.Refusal.{Refusal}
use Rattle.syntax.specs.declared.table.Span.{Span}
use Rattle.syntax.specs.Byte.{Bytes}
use Rattle.syntax.specs.Some.{is_some}
use Rattle.syntax.specs.Limits.{most_occurrences}
use Rattle.std.specs.declared.result.Result.{Result}
use Rattle.reading.specs.declared.answer.Job.{Job}
use Rattle.reading.specs.declared.answer.Refused.{Refused}
use Rattle.reading.specs.declared.progress.Progress.{Progress as Numbers}
use Rattle.std.specs.declared.result.Result.TheVariants.{Ok, Err}
use Rattle.reading.specs.Text.{most_labels, most_lists}
use Rattle.reading.specs.JobText.{NamedJob}
use Rattle.reading.specs.Refusing.{Progress}
use Rattle.reading.specs.Read.{Given, good, bad, job, read}
use Rattle.reading.specs.Answering.{answer_of, read_reply, reply_of, reply-answered}
use Rattle.reading.specs.Tables.{Tables, HoldsSoFar, Holds}

abbrev pub tables : List Span → List ℕ → List ℕ → List ℕ → List ℕ → Tables
tables names follow enter sizes accepting =
    record { names = names; follow = follow; enter = enter; sizes = sizes; accepting = accepting }

abbrev pub numbers_of : Progress → Numbers
numbers_of P = record { labels = length P.labels; lists = length P.list_names; query = is_some P.query }

-- The numbers p and the tables T hold what P has.
pub record Held (text : Bytes) (P : Progress) (p : Numbers) (T : Tables) : Type 0 where
  pub numbers : p ≡ numbers_of P
  pub few-labels : length P.labels ≤ most_labels
  pub few-lists : length P.list_names ≤ most_lists
  pub as_many : length P.lists ≡ length P.list_names
  pub query-fits : (q : Expression) → P.query ≡ some q → size q ≤ most_occurrences
  pub lists-fit : (v : ℕ) → v < length P.lists → size (get_or P.lists v empty) ≤ most_occurrences
  pub holds : HoldsSoFar text P T

-- What a line gives, as the code tells it: the numbers of what is given, which the tables then hold; or the refusal.
pub data Tells (text : Bytes) (T : Tables) : Given → Result Numbers Refusal → Type 0 where
  more : {Q : Progress} {q : Numbers} → Held text Q q T → Tells text T (good Q) (Ok q)
  refusal : {r : Refusal} → Tells text T (bad r) (Err r)

-- Whatever the numbers and the tables held before, the code tells what f gives from there.
pub record Gives (text : Bytes) (f : Progress → Given) (p : Numbers) (T : Tables) (r : Result Numbers Refusal) (T' : Tables) : Type 0 where
  pub gives : (P : Progress) → Held text P p T → Tells text T' (f P) r

-- A text is read: the answer is what reading gives, and where that is a job, the tables hold it.
pub record Loaded (text : Bytes) (r : Result Job Refused) (T : Tables) : Type 0 where
  pub answer : r ≡ answer_of (read text)
  pub holds : (J : NamedJob) → read text ≡ job J → Holds text J T

pub loaded-reply : {text : Bytes} {r : Result Job Refused} {T : Tables} → Loaded text r T → read_reply r ≡ reply_of (read text)
loaded-reply {text} l = ap read_reply l.answer ∙ reply-answered (read text)
