-- What the code promises of what it puts.
use Rattle.std.specs.Prelude.{ℕ, ◌*◌, ◌≤◌, List, ◌++◌, ◌≡◌, length, take, drop}
use Rattle.syntax.specs.declared.table.Span.{Span}
use Rattle.syntax.specs.Byte.{Bytes}
use Rattle.syntax.specs.Resolve.{names_at}
use Rattle.reading.specs.JobText.{NamedJob, job_of}
use Rattle.reading.specs.Read.{job, read}
use Rattle.reading.specs.Tables.{lists_from}
use Rattle.output.specs.Put.{Writing, puts}
use Rattle.printing.specs.Printed.{printed_allowance, judged_at, verdict_lines, printed_at}

-- The buffers lent to Verdict suffice for the allowance, unless it is out of range.
pub record Room (allowance : ℕ) (path workspace : List ℕ) : Type 0 where
  pub path_room : allowance ≤ 4096 → allowance ≤ length path
  pub words : allowance ≤ 4096 → 18 * allowance ≤ length workspace

-- The lines of the verdict are put, where the table of names is that of the job's labels.
pub record VerdictPut (text : Bytes) (names : List Span) (allowance : ℕ) (w v : Writing) : Type 0 where
  pub told : (J : NamedJob) → read text ≡ job J → names_at text names ≡ J.labels
      → v ≡ puts w (verdict_lines J.labels (judged_at allowance (job_of J)))

-- All is put, where the tables of names are those of the job.
pub record JobPut (text : Bytes) (names : List Span) (labels lists allowance : ℕ) (w v : Writing) : Type 0 where
  pub told : (J : NamedJob) → read text ≡ job J → names_at text (take labels names) ≡ J.labels
      → names_at text (take lists (drop lists_from names)) ≡ J.list_names → v ≡ puts w (printed_at allowance text)

-- The first bytes of a lent buffer are what is printed, and the others are as they were lent; the length of what is printed is told.
pub record PrintsAt (allowance : ℕ) (text before : Bytes) (r : ℕ) (after : Bytes) : Type 0 where
  pub size : r ≡ length (printed_at allowance text)
  pub bytes : after ≡ printed_at allowance text ++ drop (length (printed_at allowance text)) before

-- The same for the program `rewrite`.
abbrev pub Prints : (text before : Bytes) → ℕ → Bytes → Type 0
Prints = PrintsAt printed_allowance
