-- What Verdict leaves for a text, an allowance and four lent buffers (document 01, "Verdict"), in all cases. Refusals 9, 10, 12 and 13 zero
-- the named parts, every other refusal changes nothing, and what lies beyond the named parts never changes.
use Rattle.std.specs.Prelude.{◌≡◌, ℕ, ◌*◌, ◌≤◌, Bool, true, false, ◌&&◌, List, [], ◌∷◌, map, length, take, nat_le, slice_index, Result, Ok, Err}
use Rattle.theory.specs.Job.{Job, WellFormed}
use Rattle.theory.specs.Automaton.{glushkov}
use Rattle.syntax.specs.Byte.{Bytes}
use Rattle.syntax.specs.Reply.{Reply}
use Rattle.syntax.specs.declared.refusal.Refusal.{Refusal}
use Rattle.reading.specs.declared.answer.Refused.{Refused}
use Rattle.reading.specs.Answering.{refused_at, reply as answer_reply}
use Rattle.syntax.specs.declared.refusal.Refusal.TheVariants.{BadAllowance, BufferTooShort}
use Rattle.reading.specs.JobText.{job_of}
use Rattle.reading.specs.Read.{Reading, job, read}
use Rattle.finding.specs.Find.{Rewriting, found, find}
use Rattle.finding.specs.Outcome.{Leaving, left_by as find_left}
use Rattle.finding.specs.Named.{table_part, flags_part, cleared, written}
use Rattle.finding.specs.ListRows.{job_tables}
use Rattle.finding.specs.StatesPart.{Holding}
use Rattle.verdict.specs.declared.verdict.Verdict.{Verdict as Told}
use Rattle.verdict.specs.declared.verdict.Verdict.TheVariants.{Complete, Missed}
use Rattle.verdict.specs.Verdict.{Verdict, complete, missed, refused}
use Rattle.verdict.specs.VerdictJob.{verdict_job}
use Rattle.verdict.specs.VerdictTold.{told_of, PathAfter}

-- The reply that an answer is: the number of distinct pairs and, where a path is missed, its length.
abbrev pub verdict_values : Told → List ℕ
verdict_values (Complete pairs) = pairs ∷ []
verdict_values (Missed size pairs) = pairs ∷ (size ∷ [])

abbrev pub verdict_reply : Result Told Refused → Reply
verdict_reply = answer_reply verdict_values

abbrev pub refused_with : Refusal → ℕ → Result Told Refused
refused_with r n = Err (refused_at r n)

-- What is told, and what the lent buffers hold.
pub record Outcome : Type 0 where
  pub reply : Reply
  pub table : List ℕ
  pub flags : List ℕ
  pub path : List ℕ
  pub workspace : List ℕ

abbrev pub left : Result Told Refused → (table flags path workspace : List ℕ) → Outcome
left answer table flags path workspace =
    record { reply = verdict_reply answer; table = table; flags = flags; path = path; workspace = workspace }

abbrev pub most_allowance : ℕ
most_allowance = 4096

-- The words of the workspace for so many pairs.
abbrev pub pair_words : ℕ → ℕ
pair_words allowance = 18 * allowance

-- What a verdict leaves of buffers that are long enough; F is what Find leaves of the first two.
abbrev pub left_by : Verdict → Leaving → ℕ → (table flags path workspace : List ℕ) → Outcome
left_by (complete n) F allowance table flags path workspace =
    left (Ok (Complete n)) F.table F.flags (cleared allowance path) (cleared (pair_words allowance) workspace)
left_by (missed p n) F allowance table flags path workspace =
    left (Ok (Missed (length p) n)) F.table F.flags (written allowance p path) (cleared (pair_words allowance) workspace)
left_by (refused r) F allowance table flags path workspace =
    left (refused_with r 0) (cleared table_part table) (cleared flags_part flags) (cleared allowance path)
    (cleared (pair_words allowance) workspace)

-- What a job leaves.
abbrev pub left_by_job : Job → ℕ → (table flags path workspace : List ℕ) → Outcome
left_by_job J allowance table flags path workspace =
    left_by (verdict_job J allowance) (find_left (find J) table flags) allowance table flags path workspace

-- What a text that is read leaves.
abbrev pub left_by_reading : Reading → ℕ → (table flags path workspace : List ℕ) → Outcome
left_by_reading (job J) allowance table flags path workspace = left_by_job (job_of J) allowance table flags path workspace
left_by_reading (Reading.refused r n) allowance table flags path workspace = left (refused_with r n) table flags path workspace

abbrev pub allowed : ℕ → Bool
allowed allowance = nat_le 1 allowance && nat_le allowance most_allowance

-- The lent buffers are long enough.
abbrev pub enough : ℕ → (table flags path workspace : List ℕ) → Bool
enough allowance table flags path workspace =
    (nat_le table_part (length table) && nat_le flags_part (length flags))
    && (nat_le allowance (length path) && nat_le (pair_words allowance) (length workspace))

unfoldable pub outcome : Bytes → ℕ → (table flags path workspace : List ℕ) → Outcome
outcome text allowance table flags path workspace =
    elim (allowed allowance) [
      | false ↦ left (refused_with BadAllowance 0) table flags path workspace
      | true ↦ elim (enough allowance table flags path workspace) [
        | false ↦ left (refused_with BufferTooShort 0) table flags path workspace
        | true ↦ left_by_reading (read text) allowance table flags path workspace
      ]
    ]

-- What the code keeps.

-- The allowance is in range, and the lent buffers suffice for it.
pub record Sized (allowance : ℕ) (table flags path workspace : List ℕ) : Type 0 where
  pub few : allowance ≤ 4096
  pub table-room : 4096 ≤ length table
  pub flags-room : 256 ≤ length flags
  pub path_room : allowance ≤ length path
  pub room : 18 * allowance ≤ length workspace

-- The tables hold the automata of the job's expressions.
pub record JobGiven (J : Job) (follow enter sizes accepting : List ℕ) (labels lists : ℕ) : Type 0 where
  pub labels-told : J.labels ≡ labels
  pub few-labels : labels ≤ 32
  pub lists-told : length J.lists ≡ lists
  pub few-lists : lists ≤ 16
  pub formed : WellFormed J
  pub holding : Holding (job_tables [] 0 labels follow enter sizes accepting) (glushkov J.query) (map glushkov J.lists) lists

pub record SomeJob (follow enter sizes accepting : List ℕ) (labels lists : ℕ) : Type 0 where
  pub given-job : Job
  pub given : JobGiven given-job follow enter sizes accepting labels lists

-- The verdict on so many states, where they are the rewriting that Find gives.
pub record FoundTold (follow enter sizes accepting : List ℕ) (labels lists states : ℕ) (table flags : List ℕ) (allowance : ℕ)
    (path workspace : List ℕ) (r : Result Told Refusal) (path' workspace' : List ℕ) : Type 0 where
  pub told : (J : Job) (R : Rewriting) → JobGiven J follow enter sizes accepting labels lists → find J ≡ found R → R.states ≡ states
      → take (16 * states) table ≡ R.table → take states flags ≡ R.flags
      → (r ≡ told_of (verdict_job J allowance)) × PathAfter path path' (verdict_job J allowance)
  pub beyond : (j : ℕ) → 18 * allowance ≤ j → slice_index workspace' j ≡ slice_index workspace j

-- Find, and the verdict on what it finds.
pub record FindTold (follow enter sizes accepting : List ℕ) (labels lists allowance : ℕ) (table flags path workspace : List ℕ) (r : Result Told Refusal)
    (table' flags' path' workspace' : List ℕ) : Type 0 where
  pub told : (J : Job) → JobGiven J follow enter sizes accepting labels lists
      → (r ≡ told_of (verdict_job J allowance)) × PathAfter path path' (verdict_job J allowance)
  pub found_left : (J : Job) → JobGiven J follow enter sizes accepting labels lists
      → (table' ≡ (find_left (find J) table flags).table) × (flags' ≡ (find_left (find J) table flags).flags)
  pub beyond : (j : ℕ) → 18 * allowance ≤ j → slice_index workspace' j ≡ slice_index workspace j

-- What is told of a verdict, and what its refusal leaves of the table and the flags.
abbrev pub Answered : Result Told Refusal → (table flags : List ℕ) → Result Told Refused → (table' flags' : List ℕ) → Type 0
Answered (Ok v) table flags r table' flags' = (r ≡ Ok v) × (table' ≡ table) × (flags' ≡ flags)
Answered (Err q) table flags r table' flags' =
    (r ≡ refused_with q 0) × (table_part ≤ length table → table' ≡ cleared table_part table)
    × (flags_part ≤ length flags → flags' ≡ cleared flags_part flags)

pub record AnsweredTold (t : Result Told Refusal) (table flags : List ℕ) (r : Result Told Refused) (table' flags' : List ℕ) : Type 0 where
  pub told : Answered t table flags r table' flags'
