-- Answer from links (document 01): what is told and what the lent marks and words hold at the end, from the job text on; and what it shares
-- with Answer from lists, whose workspace has more words.
use Rattle.std.specs.Prelude.{◌≡◌, ℕ, ◌≤◌, true, false, ◌&&◌, ◌||◌, List, [], ◌∷◌, ◌++◌, Result, length, drop, replicate, ◌==◌, nat_le}
use Rattle.theory.specs.Expression.{Expression}
use Rattle.theory.specs.Job.{Job}
use Rattle.theory.specs.Graph.{Table}
use Rattle.theory.specs.Automaton.{glushkov}
use Rattle.syntax.specs.declared.refusal.Refusal.TheVariants.{BadRecordings, BufferTooShort}
use Rattle.syntax.specs.Byte.{Bytes}
use Rattle.syntax.specs.Number.{number}
use Rattle.syntax.specs.Reply.{Reply, given, refusing}
use Rattle.reading.specs.declared.answer.Refused.{Refused}
use Rattle.reading.specs.Answering.{value_reply}
use Rattle.reading.specs.JobText.{job_of}
use Rattle.reading.specs.Read.{Reading, job, read}
use Rattle.finding.specs.Standings.{standings}
use Rattle.finding.specs.StoredAutomata.{Stored}
use Rattle.answering.specs.Marked.{Chosen}
use Rattle.answering.specs.Marked.{ones}
use Rattle.answering.specs.AnswerJob.{Marking, marked, refused, marked_links, links_job}

-- What is told, and what the lent marks and words hold.
pub record Outcome : Type 0 where
  pub reply : Reply
  pub marks : List ℕ
  pub workspace : List ℕ

abbrev pub outcome : Reply → List ℕ → List ℕ → Outcome
outcome r m w = record { reply = r; marks = m; workspace = w }

-- The reply that an answer is: the number of ones.
abbrev pub links_reply : Result ℕ Refused → Reply
links_reply = value_reply

-- What a job's marks or refusal leave, where the named parts are N marks and so many words. Refusals 9 and 10 zero the named parts, every
-- other refusal changes nothing, and what lies beyond the named parts never changes.
abbrev pub left_of : ℕ → ℕ → List ℕ → List ℕ → Marking → Outcome
left_of N words before workspace (marked m) =
    outcome (given (ones m ∷ [])) (m ++ drop N before) (replicate words 0 ++ drop words workspace)
left_of N words before workspace (refused r) =
    elim (number r == 9 || number r == 10) [
      | true ↦ outcome (refusing r 0) (replicate N 0 ++ drop N before) (replicate words 0 ++ drop words workspace)
      | false ↦ outcome (refusing r 0) before workspace
    ]

-- What a text leaves: where it is read, what its job leaves.
abbrev pub by_reading : (Job → Outcome) → List ℕ → List ℕ → Reading → Outcome
by_reading more before workspace (Reading.refused r n) = outcome (refusing r n) before workspace
by_reading more before workspace (job J) = more (job_of J)

-- N recordings, with marks and so many words lent for them: 14, then 8, then what comes after.
unfoldable pub lent_checked : ℕ → ℕ → List ℕ → List ℕ → Outcome → Outcome
lent_checked N words before workspace more =
    elim (nat_le 1 N && nat_le N 4096) [
      | false ↦ outcome (refusing BadRecordings 0) before workspace
      | true ↦ elim (nat_le N (length before) && nat_le words (length workspace)) [
        | false ↦ outcome (refusing BufferTooShort 0) before workspace
        | true ↦ more
      ]
    ]

abbrev pub left : ℕ → List ℕ → List ℕ → Marking → Outcome
left N = left_of N N

abbrev pub read_links : Reading → ℕ → ℕ → Table → ℕ → List ℕ → List ℕ → Outcome
read_links z N c t x before workspace = by_reading (λ J. left N before workspace (links_job J N c t x)) before workspace z

unfoldable pub links_answer : Bytes → ℕ → ℕ → Table → ℕ → List ℕ → List ℕ → Outcome
links_answer text N c t x before workspace = lent_checked N N before workspace (read_links (read text) N c t x before workspace)

-- What the code keeps.

-- The number of recordings is in range, and the lent marks and words suffice for them.
pub record Sized (N : ℕ) (before workspace : List ℕ) : Type 0 where
  pub few : N ≤ 4096
  pub marks-fit : N ≤ length before
  pub room : N ≤ length workspace

-- The tables hold the automata of the job's expressions.
pub record JobGiven (J : Job) (follow enter sizes accepting : List ℕ) (labels lists : ℕ) : Type 0 where
  pub labels-told : J.labels ≡ labels
  pub lists-told : length J.lists ≡ lists
  pub stored : {c : ℕ} {e : Expression} → Chosen J c e → Stored follow enter sizes accepting c (glushkov e)

-- What is left by an expression that the tables hold.
pub record ExpressionTold (follow enter sizes accepting : List ℕ) (x labels : ℕ) (table : Table) (N start : ℕ) (before workspace : List ℕ)
    (o : Outcome) : Type 0 where
  pub told : (e : Expression) → Stored follow enter sizes accepting x (glushkov e)
      → o ≡ left N before workspace (marked_links e N table start (standings (glushkov e) labels 64))
