-- Answer from lists (document 01): what is told and what the lent marks and words, 4 for each recording, hold at the end, from the job text
-- on.
use Rattle.std.specs.Prelude.{◌≡◌, ℕ, ◌*◌, ◌≤◌, ◌⊎◌, Result, List, length}
use Rattle.theory.specs.Graph.{Table}
use Rattle.syntax.specs.declared.refusal.Refusal.{Refusal}
use Rattle.syntax.specs.declared.refusal.Refusal.TheVariants.{TooManyStandings, TooManyStates}
use Rattle.syntax.specs.Byte.{Bytes}
use Rattle.syntax.specs.Reply.{Reply}
use Rattle.reading.specs.Read.{Reading, read}
use Rattle.reading.specs.declared.answer.Refused.{Refused}
use Rattle.reading.specs.Answering.{value_reply}
use Rattle.finding.specs.declared.answer.Found.{Found as Told}
use Rattle.finding.specs.Find.{Rewriting, Found, found}
use Rattle.finding.specs.Outcome.{found_answer, refused_with}
use Rattle.finding.specs.Rewritten.{rewritten}
use Rattle.answering.specs.AnswerJob.{Marking, lists_job}
use Rattle.answering.specs.LinksOperation.{Outcome, left_of, by_reading, lent_checked}
use Rattle.answering.specs.ListsCore.{ListsGiven}

-- The reply that an answer is: the number of ones.
abbrev pub lists_reply : Result ℕ Refused → Reply
lists_reply = value_reply

abbrev pub lists_left : ℕ → List ℕ → List ℕ → Marking → Outcome
lists_left N = left_of N (4 * N)

abbrev pub read_lists : Reading → ℕ → Table → ℕ → List ℕ → List ℕ → Outcome
read_lists z N t x before workspace = by_reading (λ J. lists_left N before workspace (lists_job J N t x)) before workspace z

unfoldable pub lists_answer : Bytes → ℕ → Table → ℕ → List ℕ → List ℕ → Outcome
lists_answer text N t x before workspace = lent_checked N (4 * N) before workspace (read_lists (read text) N t x before workspace)

-- What the code keeps.

-- The number of recordings is in range, and the lent marks and words suffice for them.
pub record ListsSized (N : ℕ) (before workspace : List ℕ) : Type 0 where
  pub few : N ≤ 4096
  pub marks-fit : N ≤ length before
  pub room : 4 * N ≤ length workspace

-- What Find gives is told and left in the memory.
pub record FoundGiven (F : Found) (lists : ℕ) (told : Result Told Refused) (next flags : List ℕ) (table : Table) (N : ℕ) : Type 0 where
  pub answered : (R : Rewriting) → F ≡ found R
      → (told ≡ found_answer R) × ListsGiven (rewritten R) lists next flags R.states table N
  pub refuses : (r : Refusal) → F ≡ Found.refused r
      → (told ≡ refused_with r 0) × ((r ≡ TooManyStandings) ⊎ (r ≡ TooManyStates))
