-- What marking by the states of a rewriting promises (document 01, "Answer from lists"): the marks of its states as those of a machine; the
-- workspace, 4 words for each recording, is zero at the end.
use Rattle.std.specs.Prelude.{◌≡◌, ℕ, ◌+◌, ◌*◌, ◌<◌, ◌≤◌, true, List, ◌++◌, length, drop, replicate, slice_index}
use Rattle.theory.specs.Graph.{Table}
use Rattle.finding.specs.Rewritten.{Rewritten, next_state}
use Rattle.answering.specs.Table.{is_table}
use Rattle.answering.specs.Product.{marks}
use Rattle.answering.specs.Marked.{ones}
use Rattle.answering.specs.Answer.{list_machine}

-- The start is one of the recordings, and the lent marks and words suffice for these.
pub record ListsLent (N start : ℕ) (before workspace : List ℕ) : Type 0 where
  pub few : N ≤ 4096
  pub begins : start < N
  pub marks-fit : N ≤ length before
  pub room : 4 * N ≤ length workspace

-- The numbers are the next states of the rewriting, in rows of 16, and its flags, and the table is one over its lists.
pub record ListsGiven (R : Rewritten) (lists : ℕ) (next flags : List ℕ) (states : ℕ) (table : Table) (N : ℕ) : Type 0 where
  pub is-table : is_table N lists table ≡ true
  pub few-lists : lists ≤ 16
  pub same-states : R.states ≡ states
  pub some : 0 < states
  pub most : states ≤ 256
  pub rows : 16 * states ≤ length next
  pub same_next : (q v : ℕ) → q < states → v < lists → next_state R q v ≡ slice_index next (16 * q + v)
  pub next-below : (q v : ℕ) → q < states → v < lists → next_state R q v < states
  pub same_flags : (q : ℕ) → q < states → slice_index R.flags q ≡ slice_index flags q

-- The first N marks are the rewriting's, their ones are told, and the first 4 × N words are zero.
pub record ListsMarked (R : Rewritten) (N : ℕ) (table : Table) (start : ℕ) (before workspace after workspace' : List ℕ) (r : ℕ) : Type 0 where
  pub told : r ≡ ones (marks (list_machine R) N table start)
  pub marked : after ≡ marks (list_machine R) N table start ++ drop N before
  pub cleared : workspace' ≡ replicate (4 * N) 0 ++ drop (4 * N) workspace
