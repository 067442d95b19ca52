-- A rewriting as plain data, wherever it comes from, and when it decides which words of a job are accepted. What stands above Find rests on
-- this, not on how a table was made.
use Rattle.std.specs.Prelude.{◌≡◌, ℕ, ◌+◌, ◌*◌, ◌<◌, ◌↔◌, List, length, slice_index}
use Rattle.theory.specs.Word.{Word}
use Rattle.theory.specs.Job.{Job, IsWord}
use Rattle.theory.specs.Rewriting.{Accepted}
use Rattle.finding.specs.Find.{Rewriting}
use Rattle.finding.specs.Finds.{followed}

-- The number of states, the next state at 16 × state + list, and a flag for each state, 1 where it accepts.
pub record Rewritten : Type 0 where
  pub states : ℕ
  pub table : List ℕ
  pub flags : List ℕ

abbrev pub next_state : Rewritten → ℕ → ℕ → ℕ
next_state R q v = slice_index R.table (16 * q + v)

-- What Find gives, as plain data.
abbrev pub rewritten : Rewriting → Rewritten
rewritten R = record { states = R.states; table = R.table; flags = R.flags }

-- The table is complete: every state has a next one for each list, among R's states; and a word of the job ends at flag 1 exactly when it
-- is accepted.
pub record Decides (J : Job) (R : Rewritten) : Type 0 where
  pub some-state : 0 < R.states
  pub next : (q v : ℕ) → q < R.states → v < length J.lists → slice_index R.table (16 * q + v) < R.states
  pub accepted : (w : Word) → IsWord J w → (slice_index R.flags (followed R.table 0 w) ≡ 1) ↔ Accepted J w
