-- Merged states (document 02, F-7), of texts and lent memory: two words end at one state exactly when the same words may follow them, no
-- complete table with fewer states accepts the same words, and kept files are equal exactly when the accepted words are.
use Rattle.std.specs.Prelude.{ℕ, ◌≤◌, List, ◌++◌, ◌↔◌, ◌≡◌, length, take}
use Rattle.std.proofs.Math.ListN.{get_or}
use Rattle.theory.specs.Word.{Word}
use Rattle.theory.specs.Job.{IsWord}
use Rattle.theory.specs.Rewriting.{Sound}
use Rattle.theory.specs.Deterministic.{Deterministic, Accepts, Complete}
use Rattle.syntax.specs.Byte.{Bytes}
use Rattle.reading.specs.JobText.{NamedJob, job_of, IsJob}
use Rattle.finding.specs.Finds.{followed}
use Rattle.finding.specs.Operation.{outcome}
use Rattle.keeping.specs.KeepOperation.{Outcome, outcome as keep_outcome}

-- The bytes of a kept file: as many as were told.
abbrev pub kept_bytes : Outcome → Bytes
kept_bytes o = take (get_or o.reply.values 0 0) o.out

pub record SameMeaning : Type 0 where
  -- two words end at one state, in the table as it was left, exactly when the same words may follow them
  pub states : (text : Bytes) (table flags : List ℕ) (J : NamedJob) → IsJob text J →
      let o = outcome text table flags in
      o.reply.number ≡ 0 → (v w : Word) → IsWord (job_of J) v → IsWord (job_of J) w → (followed o.table 0 v ≡ followed o.table 0 w)
      ↔ ((u : Word) → IsWord (job_of J) u → Sound (job_of J) (v ++ u) ↔ Sound (job_of J) (w ++ u))
  -- no complete deterministic table that accepts the same words has fewer states than are told
  pub fewest : (text : Bytes) (table flags : List ℕ) (J : NamedJob) → IsJob text J →
      let o = outcome text table flags in
      o.reply.number ≡ 0 → (E : Deterministic) → Complete E → E.symbols ≡ length J.list_names
      → ((w : Word) → IsWord (job_of J) w → Accepts E w ↔ Sound (job_of J) w) → get_or o.reply.values 1 0 ≤ E.states
  -- of two jobs with the same list names in the same order, the kept bytes are equal exactly when the accepted words are
  pub files : (text text' out out' : Bytes) (J K : NamedJob) → IsJob text J → IsJob text' K → J.list_names ≡ K.list_names →
      let o = keep_outcome text out in
      let p = keep_outcome text' out' in
      o.reply.number ≡ 0 → p.reply.number ≡ 0
      → (kept_bytes o ≡ kept_bytes p) ↔ ((w : Word) → IsWord (job_of J) w → Sound (job_of J) w ↔ Sound (job_of K) w)
