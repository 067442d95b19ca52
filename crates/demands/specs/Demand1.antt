-- Demand 1: every operation takes all bytes and numbers lent to it, ends, and gives its result or one of the listed refusals; number, line
-- and every lent buffer are as listed. That an operation takes everything and ends is what the checker proves of each: none has a
-- `requires`. What it then tells and leaves is, by its promise, the outcome that is spoken of here.
use Rattle.std.specs.Prelude.{ℕ, ◌*◌, List, [], ◌∷◌}
use Rattle.theory.specs.Graph.{Table}
use Rattle.syntax.specs.Byte.{Bytes}
use Rattle.reading.specs.Read.{read}
use Rattle.reading.specs.Answering.{reply_of}
use Rattle.finding.specs.Operation.{outcome as find_outcome}
use Rattle.verdict.specs.VerdictOperation.{outcome as verdict_outcome}
use Rattle.answering.specs.LinksOperation.{links_answer}
use Rattle.answering.specs.ListsOperation.{lists_answer}
use Rattle.keeping.specs.KeepOperation.{outcome as keep_outcome}
use Rattle.demands.specs.Lent.{lent}
use Rattle.demands.specs.AsListed.{AsListed}
use Rattle.demands.specs.Refusals.{read_checks, find_checks, verdict_checks, links_checks, lists_checks, keep_checks}

pub record Demand1 : Type 0 where
  -- Read: 1 to 7
  pub read : (text : Bytes) → AsListed (read_checks text) (reply_of (read text)) []
  -- Find: 8, Read's, 9, 10; 4,096 numbers of the table and 256 flags are its named parts
  pub find : (text : Bytes) (table flags : List ℕ) →
      let o = find_outcome text table flags in
      AsListed (find_checks text table flags) o.reply (lent 4096 table o.table ∷ (lent 256 flags o.flags ∷ []))
  -- Verdict: 11, 8, Read's, 9, 10, 12, 13; besides Find's buffers as many bytes of the path as the allowance, and 18 words for each
  -- allowed pair
  pub verdict : (text : Bytes) (allowance : ℕ) (table flags path workspace : List ℕ) →
      let o = verdict_outcome text allowance table flags path workspace in
      AsListed (verdict_checks text allowance table flags path workspace) o.reply
      (lent 4096 table o.table ∷ (lent 256 flags o.flags ∷ (lent allowance path o.path
      ∷ (lent (18 * allowance) workspace o.workspace ∷ []))))
  -- Answer from links: 14, 8, Read's, 17, 15, 16, 9; N marks and N words
  pub links : (text : Bytes) (N chosen : ℕ) (links : Table) (start : ℕ) (marks workspace : List ℕ) →
      let o = links_answer text N chosen links start marks workspace in
      AsListed (links_checks text N chosen links start marks workspace) o.reply
      (lent N marks o.marks ∷ (lent N workspace o.workspace ∷ []))
  -- Answer from lists: 14, 8, Read's, 15, 16, 9, 10; N marks and 4 × N words
  pub lists : (text : Bytes) (N : ℕ) (lists : Table) (start : ℕ) (marks workspace : List ℕ) →
      let o = lists_answer text N lists start marks workspace in
      AsListed (lists_checks text N lists start marks workspace) o.reply
      (lent N marks o.marks ∷ (lent (4 * N) workspace o.workspace ∷ []))
  -- Keep: 8, Read's, 9, 10; 8,728 bytes
  pub keep : (text out : Bytes) →
      let o = keep_outcome text out in
      AsListed (keep_checks text out) o.reply (lent 8728 out o.out ∷ [])
