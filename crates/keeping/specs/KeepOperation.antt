-- What Keep leaves for a text and a lent output (document 01, "Keep"), in all cases. Where the output is long enough and the text is a
-- job's, its named part is written; nothing behind the named part changes.
use Rattle.std.specs.Prelude.{ℕ, ◌-◌, true, false, List, [], ◌∷◌, ◌++◌, length, drop, replicate, nat_lt, Result, Ok, Err}
use Rattle.syntax.specs.Byte.{Bytes}
use Rattle.syntax.specs.Reply.{Reply}
use Rattle.syntax.specs.declared.refusal.Refusal.TheVariants.{BufferTooShort}
use Rattle.reading.specs.declared.answer.Refused.{Refused}
use Rattle.reading.specs.Answering.{refused_at, value_reply}
use Rattle.reading.specs.JobText.{job_of}
use Rattle.reading.specs.Read.{Reading, job, refused, read}
use Rattle.finding.specs.Find.{Found, found, find, refused as unfound}
use Rattle.keeping.specs.Kept.{kept_length, kept}

-- The reply that an answer is: the length of what is kept.
abbrev pub keep_reply : Result ℕ Refused → Reply
keep_reply = value_reply

-- What is told, and what the lent output holds.
pub record Outcome : Type 0 where
  pub reply : Reply
  pub out : Bytes

abbrev pub left : Result ℕ Refused → Bytes → Outcome
left answer out = record { reply = keep_reply answer; out = out }

-- The named part is these bytes, and zeros behind them.
abbrev pub written : Bytes → Bytes → Bytes
written bytes lent = bytes ++ (replicate (kept_length - length bytes) 0 ++ drop kept_length lent)

-- The named part is zeros.
abbrev pub cleared : Bytes → Bytes
cleared lent = replicate kept_length 0 ++ drop kept_length lent

-- What is left of an output that is long enough, by the lists' names and what Find gives.
unfoldable pub left_by : List Bytes → Found → Bytes → Outcome
left_by names (found R) out = left (Ok (length (kept names R))) (written (kept names R) out)
left_by names (unfound r) out = left (Err (refused_at r 0)) (cleared out)

-- The same, by what reading the text gives.
unfoldable pub left_by_reading : Reading → Bytes → Outcome
left_by_reading (job J) out = left_by J.list_names (find (job_of J)) out
left_by_reading (refused r n) out = left (Err (refused_at r n)) out

unfoldable pub outcome : Bytes → Bytes → Outcome
outcome text out =
    elim (nat_lt (length out) kept_length) [
      | true ↦ left (Err (refused_at BufferTooShort 0)) out
      | false ↦ left_by_reading (read text) out
    ]
