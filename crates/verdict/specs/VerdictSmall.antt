-- What Verdict tells is small: no more pairs than the most allowance, a missed path shorter than that, and no line over one more than the
-- most bytes of a text.
use Rattle.std.specs.Prelude.{◌≡◌, ℕ, suc, ◌<◌, ◌≤◌, Bool, true, false, ◌&&◌, List, nat_le, slice_index_or}
use Rattle.std.proofs.Math.Path.{refl}
use Rattle.std.proofs.Common.{arith, leb-true}
use Rattle.syntax.specs.Byte.{Bytes}
use Rattle.syntax.specs.declared.refusal.Refusal.{Refusal}
use Rattle.syntax.specs.declared.refusal.Refusal.TheVariants.{BadAllowance, BufferTooShort}
use Rattle.reading.specs.Text.{most_text}
use Rattle.reading.specs.JobText.{job_of}
use Rattle.reading.specs.Read.{Reading, job, read}
use Rattle.reading.specs.ReadLaws.{read-line}
use Rattle.reading.specs.ReadFacts.{read-facts}
use Rattle.finding.specs.Find.{find}
use Rattle.finding.specs.Outcome.{Leaving, left_by as find_left}
use Rattle.verdict.specs.Verdict.{Verdict, complete, missed, refused}
use Rattle.verdict.specs.VerdictJob.{verdict_job}
use Rattle.verdict.specs.VerdictJobLaws.{FewPairs, job-few}
use Rattle.verdict.specs.VerdictOperation.{Outcome, left, refused_with, left_by, left_by_reading, most_allowance, enough, outcome}

pub record Small (o : Outcome) : Type 0 where
  pub line : o.reply.line ≤ suc most_text
  pub pairs : slice_index_or o.reply.values 0 0 ≤ most_allowance
  pub short : slice_index_or o.reply.values 1 0 < most_allowance

module _ (text : Bytes) (allowance : ℕ) (table flags path workspace : List ℕ) where
  refused-small : (r : Refusal) (n : ℕ) → n ≤ suc most_text → Small (left (refused_with r n) table flags path workspace)
  refused-small r n h = record { line = h; pairs = omega arith; short = omega arith }

  judged-small : (v : Verdict) (F : Leaving) → allowance ≤ most_allowance → FewPairs allowance v
      → Small (left_by v F allowance table flags path workspace)
  judged-small (complete n) F h f = record { line = omega arith; pairs = omega arith; short = omega arith }
  judged-small (missed p n) F h f =
      record { line = omega arith; pairs = omega (arith, f.0); short = omega (arith, f.0, f.1) }
  judged-small (refused r) F h f = record { line = omega arith; pairs = omega arith; short = omega arith }

  reading_small : (x : Reading) → read text ≡ x → allowance ≤ most_allowance → Small (left_by_reading x allowance table flags path workspace)
  reading_small (Reading.refused r n) e h = refused-small r n (read-line text r n e)
  reading_small (job J) e h =
      let f = read-facts text e in
      judged-small (verdict_job (job_of J) allowance) (find_left (find (job_of J)) table flags) h
      (job-few (job_of J) f.well-formed (omega (arith, f.as_many, f.few-lists)) allowance)

  pub verdict-small : Small (outcome text allowance table flags path workspace)
  unfolding outcome
  verdict-small = ranged (nat_le 1 allowance) (nat_le allowance most_allowance) refl
    where
      sized : (b : Bool) → allowance ≤ most_allowance → Small (elim b as (λ b. Outcome) [
        | false ↦ left (refused_with BufferTooShort 0) table flags path workspace
        | true ↦ left_by_reading (read text) allowance table flags path workspace
      ])
      sized true h = reading_small (read text) refl h
      sized false h = refused-small BufferTooShort 0 (omega arith)

      ranged : (a b : Bool) → nat_le allowance most_allowance ≡ b → Small (elim (a && b) as (λ b. Outcome) [
        | false ↦ left (refused_with BadAllowance 0) table flags path workspace
        | true ↦ elim (enough allowance table flags path workspace) [
          | false ↦ left (refused_with BufferTooShort 0) table flags path workspace
          | true ↦ left_by_reading (read text) allowance table flags path workspace
        ]
      ])
      ranged true true e = sized (enough allowance table flags path workspace) (leb-true allowance most_allowance e)
      ranged true false e = refused-small BadAllowance 0 (omega arith)
      ranged false b e = refused-small BadAllowance 0 (omega arith)
