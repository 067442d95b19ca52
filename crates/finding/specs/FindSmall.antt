-- What Find tells is small: no more standings and states than the limits, a first word shorter than there are states, and no line over one
-- more than the most bytes of a text.
use Rattle.std.specs.Prelude.{◌≡◌, ℕ, suc, ◌<◌, ◌≤◌, Bool, true, false, ◌||◌, List, length, nat_lt, slice_index_or, IfSome}
use Rattle.std.proofs.Math.Option.{Option, some, none}
use Rattle.std.specs.Prelude.{refl}
use Rattle.std.proofs.Common.{arith}
use Rattle.theory.specs.Word.{Word}
use Rattle.syntax.specs.Byte.{Bytes}
use Rattle.syntax.specs.declared.refusal.Refusal.{Refusal}
use Rattle.syntax.specs.declared.refusal.Refusal.TheVariants.{BufferTooShort}
use Rattle.reading.specs.Text.{most_text}
use Rattle.reading.specs.JobText.{NamedJob, job_of}
use Rattle.reading.specs.Read.{Reading, job, refused, read}
use Rattle.reading.specs.ReadLaws.{read-line}
use Rattle.finding.specs.WordTold.{first_word}
use Rattle.finding.specs.Find.{Rewriting, Found, found, find, most_standings, most_states, refused as unfound}
use Rattle.finding.specs.FoundSizes.{Sizes, job-sizes}
use Rattle.finding.specs.Outcome.{Leaving, left, Outcome, told, left_by, refused_with, found_answer}
use Rattle.finding.specs.Named.{table_part, flags_part}
use Rattle.finding.specs.Operation.{outcome, leaving, left_by_reading}

pub record Small (o : Outcome) : Type 0 where
  pub line : o.reply.line ≤ suc most_text
  pub standings : slice_index_or o.reply.values 0 0 ≤ most_standings
  pub states : slice_index_or o.reply.values 1 0 ≤ most_states
  pub short : IfSome o.first (λ f. f.length < most_states)

refused-small : (r : Refusal) (n : ℕ) (table flags : List ℕ) → n ≤ suc most_text → Small (told (left (refused_with r n) table flags))
unfolding first_word
refused-small r n table flags h = record { line = h; standings = omega arith; states = omega arith; short = tt }

told-small : (n : ℕ) (R : Rewriting) (table flags : List ℕ) → Sizes n most_standings most_states R → Small (told (left (found_answer R) table flags))
unfolding first_word
told-small n R table flags s =
    record { line = omega arith; standings = s.few-standings; states = s.few-states; short = word R.first refl }
  where
    word : (o : Option Word) → R.first ≡ o → IfSome (first_word o) (λ f. f.length < most_states)
    word none e = tt
    word (some w) e = omega (arith, s.short w e)

pub find-small : (text : Bytes) (table flags : List ℕ) → Small (outcome text table flags)
unfolding leaving left_by_reading left_by find
find-small text table flags = measured (nat_lt (length table) table_part || nat_lt (length flags) flags_part)
  where
    by-find : (x : Found) (J : NamedJob) → find (job_of J) ≡ x → Small (told (left_by x table flags))
    by-find (unfound r) J q = refused-small r 0 _ _ (omega arith)
    by-find (found R) J q = told-small _ R _ _ (job-sizes (job_of J) R q)

    by-reading : (x : Reading) → read text ≡ x → Small (told (left_by_reading x table flags))
    by-reading (refused r n) p = refused-small r n table flags (read-line text r n p)
    by-reading (job J) p = by-find (find (job_of J)) J refl

    measured : (b : Bool) → Small (told (elim b as (λ b. Leaving) [
      | true ↦ left (refused_with BufferTooShort 0) table flags
      | false ↦ left_by_reading (read text) table flags
    ]))
    measured true = refused-small BufferTooShort 0 table flags (omega arith)
    measured false = by-reading (read text) refl
