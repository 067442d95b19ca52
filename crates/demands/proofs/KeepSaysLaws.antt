-- Where Keep answers, it says what KeepSays has; and what that is determines the answer.
use Rattle.std.specs.Prelude.{◌-◌, Bool, [], ◌∷◌, ◌++◌, ◌≡◌, ltb}
use Rattle.std.proofs.Math.Bool.{true, false}
use Rattle.std.proofs.Math.Path.{refl}
use Rattle.std.proofs.Common.{sym, ap, ◌∙◌, arith}
use Rattle.std.proofs.Math.ListN.{length, drop, replicate}
use Rattle.syntax.specs.Byte.{Bytes}
use Rattle.syntax.specs.Reply.{given}
use Rattle.syntax.specs.declared.refusal.Refusal.TheVariants.{BufferTooShort}
use Rattle.reading.specs.JobText.{NamedJob, job_of, IsJob}
use Rattle.reading.specs.Read.{Reading, job, refused, read}
use Rattle.reading.specs.ReadLaws.{read-job, read-refused}
use Rattle.reading.specs.ReadFacts.{read-facts}
use Rattle.finding.specs.Find.{Found, found, find, refused as unfound}
use Rattle.finding.specs.FindsUnique.{finds-unique}
use Rattle.finding.specs.FindCourse.{FindCourse, many-standings, many-states, answered}
use Rattle.std.specs.Prelude.{Err}
use Rattle.reading.specs.Answering.{unlined}
use Rattle.keeping.specs.Kept.{kept_length, kept}
use Rattle.keeping.specs.KeptFileLaws.{file-lists, file-states, file-name, file-sound}
use Rattle.keeping.specs.KeepOperation.{Outcome, left, left_by, left_by_reading, outcome, written}
use Rattle.demands.proofs.ReadListed.{refused-early}
use Rattle.demands.proofs.FindListed.{text-finds}
use Rattle.demands.specs.KeepSays.{KeepSays}

module _ (text out : Bytes) where
  abbrev Says : Outcome → Type 0
  Says o = (J : NamedJob) × IsJob text J × KeepSays J out o

  by-found : (J : NamedJob) → read text ≡ job J → (z : Found) → FindCourse (job_of J) z → (left_by J.list_names z out).reply.number ≡ 0
      → KeepSays J out (left_by J.list_names z out)
  unfolding left_by
  by-found J e (unfound r) (many-standings d) z = absurd (omega arith)
  by-found J e (unfound r) (many-states n d) z = absurd (omega arith)
  by-found J e (found R) (answered n m f) z =
      let more : Bytes = replicate (kept_length - length (kept J.list_names R)) 0 ++ drop kept_length out in
      record {
        sound = file-sound J.list_names R more (job_of J) f (sym (read-facts text e).as_many);
        rewriting = R;
        finds = f;
        lists = file-lists J.list_names R more;
        names = file-name J.list_names R more;
        states = file-states J.list_names R more;
        bytes = refl;
        told = refl;
      }

  by-text : (x : Reading) → read text ≡ x → (left_by_reading x out).reply.number ≡ 0 → Says (left_by_reading x out)
  unfolding left_by_reading
  by-text (refused r n) e z = absurd (omega (arith, (refused-early ((read-refused text r n).0 e)).0))
  by-text (job J) e z = (J, (read-job text J).0 e, by-found J e (find (job_of J)) (text-finds text e) z)

  pub keep-says : (outcome text out).reply.number ≡ 0 → Says (outcome text out)
  unfolding outcome
  keep-says = measured (ltb (length out) kept_length)
    where
      measured : (b : Bool) → (elim b as (λ b. Outcome) [
        | true ↦ left (Err (unlined BufferTooShort)) out
        | false ↦ left_by_reading (read text) out
      ]).reply.number ≡ 0 → Says (elim b as (λ b. Outcome) [
        | true ↦ left (Err (unlined BufferTooShort)) out
        | false ↦ left_by_reading (read text) out
      ])
      measured true z = absurd (omega arith)
      measured false z = by-text (read text) refl z

pub keep-determined : (J : NamedJob) (out : Bytes) {o p : Outcome} → KeepSays J out o → KeepSays J out p → o ≡ p
keep-determined J out {o} {p} a b =
    let e = finds-unique (job_of J) a.finds b.finds in
    λ i. record {
      reply = (a.told ∙ (ap (λ R. given (length (kept J.list_names R) ∷ [])) e ∙ sym b.told)) i;
      out = (a.bytes ∙ (ap (λ R. written (kept J.list_names R) out) e ∙ sym b.bytes)) i;
    }
