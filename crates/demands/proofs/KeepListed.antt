-- Keep is as listed.
use Rattle.std.specs.Prelude.{ℕ, ◌-◌, ◌≤◌, ◌<◌, Bool, [], ◌∷◌, ◌++◌, ◌≡◌, length, drop, replicate}
use Rattle.std.proofs.Math.Bool.{true, false}
use Rattle.std.proofs.Common.{append_assoc, inl, inr, subst, arith, ltb-true, ltb-false, lit≤, length-append}
use Rattle.std.proofs.Math.Path.{refl}
use Rattle.std.proofs.Math.Dec.{ltb}
use Rattle.std.proofs.lemmas.List.{length-replicate}
use Rattle.syntax.specs.declared.refusal.Refusal.TheVariants.{BufferTooShort}
use Rattle.syntax.specs.Byte.{Bytes}
use Rattle.reading.specs.JobText.{NamedJob, job_of, IsJob}
use Rattle.reading.specs.Read.{Reading, job, refused, read}
use Rattle.reading.specs.ReadFacts.{read-facts}
use Rattle.finding.specs.Find.{Found, found, find, refused as unfound}
use Rattle.finding.specs.FindCourse.{FindCourse, many-standings, many-states, answered}
use Rattle.std.specs.Prelude.{Err}
use Rattle.reading.specs.Answering.{unlined}
use Rattle.keeping.specs.Kept.{kept_length, kept}
use Rattle.keeping.specs.KeptLaws.{kept-fits}
use Rattle.keeping.specs.KeepOperation.{Outcome, left, left_by, left_by_reading, outcome, written}
use Rattle.demands.specs.Checks.{Passes, refusal}
use Rattle.demands.specs.ChecksLaws.{refuses-first, refuses-later, passes-both, refuses-under, passes-unless}
use Rattle.demands.specs.Lent.{lent, Within}
use Rattle.demands.specs.AsListed.{AsListed}
use Rattle.demands.proofs.AsListedLaws.{written-within, listed-unchanged, listed-zeroed, listed-answered}
use Rattle.demands.specs.Refusals.{read_checks, states_check, keep_checks}
use Rattle.demands.proofs.ReadListed.{TextCourse, refuses, reads, text-course, refuses-of, passes_of}
use Rattle.demands.proofs.FindListed.{eight-keeps, text-finds, text-sizes}

kept-within : (bytes out : Bytes) → length bytes ≤ kept_length → kept_length ≤ length out → Within (lent kept_length out (written bytes out))
kept-within bytes out h k =
    subst (λ l. Within (lent kept_length out l)) (append_assoc bytes (replicate (kept_length - length bytes) 0) (drop kept_length out))
    (written-within kept_length (bytes ++ replicate (kept_length - length bytes) 0) out
    (omega (arith, length-append bytes (replicate (kept_length - length bytes) 0), length-replicate {A = ℕ} (kept_length - length bytes) 0)) k)

module _ (text out : Bytes) where
  abbrev KeepListed : Outcome → Type 0
  KeepListed o = AsListed (keep_checks text out) o.reply (lent 8728 out o.out ∷ [])

  module _ (room : 8728 ≤ length out) where
    fits : Passes (refusal 8 (length out < 8728))
    fits = passes-unless 8 (λ h. omega arith)

    by-found : (J : NamedJob) → read text ≡ job J → Passes (read_checks text) → IsJob text J → (z : Found) → find (job_of J) ≡ z
        → FindCourse (job_of J) z → KeepListed (left_by J.list_names z out)
    unfolding left_by
    by-found J e p j (unfound r) f (many-standings d) =
        listed-zeroed _ _ (refuses-later fits (refuses-later p (refuses-first (states_check text) (refuses-of j 9 (lit≤ tt) d)))) refl
        (inl refl) (room, tt) (refl, tt)
    by-found J e p j (unfound r) f (many-states n d) =
        listed-zeroed _ _ (refuses-later fits (refuses-later p (refuses-later (passes_of j 9 n) (refuses-of j 10 (lit≤ tt) d)))) refl
        (inr (inl refl)) (room, tt) (refl, tt)
    by-found J e p j (found R) f (answered n m g) =
        let (a, b, c) = text-sizes text e f in
        let facts = read-facts text e in
        listed-answered _ _ (passes-both fits (passes-both p (passes-both (passes_of j 9 n) (passes_of j 10 m)))) refl
        (kept-within (kept J.list_names R) out (kept-fits J.list_names R facts.few-lists facts.short-list-names c) room, tt)

    by-text : (z : Reading) → read text ≡ z → TextCourse text z → KeepListed (left_by_reading z out)
    unfolding left_by_reading
    by-text (refused r n) e (refuses f k) = listed-unchanged _ _ (refuses-later fits (refuses-first _ f)) refl k (refl, tt)
    by-text (job J) e (reads p j) = by-found J e p j (find (job_of J)) refl (text-finds text e)

  pub keep-listed : KeepListed (outcome text out)
  unfolding outcome
  keep-listed = measured (ltb (length out) kept_length) refl
    where
      measured : (b : Bool) → ltb (length out) kept_length ≡ b → KeepListed (elim b as (λ b. Outcome) [
        | true ↦ left (Err (unlined BufferTooShort)) out
        | false ↦ left_by_reading (read text) out
      ])
      measured true e =
          listed-unchanged _ _ (refuses-first _ (refuses-under 8 (lit≤ tt) (ltb-true (length out) kept_length e))) refl eight-keeps (refl, tt)
      measured false e = by-text (ltb-false (length out) kept_length e) (read text) refl (text-course text)
