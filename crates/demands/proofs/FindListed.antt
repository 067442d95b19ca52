-- Find is as listed.
use Rattle.std.specs.Prelude.{ℕ, ◌*◌, ◌-◌, ◌≤◌, ◌<◌, List, [], ◌∷◌, ◌++◌, ◌⊎◌, ◌≡◌, length, replicate}
use Rattle.std.proofs.Common.{inl, inr, sym, subst, arith, lit≤, length-append}
use Rattle.std.proofs.Math.Path.{refl}
use Rattle.std.proofs.Math.Decide.{dec_lt}
use Rattle.std.proofs.lemmas.List.{length-replicate}
use Rattle.syntax.specs.declared.refusal.Refusal.TheVariants.{BufferTooShort}
use Rattle.syntax.specs.Byte.{Bytes}
use Rattle.reading.specs.JobText.{NamedJob, job_of, IsJob}
use Rattle.reading.specs.Read.{Reading, job, refused, read}
use Rattle.reading.specs.ReadFacts.{read-facts}
use Rattle.finding.specs.Find.{Rewriting, Found, found, find, most_states, refused as unfound}
use Rattle.finding.specs.FoundSizes.{job-sizes}
use Rattle.finding.specs.Outcome.{Outcome, left, told, left_by, refused_with}
use Rattle.finding.specs.Named.{written}
use Rattle.finding.specs.Operation.{outcome, left_by_reading, short-table, short-flags, long-buffers}
use Rattle.demands.specs.Checks.{Passes}
use Rattle.demands.specs.ChecksLaws.{refuses-first, refuses-later, passes-both, refuses-under, passes-unless}
use Rattle.demands.specs.Lent.{lent, Within}
use Rattle.demands.specs.AsListed.{Zeroing, AsListed}
use Rattle.demands.proofs.AsListedLaws.{written-within, listed-unchanged, listed-zeroed, listed-answered}
use Rattle.demands.specs.Refusals.{read_checks, states_check, found_checks, find_checks}
use Rattle.finding.specs.FindCourse.{FindCourse, many-standings, many-states, answered, find-course}
use Rattle.demands.proofs.ReadListed.{TextCourse, refuses, reads, text-course, refuses-of, passes_of}

-- 8 keeps all buffers.
pub eight-keeps : ¬ Zeroing 8
eight-keeps (inl z) = omega arith
eight-keeps (inr (inl z)) = omega arith
eight-keeps (inr (inr (inl z))) = omega arith
eight-keeps (inr (inr (inr z))) = omega arith

-- A part that is written with zeros behind.
pub filled_within : (n : ℕ) (xs before : List ℕ) → length xs ≤ n → n ≤ length before → Within (lent n before (written n xs before))
filled_within n xs before h k =
    written-within n (xs ++ replicate (n - length xs) 0) before
    (omega (arith, length-append xs (replicate (n - length xs) 0), length-replicate {A = ℕ} (n - length xs) 0)) k

-- How finding on the job of a text goes.
module _ (text : Bytes) {J : NamedJob} (e : read text ≡ job J) where
  pub text-finds : FindCourse (job_of J) (find (job_of J))
  text-finds =
      let f = read-facts text e in
      find-course (job_of J) f.well-formed (omega (arith, f.few-lists, f.as_many))

  pub text-sizes : {R : Rewriting} → find (job_of J) ≡ found R
      → (length R.table ≡ 16 * R.states) × (length R.flags ≡ R.states) × (R.states ≤ most_states)
  text-sizes {R} h =
      let f = read-facts text e in
      let s = job-sizes (job_of J) R h in
      (s.table (omega (arith, f.few-lists, f.as_many)), s.flags, s.few-states)

module _ (text : Bytes) (table flags : List ℕ) where
  abbrev FindListed : Outcome → Type 0
  FindListed o = AsListed (find_checks text table flags) o.reply (lent 4096 table o.table ∷ (lent 256 flags o.flags ∷ []))

  short : (length table < 4096) ⊎ (length flags < 256) → FindListed (told (left (refused_with BufferTooShort 0) table flags))
  short h =
      listed-unchanged _ _ (refuses-first (found_checks text) (refuses-under 8 (lit≤ tt) h)) refl eight-keeps (refl, (refl, tt))

  module _ (room : 4096 ≤ length table) (flag-room : 256 ≤ length flags) where
    fits : Passes (λ n l. (n ≡ 8) × (l ≡ 0) × ((length table < 4096) ⊎ (length flags < 256)))
    fits = passes-unless 8 side
      where
        side : ¬ ((length table < 4096) ⊎ (length flags < 256))
        side (inl h) = omega arith
        side (inr h) = omega arith

    by-found : (J : NamedJob) → read text ≡ job J → Passes (read_checks text) → IsJob text J → (z : Found) → find (job_of J) ≡ z
        → FindCourse (job_of J) z → FindListed (told (left_by z table flags))
    unfolding left_by
    by-found J e p j (unfound r) f (many-standings d) =
        listed-zeroed _ _
        (refuses-later fits (refuses-later p (refuses-first (states_check text) (refuses-of j 9 (lit≤ tt) d)))) refl (inl refl)
        (room, (flag-room, tt)) (refl, (refl, tt))
    by-found J e p j (unfound r) f (many-states n d) =
        listed-zeroed _ _
        (refuses-later fits (refuses-later p (refuses-later (passes_of j 9 n) (refuses-of j 10 (lit≤ tt) d)))) refl (inr (inl refl))
        (room, (flag-room, tt)) (refl, (refl, tt))
    by-found J e p j (found R) f (answered n m g) =
        let (a, b, c) = text-sizes text e f in
        listed-answered _ _ (passes-both fits (passes-both p (passes-both (passes_of j 9 n) (passes_of j 10 m)))) refl
        (filled_within 4096 R.table table (omega arith) room, (filled_within 256 R.flags flags (omega arith) flag-room, tt))

    by-text : (z : Reading) → read text ≡ z → TextCourse text z → FindListed (told (left_by_reading z table flags))
    unfolding left_by_reading
    by-text (refused r n) e (refuses f k) =
        listed-unchanged _ _ (refuses-later fits (refuses-first _ f)) refl k (refl, (refl, tt))
    by-text (job J) e (reads p j) = by-found J e p j (find (job_of J)) refl (text-finds text e)

    long : FindListed (outcome text table flags)
    long =
        subst (λ o. FindListed (told o)) (sym (long-buffers text table flags room flag-room))
        (by-text (read text) refl (text-course text))

  pub find-listed : FindListed (outcome text table flags)
  find-listed = sized (dec_lt (length table) 4096) (dec_lt (length flags) 256)
    where
      sized : Dec (length table < 4096) → Dec (length flags < 256) → FindListed (outcome text table flags)
      sized (yes h) d =
          subst (λ o. FindListed (told o)) (short-table text table flags (refused_with BufferTooShort 0) h refl) (short (inl h))
      sized (no h) (yes k) =
          subst (λ o. FindListed (told o)) (short-flags text table flags (refused_with BufferTooShort 0) k refl) (short (inr k))
      sized (no h) (no k) = long (omega arith) (omega arith)
