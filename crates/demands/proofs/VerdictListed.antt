-- Verdict is as listed.
use Rattle.std.specs.Prelude.{ℕ, suc, ◌*◌, ◌≤◌, ◌<◌, List, [], ◌∷◌, ◌++◌, ◌⊎◌, ◌≡◌, refl, length, drop, replicate}
use Rattle.std.proofs.Common.{inl, inr, subst, arith, lit≤}
use Rattle.std.proofs.Math.Decide.{dec_lt}
use Rattle.std.proofs.lemmas.List.{length-replicate}
use Rattle.syntax.specs.declared.refusal.Refusal.TheVariants.{BadAllowance, BufferTooShort}
use Rattle.syntax.specs.Byte.{Bytes}
use Rattle.reading.specs.JobText.{NamedJob, job_of, IsJob}
use Rattle.reading.specs.Read.{Reading, job, refused, read}
use Rattle.reading.specs.ReadFacts.{read-facts}
use Rattle.finding.specs.Find.{Rewriting, find}
use Rattle.finding.specs.FindsUnique.{finds-unique}
use Rattle.finding.specs.FindCourse.{many-standings, many-states}
use Rattle.finding.specs.Outcome.{left_by as find_left}
use Rattle.finding.specs.Rewritten.{rewritten}
use Rattle.std.specs.Prelude.{Err}
use Rattle.reading.specs.Answering.{unlined}
use Rattle.verdict.specs.Verdict.{Verdict}
use Rattle.verdict.specs.Verdicts.{cover_places, DistinctPairs, CountsPairs}
use Rattle.verdict.specs.PairLaws.{distinct-at-most}
use Rattle.verdict.specs.VerdictJob.{verdict_job}
use Rattle.verdict.specs.VerdictOperation.{Outcome, left, left_by, left_by_reading, outcome, Sized}
use Rattle.verdict.specs.VerdictOperationLaws.{none_allowed, many-allowed, table-short, flags-short, path-short, workspace-short, text-judged}
use Rattle.demands.specs.Checks.{Passes, refusal}
use Rattle.demands.specs.ChecksLaws.{refuses-first, refuses-later, passes-both, refuses-under, passes-unless}
use Rattle.demands.specs.Lent.{Lent, lent, Within}
use Rattle.demands.specs.AsListed.{Zeroing, AsListed}
use Rattle.demands.proofs.AsListedLaws.{written-within, listed-unchanged, listed-zeroed, listed-answered}
use Rattle.demands.specs.Refusals.{read_checks, found_checks, places_check, pairs_check, verdict_checks}
use Rattle.demands.proofs.ReadListed.{TextCourse, refuses, reads, text-course, refuses-of, passes_of}
use Rattle.demands.proofs.FindListed.{eight-keeps, filled_within, text-sizes}
use Rattle.demands.specs.VerdictCourse.{VerdictCourse, Answered, unfound, many-places, many-pairs, whole, misses, verdict-course}

eleven-keeps : ¬ Zeroing 11
eleven-keeps (inl z) = omega arith
eleven-keeps (inr (inl z)) = omega arith
eleven-keeps (inr (inr (inl z))) = omega arith
eleven-keeps (inr (inr (inr z))) = omega arith

module _ (text : Bytes) (allowance : ℕ) (table flags path workspace : List ℕ) where
  abbrev buffers : Outcome → List Lent
  buffers o =
      lent 4096 table o.table ∷ (lent 256 flags o.flags ∷ (lent allowance path o.path
      ∷ (lent (18 * allowance) workspace o.workspace ∷ [])))

  abbrev VerdictListed : Outcome → Type 0
  VerdictListed o = AsListed (verdict_checks text allowance table flags path workspace) o.reply (buffers o)

  abbrev OutOfRange : Type 0
  OutOfRange = (allowance ≡ 0) ⊎ (4096 < allowance)

  abbrev Short : Type 0
  Short = (length table < 4096) ⊎ ((length flags < 256) ⊎ ((length path < allowance) ⊎ (length workspace < 18 * allowance)))

  out_of_range : OutOfRange → VerdictListed (left (Err (unlined BadAllowance)) table flags path workspace)
  out_of_range h =
      listed-unchanged _ _ (refuses-first _ (refuses-under 11 (lit≤ tt) h)) refl eleven-keeps (refl, (refl, (refl, (refl, tt))))

  module _ (some : 1 ≤ allowance) (few : allowance ≤ 4096) where
    in-range : Passes (refusal 11 OutOfRange)
    in-range = passes-unless 11 side
      where
        side : ¬ OutOfRange
        side (inl h) = omega arith
        side (inr h) = omega arith

    too_short : Short → VerdictListed (left (Err (unlined BufferTooShort)) table flags path workspace)
    too_short h =
        listed-unchanged _ _ (refuses-later in-range (refuses-first _ (refuses-under 8 (lit≤ tt) h))) refl eight-keeps
        (refl, (refl, (refl, (refl, tt))))

    module _ (z : Sized allowance table flags path workspace) where
      fits : Passes (refusal 8 Short)
      fits = passes-unless 8 side
        where
          side : ¬ Short
          side (inl h) = omega (arith, z.table-room)
          side (inr (inl h)) = omega (arith, z.flags-room)
          side (inr (inr (inl h))) = omega (arith, z.path_room)
          side (inr (inr (inr h))) = omega (arith, z.room)

      rooms : (4096 ≤ length table) × ((256 ≤ length flags) × ((allowance ≤ length path) × ((18 * allowance ≤ length workspace) × Unit {0})))
      rooms = (z.table-room, (z.flags-room, (z.path_room, (z.room, tt))))

      cleared-within : (n : ℕ) (before : List ℕ) → n ≤ length before → Within (lent n before (replicate n 0 ++ drop n before))
      cleared-within n before h = written-within n (replicate n 0) before (length-replicate n 0) h

      module _ (J : NamedJob) (e : read text ≡ job J) (p : Passes (read_checks text)) (j : IsJob text J) where
        found-passes : {R : Rewriting} → Answered (job_of J) R → Passes (found_checks text)
        found-passes a = passes-both p (passes-both (passes_of j 9 a.few-standings) (passes_of j 10 a.few-states))

        places-pass : {R : Rewriting} → Answered (job_of J) R → cover_places (job_of J) (rewritten R) ≤ 1024 → Passes (places_check text)
        places-pass {R} a h =
            passes_of j 12
            (λ (S, f, k).
            let q = subst (λ T. 1024 < cover_places (job_of J) (rewritten T)) (finds-unique (job_of J) f a.finds) k in
            omega arith)

        pairs-pass : {R : Rewriting} {n : ℕ} → Answered (job_of J) R → CountsPairs (job_of J) (rewritten R) n → n ≤ allowance
            → Passes (pairs_check text allowance)
        pairs-pass a c h =
            passes_of j 13
            (λ (S, f, k).
            let q = subst (λ T. DistinctPairs (job_of J) (rewritten T) (suc allowance)) (finds-unique (job_of J) f a.finds) k in
            omega (arith, distinct-at-most q c))

        given-within : {R : Rewriting} → Answered (job_of J) R
            → Within (lent 4096 table (find_left (find (job_of J)) table flags).table)
            × Within (lent 256 flags (find_left (find (job_of J)) table flags).flags)
        unfolding find_left
        given-within {R} a =
            let (s, t, u) = text-sizes text e a.gives in
            rw a.gives
            (filled_within 4096 R.table table (omega arith) z.table-room, filled_within 256 R.flags flags (omega arith) z.flags-room)

        by-course : (v : Verdict) → VerdictCourse (job_of J) allowance v
            → VerdictListed (left_by v (find_left (find (job_of J)) table flags) allowance table flags path workspace)
        by-course v (unfound (many-standings d)) =
            listed-zeroed _ _
            (refuses-later in-range (refuses-later fits (refuses-first _ (refuses-later p (refuses-first _ (refuses-of j 9 (lit≤ tt) d))))))
            refl (inl refl) rooms (refl, (refl, (refl, (refl, tt))))
        by-course v (unfound (many-states n d)) =
            listed-zeroed _ _
            (refuses-later in-range (refuses-later fits
            (refuses-first _ (refuses-later p (refuses-later (passes_of j 9 n) (refuses-of j 10 (lit≤ tt) d))))))
            refl (inr (inl refl)) rooms (refl, (refl, (refl, (refl, tt))))
        by-course v (many-places {R} a h) =
            listed-zeroed _ _
            (refuses-later in-range (refuses-later fits
            (refuses-later (found-passes a) (refuses-first _ (refuses-of j 12 (lit≤ tt) (R, a.finds, h))))))
            refl (inr (inr (inl refl))) rooms (refl, (refl, (refl, (refl, tt))))
        by-course v (many-pairs {R} a h d) =
            listed-zeroed _ _
            (refuses-later in-range (refuses-later fits
            (refuses-later (found-passes a) (refuses-later (places-pass a h) (refuses-of j 13 (lit≤ tt) (R, a.finds, d))))))
            refl (inr (inr (inr refl))) rooms (refl, (refl, (refl, (refl, tt))))
        by-course v (whole a h c l y) =
            let (s, t) = given-within a in
            listed-answered _ _
            (passes-both in-range (passes-both fits (passes-both (found-passes a) (passes-both (places-pass a h) (pairs-pass a c l))))) refl
            (s, (t, (cleared-within allowance path z.path_room, (cleared-within (18 * allowance) workspace z.room, tt))))
        by-course v (misses {p = q} a h c l f k) =
            let (s, t) = given-within a in
            listed-answered _ _
            (passes-both in-range (passes-both fits (passes-both (found-passes a) (passes-both (places-pass a h) (pairs-pass a c l))))) refl
            (s, (t, (filled_within allowance q path (omega arith) z.path_room, (cleared-within (18 * allowance) workspace z.room, tt))))

      by-text : (x : Reading) → read text ≡ x → TextCourse text x
          → VerdictListed (left_by_reading x allowance table flags path workspace)
      by-text (refused r n) e (refuses f k) =
          listed-unchanged _ _ (refuses-later in-range (refuses-later fits (refuses-first _ (refuses-first _ f)))) refl k
          (refl, (refl, (refl, (refl, tt))))
      by-text (job J) e (reads p j) =
          let f = read-facts text e in
          by-course J e p j (verdict_job (job_of J) allowance)
          (verdict-course (job_of J) f.well-formed (omega (arith, f.few-lists, f.as_many)) allowance)

  pub verdict-listed : VerdictListed (outcome text allowance table flags path workspace)
  verdict-listed =
      ranged (dec_lt 0 allowance) (dec_lt 4096 allowance) (dec_lt (length table) 4096) (dec_lt (length flags) 256)
      (dec_lt (length path) allowance) (dec_lt (length workspace) (18 * allowance))
    where
      ranged : Dec (0 < allowance) → Dec (4096 < allowance) → Dec (length table < 4096) → Dec (length flags < 256)
          → Dec (length path < allowance) → Dec (length workspace < 18 * allowance)
          → VerdictListed (outcome text allowance table flags path workspace)
      ranged (no a) b c d g h =
          subst VerdictListed (none_allowed text allowance table flags path workspace (omega arith)) (out_of_range (inl (omega arith)))
      ranged (yes a) (yes b) c d g h =
          subst VerdictListed (many-allowed text allowance table flags path workspace (omega arith) b) (out_of_range (inr b))
      ranged (yes a) (no b) (yes c) d g h =
          subst VerdictListed (table-short text allowance table flags path workspace (omega arith) (omega arith) c)
          (too_short (omega arith) (omega arith) (inl c))
      ranged (yes a) (no b) (no c) (yes d) g h =
          subst VerdictListed (flags-short text allowance table flags path workspace (omega arith) (omega arith) (omega arith) d)
          (too_short (omega arith) (omega arith) (inr (inl d)))
      ranged (yes a) (no b) (no c) (no d) (yes g) h =
          subst VerdictListed
          (path-short text allowance table flags path workspace (omega arith) (omega arith) (omega arith) (omega arith) g)
          (too_short (omega arith) (omega arith) (inr (inr (inl g))))
      ranged (yes a) (no b) (no c) (no d) (no g) (yes h) =
          subst VerdictListed
          (workspace-short text allowance table flags path workspace (omega arith) (omega arith) (omega arith) (omega arith) (omega arith) h)
          (too_short (omega arith) (omega arith) (inr (inr (inr h))))
      ranged (yes a) (no b) (no c) (no d) (no g) (no h) =
          let z : Sized allowance table flags path workspace = record {
            few = omega arith;
            table-room = omega arith;
            flags-room = omega arith;
            path_room = omega arith;
            room = omega arith;
          } in
          subst VerdictListed (text-judged text allowance table flags path workspace (omega arith) z refl)
          (by-text (omega arith) (omega arith) z (read text) refl (text-course text))
