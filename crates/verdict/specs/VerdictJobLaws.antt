-- What a verdict on a job means (demand 3, second part): T6 on the rewriting that Find gives.
use Rattle.std.specs.Prelude.{◌≡◌, ℕ, ◌<◌, ◌≤◌, ◌⊎◌, length}
use Rattle.std.proofs.Common.{inl, inr, sym, ◌∙◌, ap, subst}
use Rattle.std.proofs.Math.Path.{refl}
use Rattle.theory.specs.Path.{Path}
use Rattle.theory.specs.Job.{Job, WellFormed}
use Rattle.theory.specs.Rewriting.{Complete, FirstMissed}
use Rattle.syntax.specs.declared.refusal.Refusal.{Refusal}
use Rattle.syntax.specs.declared.refusal.Refusal.TheVariants.{TooManyStandings, TooManyStates}
use Rattle.finding.specs.Find.{Rewriting, Found, found, find}
use Rattle.finding.specs.Finds.{DistinctStandings, DistinctStates}
use Rattle.finding.specs.FindLaws.{find-finds, find-standings, find-states, find-refusals}
use Rattle.finding.specs.Rewritten.{rewritten}
use Rattle.finding.specs.RewrittenLaws.{finds-decides}
use Rattle.verdict.specs.Verdict.{Verdict, complete, missed, refused, most_places}
use Rattle.verdict.specs.VerdictLaws.{Told, over-places, over-pairs, all-yielded, first-missed, verdict-told}
use Rattle.verdict.specs.VerdictJob.{verdict_found, verdict_job}

-- What each answer tells of the job, Find's refusals included.
pub data JobTold (J : Job) (allowance : ℕ) : Verdict → Type 0 where
  many-standings : DistinctStandings J.query J.labels 65 → JobTold J allowance (refused TooManyStandings)
  many-states : ¬ DistinctStandings J.query J.labels 65 → DistinctStates J 257 → JobTold J allowance (refused TooManyStates)
  judged : {v : Verdict} (R : Rewriting) → find J ≡ found R → Told J (rewritten R) most_places allowance v → JobTold J allowance v

-- What is told is small: no more pairs than are allowed, and a missed path shorter than their number.
abbrev pub FewPairs : ℕ → Verdict → Type 0
FewPairs allowance (complete n) = n ≤ allowance
FewPairs allowance (missed p n) = (n ≤ allowance) × (length p < n)
FewPairs allowance (refused r) = Unit

module _ (J : Job) (formed : WellFormed J) (few : length J.lists ≤ 16) (allowance : ℕ) where
  on-refused : (r : Refusal) → find J ≡ Found.refused r → (r ≡ TooManyStandings) ⊎ (r ≡ TooManyStates) → JobTold J allowance (refused r)
  on-refused r e (inl s) =
      subst (λ x. JobTold J allowance (refused x)) (sym s) (many-standings ((find-standings J).0 (e ∙ ap Found.refused s)))
  on-refused r e (inr s) =
      let (n, d) = (find-states J formed).0 (e ∙ ap Found.refused s) in
      subst (λ x. JobTold J allowance (refused x)) (sym s) (many-states n d)

  -- The verdict tells what holds of the job, in each case.
  pub verdict-job : JobTold J allowance (verdict_job J allowance)
  unfolding verdict_job
  verdict-job = told (find J) refl
    where
      told : (o : Found) → find J ≡ o → JobTold J allowance (verdict_found J allowance o)
      told (Found.refused r) e = on-refused r e (find-refusals J r e)
      told (found R) e =
          judged R e (verdict-told J (rewritten R) formed (finds-decides J R (find-finds J formed few R e)) most_places allowance)

  told-complete : {n : ℕ} → JobTold J allowance (complete n) → Complete J
  told-complete (judged R e (all-yielded c k h)) = c

  told-missed : {p : Path} {n : ℕ} → JobTold J allowance (missed p n) → FirstMissed J p
  told-missed (judged R e (first-missed f k h s)) = f

  -- A complete verdict: every query path is yielded.
  pub job-complete : (n : ℕ) → verdict_job J allowance ≡ complete n → Complete J
  job-complete n e = told-complete (subst (JobTold J allowance) e verdict-job)

  -- Else the path that is named is the first missed one.
  pub job-missed : (p : Path) (n : ℕ) → verdict_job J allowance ≡ missed p n → FirstMissed J p
  job-missed p n e = told-missed (subst (JobTold J allowance) e verdict-job)

  told-few : {v : Verdict} → JobTold J allowance v → FewPairs allowance v
  told-few (many-standings d) = tt
  told-few (many-states n d) = tt
  told-few (judged R e (over-places h)) = tt
  told-few (judged R e (over-pairs h d)) = tt
  told-few (judged R e (all-yielded c k h)) = h
  told-few (judged R e (first-missed f k h s)) = (h, s)

  pub job-few : FewPairs allowance (verdict_job J allowance)
  job-few = told-few verdict-job
