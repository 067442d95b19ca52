-- How Verdict on a job goes, in the order of its checks: as Find refuses; too many cover places; too many pairs; or a verdict.
use Rattle.std.specs.Prelude.{ℕ, suc, ◌≤◌, ◌<◌, ◌≡◌, length}
use Rattle.std.proofs.Math.Path.{refl}
use Rattle.std.proofs.Common.{sym, ◌∙◌, arith}
use Rattle.std.proofs.Math.Decide.{dec_lt}
use Rattle.theory.specs.Path.{Path}
use Rattle.theory.specs.Job.{Job, WellFormed}
use Rattle.theory.specs.Rewriting.{Complete, FirstMissed}
use Rattle.syntax.specs.declared.refusal.Refusal.{Refusal}
use Rattle.syntax.specs.declared.refusal.Refusal.TheVariants.{TooManyPlaces, TooManyPairs}
use Rattle.finding.specs.Find.{Rewriting, Found, found, find}
use Rattle.finding.specs.Finds.{DistinctStandings, DistinctStates, Finds}
use Rattle.finding.specs.Rewritten.{rewritten}
use Rattle.finding.specs.RewrittenLaws.{finds-decides}
use Rattle.finding.specs.FindCourse.{FindCourse, answered, find-course}
use Rattle.verdict.specs.Verdict.{Verdict, complete, missed, refused, most_places}
use Rattle.verdict.specs.Verdicts.{DistinctPairs, CountsPairs, cover_places}
use Rattle.verdict.specs.VerdictLaws.{Told, over-places, over-pairs, all-yielded, first-missed, job_verdict, verdict-told, verdict-places}
use Rattle.verdict.specs.VerdictJob.{verdict_found, verdict_job}

-- What Find gives where it refuses nothing.
pub record Answered (J : Job) (R : Rewriting) : Type 0 where
  pub gives : find J ≡ found R
  pub few-standings : ¬ DistinctStandings J.query J.labels 65
  pub few-states : ¬ DistinctStates J 257
  pub finds : Finds J R

pub data VerdictCourse (J : Job) (allowance : ℕ) : Verdict → Type 0 where
  unfound : {r : Refusal} → FindCourse J (Found.refused r) → VerdictCourse J allowance (refused r)
  many-places : {R : Rewriting} → Answered J R → 1024 < cover_places J (rewritten R) → VerdictCourse J allowance (refused TooManyPlaces)
  many-pairs : {R : Rewriting} → Answered J R → cover_places J (rewritten R) ≤ 1024 → DistinctPairs J (rewritten R) (suc allowance)
      → VerdictCourse J allowance (refused TooManyPairs)
  whole : {R : Rewriting} {n : ℕ} → Answered J R → cover_places J (rewritten R) ≤ 1024 → CountsPairs J (rewritten R) n → n ≤ allowance
      → Complete J → VerdictCourse J allowance (complete n)
  misses : {R : Rewriting} {n : ℕ} {p : Path} → Answered J R → cover_places J (rewritten R) ≤ 1024 → CountsPairs J (rewritten R) n
      → n ≤ allowance → FirstMissed J p → length p < n → VerdictCourse J allowance (missed p n)

module _ (J : Job) (formed : WellFormed J) (few : length J.lists ≤ 16) (allowance : ℕ) where
  judged : {R : Rewriting} → Answered J R → VerdictCourse J allowance (job_verdict J (rewritten R) most_places allowance)
  judged {R} a =
      let decides = finds-decides J R a.finds in
      go (dec_lt most_places (cover_places J (rewritten R))) (job_verdict J (rewritten R) most_places allowance) refl
      (verdict-told J (rewritten R) formed decides most_places allowance)
    where
      clash : {A : Type 0} → ◌≡◌ {A = ℕ} 0 1 → A
      clash z = absurd (omega arith)

      too_many : most_places < cover_places J (rewritten R) → job_verdict J (rewritten R) most_places allowance ≡ refused TooManyPlaces
      too_many h = (verdict-places J (rewritten R) formed (finds-decides J R a.finds) most_places allowance).1 h

      go : Dec (most_places < cover_places J (rewritten R)) → (v : Verdict) → job_verdict J (rewritten R) most_places allowance ≡ v
          → Told J (rewritten R) most_places allowance v → VerdictCourse J allowance v
      go d v e (over-places h) = many-places a h
      go d v e (over-pairs h x) = many-pairs a h x
      go (yes h) v e (all-yielded c k l) = let q = sym (too_many h) ∙ e in clash (cc)
      go (no h) v e (all-yielded c k l) = whole a (omega arith) k l c
      go (yes h) v e (first-missed f k l s) = let q = sym (too_many h) ∙ e in clash (cc)
      go (no h) v e (first-missed f k l s) = misses a (omega arith) k l f s

  pub verdict-course : VerdictCourse J allowance (verdict_job J allowance)
  unfolding verdict_job
  verdict-course = go (find J) refl (find-course J formed few)
    where
      go : (z : Found) → find J ≡ z → FindCourse J z → VerdictCourse J allowance (verdict_found J allowance z)
      go (Found.refused r) e c = unfound c
      go (found R) e (answered n m f) = judged (record { gives = e; few-standings = n; few-states = m; finds = f })
