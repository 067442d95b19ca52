-- `Demand2` holds.
use Rattle.std.specs.Prelude.{ℕ, ◌≤◌, List, ◌↔◌, ◌≡◌, refl, length}
use Rattle.std.proofs.Common.{sym, ◌∙◌, subst, arith}
use Rattle.std.proofs.Math.Path.{ap}
use Rattle.theory.specs.Job.{Job}
use Rattle.syntax.specs.Byte.{Bytes}
use Rattle.reading.specs.JobText.{NamedJob, job_of, IsJob}
use Rattle.reading.specs.Read.{Reading, job, refused, read}
use Rattle.reading.specs.ReadLaws.{read-job, read-refused, job-unique}
use Rattle.reading.specs.Answering.{reply_of}
use Rattle.finding.specs.Find.{Found, find}
use Rattle.finding.specs.Finds.{DistinctStandings, DistinctStates}
use Rattle.finding.specs.FindCourse.{FindCourse, many-standings, many-states, answered}
use Rattle.finding.specs.Outcome.{told, left_by}
use Rattle.finding.specs.Operation.{outcome, left_by_reading, long-buffers}
use Rattle.demands.proofs.ReadListed.{refused-early}
use Rattle.demands.proofs.FindListed.{text-finds}
use Rattle.demands.specs.FindSays.{FindSays}
use Rattle.demands.proofs.FindSaysLaws.{find-says, find-determined}
use Rattle.demands.proofs.KeepSaysLaws.{keep-says, keep-determined}
use Rattle.demands.specs.Demand2.{Demand2}

-- Read.
read-accepted : (text : Bytes) → ((reply_of (read text)).number ≡ 0) ↔ ((J : NamedJob) × IsJob text J)
read-accepted text = (there (read text) refl, λ (J, j). ap (λ z. (reply_of z).number) ((read-job text J).1 j))
  where
    there : (z : Reading) → read text ≡ z → (reply_of z).number ≡ 0 → (J : NamedJob) × IsJob text J
    there (refused r n) e h = absurd (omega (arith, (refused-early ((read-refused text r n).0 e)).0))
    there (job J) e h = (J, (read-job text J).0 e)

-- 9 and 10, by how finding goes.
module _ (J : Job) (table flags : List ℕ) where
  nine : (z : Found) → FindCourse J z → ((told (left_by z table flags)).reply.number ≡ 9) ↔ DistinctStandings J.query J.labels 65
  unfolding left_by
  nine z (many-standings d) = (λ e. d, λ d. refl)
  nine z (many-states n d) = (λ e. absurd (omega arith), λ x. absurd (n x))
  nine z (answered n m f) = (λ e. absurd (omega arith), λ x. absurd (n x))

  ten : (z : Found) → FindCourse J z
      → ((told (left_by z table flags)).reply.number ≡ 10) ↔ ((¬ DistinctStandings J.query J.labels 65) × DistinctStates J 257)
  unfolding left_by
  ten z (many-standings d) = (λ e. absurd (omega arith), λ (n, x). absurd (n d))
  ten z (many-states n d) = (λ e. (n, d), λ x. refl)
  ten z (answered n m f) = (λ e. absurd (omega arith), λ (k, x). absurd (m x))

module _ (text : Bytes) (table flags : List ℕ) (J : NamedJob) (j : IsJob text J) (room : 4096 ≤ length table) (space : 256 ≤ length flags) where
  found_left : outcome text table flags ≡ told (left_by (find (job_of J)) table flags)
  unfolding left_by_reading
  found_left =
      ap told (long-buffers text table flags room space) ∙ ap (λ z. told (left_by_reading z table flags)) ((read-job text J).1 j)

  pub nine-exactly : ((outcome text table flags).reply.number ≡ 9) ↔ DistinctStandings J.query (length J.labels) 65
  nine-exactly =
      subst (λ o. (o.reply.number ≡ 9) ↔ DistinctStandings J.query (length J.labels) 65) (sym found_left)
      (nine (job_of J) table flags (find (job_of J)) (text-finds text ((read-job text J).1 j)))

  pub ten-exactly : ((outcome text table flags).reply.number ≡ 10)
      ↔ ((¬ DistinctStandings J.query (length J.labels) 65) × DistinctStates (job_of J) 257)
  ten-exactly =
      subst (λ o. (o.reply.number ≡ 10) ↔ ((¬ DistinctStandings J.query (length J.labels) 65) × DistinctStates (job_of J) 257))
      (sym found_left) (ten (job_of J) table flags (find (job_of J)) (text-finds text ((read-job text J).1 j)))

pub demand-2 : Demand2
demand-2 =
    record {
      accepted = read-accepted;
      counted = λ text J j. ap reply_of ((read-job text J).1 j);
      words = λ text table flags J j z.
          let (K, k, s) = find-says text table flags z in
          (subst (λ L. FindSays (job_of L) table flags (outcome text table flags)) (job-unique k j) s).sound;
      find = find-says;
      determined = λ J table flags o p. find-determined J table flags;
      standings = nine-exactly;
      states = ten-exactly;
      kept = keep-says;
      kept-determined = λ J out o p. keep-determined J out;
    }
