-- The verdict on a job: Find's rewriting, then the verdict on it (document 01, "Verdict", after Read's checks).
use Rattle.std.specs.Prelude.{ℕ, map}
use Rattle.theory.specs.Job.{Job}
use Rattle.theory.specs.Automaton.{glushkov}
use Rattle.finding.specs.Find.{Found, found, find}
use Rattle.finding.specs.Rewritten.{rewritten}
use Rattle.verdict.specs.Verdict.{Verdict, refused, verdict, most_places}

-- The verdict on what Find gives.
abbrev pub verdict_found : Job → ℕ → Found → Verdict
verdict_found J allowance (Found.refused r) = refused r
verdict_found J allowance (found R) =
    verdict (glushkov J.query) J.labels (rewritten R) (map glushkov J.lists) most_places allowance

unfoldable pub verdict_job : Job → ℕ → Verdict
verdict_job J allowance = verdict_found J allowance (find J)
