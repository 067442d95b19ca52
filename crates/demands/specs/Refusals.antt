-- The checks of each operation, in document 01's order, said of the text, the numbers and the memory that a caller lends.
use Rattle.std.specs.Prelude.{ℕ, suc, ◌*◌, ◌≤◌, ◌<◌, List, ◌⊎◌, ◌≡◌, length}
use Rattle.theory.specs.Expression.{Expression}
use Rattle.theory.specs.Graph.{Table}
use Rattle.syntax.specs.Byte.{Bytes}
use Rattle.syntax.specs.Number.{number}
use Rattle.syntax.specs.declared.refusal.Refusal.{Refusal}
use Rattle.reading.specs.JobText.{NamedJob, job_of, IsJob}
use Rattle.reading.specs.Refusing.{Refused}
use Rattle.finding.specs.Find.{Rewriting}
use Rattle.finding.specs.Finds.{DistinctStandings, DistinctStates, Finds}
use Rattle.finding.specs.Rewritten.{rewritten}
use Rattle.verdict.specs.Verdicts.{cover_places, DistinctPairs}
use Rattle.answering.specs.Table.{IsTable}
use Rattle.answering.specs.Marked.{Chosen}
use Rattle.demands.specs.Checks.{Check, refusal, then}

-- The text is a job's, and P holds of that job.
abbrev pub Of : Bytes → (NamedJob → Type 0) → Type 0
Of text P = (J : NamedJob) × IsJob text J × P J

-- 1 to 7, with their lines.
abbrev pub read_checks : Bytes → Check
read_checks text n l = (r : Refusal) × (n ≡ number r) × Refused text r l

-- 9 and 10: over 64 standings of the query, over 256 states.
abbrev pub standings_check : Bytes → Check
standings_check text = refusal 9 (Of text (λ J. DistinctStandings J.query (length J.labels) 65))

abbrev pub states_check : Bytes → Check
states_check text = refusal 10 (Of text (λ J. DistinctStates (job_of J) 257))

abbrev pub found_checks : Bytes → Check
found_checks text = then (read_checks text) (then (standings_check text) (states_check text))

abbrev pub find_checks : Bytes → List ℕ → List ℕ → Check
find_checks text table flags = then (refusal 8 ((length table < 4096) ⊎ (length flags < 256))) (found_checks text)

abbrev pub keep_checks : Bytes → List ℕ → Check
keep_checks text out = then (refusal 8 (length out < 8728)) (found_checks text)

-- 12 and 13: over 1,024 cover places of the greatest rewriting, more distinct pairs than the allowance.
abbrev pub places_check : Bytes → Check
places_check text =
    refusal 12 (Of text (λ J. (R : Rewriting) × Finds (job_of J) R × (1024 < cover_places (job_of J) (rewritten R))))

abbrev pub pairs_check : Bytes → ℕ → Check
pairs_check text allowance =
    refusal 13 (Of text (λ J. (R : Rewriting) × Finds (job_of J) R × DistinctPairs (job_of J) (rewritten R) (suc allowance)))

abbrev pub verdict_checks : Bytes → ℕ → (table flags path workspace : List ℕ) → Check
verdict_checks text allowance table flags path workspace =
    then (refusal 11 ((allowance ≡ 0) ⊎ (4096 < allowance)))
    (then (refusal 8 ((length table < 4096) ⊎ ((length flags < 256) ⊎ ((length path < allowance) ⊎ (length workspace < 18 * allowance)))))
    (then (found_checks text) (then (places_check text) (pairs_check text allowance))))

-- 14 and 8, for N recordings and so many words of the workspace.
abbrev pub recordings_checks : ℕ → ℕ → List ℕ → List ℕ → Check
recordings_checks N words marks workspace =
    then (refusal 14 ((N ≡ 0) ⊎ (4096 < N))) (refusal 8 ((length marks < N) ⊎ (length workspace < words)))

abbrev pub start_check : ℕ → ℕ → Check
start_check N start = refusal 16 (N ≤ start)

-- 17, 15, 16 and 9, for the expression that is chosen.
abbrev pub links_checks : Bytes → (N chosen : ℕ) → Table → (start : ℕ) → (marks workspace : List ℕ) → Check
links_checks text N chosen links start marks workspace =
    then (recordings_checks N N marks workspace)
    (then (read_checks text)
    (then (refusal 17 (Of text (λ J. (e : Expression) → ¬ Chosen (job_of J) chosen e)))
    (then (refusal 15 (Of text (λ J. ¬ IsTable N (length J.labels) links)))
    (then (start_check N start)
    (refusal 9 (Of text (λ J. (e : Expression) × Chosen (job_of J) chosen e × DistinctStandings e (length J.labels) 65)))))))

abbrev pub lists_checks : Bytes → (N : ℕ) → Table → (start : ℕ) → (marks workspace : List ℕ) → Check
lists_checks text N lists start marks workspace =
    then (recordings_checks N (4 * N) marks workspace)
    (then (read_checks text)
    (then (refusal 15 (Of text (λ J. ¬ IsTable N (length J.lists) lists)))
    (then (start_check N start) (then (standings_check text) (states_check text)))))
