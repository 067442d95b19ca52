-- Both answers are as listed.
use Rattle.std.specs.Prelude.{ℕ, ◌*◌, ◌≤◌, ◌<◌, true, false, ◌||◌, List, [], ◌∷◌, ◌++◌, ◌⊎◌, ◌≡◌, eqb, length, drop, replicate}
use Rattle.std.proofs.Common.{inl, inr, sym, subst, arith, lit≤}
use Rattle.std.proofs.Math.Path.{refl}
use Rattle.std.proofs.Math.Decide.{dec_lt}
use Rattle.std.proofs.lemmas.List.{length-replicate}
use Rattle.theory.specs.Expression.{Expression}
use Rattle.theory.specs.Job.{Job}
use Rattle.theory.specs.Graph.{Table}
use Rattle.syntax.specs.Reply.{refusing}
use Rattle.syntax.specs.Number.{number}
use Rattle.syntax.specs.declared.refusal.Refusal.{Refusal}
use Rattle.syntax.specs.declared.refusal.Refusal.TheVariants.{BadRecordings, BufferTooShort}
use Rattle.syntax.specs.Byte.{Bytes}
use Rattle.reading.specs.JobText.{NamedJob, job_of, IsJob}
use Rattle.reading.specs.Read.{Reading, job, refused, read}
use Rattle.reading.specs.ReadFacts.{read-facts}
use Rattle.finding.specs.Finds.{DistinctStandings}
use Rattle.answering.specs.Table.{IsTable}
use Rattle.answering.specs.Marked.{Chosen}
use Rattle.answering.specs.MarkedLaws.{chosen-determined}
use Rattle.answering.specs.AnswerJob.{Marking, marked, links_job, lists_job, refused as unmarked}
use Rattle.answering.specs.Courses.{LinksCourse, ListsCourse, links-course, lists-course}
use Rattle.answering.specs.LinksOperation.{Outcome, outcome, left_of, by_reading, lent_checked, links_answer}
use Rattle.answering.specs.ListsOperation.{lists_answer}
use Rattle.answering.specs.AnswerChecks.{none-refused, many-refused, marks-short, workspace-short, all-lent}
use Rattle.demands.specs.Checks.{Check, Passes, refusal, then}
use Rattle.demands.specs.ChecksLaws.{Refusing, refuses-first, refuses-later, passes-both, refuses-under, passes-unless}
use Rattle.demands.specs.Lent.{lent}
use Rattle.demands.specs.AsListed.{Zeroing, AsListed}
use Rattle.demands.proofs.AsListedLaws.{written-within, listed-unchanged, listed-zeroed, listed-answered}
use Rattle.demands.specs.Refusals.{Of, read_checks, recordings_checks, start_check, standings_check, states_check, links_checks, lists_checks}
use Rattle.demands.proofs.ReadListed.{TextCourse, refuses, reads, text-course, refuses-of, passes_of}
use Rattle.demands.proofs.FindListed.{eight-keeps}

-- 14 to 17 keep all buffers.
late-keeps : {n : ℕ} → 14 ≤ n → ¬ Zeroing n
late-keeps h (inl z) = omega arith
late-keeps h (inr (inl z)) = omega arith
late-keeps h (inr (inr (inl z))) = omega arith
late-keeps h (inr (inr (inr z))) = omega arith

-- What the checks on a text's job and its marks or refusal have to do with each other.
pub data JobListed (checks : Check) (N : ℕ) : Marking → Type 0 where
  keeps : {r : Refusal} → Refusing checks (number r) 0 → ¬ Zeroing (number r) → (eqb (number r) 9 || eqb (number r) 10) ≡ false
      → JobListed checks N (unmarked r)
  zeroes : {r : Refusal} → Refusing checks (number r) 0 → Zeroing (number r) → (eqb (number r) 9 || eqb (number r) 10) ≡ true
      → JobListed checks N (unmarked r)
  answers : {m : List ℕ} → Passes checks → length m ≡ N → JobListed checks N (marked m)

-- What both answers share: the checks of what is lent, then those of the text and of its job.
module _ (text : Bytes) (N words : ℕ) (before workspace : List ℕ) (checks : Check) (answer : Job → Marking) where
  abbrev AnswerListed : Outcome → Type 0
  AnswerListed o =
      AsListed (then (recordings_checks N words before workspace) (then (read_checks text) checks)) o.reply
      (lent N before o.marks ∷ (lent words workspace o.workspace ∷ []))

  abbrev after_reading : Reading → Outcome
  after_reading z = by_reading (λ J. left_of N words before workspace (answer J)) before workspace z

  out_of_range : (N ≡ 0) ⊎ (4096 < N) → AnswerListed (outcome (refusing BadRecordings 0) before workspace)
  out_of_range h =
      listed-unchanged _ _ (refuses-first _ (refuses-first _ (refuses-under 14 (lit≤ tt) h))) refl (late-keeps (lit≤ tt)) (refl, (refl, tt))

  in-range : 1 ≤ N → N ≤ 4096 → Passes (refusal 14 ((N ≡ 0) ⊎ (4096 < N)))
  in-range a b = passes-unless 14 side
    where
      side : ¬ ((N ≡ 0) ⊎ (4096 < N))
      side (inl h) = omega arith
      side (inr h) = omega arith

  too_short : 1 ≤ N → N ≤ 4096 → (length before < N) ⊎ (length workspace < words)
      → AnswerListed (outcome (refusing BufferTooShort 0) before workspace)
  too_short a b h =
      listed-unchanged _ _ (refuses-first _ (refuses-later (in-range a b) (refuses-under 8 (lit≤ tt) h))) refl eight-keeps (refl, (refl, tt))

  module _ (some : 1 ≤ N) (few : N ≤ 4096) (room : N ≤ length before) (space : words ≤ length workspace) where
    lent-passes : Passes (recordings_checks N words before workspace)
    lent-passes = passes-both (in-range some few) (passes-unless 8 side)
      where
        side : ¬ ((length before < N) ⊎ (length workspace < words))
        side (inl h) = omega arith
        side (inr h) = omega arith

    by-job : Passes (read_checks text) → (z : Marking) → JobListed checks N z → AnswerListed (left_of N words before workspace z)
    by-job p (unmarked r) (keeps f k e) =
        subst (λ b. AnswerListed (elim b as (λ b. Outcome) [
          | true ↦ outcome (refusing r 0) (replicate N 0 ++ drop N before) (replicate words 0 ++ drop words workspace)
          | false ↦ outcome (refusing r 0) before workspace
        ])) (sym e)
        (listed-unchanged _ _ (refuses-later lent-passes (refuses-later p f)) refl k (refl, (refl, tt)))
    by-job p (unmarked r) (zeroes f k e) =
        subst (λ b. AnswerListed (elim b as (λ b. Outcome) [
          | true ↦ outcome (refusing r 0) (replicate N 0 ++ drop N before) (replicate words 0 ++ drop words workspace)
          | false ↦ outcome (refusing r 0) before workspace
        ])) (sym e)
        (listed-zeroed _ _ (refuses-later lent-passes (refuses-later p f)) refl k (room, (space, tt)) (refl, (refl, tt)))
    by-job p (marked m) (answers f e) =
        listed-answered _ _ (passes-both lent-passes (passes-both p f)) refl
        (written-within N m before e room, (written-within words (replicate words 0) workspace (length-replicate words 0) space, tt))

    by-text : ((J : NamedJob) → read text ≡ job J → IsJob text J → JobListed checks N (answer (job_of J)))
        → (z : Reading) → read text ≡ z → TextCourse text z → AnswerListed (after_reading z)
    by-text h (refused r n) e (refuses f k) =
        listed-unchanged _ _ (refuses-later lent-passes (refuses-first checks f)) refl k (refl, (refl, tt))
    by-text h (job J) e (reads p j) = by-job p (answer (job_of J)) (h J e j)

  pub answer-listed : ((J : NamedJob) → read text ≡ job J → IsJob text J → JobListed checks N (answer (job_of J)))
      → AnswerListed (lent_checked N words before workspace (after_reading (read text)))
  answer-listed h = ranged (dec_lt 0 N) (dec_lt 4096 N) (dec_lt (length before) N) (dec_lt (length workspace) words)
    where
      ranged : Dec (0 < N) → Dec (4096 < N) → Dec (length before < N) → Dec (length workspace < words)
          → AnswerListed (lent_checked N words before workspace (after_reading (read text)))
      ranged (no a) b c d =
          subst AnswerListed (none-refused N words before workspace (after_reading (read text)) (omega arith)) (out_of_range (inl (omega arith)))
      ranged (yes a) (yes b) c d =
          subst AnswerListed (many-refused N words before workspace (after_reading (read text)) (omega arith) b) (out_of_range (inr b))
      ranged (yes a) (no b) (yes c) d =
          subst AnswerListed (marks-short N words before workspace (after_reading (read text)) (omega arith) (omega arith) c)
          (too_short (omega arith) (omega arith) (inl c))
      ranged (yes a) (no b) (no c) (yes d) =
          subst AnswerListed
          (workspace-short N words before workspace (after_reading (read text)) (omega arith) (omega arith) (omega arith) d)
          (too_short (omega arith) (omega arith) (inr d))
      ranged (yes a) (no b) (no c) (no d) =
          subst AnswerListed
          (all-lent N words before workspace (after_reading (read text)) (omega arith) (omega arith) (omega arith) (omega arith) refl)
          (by-text (omega arith) (omega arith) (omega arith) (omega arith) h (read text) refl (text-course text))

module _ (text : Bytes) (N c : ℕ) (t : Table) (x : ℕ) (before workspace : List ℕ) where
  pub links-listed : let o = links_answer text N c t x before workspace in
      AsListed (links_checks text N c t x before workspace) o.reply (lent N before o.marks ∷ (lent N workspace o.workspace ∷ []))
  unfolding links_answer
  links-listed =
      answer-listed text N N before workspace _ (λ J. links_job J N c t x)
      (λ J e j. course J j (links_job (job_of J) N c t x) (links-course (job_of J) N c t x))
    where
      course : (J : NamedJob) → IsJob text J → (z : Marking) → LinksCourse (job_of J) N c t x z → JobListed
          (then (refusal 17 (Of text (λ J. (e : Expression) → ¬ Chosen (job_of J) c e)))
          (then (refusal 15 (Of text (λ J. ¬ IsTable N (length J.labels) t)))
          (then (start_check N x)
          (refusal 9 (Of text (λ J. (e : Expression) × Chosen (job_of J) c e × DistinctStandings e (length J.labels) 65))))))
          N z
      course J j z (LinksCourse.absent f) = keeps (refuses-first _ (refuses-of j 17 (lit≤ tt) f)) (late-keeps (lit≤ tt)) refl
      course J j z (LinksCourse.bad-table {e} k f) =
          keeps (refuses-later (passes_of j 17 (λ n. n e k)) (refuses-first _ (refuses-of j 15 (lit≤ tt) f))) (late-keeps (lit≤ tt)) refl
      course J j z (LinksCourse.bad-start {e} k p h) =
          keeps (refuses-later (passes_of j 17 (λ n. n e k))
          (refuses-later (passes_of j 15 (λ n. n p)) (refuses-first _ (refuses-under 16 (lit≤ tt) h)))) (late-keeps (lit≤ tt)) refl
      course J j z (LinksCourse.many-standings {e} k p h d) =
          zeroes (refuses-later (passes_of j 17 (λ n. n e k))
          (refuses-later (passes_of j 15 (λ n. n p)) (refuses-later (passes-unless 16 (λ n. omega arith)) (refuses-of j 9 (lit≤ tt) (e, k, d)))))
          (inl refl) refl
      course J j z (LinksCourse.marks {e} {m} k p h d o) =
          answers (passes-both (passes_of j 17 (λ n. n e k))
          (passes-both (passes_of j 15 (λ n. n p)) (passes-both (passes-unless 16 (λ n. omega arith))
          (passes_of j 9 (λ (f, l, q). d (subst (λ g. DistinctStandings g (length J.labels) 65) (chosen-determined l k) q))))))
          o.size

module _ (text : Bytes) (N : ℕ) (t : Table) (x : ℕ) (before workspace : List ℕ) where
  pub lists-listed : let o = lists_answer text N t x before workspace in
      AsListed (lists_checks text N t x before workspace) o.reply
      (lent N before o.marks ∷ (lent (4 * N) workspace o.workspace ∷ []))
  unfolding lists_answer
  lists-listed =
      answer-listed text N (4 * N) before workspace _ (λ J. lists_job J N t x)
      (λ J e j.
      let f = read-facts text e in
      course J j (lists_job (job_of J) N t x)
      (lists-course (job_of J) f.well-formed (omega (arith, f.few-lists, f.as_many)) N t x))
    where
      course : (J : NamedJob) → IsJob text J → (z : Marking) → ListsCourse (job_of J) N t x z → JobListed
          (then (refusal 15 (Of text (λ J. ¬ IsTable N (length J.lists) t)))
          (then (start_check N x) (then (standings_check text) (states_check text))))
          N z
      course J j z (ListsCourse.bad-table f) = keeps (refuses-first _ (refuses-of j 15 (lit≤ tt) f)) (late-keeps (lit≤ tt)) refl
      course J j z (ListsCourse.bad-start p h) =
          keeps (refuses-later (passes_of j 15 (λ n. n p)) (refuses-first _ (refuses-under 16 (lit≤ tt) h))) (late-keeps (lit≤ tt)) refl
      course J j z (ListsCourse.many-standings p h d) =
          zeroes (refuses-later (passes_of j 15 (λ n. n p))
          (refuses-later (passes-unless 16 (λ n. omega arith)) (refuses-first _ (refuses-of j 9 (lit≤ tt) d)))) (inl refl) refl
      course J j z (ListsCourse.many-states p h n d) =
          zeroes (refuses-later (passes_of j 15 (λ n. n p))
          (refuses-later (passes-unless 16 (λ n. omega arith)) (refuses-later (passes_of j 9 n) (refuses-of j 10 (lit≤ tt) d))))
          (inr (inl refl)) refl
      course J j z (ListsCourse.marks p h n d o) =
          answers (passes-both (passes_of j 15 (λ n. n p))
          (passes-both (passes-unless 16 (λ n. omega arith)) (passes-both (passes_of j 9 n) (passes_of j 10 d)))) o.size
