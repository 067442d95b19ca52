-- Where Verdict answers, it says what VerdictSays has; and what that is determines the answer.
use Rattle.std.specs.Prelude.{ℕ, ◌≤◌, ◌<◌, Bool, List, [], ◌∷◌, ◌↔◌, ◌⊎◌, ◌≡◌, length, get_or, take}
use Rattle.std.proofs.Math.Bool.{true, false}
use Rattle.std.proofs.Common.{inl, inr, sym, ap₂, ◌∙◌, subst, arith}
use Rattle.std.proofs.Math.Path.{refl, ap}
use Rattle.std.proofs.Math.ListN.{get_or-eq_default}
use Rattle.theory.specs.Job.{Job}
use Rattle.theory.specs.Rewriting.{FirstMissed, Complete}
use Rattle.syntax.specs.Byte.{Bytes}
use Rattle.syntax.specs.Reply.{given}
use Rattle.syntax.specs.declared.refusal.Refusal.TheVariants.{BadAllowance, BufferTooShort}
use Rattle.reading.specs.JobText.{NamedJob, job_of, IsJob}
use Rattle.reading.specs.Read.{Reading, job, refused, read}
use Rattle.reading.specs.ReadLaws.{read-job, read-refused}
use Rattle.reading.specs.ReadFacts.{read-facts}
use Rattle.finding.specs.Find.{Rewriting, find}
use Rattle.finding.specs.FindsUnique.{finds-unique}
use Rattle.finding.specs.FindCourse.{many-standings, many-states}
use Rattle.finding.specs.Outcome.{left_by as find_left}
use Rattle.finding.specs.Named.{written}
use Rattle.finding.specs.WrittenLaws.{written-within}
use Rattle.finding.specs.Rewritten.{rewritten}
use Rattle.std.specs.Prelude.{Err}
use Rattle.reading.specs.Answering.{unlined}
use Rattle.verdict.specs.Verdict.{Verdict}
use Rattle.verdict.specs.Verdicts.{CountsPairs}
use Rattle.verdict.specs.PairLaws.{counts-unique}
use Rattle.verdict.specs.VerdictLaws.{first-unique}
use Rattle.verdict.specs.VerdictJob.{verdict_job}
use Rattle.verdict.specs.VerdictOperation.{Outcome, left, left_by, left_by_reading, allowed, enough, outcome}
use Rattle.demands.proofs.ReadListed.{refused-early}
use Rattle.demands.proofs.FindSaysLaws.{written-front}
use Rattle.demands.specs.VerdictCourse.{VerdictCourse, Answered, unfound, many-places, many-pairs, whole, misses, verdict-course}
use Rattle.demands.specs.VerdictSays.{SaysComplete, SaysMissed, VerdictSays}

module _ (text : Bytes) (allowance : ℕ) (table flags path workspace : List ℕ) where
  -- What is said of an answer, where o is what is left.
  abbrev Says : Outcome → Type 0
  Says o = (J : NamedJob) × IsJob text J × VerdictSays (job_of J) allowance table flags path workspace o

  module _ (J : NamedJob) where
    found_left : {R : Rewriting} → Answered (job_of J) R
        → ((find_left (find (job_of J)) table flags).table ≡ written 4096 R.table table)
        × ((find_left (find (job_of J)) table flags).flags ≡ written 256 R.flags flags)
    unfolding find_left
    found_left a = (ap (λ z. (find_left z table flags).table) a.gives, ap (λ z. (find_left z table flags).flags) a.gives)

    by-course : (v : Verdict) → VerdictCourse (job_of J) allowance v
        → (left_by v (find_left (find (job_of J)) table flags) allowance table flags path workspace).reply.number ≡ 0
        → VerdictSays (job_of J) allowance table flags path workspace
        (left_by v (find_left (find (job_of J)) table flags) allowance table flags path workspace)
    by-course v (unfound (many-standings d)) z = absurd (omega arith)
    by-course v (unfound (many-states n d)) z = absurd (omega arith)
    by-course v (many-places a h) z = absurd (omega arith)
    by-course v (many-pairs a h d) z = absurd (omega arith)
    by-course v (whole {R} {n} a h c l y) z =
        let (t, f) = found_left a in
        record {
          rewriting = R;
          finds = a.finds;
          table = t;
          flags = f;
          pairs = n;
          counted = c;
          verdict = inl (y, refl, refl);
          workspace = refl;
        }
    by-course v (misses {R} {n} {p} a h c l y s) z =
        let (t, f) = found_left a in
        record {
          rewriting = R;
          finds = a.finds;
          table = t;
          flags = f;
          pairs = n;
          counted = c;
          verdict = inr (p, y, refl, omega arith, refl);
          workspace = refl;
        }

  by-text : (x : Reading) → read text ≡ x → (left_by_reading x allowance table flags path workspace).reply.number ≡ 0
      → Says (left_by_reading x allowance table flags path workspace)
  by-text (refused r n) e z = absurd (omega (arith, (refused-early ((read-refused text r n).0 e)).0))
  by-text (job J) e z =
      let f = read-facts text e in (
        J,
        (read-job text J).0 e,
        by-course J (verdict_job (job_of J) allowance)
            (verdict-course (job_of J) f.well-formed (omega (arith, f.few-lists, f.as_many)) allowance) z,
      )

  pub verdict-says : (outcome text allowance table flags path workspace).reply.number ≡ 0
      → Says (outcome text allowance table flags path workspace)
  unfolding outcome
  verdict-says = ranged (allowed allowance) (enough allowance table flags path workspace)
    where
      ranged : (a b : Bool) → (elim a as (λ a. Outcome) [
        | false ↦ left (Err (unlined BadAllowance)) table flags path workspace
        | true ↦ elim b [
          | false ↦ left (Err (unlined BufferTooShort)) table flags path workspace
          | true ↦ left_by_reading (read text) allowance table flags path workspace
        ]
      ]).reply.number ≡ 0 → Says (elim a as (λ a. Outcome) [
        | false ↦ left (Err (unlined BadAllowance)) table flags path workspace
        | true ↦ elim b [
          | false ↦ left (Err (unlined BufferTooShort)) table flags path workspace
          | true ↦ left_by_reading (read text) allowance table flags path workspace
        ]
      ])
      ranged false b z = absurd (omega arith)
      ranged true false z = absurd (omega arith)
      ranged true true z = by-text (read text) refl z

-- What is said is complete exactly when every query path is yielded.
pub complete-exactly : (J : Job) (allowance : ℕ) (table flags path workspace : List ℕ) (o : Outcome)
    → VerdictSays J allowance table flags path workspace o → (length o.reply.values ≡ 1) ↔ Complete J
complete-exactly J allowance table flags path workspace o a = side a.verdict
  where
    side : SaysComplete J a.pairs allowance path o ⊎ SaysMissed J a.pairs allowance path o
        → (length o.reply.values ≡ 1) ↔ Complete J
    side (inl (c, r, z)) = (λ e. c, λ c. ap (λ t. length t.values) r)
    side (inr (p, f, r, l, z)) = (
      λ e. absurd (omega (arith, ap (λ t. length t.values) r)),
      λ c. absurd (f.0.1 (c p f.0.0)),
    )

-- Else the path that is left in the buffer, as long as is told, is the first missed one, and zeros stand behind it.
pub missed-left : (J : Job) (allowance : ℕ) (table flags path workspace : List ℕ) (o : Outcome)
    → VerdictSays J allowance table flags path workspace o → ¬ Complete J
    → FirstMissed J (take (get_or o.reply.values 1 0) o.path)
    × ((i : ℕ) → get_or o.reply.values 1 0 ≤ i → i < allowance → get_or o.path i 0 ≡ 0)
missed-left J allowance table flags path workspace o a n = side a.verdict
  where
    side : SaysComplete J a.pairs allowance path o ⊎ SaysMissed J a.pairs allowance path o
        → FirstMissed J (take (get_or o.reply.values 1 0) o.path)
        × ((i : ℕ) → get_or o.reply.values 1 0 ≤ i → i < allowance → get_or o.path i 0 ≡ 0)
    side (inl (c, r, z)) = absurd (n c)
    side (inr (p, f, r, l, z)) =
        let size : get_or o.reply.values 1 0 ≡ length p = ap (λ t. get_or t.values 1 0) r in
        let front : take (get_or o.reply.values 1 0) o.path ≡ p =
        ap₂ take size z ∙ written-front allowance p path (length p) refl in (
          subst (FirstMissed J) (sym front) f,
          λ i h k. ap (λ b. get_or b i 0) z ∙ (written-within allowance p path i k ∙ get_or-eq_default p 0 (omega arith)),
        )

pub verdict-determined : (J : Job) (allowance : ℕ) (table flags path workspace : List ℕ) {o q : Outcome}
    → VerdictSays J allowance table flags path workspace o → VerdictSays J allowance table flags path workspace q → o ≡ q
verdict-determined J allowance table flags path workspace {o} {q} a b = side a.verdict b.verdict
  where
    same : a.rewriting ≡ b.rewriting
    same = finds-unique J a.finds b.finds

    count : a.pairs ≡ b.pairs
    count = counts-unique (subst (λ R. CountsPairs J (rewritten R) a.pairs) same a.counted) b.counted

    whole-outcome : o.reply ≡ q.reply → o.path ≡ q.path → o ≡ q
    whole-outcome r p =
        λ i. record {
          reply = r i;
          table = (a.table ∙ (ap (λ R. written 4096 R.table table) same ∙ sym b.table)) i;
          flags = (a.flags ∙ (ap (λ R. written 256 R.flags flags) same ∙ sym b.flags)) i;
          path = p i;
          workspace = (a.workspace ∙ sym b.workspace) i;
        }

    side : SaysComplete J a.pairs allowance path o ⊎ SaysMissed J a.pairs allowance path o
        → SaysComplete J b.pairs allowance path q ⊎ SaysMissed J b.pairs allowance path q → o ≡ q
    side (inl (c, r, z)) (inl (d, s, y)) = whole-outcome (r ∙ (ap (λ n. given (n ∷ [])) count ∙ sym s)) (z ∙ sym y)
    side (inl (c, r, z)) (inr (p, f, s, m, y)) = absurd (f.0.1 (c p f.0.0))
    side (inr (p, f, r, l, z)) (inl (d, s, y)) = absurd (f.0.1 (d p f.0.0))
    side (inr (p, f, r, l, z)) (inr (u, g, s, m, y)) =
        let e = first-unique J p u f g in
        whole-outcome (r ∙ (ap₂ (λ n p. given (n ∷ (length p ∷ []))) count e ∙ sym s)) (z ∙ (ap (λ p. written allowance p path) e ∙ sym y))
