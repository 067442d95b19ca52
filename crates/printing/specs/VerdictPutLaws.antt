-- Why the lines that are put for what Verdict tells are those of the verdict.
use Rattle.std.specs.Prelude.{ℕ, ◌*◌, ◌-◌, ◌≤◌, Bool, ◌&&◌, ◌≡◌, leb, drop, replicate, Result, Ok, Err}
use Rattle.std.proofs.Math.Bool.{true, false, and-eq-true_iff}
use mathlib.Core.List.{List, [], ◌∷◌, ◌++◌, append_assoc}
use Rattle.std.proofs.Math.Path.{refl, sym, ap, ap₂}
use Rattle.std.proofs.Common.{◌∙◌, arith, take_at}
use borrow.Author.Tests.{le-leb, leb-true}
use Rattle.std.proofs.Math.ListN.{length, take}
use Rattle.syntax.specs.declared.refusal.Refusal.{Refusal}
use Rattle.syntax.specs.declared.refusal.Refusal.TheVariants.{BadAllowance, BufferTooShort}
use Rattle.syntax.specs.declared.table.Span.{Span}
use Rattle.syntax.specs.Byte.{Bytes}
use Rattle.syntax.specs.Reply.{Reply}
use Rattle.syntax.specs.Resolve.{names_at}
use Rattle.reading.specs.Text.{line}
use Rattle.reading.specs.JobText.{NamedJob, job_of}
use Rattle.reading.specs.Read.{job, read}
use Rattle.finding.specs.Find.{find}
use Rattle.finding.specs.Outcome.{Leaving, left_by as find_left}
use Rattle.reading.specs.declared.answer.Refused.{Refused}
use Rattle.verdict.specs.declared.verdict.Verdict.{Verdict as Told}
use Rattle.verdict.specs.declared.verdict.Verdict.TheVariants.{Complete, Missed}
use Rattle.verdict.specs.Verdict.{Verdict, complete, missed, refused as unjudged}
use Rattle.verdict.specs.VerdictJob.{verdict_job}
use Rattle.verdict.specs.VerdictOperation.{verdict_reply, refused_with as unjudged_with, Outcome, left, left_by, left_by_reading, allowed, enough, outcome}
use Rattle.output.specs.Put.{Writing, puts, puts_then}
use Rattle.printing.specs.Lines.{complete_word, missed_word, pairs_word, refusal_line, count_line, named_line}
use Rattle.printing.specs.LinesLaws.{same-refusal}
use Rattle.printing.specs.Printed.{judged_by, judged_at, verdict_lines}
use Rattle.printing.specs.Printing.{Room, VerdictPut}

clash : {A : Type 0} → ◌≡◌ {A = ℕ} 0 1 → A
clash z = absurd (omega arith)

-- The values of an answer are those of its reply.
values : {a b : Result Told Refused} {o : Reply} → a ≡ b → verdict_reply a ≡ o → (verdict_reply b).values ≡ o.values
values e q = ap (λ y. y.values) (sym (ap verdict_reply e) ∙ q)

-- The path in front of a part that is written.
path-front : (n : ℕ) (p lent : List ℕ) → take (length p) ((p ++ replicate (n - length p) 0) ++ drop n lent) ≡ p
path-front n p lent =
    ap (take (length p)) (append_assoc p (replicate (n - length p) 0) (drop n lent)) ∙ take_at p _ (length p) refl

module _ (text : Bytes) (allowance : ℕ) (table flags path space : List ℕ) (wide : length table ≡ 4096) (long : length flags ≡ 256)
    (room : Room allowance path space) (a : Result Told Refused) (table' flags' path' space' : List ℕ)
    (left-told : left a table' flags' path' space' ≡ outcome text allowance table flags path space) (names : List Span) (w : Writing) where
  -- The answer tells a verdict.
  Tells : Verdict → Type 0
  Tells (complete n) = verdict_reply a ≡ verdict_reply (Ok (Complete n))
  Tells (missed p n) = (verdict_reply a ≡ verdict_reply (Ok (Missed (length p) n))) × (take (length p) path' ≡ p)
  Tells (unjudged r) = verdict_reply a ≡ verdict_reply (unjudged_with r 0)

  left-tells : (F : Leaving) (x : Verdict) → left a table' flags' path' space' ≡ left_by x F allowance table flags path space → Tells x
  unfolding Tells
  left-tells F (complete n) q = ap (λ o. o.reply) q
  left-tells F (missed p n) q = (
    ap (λ o. o.reply) q,
    ap (λ o. take (length p) o.path) q ∙ path-front allowance p path,
  )
  left-tells F (unjudged r) q = ap (λ o. o.reply) q

  sized : Bool → Outcome
  sized b =
      elim b [
        | false ↦ left (unjudged_with BufferTooShort 0) table flags path space
        | true ↦ left_by_reading (read text) allowance table flags path space
      ]

  ranged : Bool → Outcome
  unfolding sized
  ranged b =
      elim b [
        | false ↦ left (unjudged_with BadAllowance 0) table flags path space
        | true ↦ sized (enough allowance table flags path space)
      ]

  long-enough : allowance ≤ 4096 → enough allowance table flags path space ≡ true
  long-enough h =
      ap₂ ◌&&◌
      (ap₂ ◌&&◌ (le-leb 4096 (length table) (omega arith)) (le-leb 256 (length flags) (omega arith)))
      (ap₂ ◌&&◌ (le-leb allowance (length path) (room.path_room h)) (le-leb (18 * allowance) (length space) (room.words h)))

  -- What Verdict tells of a job.
  tells : (J : NamedJob) → read text ≡ job J → Tells (judged_at allowance (job_of J))
  unfolding outcome ranged sized Tells
  tells J e = by (allowed allowance) refl left-told
    where
      by : (b : Bool) → allowed allowance ≡ b → left a table' flags' path' space' ≡ ranged b → Tells (judged_by b allowance (job_of J))
      by false h q = ap (λ o. o.reply) q
      by true h q =
          let few : allowance ≤ 4096 = leb-true allowance 4096 ((and-eq-true_iff (leb 1 allowance) (leb allowance 4096)).0 h).1 in
          left-tells (find_left (find (job_of J)) table flags) (verdict_job (job_of J) allowance)
          (q ∙ (ap sized (long-enough few) ∙ ap (λ x. left_by_reading x allowance table flags path space) e))

  module _ {v : Writing} where
    -- The verdict on a job is the one that the answer tells.
    of-verdict : {l : Bytes} → v ≡ puts w l
        → ((J : NamedJob) → names_at text names ≡ J.labels → (x : Verdict) → Tells x → l ≡ verdict_lines J.labels x)
        → VerdictPut text names allowance w v
    of-verdict wrote h =
        record { told = λ J e n. wrote ∙ ap (puts w) (h J n (judged_at allowance (job_of J)) (tells J e)) }

    pub complete-put : (n : ℕ) {u : Writing} → a ≡ Ok (Complete n) → u ≡ puts w (line complete_word) → v ≡ puts u (count_line pairs_word n)
        → VerdictPut text names allowance w v
    unfolding verdict_lines Tells
    complete-put n e worded counted = of-verdict (puts_then w (line complete_word) (count_line pairs_word n) worded counted) there
      where
        there : (J : NamedJob) → names_at text names ≡ J.labels → (x : Verdict) → Tells x
            → line complete_word ++ count_line pairs_word n ≡ verdict_lines J.labels x
        there J k (complete m) q =
            let c : n ∷ [] ≡ m ∷ [] = values e q in
            let i : n ≡ m = cc in
            ap (λ j. line complete_word ++ count_line pairs_word j) i
        there J k (missed p m) q = let c : n ∷ [] ≡ m ∷ (length p ∷ []) = values e q.0 in clash (cc)
        there J k (unjudged r) q = let c : n ∷ [] ≡ [] = values e q in clash (cc)

    pub missed-put : (k n : ℕ) {u : Writing} {l : List ℕ} → a ≡ Ok (Missed k n) → l ≡ take k path'
        → u ≡ puts w (named_line missed_word (names_at text names) l) → v ≡ puts u (count_line pairs_word n)
        → VerdictPut text names allowance w v
    unfolding verdict_lines Tells
    missed-put k n {l = l} e f worded counted =
        of-verdict (puts_then w (named_line missed_word (names_at text names) l) (count_line pairs_word n) worded counted) there
      where
        there : (J : NamedJob) → names_at text names ≡ J.labels → (x : Verdict) → Tells x
            → named_line missed_word (names_at text names) l ++ count_line pairs_word n ≡ verdict_lines J.labels x
        there J h (complete m) q = let c : n ∷ (k ∷ []) ≡ m ∷ [] = values e q in clash (cc)
        there J h (unjudged r) q = let c : n ∷ (k ∷ []) ≡ [] = values e q in clash (cc)
        there J h (missed p m) q =
            let c : n ∷ (k ∷ []) ≡ m ∷ (length p ∷ []) = values e q.0 in
            let i : n ≡ m = cc in
            let j : k ≡ length p = cc in
            let g : l ≡ p = f ∙ (ap (λ t. take t path') j ∙ q.1) in
            ap₂ (λ (N : List Bytes) (t : List ℕ). named_line missed_word N t ++ count_line pairs_word n) h g
            ∙ ap (λ t. named_line missed_word J.labels p ++ count_line pairs_word t) i

    pub refused-put : (r : Refused) → a ≡ Err r → v ≡ puts w (refusal_line r.refusal r.line) → VerdictPut text names allowance w v
    unfolding verdict_lines Tells
    refused-put r e wrote = of-verdict wrote there
      where
        there : (J : NamedJob) → names_at text names ≡ J.labels → (x : Verdict) → Tells x → refusal_line r.refusal r.line ≡ verdict_lines J.labels x
        there J h (complete n) q = let c : [] ≡ n ∷ [] = values e q in clash (cc)
        there J h (missed p n) q = let c : [] ≡ n ∷ (length p ∷ []) = values e q.0 in clash (cc)
        there J h (unjudged s) q =
            let c : verdict_reply (Err r) ≡ verdict_reply (unjudged_with s 0) = sym (ap verdict_reply e) ∙ q in
            same-refusal r.refusal s (ap (λ y. y.number) c) (ap (λ y. y.line) c)
