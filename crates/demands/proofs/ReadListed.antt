-- Read is as listed, and so is the reading of the text in every other operation.
use Rattle.std.specs.Prelude.{ℕ, ◌≤◌, ◌<◌, [], ◌≡◌, refl}
use Rattle.std.proofs.Common.{inl, inr, sym, ap, ◌∙◌, subst, arith, lit≤}
use Rattle.syntax.specs.declared.refusal.Refusal.{Refusal}
use Rattle.syntax.specs.Byte.{Bytes}
use Rattle.syntax.specs.Number.{number}
use Rattle.syntax.specs.Check.{Fault}
use Rattle.reading.specs.JobText.{NamedJob, IsJob}
use Rattle.reading.specs.Refusing.{Progress, LineFault, Refused}
use Rattle.reading.specs.Read.{Reading, job, refused, read}
use Rattle.reading.specs.ReadLaws.{read-job, read-refused, job-unique}
use Rattle.reading.specs.Answering.{reply_of}
use Rattle.demands.specs.Checks.{Passes, refusal}
use Rattle.demands.specs.ChecksLaws.{Refusing, refuses-under, passes-unless}
use Rattle.demands.specs.AsListed.{Zeroing, AsListed}
use Rattle.demands.proofs.AsListedLaws.{listed-unchanged, listed-answered}
use Rattle.demands.specs.Refusals.{Of, read_checks}

-- The refusals met in reading a text are 1 to 7.
abbrev pub Early : ℕ → Type 0
Early n = (1 ≤ n) × (n ≤ 7)

fault-early : {labels : _} {s : Bytes} {r : Refusal} → Fault labels s r → Early (number r)
fault-early (Fault.long h) = (lit≤ tt, lit≤ tt)
fault-early (Fault.ungrammatical h g) = (lit≤ tt, lit≤ tt)
fault-early (Fault.deep h d n) = (lit≤ tt, lit≤ tt)
fault-early (Fault.unknown h d n f) = (lit≤ tt, lit≤ tt)
fault-early (Fault.many h d n r m) = (lit≤ tt, lit≤ tt)

line-early : {P : Progress} {s : Bytes} {r : Refusal} → LineFault P s r → Early (number r)
line-early (LineFault.form f g h) = (lit≤ tt, lit≤ tt)
line-early (LineFault.many-labels n a h) = (lit≤ tt, lit≤ tt)
line-early (LineFault.label-name n a h f) = (lit≤ tt, lit≤ tt)
line-early (LineFault.query t a f) = fault-early f
line-early (LineFault.many-lists n t a h) = (lit≤ tt, lit≤ tt)
line-early (LineFault.list-name n t a h f) = (lit≤ tt, lit≤ tt)
line-early (LineFault.list n t a h g f) = fault-early f

pub refused-early : {text : Bytes} {r : Refusal} {n : ℕ} → Refused text r n → Early (number r)
refused-early (Refused.long h) = (lit≤ tt, lit≤ tt)
refused-early (Refused.faulty l more h e g w f) = line-early f
refused-early (Refused.unclosed l h e k g w) = (lit≤ tt, lit≤ tt)
refused-early (Refused.no-query h g q) = (lit≤ tt, lit≤ tt)

pub early-keeps : {n : ℕ} → Early n → ¬ Zeroing n
early-keeps (a, b) (inl z) = omega arith
early-keeps (a, b) (inr (inl z)) = omega arith
early-keeps (a, b) (inr (inr (inl z))) = omega arith
early-keeps (a, b) (inr (inr (inr z))) = omega arith

-- How reading a text goes: it is refused, or it is a job's.
pub data TextCourse (text : Bytes) : Reading → Type 0 where
  refuses : {r : Refusal} {n : ℕ} → Refusing (read_checks text) (number r) n → ¬ Zeroing (number r) → TextCourse text (refused r n)
  reads : {J : NamedJob} → Passes (read_checks text) → IsJob text J → TextCourse text (job J)

pub text-course : (text : Bytes) → TextCourse text (read text)
text-course text = go (read text) refl
  where
    clash : {A : Type 0} → ◌≡◌ {A = ℕ} 0 1 → A
    clash z = absurd (omega arith)

    go : (z : Reading) → read text ≡ z → TextCourse text z
    go (refused r n) e =
        let f = (read-refused text r n).0 e in
        let early = refused-early f in
        refuses {r = r} {n = n}
        (record {
          given = (r, refl, f);
          only = λ m k (s, q, g).
              let d : refused s k ≡ refused r n = sym ((read-refused text s k).1 g) ∙ e in
              let same : s ≡ r = cc in
              (q ∙ ap number same, cc);
          numbered = omega (arith, early.0);
        })
        (early-keeps early)
    go (job J) e =
        reads
        (λ n l (r, q, g). let d : job J ≡ refused r l = sym e ∙ (read-refused text r l).1 g in clash (cc))
        ((read-job text J).0 e)

-- What is asked of the job of a text that is read.
module _ {text : Bytes} {J : NamedJob} (j : IsJob text J) (n : ℕ) {P : NamedJob → Type 0} where
  pub refuses-of : 0 < n → P J → Refusing (refusal n (Of text P)) n 0
  refuses-of h p = refuses-under n h (J, j, p)

  pub passes_of : ¬ P J → Passes (refusal n (Of text P))
  passes_of f = passes-unless n (λ (K, k, p). f (subst P (job-unique k j) p))

pub read-listed : (text : Bytes) → AsListed (read_checks text) (reply_of (read text)) []
read-listed text = go (read text) (text-course text)
  where
    go : (z : Reading) → TextCourse text z → AsListed (read_checks text) (reply_of z) []
    go (refused r n) (refuses f e) = listed-unchanged (reply_of (refused r n)) [] f refl e tt
    go (job J) (reads p j) = listed-answered (reply_of (job J)) [] p refl tt
