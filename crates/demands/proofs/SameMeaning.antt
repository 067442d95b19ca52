-- `SameMeaning` holds.
use Rattle.std.specs.Prelude.{ℕ, ◌+◌, ◌*◌, ◌≤◌, List, [], ◌++◌, ◌↔◌, ◌≡◌, refl, length, take}
use Rattle.std.proofs.Math.Logic.Iff
use Rattle.std.proofs.Math.Path.{sym, ap}
use Rattle.std.proofs.Common.{ap₂, subst, ◌∙◌, take_at}
use native.Mathlib.Omega.{arith}
use Rattle.std.proofs.Math.ListN.{get_or}
use Rattle.theory.specs.Path.{Below}
use Rattle.theory.specs.Word.{Word}
use Rattle.theory.specs.Job.{Job, IsWord}
use Rattle.theory.specs.Rewriting.{Sound, Accepted, SameContinuations}
use Rattle.theory.proofs.GreatestRewriting.{accepted-exactly-sound}
use Rattle.theory.specs.Deterministic.{Deterministic, Accepts, Complete}
use Rattle.syntax.specs.Byte.{Bytes}
use Rattle.reading.specs.JobText.{NamedJob, job_of, IsJob}
use Rattle.reading.specs.ReadLaws.{read-job, job-unique}
use Rattle.reading.specs.ReadFacts.{read-facts}
use Rattle.finding.specs.Find.{Rewriting, found}
use Rattle.finding.specs.Finds.{followed, Finds}
use Rattle.finding.specs.FindsCanonical.{finds-accepts, finds-minimal, same-states, same-table, same_flags}
use Rattle.finding.specs.FindCourse.{FindCourse, followed-written}
use Rattle.finding.specs.Outcome.{told, left_by}
use Rattle.finding.specs.Operation.{outcome}
use Rattle.keeping.specs.Kept.{kept}
use Rattle.keeping.specs.KeptLaws.{kept-agree}
use Rattle.keeping.specs.KeptFile.{file_flag, file_followed}
use Rattle.keeping.specs.KeptFileLaws.{file-sound}
use Rattle.keeping.specs.KeepOperation.{Outcome, outcome as keep_outcome}
use Rattle.demands.proofs.FindListed.{text-finds, text-sizes}
use Rattle.demands.proofs.FindSaysLaws.{find-answered, course-finds}
use Rattle.demands.specs.KeepSays.{KeepSays}
use Rattle.demands.proofs.KeepSaysLaws.{keep-says}
use Rattle.demands.specs.SameMeaning.{SameMeaning, kept_bytes}

-- Accepted continuations are sound ones.
continuations : (J : Job) (v w : Word) → SameContinuations J v w
    ↔ ((u : Word) → IsWord J u → Sound J (v ++ u) ↔ Sound J (w ++ u))
continuations J v w = (
  λ s u b. Iff.trans (Iff.symm (accepted-exactly-sound J (v ++ u))) (Iff.trans (s u b) (accepted-exactly-sound J (w ++ u))),
  λ s u b. Iff.trans (accepted-exactly-sound J (v ++ u)) (Iff.trans (s u b) (Iff.symm (accepted-exactly-sound J (w ++ u)))),
)

-- As many lists as names.
as_many : (text : Bytes) (J : NamedJob) → IsJob text J → length J.lists ≡ length J.list_names
as_many text J j = (read-facts text ((read-job text J).1 j)).as_many

-- Find's answer on the job of a text.
record Answered (text : Bytes) (table flags : List ℕ) (J : NamedJob) : Type 0 where
  rewriting : Rewriting
  finds : Finds (job_of J) rewriting
  few : rewriting.states ≤ 256
  fits : length (job_of J).lists ≤ 16
  leaves : outcome text table flags ≡ told (left_by (found rewriting) table flags)

answered-of : (text : Bytes) (table flags : List ℕ) (J : NamedJob) → IsJob text J → (outcome text table flags).reply.number ≡ 0
    → Answered text table flags J
answered-of text table flags J j z =
    let a = find-answered text table flags z in
    let f = read-facts text a.reads in
    let (s, t, few) = text-sizes text a.reads a.gives in
    subst (Answered text table flags) (job-unique ((read-job text a.named).0 a.reads) j)
    (record {
      rewriting = a.rewriting;
      finds = course-finds (subst (FindCourse (job_of a.named)) a.gives (text-finds text a.reads));
      few = few;
      fits = omega (arith, f.few-lists, f.as_many);
      leaves = a.leaves;
    })

module _ (text : Bytes) (table flags : List ℕ) (J : NamedJob) (a : Answered text table flags J) where
  states-told : (v w : Word) → IsWord (job_of J) v → IsWord (job_of J) w
      → (followed (outcome text table flags).table 0 v ≡ followed (outcome text table flags).table 0 w)
      ↔ ((u : Word) → IsWord (job_of J) u → Sound (job_of J) (v ++ u) ↔ Sound (job_of J) (w ++ u))
  unfolding left_by
  states-told v w b c =
      Iff.trans (λ e. sym (ends v b) ∙ e ∙ ends w c, λ e. ends v b ∙ e ∙ sym (ends w c))
      (Iff.trans (a.finds.same v w b c) (continuations (job_of J) v w))
    where
      ends : (u : Word) → IsWord (job_of J) u → followed (outcome text table flags).table 0 u ≡ followed a.rewriting.table 0 u
      ends u l =
          ap (λ o. followed o.table 0 u) a.leaves ∙ followed-written (job_of J) a.finds a.few table flags a.fits u l

  fewest-told : (E : Deterministic) → Complete E → E.symbols ≡ length J.lists
      → ((w : Word) → IsWord (job_of J) w → Accepts E w ↔ Sound (job_of J) w) → get_or (outcome text table flags).reply.values 1 0 ≤ E.states
  unfolding left_by
  fewest-told E C e words =
      let told = ap (λ o. get_or o.reply.values 1 0) a.leaves in
      omega (
        arith,
        told,
        finds-minimal (job_of J) a.finds E C (record {
          symbols = sym e;
          words = λ w b.
              Iff.trans (finds-accepts (job_of J) a.finds w b) (Iff.trans (accepted-exactly-sound (job_of J) w) (Iff.symm (words w b)));
        }),
      )

-- The kept bytes of a job.
kept-bytes : (J : NamedJob) (out : Bytes) (o : Outcome) (s : KeepSays J out o) → kept_bytes o ≡ kept J.list_names s.rewriting
kept-bytes J out o s =
    ap₂ (λ r b. take (get_or r.values 0 0) b) s.told s.bytes
    ∙ take_at (kept J.list_names s.rewriting) _ (length (kept J.list_names s.rewriting)) refl

module _ (J K : NamedJob) (many : length J.lists ≡ length J.list_names) (many' : length K.lists ≡ length K.list_names)
    (names : J.list_names ≡ K.list_names) {R S : Rewriting} (F : Finds (job_of J) R) (G : Finds (job_of K) S) where
  lists-same : length J.lists ≡ length K.lists
  lists-same = many ∙ ap length names ∙ sym many'

  -- Files that are equal accept the same words.
  files-words : kept J.list_names R ≡ kept K.list_names S → (w : Word) → IsWord (job_of J) w → Sound (job_of J) w ↔ Sound (job_of K) w
  files-words e w b =
      let l : IsWord (job_of K) w = subst (λ n. Below n w) lists-same b in
      let q : file_flag (kept J.list_names R ++ []) (file_followed (kept J.list_names R ++ []) 0 w)
      ≡ file_flag (kept K.list_names S ++ []) (file_followed (kept K.list_names S ++ []) 0 w) =
      ap (λ f. file_flag (f ++ []) (file_followed (f ++ []) 0 w)) e in
      Iff.trans (Iff.symm (file-sound J.list_names R [] (job_of J) F (sym many) w b))
      (Iff.trans (λ t. sym q ∙ t, λ t. q ∙ t) (file-sound K.list_names S [] (job_of K) G (sym many') w l))

  -- Where the accepted words are the same, so are the tables, and so the files.
  words-files : ((w : Word) → IsWord (job_of J) w → Sound (job_of J) w ↔ Sound (job_of K) w) → kept J.list_names R ≡ kept K.list_names S
  words-files words =
      kept-agree J.list_names R S (same-states (job_of J) (job_of K) F G lists-same accepted)
      (record {
        nexts = λ s v h k. ap (λ t. get_or t (16 * s + v) 0) (same-table (job_of J) (job_of K) F G lists-same accepted);
        flags = λ s h. ap (λ t. get_or t s 0) (same_flags (job_of J) (job_of K) F G lists-same accepted);
      })
      ∙ ap (λ n. kept n S) names
    where
      accepted : (w : Word) → IsWord (job_of J) w → Accepted (job_of J) w ↔ Accepted (job_of K) w
      accepted w b = Iff.trans (accepted-exactly-sound (job_of J) w) (Iff.trans (words w b) (Iff.symm (accepted-exactly-sound (job_of K) w)))

pub same-meaning : SameMeaning
same-meaning =
    record {
      states = λ text table flags J j z. states-told text table flags J (answered-of text table flags J j z);
      fewest = λ text table flags J j z E C e.
          fewest-told text table flags J (answered-of text table flags J j z) E C (e ∙ sym (as_many text J j));
      files = λ text text' out out' J K j k names x y.
          let (L, l, s) = keep-says text out x in
          let (M, m, t) = keep-says text' out' y in
          let s' = subst (λ N. KeepSays N out (keep_outcome text out)) (job-unique l j) s in
          let t' = subst (λ N. KeepSays N out' (keep_outcome text' out')) (job-unique m k) t in
          let o = kept-bytes J out (keep_outcome text out) s' in
          let p = kept-bytes K out' (keep_outcome text' out') t' in
          let there = files-words J K (as_many text J j) (as_many text' K k) names s'.finds t'.finds in
          let back = words-files J K (as_many text J j) (as_many text' K k) names s'.finds t'.finds in
          (λ e. there (sym o ∙ e ∙ p), λ words. o ∙ back words ∙ sym p);
    }
