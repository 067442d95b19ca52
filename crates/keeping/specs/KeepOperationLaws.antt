-- The code's steps leave what Keep leaves (KeepOperation): Find's tables are the rewriting's with zeros behind, so they are written as it
-- is.
use Rattle.std.specs.Prelude.{◌≡◌, ℕ, suc, ◌+◌, ◌-◌, ◌*◌, ◌<◌, ◌≤◌, min, Bool, true, false, List, ◌++◌, length, take, drop, replicate, nat_lt, slice_index, slice_index_or, Result, Ok, Err}
use Rattle.std.proofs.Math.Path.{refl, sym, ap, ap₂, subst}
use Rattle.std.proofs.Common.{◌∙◌, lt-ltb, le-ltb}
use native.Mathlib.Omega.{arith}
use Rattle.std.proofs.Math.ListN.{length-take, length-drop}
use Rattle.syntax.specs.Byte.{Bytes}
use Rattle.syntax.specs.Resolve.{names_at}
use Rattle.syntax.specs.declared.table.Span.{Span}
use Rattle.syntax.specs.declared.refusal.Refusal.{Refusal}
use Rattle.syntax.specs.declared.refusal.Refusal.TheVariants.{BufferTooShort}
use Rattle.reading.specs.declared.answer.Job.{Job}
use Rattle.reading.specs.declared.answer.Refused.{Refused}
use Rattle.reading.specs.Text.{most_text}
use Rattle.reading.specs.JobText.{NamedJob, job_of}
use Rattle.reading.specs.Read.{Reading, job, refused, read}
use Rattle.reading.specs.ReadLaws.{read-line}
use Rattle.reading.specs.ReadFacts.{ShortNames, read-facts}
use Rattle.reading.specs.Answering.{counts, refused_at, answer_of}
use Rattle.reading.specs.Tables.{Tables, lists_from}
use Rattle.reading.specs.Loading.{Loaded}
use Rattle.finding.specs.declared.answer.Found.{Found as Told}
use Rattle.finding.specs.Find.{Found, found, find, refused as unfound}
use Rattle.finding.specs.FoundSizes.{job-sizes}
use Rattle.finding.specs.Outcome.{left as both, counted, refused_with, found_answer, left_by as both_by}
use Rattle.finding.specs.WordTold.{first_word}
use Rattle.finding.specs.WrittenLaws.{written_read}
use Rattle.finding.specs.Operation.{left_by_reading as both_by_reading, job-told, long-buffers, reading-found}
use Rattle.finding.specs.CoreTold.{CoreTold}
use Rattle.keeping.specs.Kept.{kept_length}
use Rattle.keeping.specs.Write.{Agree, lent, Within, Keeps, Writes}
use Rattle.keeping.specs.KeptLaws.{kept-fits}
use Rattle.keeping.specs.KeepOperation.{Outcome, left, cleared, left_by, left_by_reading, outcome}

clash : {A : Type 0} → ◌≡◌ {A = ℕ} 0 1 → A
clash z = absurd (omega arith)

module _ (text : Bytes) (T : Tables) (labels lists : ℕ) (before : Bytes) (places : length T.names ≡ 48) (table flags : List ℕ)
    (wide : length table ≡ 4096) (long : length flags ≡ 256) (f : Result Told Refused) (table' flags' : List ℕ)
    (core : CoreTold T.follow T.enter T.sizes T.accepting labels lists 64 256 table flags f table' flags')
    (room : kept_length ≤ length before) (loaded : Loaded text (Ok (counts labels lists)) T) where
  -- What Find leaves for a job.
  job-left : (J : NamedJob) → read text ≡ job J → both f table' flags' ≡ both_by (find (job_of J)) table flags
  unfolding both_by_reading
  job-left J e =
      reading-found text table flags (omega arith) (omega arith) (Ok (counts labels lists)) T loaded labels lists f table' flags' refl core
      ∙ (long-buffers text table flags (omega arith) (omega arith) ∙ ap (λ x. both_by_reading x table flags) e)

  -- The tables are those of a job.
  of-job : {o : Outcome}
      → ((J : NamedJob) → read text ≡ job J → lists ≡ length J.list_names → (x : Found) → find (job_of J) ≡ x
      → o ≡ left_by J.list_names x before)
      → o ≡ left_by_reading (read text) before
  unfolding left_by_reading
  of-job h =
      let (J, p, m, n) = job-told (read text) (sym loaded.answer) in
      h J p (sym n) (find (job_of J)) refl ∙ sym (ap (λ x. left_by_reading x before) p)

  -- The names that are written are those of the lists, up to the end of the table.
  pub job-kept : (g : Told) (spans : List Span) (told : ℕ) (after : Bytes) → f ≡ Ok g → spans ≡ take lists (drop lists_from T.names)
      → Writes text spans g.states table' flags' before told after
      → left (Ok told) after ≡ left_by_reading (read text) before
  unfolding left_by both_by find
  job-kept g spans told after e same written-names = of-job there
    where
      there : (J : NamedJob) → read text ≡ job J → lists ≡ length J.list_names → (x : Found) → find (job_of J) ≡ x
          → left (Ok told) after ≡ left_by J.list_names x before
      there J p k (unfound r) q =
          let b : both f table' flags' ≡ both_by (unfound r) table flags = job-left J p ∙ ap (λ x. both_by x table flags) q in
          let c : Ok g ≡ refused_with r 0 = sym e ∙ ap (λ o. o.answer) b in
          clash (cc)
      there J p k (found R) q =
          let b : both f table' flags' ≡ both_by (found R) table flags = job-left J p ∙ ap (λ x. both_by x table flags) q in
          let c : Ok g ≡ found_answer R = sym e ∙ ap (λ o. o.answer) b in
          let d : g ≡ counted R.standings R.states (first_word R.first) = cc in
          let s : R.states ≡ g.states = sym (ap (λ (x : Told). x.states) d) in
          let few : R.states ≤ 256 = (job-sizes (job_of J) R q).few-states in
          let names : names_at text spans ≡ J.list_names =
          ap (names_at text) same ∙ ap (λ i. names_at text (take i (drop lists_from T.names))) k ∙ (loaded.holds J p).lists in
          let count : length spans ≡ lists = omega (
            arith,
            (read-facts text p).few-lists,
            ap length same,
            length-take lists (drop lists_from T.names),
            length-drop lists_from T.names,
          ) in
          let within : Within spans g.states before = omega (arith, (read-facts text p).few-lists) in
          let agree : Agree R (lent g.states table' flags') (length spans) g.states = record {
            nexts = λ s v i j. sym (ap (λ o. slice_index o.table (16 * s + v)) b ∙ written_read 4096 R.table table (16 * s + v) wide);
            flags = λ s i. sym (ap (λ o. slice_index o.flags s) b ∙ written_read 256 R.flags flags s long);
          } in
          let keeps : Keeps J.list_names R before told after =
          subst (λ N. Keeps N R before told after) names
          (written-names.keeps within (subst ShortNames (sym names) (read-facts text p).short-list-names) R s agree) in
          ap₂ (λ u v. left (Ok u) v) keeps.size keeps.bytes

  pub job-unfound : (r : Refused) (after : Bytes) → f ≡ Err r → after ≡ cleared before
      → left (Err r) after ≡ left_by_reading (read text) before
  unfolding left_by both_by
  job-unfound r after e w = of-job there
    where
      there : (J : NamedJob) → read text ≡ job J → lists ≡ length J.list_names → (x : Found) → find (job_of J) ≡ x
          → left (Err r) after ≡ left_by J.list_names x before
      there J p k (found R) q =
          let b : both f table' flags' ≡ both_by (found R) table flags = job-left J p ∙ ap (λ x. both_by x table flags) q in
          let c : Err r ≡ found_answer R = sym e ∙ ap (λ o. o.answer) b in
          clash (cc)
      there J p k (unfound s) q =
          let b : both f table' flags' ≡ both_by (unfound s) table flags = job-left J p ∙ ap (λ x. both_by x table flags) q in
          let c : Err r ≡ refused_with s 0 = sym e ∙ ap (λ o. o.answer) b in
          let i : r ≡ refused_at s 0 = cc in
          ap₂ (λ u v. left (Err u) v) i w

-- Keep on a text.
module _ (text out : Bytes) where
  short-or-long : Bool → Outcome
  short-or-long b = elim b [ true ↦ left (Err (refused_at BufferTooShort 0)) out | false ↦ left_by_reading (read text) out ]

  pub out-short : length out < kept_length → left (Err (refused_at BufferTooShort 0)) out ≡ outcome text out
  unfolding outcome short-or-long
  out-short h = sym (ap short-or-long (lt-ltb (length out) kept_length h))

  pub out-long : kept_length ≤ length out → outcome text out ≡ left_by_reading (read text) out
  unfolding outcome short-or-long
  out-long h = ap short-or-long (le-ltb (length out) kept_length h)

  module _ (room : kept_length ≤ length out) (a : Result Job Refused) (T : Tables) (loaded : Loaded text a T) where
    pub text-refused : (r : Refused) → a ≡ Err r → left (Err r) out ≡ outcome text out
    unfolding left_by_reading
    text-refused r e = there (read text) (sym loaded.answer ∙ e) ∙ sym (out-long room)
      where
        there : (x : Reading) → answer_of x ≡ Err r → left (Err r) out ≡ left_by_reading x out
        there (job J) p = clash (cc)
        there (refused s m) p =
            let q : r ≡ refused_at s m = cc in
            ap (λ u. left (Err u) out) q

-- What Keep tells is small: no length is over that of the named part, and no line over one more than the most bytes of a text.
pub record Small (o : Outcome) : Type 0 where
  pub line : o.reply.line ≤ suc most_text
  pub size : slice_index_or o.reply.values 0 0 ≤ kept_length

refused-small : (r : Refusal) (n : ℕ) (out : Bytes) → n ≤ suc most_text → Small (left (Err (refused_at r n)) out)
refused-small r n out h = record { line = h; size = omega arith }

pub keep-small : (text out : Bytes) → Small (outcome text out)
unfolding outcome left_by_reading left_by find
keep-small text out = measured (nat_lt (length out) kept_length)
  where
    by-find : (J : NamedJob) → read text ≡ job J → (x : Found) → find (job_of J) ≡ x → Small (left_by J.list_names x out)
    by-find J p (unfound r) q = refused-small r 0 _ (omega arith)
    by-find J p (found R) q =
        record {
          line = omega arith;
          size = kept-fits J.list_names R (read-facts text p).few-lists (read-facts text p).short-list-names
              (job-sizes (job_of J) R q).few-states;
        }

    by-reading : (x : Reading) → read text ≡ x → Small (left_by_reading x out)
    by-reading (refused r n) p = refused-small r n out (read-line text r n p)
    by-reading (job J) p = by-find J p (find (job_of J)) refl

    measured : (b : Bool) → Small (elim b as (λ b. Outcome) [
      | true ↦ left (Err (refused_at BufferTooShort 0)) out
      | false ↦ left_by_reading (read text) out
    ])
    measured true = refused-small BufferTooShort 0 out (omega arith)
    measured false = by-reading (read text) refl
