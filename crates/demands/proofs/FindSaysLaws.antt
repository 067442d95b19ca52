-- Where Find answers, it says what FindSays has; and what that is determines the answer.
use Rattle.std.specs.Prelude.{ℕ, ◌*◌, ◌-◌, ◌≤◌, ◌<◌, Bool, true, false, ◌||◌, List, [], ◌∷◌, ◌++◌, ◌↔◌, ◌⊎◌, ◌≡◌, length, get_or, take, drop, replicate}
use Rattle.std.proofs.Common.{append_assoc, inl, inr, sym, ◌∙◌, subst, arith, take_at}
use Rattle.std.proofs.Math.Logic.Iff
use Rattle.std.proofs.Math.Path.{refl, ap}
use Rattle.std.proofs.Math.Decide.{dec_lt}
use Rattle.std.proofs.Math.Dec.{ltb}
use Rattle.theory.specs.Word.{Word}
use Rattle.theory.specs.Job.{Job, IsWord}
use Rattle.theory.specs.Rewriting.{Sound}
use Rattle.theory.proofs.GreatestRewriting.{accepted-exactly-sound}
use Rattle.syntax.specs.Byte.{Bytes}
use Rattle.syntax.specs.Reply.{given}
use Rattle.syntax.specs.declared.refusal.Refusal.TheVariants.{BufferTooShort}
use Rattle.reading.specs.JobText.{NamedJob, job_of, IsJob}
use Rattle.reading.specs.Read.{Reading, job, refused, read}
use Rattle.reading.specs.ReadLaws.{read-job, read-refused}
use Rattle.reading.specs.ReadFacts.{read-facts}
use Rattle.finding.specs.Find.{Rewriting, Found, found, find, refused as unfound}
use Rattle.finding.specs.Finds.{followed, Finds}
use Rattle.finding.specs.FindsUnique.{finds-unique}
use Rattle.finding.specs.FindCourse.{FindCourse, many-standings, many-states, answered, flag-written, flag-behind, followed-written}
use Rattle.finding.specs.WordTold.{first_word, word-told}
use Rattle.finding.specs.Outcome.{Leaving, Outcome, left, left_by, told, refused_with, found_answer}
use Rattle.finding.specs.Named.{written, table_part, flags_part}
use Rattle.finding.specs.Operation.{outcome, leaving, left_by_reading}
use Rattle.demands.proofs.ReadListed.{refused-early}
use Rattle.demands.proofs.FindListed.{text-finds, text-sizes}
use Rattle.demands.specs.FindSays.{held, FindSays}

-- An answer of Find comes from a text that is read and a rewriting that is found.
pub record FindAnswered (text : Bytes) (table flags : List ℕ) : Type 0 where
  pub named : NamedJob
  pub reads : read text ≡ job named
  pub rewriting : Rewriting
  pub gives : find (job_of named) ≡ found rewriting
  pub leaves : outcome text table flags ≡ told (left_by (found rewriting) table flags)

module _ (text : Bytes) (table flags : List ℕ) where
  chosen : Bool → Leaving
  chosen b =
      elim b [ true ↦ left (refused_with BufferTooShort 0) table flags | false ↦ left_by_reading (read text) table flags ]

  pub find-answered : (outcome text table flags).reply.number ≡ 0 → FindAnswered text table flags
  unfolding leaving left_by_reading left_by chosen
  find-answered = measured (ltb (length table) table_part || ltb (length flags) flags_part) refl
    where
      by-found : (J : NamedJob) → read text ≡ job J → outcome text table flags ≡ told (left_by (find (job_of J)) table flags)
          → (z : Found) → find (job_of J) ≡ z → FindCourse (job_of J) z → (told (left_by z table flags)).reply.number ≡ 0
          → FindAnswered text table flags
      by-found J e l (unfound r) f (many-standings d) z = absurd (omega arith)
      by-found J e l (unfound r) f (many-states n d) z = absurd (omega arith)
      by-found J e l (found R) f c z =
          record { named = J; reads = e; rewriting = R; gives = f; leaves = l ∙ ap (λ x. told (left_by x table flags)) f }

      by-reading : outcome text table flags ≡ told (left_by_reading (read text) table flags) → (x : Reading) → read text ≡ x
          → (told (left_by_reading x table flags)).reply.number ≡ 0 → FindAnswered text table flags
      by-reading l (refused r n) e z = absurd (omega (arith, (refused-early ((read-refused text r n).0 e)).0))
      by-reading l (job J) e z =
          by-found J e (l ∙ ap (λ x. told (left_by_reading x table flags)) e) (find (job_of J)) refl (text-finds text e) z

      measured : (b : Bool) → (ltb (length table) table_part || ltb (length flags) flags_part) ≡ b → (told (chosen b)).reply.number ≡ 0
          → FindAnswered text table flags
      measured true c z = absurd (omega arith)
      measured false c z = by-reading (ap (λ b. told (chosen b)) c) (read text) refl z

-- What is read off the buffers is the rewriting that was found.
pub written-front : (n : ℕ) (xs lent : List ℕ) (m : ℕ) → length xs ≡ m → take m (written n xs lent) ≡ xs
written-front n xs lent m e =
    ap (take m) (append_assoc xs (replicate (n - length xs) 0) (drop n lent))
    ∙ take_at xs (replicate (n - length xs) 0 ++ drop n lent) m e

module _ (J : Job) {R : Rewriting} (F : Finds J R) (few : R.states ≤ 256) (fits : length J.lists ≤ 16) (table flags : List ℕ) where
  abbrev all : Outcome
  all = told (left (found_answer R) (written table_part R.table table) (written flags_part R.flags flags))

  same-held : held all ≡ R
  same-held =
      λ i. record {
        standings = R.standings;
        states = R.states;
        table = written-front table_part R.table table (16 * R.states) F.rows i;
        flags = written-front flags_part R.flags flags R.states F.flag-count i;
        first = word-told R.first i;
      }

  bits : (s : ℕ) → s < 256 → (get_or all.flags s 0 ≡ 0) ⊎ (get_or all.flags s 0 ≡ 1)
  bits s h = side (dec_lt s R.states)
    where
      value : (get_or R.flags s 0 ≡ 0) ⊎ (get_or R.flags s 0 ≡ 1) → get_or all.flags s 0 ≡ get_or R.flags s 0
          → (get_or all.flags s 0 ≡ 0) ⊎ (get_or all.flags s 0 ≡ 1)
      value (inl e) q = inl (q ∙ e)
      value (inr e) q = inr (q ∙ e)

      side : Dec (s < R.states) → (get_or all.flags s 0 ≡ 0) ⊎ (get_or all.flags s 0 ≡ 1)
      side (yes k) = value (F.flag-value s k) (flag-written J F few table flags s k)
      side (no k) = inl (flag-behind J F few table flags s (omega arith) h)

  sound : (w : Word) → IsWord J w → (get_or all.flags (followed all.table 0 w) 0 ≡ 1) ↔ Sound J w
  sound w b =
      let q : get_or all.flags (followed all.table 0 w) 0 ≡ get_or R.flags (followed R.table 0 w) 0 =
      ap (λ s. get_or all.flags s 0) (followed-written J F few table flags fits w b)
      ∙ flag-written J F few table flags (followed R.table 0 w) (F.within w b) in
      subst (λ x. (x ≡ 1) ↔ Sound J w) (sym q) (Iff.trans (F.accepted w b) (accepted-exactly-sound J w))

  pub found-says : FindSays J table flags all
  found-says =
      record {
        sound = sound;
        bits = bits;
        finds = subst (Finds J) (sym same-held) F;
        told = refl;
        word = ap (λ S. first_word S.first) (sym same-held);
        table = ap (λ S. written 4096 S.table table) (sym same-held);
        flags = ap (λ S. written 256 S.flags flags) (sym same-held);
      }

pub course-finds : {J : Job} {R : Rewriting} → FindCourse J (found R) → Finds J R
course-finds (answered n m F) = F

pub find-says : (text : Bytes) (table flags : List ℕ) → (outcome text table flags).reply.number ≡ 0
    → (J : NamedJob) × IsJob text J × FindSays (job_of J) table flags (outcome text table flags)
unfolding left_by
find-says text table flags z =
    let a = find-answered text table flags z in
    let f = read-facts text a.reads in
    let c = text-finds text a.reads in
    let (s, t, few) = text-sizes text a.reads a.gives in (
      a.named,
      (read-job text a.named).0 a.reads,
      subst (FindSays (job_of a.named) table flags) (sym a.leaves)
          (found-says (job_of a.named) (course-finds (subst (FindCourse (job_of a.named)) a.gives c)) few
          (omega (arith, f.few-lists, f.as_many)) table flags),
    )

pub find-determined : (J : Job) (table flags : List ℕ) {o p : Outcome} → FindSays J table flags o → FindSays J table flags p → o ≡ p
find-determined J table flags {o} {p} a b =
    let e : held o ≡ held p = finds-unique J a.finds b.finds in
    λ i. record {
      reply = (a.told ∙ (ap (λ R. given (R.standings ∷ (R.states ∷ []))) e ∙ sym b.told)) i;
      first = (a.word ∙ (ap (λ R. first_word R.first) e ∙ sym b.word)) i;
      table = (a.table ∙ (ap (λ R. written 4096 R.table table) e ∙ sym b.table)) i;
      flags = (a.flags ∙ (ap (λ R. written 256 R.flags flags) e ∙ sym b.flags)) i;
    }
