-- What Find leaves for a text and two lent buffers (document 01, "Find"), in all cases; and that the code's steps leave it.
use Rattle.std.specs.Prelude.{◌≡◌, ℕ, zero, suc, ◌<◌, ◌≤◌, Bool, true, false, ◌||◌, List, [], ◌∷◌, map, length, nat_lt, slice_index_or, Result, Ok, Err}
use Rattle.std.specs.Prelude.{refl}
use Rattle.std.proofs.Math.Path.{sym, ap, ap₂, subst}
use Rattle.std.proofs.Common.{◌∙◌, arith, lt-ltb, le-ltb}
use Rattle.std.proofs.lemmas.List.{length-map}
use Rattle.theory.specs.Expression.{Expression, empty}
use Rattle.theory.specs.Automaton.{Automaton, glushkov}
use Rattle.syntax.specs.Byte.{Bytes}
use Rattle.syntax.specs.declared.refusal.Refusal.{Refusal}
use Rattle.syntax.specs.declared.refusal.Refusal.TheVariants.{BufferTooShort}
use Rattle.reading.specs.declared.answer.Job.{Job}
use Rattle.reading.specs.declared.answer.Refused.{Refused}
use Rattle.reading.specs.JobText.{NamedJob, job_of}
use Rattle.reading.specs.Read.{Reading, job, refused, read}
use Rattle.reading.specs.Answering.{counts, refused_at, answer_of}
use Rattle.reading.specs.Tables.{Tables}
use Rattle.reading.specs.Loading.{Loaded}
use Rattle.reading.specs.ReadFacts.{read-facts}
use Rattle.reading.specs.RowRoom.{Roomy}
use Rattle.finding.specs.declared.answer.Found.{Found as Told}
use Rattle.finding.specs.Find.{find}
use Rattle.finding.specs.Outcome.{Leaving, left, Outcome, told, refused_with, left_by}
use Rattle.finding.specs.Named.{table_part, flags_part}
use Rattle.finding.specs.StoredAutomata.{Stored, row-stored}
use Rattle.finding.specs.ListRows.{job_tables}
use Rattle.finding.specs.StatesPart.{Holding}
use Rattle.finding.specs.CoreTold.{HoldsJob, CoreTold}
use Rattle.finding.specs.RowsHeld.{RowsHeld, rows-held}

-- What is left of buffers that are long enough, by what reading the text gives.
unfoldable pub left_by_reading : Reading → List ℕ → List ℕ → Leaving
left_by_reading (job J) table flags = left_by (find (job_of J)) table flags
left_by_reading (refused r n) table flags = left (refused_with r n) table flags

unfoldable pub leaving : Bytes → List ℕ → List ℕ → Leaving
leaving text table flags =
    elim (nat_lt (length table) table_part || nat_lt (length flags) flags_part) [
      | true ↦ left (refused_with BufferTooShort 0) table flags
      | false ↦ left_by_reading (read text) table flags
    ]

-- What a caller is told and holds.
abbrev pub outcome : Bytes → List ℕ → List ℕ → Outcome
outcome text table flags = told (leaving text table flags)

-- A place of a list that is mapped.
get_or-mapped : (l : List Expression) (v : ℕ) (B : Automaton) → v < length l → slice_index_or (map glushkov l) v B ≡ glushkov (slice_index_or l v empty)
get_or-mapped [] v B h = absurd (omega arith)
get_or-mapped (e ∷ l) zero B h = refl
get_or-mapped (e ∷ l) (suc v) B h = get_or-mapped l v B (omega arith)

-- Where a job is told, a job is read.
pub job-told : (x : Reading) {labels lists : ℕ} → answer_of x ≡ Ok (counts labels lists)
    → (J : NamedJob) × (x ≡ job J) × (length J.labels ≡ labels) × (length J.list_names ≡ lists)
job-told (job J) {labels} {lists} e =
    let c : counts (length J.labels) (length J.list_names) ≡ counts labels lists = cc in
    (J, refl, ap (λ (j : Job). j.labels) c, ap (λ (j : Job). j.lists) c)
job-told (refused r n) e = absurd (let z : ◌≡◌ {A = ℕ} 0 1 = cc in omega arith)

-- A text that is read into tables.
module _ (text : Bytes) {a : Result Job Refused} {T : Tables} (loaded : Loaded text a T) where
  pub read-few : {labels lists : ℕ} → a ≡ Ok (counts labels lists) → (labels ≤ 32) × (lists ≤ 16)
  read-few e =
      let (J, q, m, n) = job-told (read text) (sym loaded.answer ∙ e) in
      let f = read-facts text q in
      (omega (arith, f.few-labels), omega (arith, f.few-lists))

  -- The tables hold the automata of the job.
  pub holding : (J : NamedJob) → read text ≡ job J
      → Holding (job_tables [] 0 (length J.labels) T.follow T.enter T.sizes T.accepting) (glushkov J.query)
      (map glushkov J.lists) (length J.list_names)
  holding J e =
      let f = read-facts text e in
      let h = loaded.holds J e in
      record {
        query = row-stored J.query 0 (length J.labels) T h.query f.well-formed.query f.few-labels f.query-fits;
        size = length-map J.lists glushkov ∙ f.as_many;
        listed = λ v B l.
            let k : v < length J.lists = omega (arith, f.as_many) in
            subst (Stored T.follow T.enter T.sizes T.accepting (suc v)) (sym (get_or-mapped J.lists v B k))
            (row-stored (slice_index_or J.lists v empty) (suc v) (length J.labels) T (h.rows v k) (f.well-formed.lists v k) f.few-labels
            (f.lists-fit v k));
      }

  pub holds-job : {labels lists : ℕ} → a ≡ Ok (counts labels lists) → HoldsJob T.follow T.enter T.sizes T.accepting labels lists
  holds-job {labels} {lists} e =
      let (J, q, m, n) = job-told (read text) (sym loaded.answer ∙ e) in
      subst (λ k. HoldsJob T.follow T.enter T.sizes T.accepting k lists) m
      (subst (HoldsJob T.follow T.enter T.sizes T.accepting (length J.labels)) n
      (record { query = glushkov J.query; listed = map glushkov J.lists; holding = holding J q }))

-- What reading leaves where it tells a job: the rows that Find works on.
pub rows-loaded : (text : Bytes) (a : Result Job Refused) (T : Tables) → Loaded text a T → Roomy a T.follow T.enter → (labels lists : ℕ)
    → a ≡ Ok (counts labels lists) → RowsHeld labels lists T.follow T.enter T.sizes T.accepting
rows-loaded text a T loaded roomy labels lists e =
    let (few-labels, few-lists) = read-few text loaded e in
    let r = roomy.rows labels lists e in
    rows-held few-labels few-lists
    (record {
      query_follow = omega (arith, r.1);
      query_enter = omega (arith, r.2);
      lists_follow = λ h. r.1;
      lists_enter = λ h. r.2;
    })
    (holds-job text loaded e)

module _ (text : Bytes) (table flags : List ℕ) where
  chosen : Bool → Leaving
  chosen b =
      elim b [ true ↦ left (refused_with BufferTooShort 0) table flags | false ↦ left_by_reading (read text) table flags ]

  or-true : (b : Bool) → (b || true) ≡ true
  or-true true = refl
  or-true false = refl

  pub short-table : (a : Result Told Refused) → length table < 4096 → a ≡ refused_with BufferTooShort 0
      → left a table flags ≡ leaving text table flags
  unfolding leaving chosen
  short-table a h e =
      ap (λ u. left u table flags) e ∙ sym (ap (λ b. chosen (b || nat_lt (length flags) 256)) (lt-ltb (length table) 4096 h))

  pub short-flags : (a : Result Told Refused) → length flags < 256 → a ≡ refused_with BufferTooShort 0 → left a table flags ≡ leaving text table flags
  unfolding leaving chosen
  short-flags a h e =
      ap (λ u. left u table flags) e
      ∙ sym (ap (λ b. chosen (nat_lt (length table) 4096 || b)) (lt-ltb (length flags) 256 h) ∙ ap chosen (or-true (nat_lt (length table) 4096)))

  module _ (room : 4096 ≤ length table) (marks : 256 ≤ length flags) where
    pub long-buffers : leaving text table flags ≡ left_by_reading (read text) table flags
    unfolding leaving chosen
    long-buffers = ap₂ (λ a b. chosen (a || b)) (le-ltb (length table) 4096 room) (le-ltb (length flags) 256 marks)

    module _ (a : Result Job Refused) (T : Tables) (loaded : Loaded text a T) where
      pub reading-refused : (r : Refusal) (n : ℕ) (b : Result Told Refused) → a ≡ Err (refused_at r n) → b ≡ refused_with r n
          → left b table flags ≡ leaving text table flags
      unfolding left_by_reading
      reading-refused r n b e o =
          ap (λ u. left u table flags) o ∙ (there (read text) (sym loaded.answer ∙ e) ∙ sym long-buffers)
        where
          there : (x : Reading) → answer_of x ≡ Err (refused_at r n) → left (refused_with r n) table flags ≡ left_by_reading x table flags
          there (job J) p = absurd (let z : ◌≡◌ {A = ℕ} 0 1 = cc in omega arith)
          there (refused s m) p =
              let q : refused_at s m ≡ refused_at r n = cc in
              sym (ap (λ (e : Refused). left (Err e) table flags) q)

      pub reading-found : (labels lists : ℕ) (r : Result Told Refused) (table' flags' : List ℕ) → a ≡ Ok (counts labels lists)
          → CoreTold T.follow T.enter T.sizes T.accepting labels lists 64 256 table flags r table' flags'
          → left r table' flags' ≡ leaving text table flags
      unfolding left_by_reading find
      reading-found labels lists r table' flags' e core =
          let (J, p, m, n) = job-told (read text) (sym loaded.answer ∙ e) in
          let Core : ℕ → ℕ → Type 0 = λ i j.
          CoreTold T.follow T.enter T.sizes T.accepting i j 64 256 table flags r table' flags' in
          let k : Core (length J.labels) (length J.list_names) = subst (λ i. Core i (length J.list_names)) (sym m)
          (subst (Core labels) (sym n) core) in
          k.told (glushkov J.query) (map glushkov J.lists) (holding text loaded J p)
          ∙ sym (ap (λ y. left_by_reading y table flags) p) ∙ sym long-buffers
