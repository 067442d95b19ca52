-- The steps of Verdict on a job text leave what it says (VerdictOperation).
use Rattle.std.specs.Prelude.{◌≡◌, ℕ, ◌-◌, ◌*◌, ◌<◌, ◌≤◌, Bool, true, false, ◌&&◌, List, ◌++◌, map, length, take, drop, replicate, nat_le, Result, Ok, Err}
use Rattle.std.proofs.Common.{append_assoc, ap₂, ◌∙◌, arith, le-leb, take-append-drop, take_at}
use Rattle.std.proofs.Math.Path.{refl, sym, ap, subst}
use Rattle.std.proofs.lemmas.Bool.{lt-leb}
use Rattle.theory.specs.Path.{Path}
use Rattle.theory.specs.Job.{Job}
use Rattle.theory.specs.Automaton.{glushkov}
use Rattle.syntax.specs.Byte.{Bytes}
use Rattle.syntax.specs.declared.refusal.Refusal.{Refusal}
use Rattle.syntax.specs.declared.refusal.Refusal.TheVariants.{BadAllowance, BufferTooShort}
use Rattle.reading.specs.declared.answer.Job.{Job as Counts}
use Rattle.reading.specs.declared.answer.Refused.{Refused}
use Rattle.reading.specs.JobText.{NamedJob, job_of}
use Rattle.reading.specs.Read.{Reading, job, read}
use Rattle.reading.specs.ReadFacts.{read-facts}
use Rattle.reading.specs.Answering.{answer_of, counts, refused_at}
use Rattle.reading.specs.Tables.{Tables}
use Rattle.reading.specs.Loading.{Loaded}
use Rattle.finding.specs.declared.answer.Found.{Found as Finding}
use Rattle.finding.specs.Find.{Rewriting, Found, found, find, find_automata, refused as unfound}
use Rattle.finding.specs.FoundSizes.{job-sizes}
use Rattle.finding.specs.RowsFit.{RowsFit}
use Rattle.finding.specs.Padded.{cleared-front, cleared-behind}
use Rattle.finding.specs.Outcome.{left as find_left, left_by as find_left_by, found_answer, counted, refused_with as unfound_with}
use Rattle.finding.specs.WordTold.{first_word}
use Rattle.finding.specs.Named.{cleared, written}
use Rattle.finding.specs.WrittenLaws.{written_behind}
use Rattle.finding.specs.CoreTold.{CoreTold}
use Rattle.finding.specs.Operation.{job-told, holding}
use Rattle.verdict.specs.declared.verdict.Verdict.{Verdict as Told}
use Rattle.verdict.specs.Verdict.{Verdict, complete, missed, refused}
use Rattle.verdict.specs.VerdictLaws.{first-missed}
use Rattle.verdict.specs.VerdictJob.{verdict_found, verdict_job}
use Rattle.verdict.specs.VerdictJobLaws.{JobTold, judged, verdict-job}
use Rattle.verdict.specs.PairsTold.{lent}
use Rattle.verdict.specs.VerdictTold.{told_of, PathAfter, VerdictTold}
use Rattle.verdict.specs.Judging.{same_rest}
use Rattle.verdict.specs.VerdictOperation.{Outcome, left, refused_with, left_by, left_by_job, left_by_reading, allowed, enough, outcome}
use Rattle.verdict.specs.VerdictOperation.{Sized, JobGiven, SomeJob, FoundTold, FindTold, Answered, AnsweredTold}
use Rattle.verdict.specs.GivenTables.{given-verdict, given-fit}

clash : {A : Type 0} → ◌≡◌ {A = ℕ} 0 1 → A
clash z = absurd (omega arith)

-- The verdict on so many states.

module _ {follow enter sizes accepting : List ℕ} {labels lists : ℕ} (long : RowsFit lists follow enter)
    (sizes-long : length sizes ≡ 17) (accepting-long : length accepting ≡ 17) where
  pub found-told : {states : ℕ} {table flags : List ℕ} {allowance : ℕ} {path workspace : List ℕ} {r : Result Told Refusal} {path' workspace' : List ℕ}
      → Sized allowance table flags path workspace
      → VerdictTold (lent states labels lists follow enter sizes accepting (take (16 * states) table)) (take states flags) 1024 allowance
      workspace path r workspace' path'
      → FoundTold follow enter sizes accepting labels lists states table flags allowance path workspace r path' workspace'
  found-told {allowance = allowance} {path = path} {path' = path'} z t =
      record {
        told = λ J R g e s u v.
            let fit = given-fit g R e s u v long sizes-long accepting-long in
            let same = given-verdict g R e s u v allowance in (
              t.answer fit (omega arith) z.few z.room z.path_room ∙ ap told_of same,
              subst (PathAfter path path') same (t.written fit (omega arith) z.few z.room z.path_room),
            );
        beyond = t.space-beyond;
      }

-- Find, and the verdict on what it finds.

-- What is written in front, and what lies behind.
written-front : (n k : ℕ) (xs lent : List ℕ) → length xs ≡ k → take k (written n xs lent) ≡ xs
written-front n k xs lent e =
    ap (take k) (append_assoc xs (replicate (n - length xs) 0) (drop n lent)) ∙ take_at xs (replicate (n - length xs) 0 ++ drop n lent) k e

module _ {J : Job} {follow enter sizes accepting : List ℕ} {labels lists : ℕ}
    (g : JobGiven J follow enter sizes accepting labels lists) where
  -- Find leaves what lies behind the named parts.
  find-behind : (table flags : List ℕ) → (drop 4096 (find_left_by (find J) table flags).table ≡ drop 4096 table)
      × (drop 256 (find_left_by (find J) table flags).flags ≡ drop 256 flags)
  unfolding find_left_by
  find-behind table flags = there (find J) refl
    where
      there : (x : Found) → find J ≡ x → (drop 4096 (find_left_by x table flags).table ≡ drop 4096 table)
          × (drop 256 (find_left_by x table flags).flags ≡ drop 256 flags)
      there (unfound r) e = (cleared-behind 4096 table, cleared-behind 256 flags)
      there (found R) e =
          let s = job-sizes J R e in
          let rows = s.table (omega (arith, g.lists-told, g.few-lists)) in (
            written_behind 4096 R.table table (omega (arith, rows, s.few-states)),
            written_behind 256 R.flags flags (omega (arith, s.flags, s.few-states)),
          )

module _ {follow enter sizes accepting : List ℕ} {labels lists : ℕ} {table flags : List ℕ} {f : Result Finding Refused} {table₁ flags₁ : List ℕ}
    (core : CoreTold follow enter sizes accepting labels lists 64 256 table flags f table₁ flags₁) where
  both_left : (J : Job) → JobGiven J follow enter sizes accepting labels lists → find_left f table₁ flags₁ ≡ find_left_by (find J) table flags
  unfolding find
  both_left J g =
      core.told (glushkov J.query) (map glushkov J.lists) g.holding
      ∙ ap (λ k. find_left_by (find_automata (glushkov J.query) k (map glushkov J.lists) 64 256) table flags) (sym g.labels-told)

  buffers-left : (J : Job) → JobGiven J follow enter sizes accepting labels lists
      → (table₁ ≡ (find_left_by (find J) table flags).table) × (flags₁ ≡ (find_left_by (find J) table flags).flags)
  buffers-left J g = (ap (λ o. o.table) (both_left J g), ap (λ o. o.flags) (both_left J g))

  -- Where Find tells a number of states, it finds a rewriting of so many.
  found-states : (J : Job) → JobGiven J follow enter sizes accepting labels lists → {w : Finding} → f ≡ Ok w
      → (R : Rewriting) × (find J ≡ found R) × (R.states ≡ w.states)
  unfolding find_left_by
  found-states J g {w} e = there (find J) refl
    where
      there : (x : Found) → find J ≡ x → (R : Rewriting) × (find J ≡ found R) × (R.states ≡ w.states)
      there (unfound r) q =
          let b : find_left f table₁ flags₁ ≡ find_left_by (unfound r) table flags = both_left J g ∙ ap (λ x. find_left_by x table flags) q in
          let c : Ok w ≡ unfound_with r 0 = sym e ∙ ap (λ o. o.answer) b in
          clash (cc)
      there (found R) q =
          let b : find_left f table₁ flags₁ ≡ find_left_by (found R) table flags = both_left J g ∙ ap (λ x. find_left_by x table flags) q in
          let c : Ok w ≡ found_answer R = sym e ∙ ap (λ o. o.answer) b in
          let d : w ≡ counted R.standings R.states (first_word R.first) = cc in
          (R, q, sym (ap (λ (v : Finding). v.states) d))

  pub few-states : SomeJob follow enter sizes accepting labels lists → {w : Finding} → f ≡ Ok w → w.states ≤ 256
  few-states S e =
      let (R, q, s) = found-states S.given-job S.given e in
      omega (arith, (job-sizes S.given-job R q).few-states)

  pub found-judged : {allowance : ℕ} {w : Finding} {r : Result Told Refusal} {path workspace path₁ workspace₁ : List ℕ} → f ≡ Ok w
      → FoundTold follow enter sizes accepting labels lists w.states table₁ flags₁ allowance path workspace r path₁ workspace₁
      → FindTold follow enter sizes accepting labels lists allowance table flags path workspace r table₁ flags₁ path₁ workspace₁
  unfolding find_left_by
  found-judged {allowance} {w} {r = r} {path = path} {path₁ = path₁} e t =
      record { told = judging; found_left = buffers-left; beyond = t.beyond }
    where
      judging : (J : Job) → JobGiven J follow enter sizes accepting labels lists
          → (r ≡ told_of (verdict_job J allowance)) × PathAfter path path₁ (verdict_job J allowance)
      judging J g =
          let (R, q, s) = found-states J g e in
          let sized = job-sizes J R q in
          let rows = sized.table (omega (arith, g.lists-told, g.few-lists)) in
          let (a, b) = buffers-left J g in
          t.told J R g q s
          (ap (take (16 * w.states)) (a ∙ ap (λ x. (find_left_by x table flags).table) q)
          ∙ written-front 4096 (16 * w.states) R.table table (omega (arith, rows)))
          (ap (take w.states) (b ∙ ap (λ x. (find_left_by x table flags).flags) q)
          ∙ written-front 256 w.states R.flags flags (omega (arith, sized.flags)))

  pub found-refused : {q : Refused} {allowance : ℕ} {path workspace : List ℕ} → f ≡ Err q
      → FindTold follow enter sizes accepting labels lists allowance table flags path workspace (Err q.refusal)
      table₁ flags₁ path workspace
  unfolding find_left_by verdict_job
  found-refused {q} {allowance} {path = path} e =
      record { told = λ J g. refusing J g (find J) refl; found_left = buffers-left; beyond = λ j h. refl }
    where
      refusing : (J : Job) → JobGiven J follow enter sizes accepting labels lists → (x : Found) → find J ≡ x
          → (Err q.refusal ≡ told_of (verdict_job J allowance)) × PathAfter path path (verdict_job J allowance)
      refusing J g (found R) p =
          let b : find_left f table₁ flags₁ ≡ find_left_by (found R) table flags = both_left J g ∙ ap (λ x. find_left_by x table flags) p in
          let c : Err q ≡ found_answer R = sym e ∙ ap (λ o. o.answer) b in
          clash (cc)
      refusing J g (unfound s) p =
          let b : find_left f table₁ flags₁ ≡ find_left_by (unfound s) table flags = both_left J g ∙ ap (λ x. find_left_by x table flags) p in
          let c : Err q ≡ unfound_with s 0 = sym e ∙ ap (λ o. o.answer) b in
          let d : q ≡ refused_at s 0 = cc in
          let i : q.refusal ≡ s = ap (λ (x : Refused). x.refusal) d in
          let v : verdict_job J allowance ≡ refused s = ap (verdict_found J allowance) p in
          (ap Err i ∙ sym (ap told_of v), subst (PathAfter path path) (sym v) refl)

-- What is told of a verdict.

module _ {t : Result Told Refusal} {table flags : List ℕ} where
  pub answered-told : {v : Told} → t ≡ Ok v → AnsweredTold t table flags (Ok v) table flags
  answered-told {v} e = record { told = subst (λ t. Answered t table flags (Ok v) table flags) (sym e) (refl, refl, refl) }

  pub answered-refused : {q : Refusal} {table' flags' : List ℕ} → t ≡ Err q
      → (4096 ≤ length table → table' ≡ replicate 4096 0 ++ drop 4096 table)
      → (256 ≤ length flags → flags' ≡ replicate 256 0 ++ drop 256 flags) → AnsweredTold t table flags (refused_with q 0) table' flags'
  answered-refused {q} {table'} {flags'} e a b =
      record { told = subst (λ t. Answered t table flags (refused_with q 0) table' flags') (sym e) (refl, a, b) }

-- A job.

-- A missed path is shorter than the count of pairs.
missed-short : {J : Job} {allowance : ℕ} {p : Path} {n : ℕ} → JobTold J allowance (missed p n) → length p ≤ allowance
missed-short (judged R e (first-missed f k h s)) = omega arith

module _ {J : Job} {follow enter sizes accepting : List ℕ} {labels lists : ℕ} (g : JobGiven J follow enter sizes accepting labels lists)
    {allowance : ℕ} {table flags path workspace : List ℕ} (z : Sized allowance table flags path workspace) where
  pub job-left : {path₁ : List ℕ} {t : Result Told Refusal} {table₁ flags₁ path₂ workspace₁ workspace₂ : List ℕ} {r : Result Told Refused}
      {table₂ flags₂ : List ℕ} → path₁ ≡ cleared allowance path
      → FindTold follow enter sizes accepting labels lists allowance table flags path₁ workspace t table₁ flags₁ path₂ workspace₁
      → length table₁ ≡ length table → length flags₁ ≡ length flags → length workspace₁ ≡ length workspace
      → workspace₂ ≡ cleared (18 * allowance) workspace₁ → AnsweredTold t table₁ flags₁ r table₂ flags₂
      → left r table₂ flags₂ path₂ workspace₂ ≡ left_by_job J allowance table flags path workspace
  job-left {path₁} {t} {table₁} {flags₁} {path₂} {workspace₁} {workspace₂} {r} {table₂} {flags₂} p d tables-long flags_long words_long w a =
      go (verdict_job J allowance) refl (d.told J g).0 (d.told J g).1
    where
      behind : (drop 4096 table₁ ≡ drop 4096 table) × (drop 256 flags₁ ≡ drop 256 flags)
      behind =
          let (s, u) = find-behind g table flags in
          (ap (drop 4096) (d.found_left J g).0 ∙ s, ap (drop 256) (d.found_left J g).1 ∙ u)

      space : workspace₂ ≡ cleared (18 * allowance) workspace
      space =
          w ∙ ap (λ l. replicate (18 * allowance) 0 ++ l) (same_rest (18 * allowance) workspace₁ workspace words_long d.beyond)

      go : (v : Verdict) → verdict_job J allowance ≡ v → t ≡ told_of v → PathAfter path₁ path₂ v
          → left r table₂ flags₂ path₂ workspace₂ ≡ left_by v (find_left_by (find J) table flags) allowance table flags path workspace
      go (complete n) v e k =
          let (x, y, h) = subst (λ t. Answered t table₁ flags₁ r table₂ flags₂) e a.told in
          λ i. left (x i) ((y ∙ (d.found_left J g).0) i) ((h ∙ (d.found_left J g).1) i) ((k ∙ p) i) (space i)
      go (missed q n) v e k =
          let (x, y, h) = subst (λ t. Answered t table₁ flags₁ r table₂ flags₂) e a.told in
          let short : length q ≤ allowance = missed-short
          (subst (JobTold J allowance) v (verdict-job J g.formed (omega (arith, g.lists-told, g.few-lists)) allowance)) in
          let joined : path₂ ≡ written allowance q path =
          sym (take-append-drop (length q) path₂)
          ∙ (ap₂ ◌++◌ k.0 (k.1 ∙ ap (drop (length q)) p) ∙ cleared-front (length q) allowance q path short) in
          λ i. left (x i) ((y ∙ (d.found_left J g).0) i) ((h ∙ (d.found_left J g).1) i) (joined i) (space i)
      go (refused q) v e k =
          let (x, y, h) = subst (λ t. Answered t table₁ flags₁ r table₂ flags₂) e a.told in
          let (s, u) = behind in
          let zeros : table₂ ≡ cleared 4096 table = y (omega (arith, z.table-room)) ∙ ap (λ l. replicate 4096 0 ++ l) s in
          let unset : flags₂ ≡ cleared 256 flags = h (omega (arith, z.flags-room)) ∙ ap (λ l. replicate 256 0 ++ l) u in
          λ i. left (x i) (zeros i) (unset i) ((k ∙ p) i) (space i)

-- A text that is read.

module _ (text : Bytes) {a : Result Counts Refused} {T : Tables} (l : Loaded text a T) where
  read-given : {labels lists : ℕ} → a ≡ Ok (counts labels lists)
      → (J : NamedJob) × (read text ≡ job J) × JobGiven (job_of J) T.follow T.enter T.sizes T.accepting labels lists
  read-given {labels} {lists} e =
      let (J, q, m, n) = job-told (read text) (sym l.answer ∙ e) in
      let f = read-facts text q in
      let g : JobGiven (job_of J) T.follow T.enter T.sizes T.accepting (length J.labels) (length J.list_names) = record {
        labels-told = refl;
        few-labels = f.few-labels;
        lists-told = f.as_many;
        few-lists = f.few-lists;
        formed = f.well-formed;
        holding = holding text l J q;
      } in (
        J,
        q,
        subst (λ k. JobGiven (job_of J) T.follow T.enter T.sizes T.accepting k lists) m
            (subst (JobGiven (job_of J) T.follow T.enter T.sizes T.accepting (length J.labels)) n g),
      )

  pub some-job : {labels lists : ℕ} → a ≡ Ok (counts labels lists) → SomeJob T.follow T.enter T.sizes T.accepting labels lists
  some-job e = let (J, q, g) = read-given e in record { given-job = job_of J; given = g }

  module _ (allowance : ℕ) (table flags path workspace : List ℕ) where
    pub read-judged : {labels lists : ℕ} {o : Outcome} → a ≡ Ok (counts labels lists)
        → ((J : Job) → JobGiven J T.follow T.enter T.sizes T.accepting labels lists
        → o ≡ left_by_job J allowance table flags path workspace)
        → o ≡ left_by_reading (read text) allowance table flags path workspace
    read-judged e told =
        let (J, q, g) = read-given e in
        told (job_of J) g ∙ ap (λ x. left_by_reading x allowance table flags path workspace) (sym q)

    pub read-refused : {e : Refused} → a ≡ Err e
        → left (Err e) table flags path workspace ≡ left_by_reading (read text) allowance table flags path workspace
    read-refused {e} q = go (read text) (sym l.answer ∙ q)
      where
        go : (x : Reading) → answer_of x ≡ Err e
            → left (Err e) table flags path workspace ≡ left_by_reading x allowance table flags path workspace
        go (job J) p = clash (cc)
        go (Reading.refused s m) p =
            let i : e ≡ refused_at s m = cc in
            ap (λ (x : Refused). left (Err x) table flags path workspace) i

-- The checks before reading.

module _ (text : Bytes) (allowance : ℕ) (table flags path workspace : List ℕ) where
  abbrev checked : Bool → Bool → Outcome
  checked a b =
      elim a [
        | false ↦ left (refused_with BadAllowance 0) table flags path workspace
        | true ↦ elim b [
          | false ↦ left (refused_with BufferTooShort 0) table flags path workspace
          | true ↦ left_by_reading (read text) allowance table flags path workspace
        ]
      ]

  pub none_allowed : allowance ≡ 0
      → left (refused_with BadAllowance 0) table flags path workspace ≡ outcome text allowance table flags path workspace
  unfolding outcome
  none_allowed h =
      sym (ap (λ b. checked (b && nat_le allowance 4096) (enough allowance table flags path workspace)) (lt-leb 1 allowance (omega arith)))

  pub many-allowed : 1 ≤ allowance → 4096 < allowance
      → left (refused_with BadAllowance 0) table flags path workspace ≡ outcome text allowance table flags path workspace
  unfolding outcome
  many-allowed h k =
      sym (ap₂ (λ a b. checked (a && b) (enough allowance table flags path workspace)) (le-leb 1 allowance h) (lt-leb allowance 4096 k))

  module _ (some : 1 ≤ allowance) (few : allowance ≤ 4096) where
    in-range : allowed allowance ≡ true
    in-range = ap₂ ◌&&◌ (le-leb 1 allowance some) (le-leb allowance 4096 few)

    short : enough allowance table flags path workspace ≡ false
        → left (refused_with BufferTooShort 0) table flags path workspace ≡ outcome text allowance table flags path workspace
    unfolding outcome
    short h = sym (ap₂ checked in-range h)

    pub table-short : length table < 4096
        → left (refused_with BufferTooShort 0) table flags path workspace ≡ outcome text allowance table flags path workspace
    table-short h =
        short (ap (λ a. (a && nat_le 256 (length flags)) && (nat_le allowance (length path) && nat_le (18 * allowance) (length workspace)))
        (lt-leb 4096 (length table) h))

    module _ (wide : 4096 ≤ length table) where
      pub flags-short : length flags < 256
          → left (refused_with BufferTooShort 0) table flags path workspace ≡ outcome text allowance table flags path workspace
      flags-short h =
          short (ap₂ (λ a b. (a && b) && (nat_le allowance (length path) && nat_le (18 * allowance) (length workspace)))
          (le-leb 4096 (length table) wide) (lt-leb 256 (length flags) h))

      module _ (long : 256 ≤ length flags) where
        both-enough : (nat_le 4096 (length table) && nat_le 256 (length flags)) ≡ true
        both-enough = ap₂ ◌&&◌ (le-leb 4096 (length table) wide) (le-leb 256 (length flags) long)

        pub path-short : length path < allowance
            → left (refused_with BufferTooShort 0) table flags path workspace ≡ outcome text allowance table flags path workspace
        path-short h =
            short (ap₂ (λ a b. a && (b && nat_le (18 * allowance) (length workspace))) both-enough (lt-leb allowance (length path) h))

        pub workspace-short : allowance ≤ length path → length workspace < 18 * allowance
            → left (refused_with BufferTooShort 0) table flags path workspace ≡ outcome text allowance table flags path workspace
        workspace-short h k =
            short (ap₂ (λ a b. a && b) both-enough
            (ap₂ ◌&&◌ (le-leb allowance (length path) h) (lt-leb (18 * allowance) (length workspace) k)))

  pub text-judged : 1 ≤ allowance → Sized allowance table flags path workspace → {o : Outcome}
      → o ≡ left_by_reading (read text) allowance table flags path workspace → o ≡ outcome text allowance table flags path workspace
  unfolding outcome
  text-judged some z e =
      e
      ∙ sym (ap₂ checked (in-range some z.few) (ap₂ ◌&&◌ (both-enough some z.few z.table-room z.flags-room)
      (ap₂ ◌&&◌ (le-leb allowance (length path) z.path_room) (le-leb (18 * allowance) (length workspace) z.room))))
