-- Reading underway: the lines before the byte `at` are read, n is the next line, and what is left of the text gives what the whole gives.
use Rattle.std.specs.Prelude.{ℕ, zero, suc, ◌+◌, ◌-◌, ◌<◌, ◌≤◌, true, false, Some, None, List, ◌≡◌, refl, length, take, drop}
use Rattle.std.proofs.Common.{true≢false, sym, ap, ap₂, ◌∙◌, add-one, arith, length-drop, drop_of_length-le, drop-drop}
use Rattle.std.proofs.lemmas.Bool.{false≢true}
use Rattle.std.proofs.Math.Option.{Option, some, none, none-ne-some}
use Rattle.theory.specs.Expression.{Expression}
use Rattle.syntax.specs.declared.refusal.Refusal.{Refusal}
use Rattle.syntax.specs.declared.refusal.Refusal.TheVariants.{TextTooLong, BadLine}
use Rattle.syntax.specs.Byte.{Bytes}
use Rattle.syntax.specs.Some.{is_some}
use Rattle.syntax.specs.Resolve.{names_at}
use Rattle.std.specs.declared.result.Result.TheVariants.{Ok, Err}
use Rattle.reading.specs.declared.progress.Progress.{Progress as Numbers}
use Rattle.std.specs.declared.result.Result.{Result}
use Rattle.reading.specs.Text.{newline, most_text}
use Rattle.reading.specs.JobText.{NamedJob}
use Rattle.reading.specs.Refusing.{Progress, beginning}
use Rattle.reading.specs.Read.{Given, good, bad, given, cut, cut_at, job, refused, ended, read_lines, read}
use Rattle.reading.specs.ReadLaws.{read-on, read-fault, read-unclosed, read-end, ended-early, ended-late, whole, read_short, read-long}
use Rattle.reading.specs.Answering.{counts, refused_at, answer_of}
use Rattle.reading.specs.Tables.{Tables, HoldsSoFar, Holds}
use Rattle.reading.specs.Loading.{Held, Tells, Gives, Loaded}
use Rattle.reading.specs.LabelLaws.{labels-held}
use Rattle.reading.specs.ListLaws.{lists-held}
use Rattle.reading.specs.PartLaws.{part, span}
use Rattle.reading.specs.Scan.{first, cut-first, uncut-none}
use Rattle.reading.specs.RowRoom.{asked_rows, HasRows, Roomy, roomy-job}
use Rattle.reading.specs.ListStarts.{list_starts, starts-cut}
use Rattle.reading.specs.OneList.{given-one}

pub record Underway (text : Bytes) (at n : ℕ) (p : Numbers) (T : Tables) : Type 0 where
  pub progress : Progress
  pub held : Held text progress p T
  -- One call less than are left, which are enough.
  pub calls : ℕ
  pub enough : length text - at ≤ calls
  pub left : read_lines (suc calls) progress n (drop at text) ≡ read text
  -- Each list began in a line that is read.
  pub room : p.lists + list_starts (drop at text) ≤ list_starts text

-- At the beginning.
held-nothing : (text : Bytes) (T : Tables) → Held text beginning (record { labels = 0; lists = 0; query = false }) T
unfolding names_at
held-nothing text T = record {
  numbers = refl;
  few-labels = omega arith;
  few-lists = omega arith;
  as_many = refl;
  query-fits = λ q e. absurd (none-ne-some q e);
  lists-fit = λ v l. absurd (omega arith);
  holds = record {
    labels = refl;
    lists = refl;
    query = λ q e. absurd (none-ne-some q e);
    rows = λ v l. absurd (omega arith);
  };
}

pub underway-first : (text : Bytes) (T : Tables) → length text ≤ most_text
    → Underway text 0 1 (record { labels = 0; lists = 0; query = false }) T
underway-first text T short =
    record {
      progress = beginning;
      held = held-nothing text T;
      calls = length text;
      enough = omega arith;
      left = sym (read_short text short);
      room = omega arith;
    }

-- What a line told.
tells-good : {text : Bytes} {T : Tables} {g : Given} {r : Result Numbers Refusal} (q : Numbers) → Tells text T g r → r ≡ Ok q
    → (Q : Progress) × (g ≡ good Q) × Held text Q q T
tells-good q (Tells.more {Q} {q = s} h) e = let d : s ≡ q = cc in (Q, refl, rw (sym d) h)
tells-good q Tells.refusal e = absurd (let z : ◌≡◌ {A = ℕ} 0 1 = cc in omega arith)

tells-bad : {text : Bytes} {T : Tables} {g : Given} {r : Result Numbers Refusal} (f : Refusal) → Tells text T g r → r ≡ Err f → g ≡ bad f
tells-bad f (Tells.more h) e = absurd (let z : ◌≡◌ {A = ℕ} 0 1 = cc in omega arith)
tells-bad f (Tells.refusal {r}) e = let d : r ≡ f = cc in ap bad d

-- What the tables hold when all lines are read.
holds-whole : (text : Bytes) (P : Progress) (q : Expression) (T : Tables) → P.query ≡ some q → HoldsSoFar text P T
    → Holds text (record { labels = P.labels; query = q; list_names = P.list_names; lists = P.lists }) T
holds-whole text P q T e h = record { labels = h.labels; lists = h.lists; query = h.query q e; rows = h.rows }

-- The answer where the text is refused, or is a job.
pub loaded-refused : (text : Bytes) (T : Tables) (r : Refusal) (n : ℕ) → read text ≡ refused r n → Loaded text (Err (refused_at r n)) T
loaded-refused text T r n e = record {
  answer = sym (ap answer_of e);
  holds = λ J f. absurd (let z : ◌≡◌ {A = ℕ} 0 1 = cc in omega arith);
}

pub loaded-long : (text : Bytes) (T : Tables) → most_text < length text → Loaded text (Err (refused_at TextTooLong 0)) T
loaded-long text T h = loaded-refused text T TextTooLong 0 (read-long text h)

module _ (text : Bytes) (at n : ℕ) (p : Numbers) (T : Tables) (u : Underway text at n p T) where
  -- At the end.
  underway-end : length text ≤ at → read text ≡ ended u.progress n
  underway-end h =
      sym u.left ∙ ap (read_lines (suc u.calls) u.progress n) (drop_of_length-le text h) ∙ read-end u.calls u.progress n

  asked : p.query ≡ is_some u.progress.query
  asked = ap (λ (q : Numbers). q.query) u.held.numbers

  pub loaded-early : length text ≤ at → p.query ≡ false → Loaded text (Err (refused_at BadLine n)) T
  loaded-early h q = go u.progress.query refl
    where
      go : (x : Option Expression) → u.progress.query ≡ x → Loaded text (Err (refused_at BadLine n)) T
      go none e = loaded-refused text T BadLine n (underway-end h ∙ ended-early u.progress n e)
      go (some y) e = absurd (false≢true (sym q ∙ asked ∙ ap is_some e))

  pub loaded-job : length text ≤ at → p.query ≡ true → Loaded text (Ok (counts p.labels p.lists)) T
  loaded-job h q = go u.progress.query refl
    where
      go : (x : Option Expression) → u.progress.query ≡ x → Loaded text (Ok (counts p.labels p.lists)) T
      go none e = absurd (true≢false (sym q ∙ asked ∙ ap is_some e))
      go (some y) e =
          let P = u.progress in
          let J : NamedJob = record { labels = P.labels; query = y; list_names = P.list_names; lists = P.lists } in
          let d : read text ≡ job J = underway-end h ∙ ap (λ x. ended x n) (whole P e) ∙ ended-late J n in
          record {
            answer = ap₂ (λ a b. Ok (counts a b)) (labels-held u.held) (lists-held u.held) ∙ sym (ap answer_of d);
            holds = λ K f. let same : J ≡ K = cc in rw (sym same) (holds-whole text P y T e u.held.holds);
          }

  -- There is a row for the list that the next line may give.
  pub list-within : p.lists + 1 ≤ asked_rows text
  list-within = omega (arith, u.room)

  -- The rows of the lists read so far are in the tables.
  pub roomy-lists : {follow enter : List ℕ} → HasRows (asked_rows text) follow enter → Roomy (Ok (counts p.labels p.lists)) follow enter
  roomy-lists r =
      roomy-job p.labels p.lists (asked_rows text) (omega (arith, u.room)) (omega (arith, lists-held u.held, u.held.few-lists)) r

  module _ (inside : at < length text) where
    pub loaded-unclosed : (T' : Tables) → first newline (drop at text) ≡ None → Loaded text (Err (refused_at BadLine n)) T'
    loaded-unclosed T' h =
        let l = length-drop at text in
        loaded-refused text T' BadLine n
        (sym u.left ∙ read-unclosed u.calls u.progress n (drop at text) (omega arith) (uncut-none newline (drop at text) h))

  module _ (size : ℕ) (found : first newline (drop at text) ≡ Some size) where
    pub line-within : at + size < length text
    line-within = omega (arith, length-drop at text, (cut-first newline (drop at text) size found).0)

    line-cut : cut_at newline (drop at text) ≡ cut (take size (drop at text)) (drop (at + (size + 1)) text)
    line-cut =
        let i : at + suc size ≡ at + (size + 1) = omega arith in
        (cut-first newline (drop at text) size found).1
        ∙ ap (cut (take size (drop at text))) (drop-drop (suc size) at text ∙ ap (λ k. drop k text) i)

    starts-left : list_starts (take size (drop at text)) + list_starts (drop (at + (size + 1)) text) ≤ list_starts (drop at text)
    starts-left =
        let i : at + suc size ≡ at + (size + 1) = omega arith in
        let e : drop (suc size) (drop at text) ≡ drop (at + (size + 1)) text = drop-drop (suc size) at text ∙ ap (λ k. drop k text) i in
        omega (arith, starts-cut size (drop at text), ap list_starts e)

    pub loaded-fault : {r : Result Numbers Refusal} {T' : Tables} → Gives text (λ P. given P (part text (span at size))) p T r T'
        → (f : Refusal) → r ≡ Err f → Loaded text (Err (refused_at f n)) T'
    loaded-fault {T'} g f e =
        loaded-refused text T' f n
        (sym u.left
        ∙ read-fault u.calls u.progress n (drop at text) _ _ line-cut (tells-bad f (g.gives u.progress u.held) e))

    pub underway-next : {r : Result Numbers Refusal} {T' : Tables} → Gives text (λ P. given P (part text (span at size))) p T r T'
        → (q : Numbers) → r ≡ Ok q → Underway text (at + (size + 1)) (n + 1) q T'
    underway-next {T'} g q e = go (tells-good q (g.gives u.progress u.held) e) u.calls u.enough u.left
      where
        go : (Q : Progress) × (given u.progress (take size (drop at text)) ≡ good Q) × Held text Q q T'
            → (k : ℕ) → length text - at ≤ k → read_lines (suc k) u.progress n (drop at text) ≡ read text
            → Underway text (at + (size + 1)) (n + 1) q T'
        go d zero b c = absurd (omega (arith, line-within))
        go d (suc k) b c = record {
          progress = d.0;
          held = d.2;
          calls = k;
          enough = omega arith;
          left =
              ap (λ m. read_lines (suc k) d.0 m (drop (at + (size + 1)) text)) (add-one n)
              ∙ sym (read-on (suc k) u.progress d.0 n (drop at text) _ _ line-cut d.1) ∙ c;
          room =
              omega (
                arith,
                starts-left,
                u.room,
                lists-held u.held,
                lists-held d.2,
                given-one u.progress d.0 (take size (drop at text)) d.1,
              );
        }
