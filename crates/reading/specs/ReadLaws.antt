-- Reading a job text is as document 01 has it: `read` gives a job exactly for its job text, and a refusal with a line exactly where document
-- 01 has that refusal at that line. So a text is the job text of one job at most.
use Rattle.std.specs.Prelude.{ℕ, zero, suc, ◌+◌, ◌-◌, ◌≤◌, ◌<◌, [], ◌∷◌, ◌++◌, ◌↔◌, ◌≡◌, refl, length}
use Rattle.std.proofs.Common.{append-nil, append_assoc, sym, ap, ◌∙◌, arith, length-append, le-leb}
use Rattle.std.proofs.Math.Option.{Option, some, none}
use Rattle.std.proofs.Math.Decide.{dec_le}
use Rattle.std.proofs.lemmas.Bool.{lt-leb}
use Rattle.theory.specs.Expression.{Expression}
use Rattle.syntax.specs.declared.refusal.Refusal.{Refusal}
use Rattle.syntax.specs.declared.refusal.Refusal.TheVariants.{TextTooLong, BadLine}
use Rattle.syntax.specs.Byte.{Bytes}
use Rattle.syntax.specs.Check.{Distinct}
use Rattle.reading.specs.Text.{newline, line, most_text}
use Rattle.reading.specs.JobText.{NamedJob, IsJob}
use Rattle.reading.specs.Refusing.{Progress, beginning, Without, GoodLines, Refused}
use Rattle.reading.specs.Read.{Cut, cut, uncut, cut_at, Given, good, bad, given, Reading, job, refused, ended, read_lines, read}
use Rattle.reading.specs.CutLaws.{cut-exactly, uncut-exactly}
use Rattle.reading.specs.DistinctLaws.{distinct_nil}
use Rattle.reading.specs.LineLaws.{given-good-exactly, given-bad-exactly, good-labels-distinct}
use Rattle.reading.specs.JobLines.{progress_of, job-lines}

-- How reading goes on, by what is left of the text.

pub read-on : (k : ℕ) (P Q : Progress) (n : ℕ) (s l more : Bytes) → cut_at newline s ≡ cut l more → given P l ≡ good Q
    → read_lines (suc k) P n s ≡ read_lines k Q (suc n) more
unfolding read_lines cut_at
read-on k P Q n [] l more c g = absurd (let z : ◌≡◌ {A = ℕ} 0 1 = cc in omega arith)
read-on k P Q n (b ∷ s) l more c g = rw (c, g, read_lines)

pub read-fault : (k : ℕ) (P : Progress) (n : ℕ) (s l more : Bytes) {r : Refusal} → cut_at newline s ≡ cut l more → given P l ≡ bad r
    → read_lines (suc k) P n s ≡ refused r n
unfolding read_lines cut_at
read-fault k P n [] l more c g = absurd (let z : ◌≡◌ {A = ℕ} 0 1 = cc in omega arith)
read-fault k P n (b ∷ s) l more c g = rw (c, g, read_lines)

pub read-unclosed : (k : ℕ) (P : Progress) (n : ℕ) (s : Bytes) → 1 ≤ length s → cut_at newline s ≡ uncut
    → read_lines (suc k) P n s ≡ refused BadLine n
unfolding read_lines
read-unclosed k P n [] h c = absurd (omega arith)
read-unclosed k P n (b ∷ s) h c = rw (c, read_lines)

pub read-end : (k : ℕ) (P : Progress) (n : ℕ) → read_lines (suc k) P n [] ≡ ended P n
unfolding read_lines
read-end k P n = refl

pub ended-early : (P : Progress) (n : ℕ) → P.query ≡ none → ended P n ≡ refused BadLine n
unfolding ended
ended-early P n q = rw (q, ended)

pub ended-late : (J : NamedJob) (n : ℕ) → ended (progress_of J) n ≡ job J
unfolding ended
ended-late J n = refl

line-cut : (l more : Bytes) → Without newline l → cut_at newline (line l ++ more) ≡ cut l more
line-cut l more w = (cut-exactly newline (line l ++ more) l more).1 (append_assoc l (newline ∷ []) more, w)

-- Good lines: their labels are distinct, and they are no more than the bytes of their text.

labels-distinct : {s : Bytes} {n : ℕ} {P : Progress} → GoodLines s n P → Distinct P.labels
labels-distinct GoodLines.nothing = distinct_nil
labels-distinct (GoodLines.next l e r w g) = good-labels-distinct g (labels-distinct r)

lines-few : {s : Bytes} {n : ℕ} {P : Progress} → GoodLines s n P → n ≤ length s
lines-few GoodLines.nothing = omega arith
lines-few (GoodLines.next {s} {n} l e r w g) =
    omega (arith, lines-few r, ap length e ∙ length-append s (line l), length-append l (newline ∷ []))

-- Good lines at the front of a text are read one by one.
lines-read : {s : Bytes} {n : ℕ} {P : Progress} → GoodLines s n P → (j k : ℕ) (t : Bytes) → j ≡ n + k
    → read_lines j beginning 1 (s ++ t) ≡ read_lines k P (suc n) t
lines-read GoodLines.nothing j k t e = let h : j ≡ k = omega arith in rw h
lines-read (GoodLines.next {s} {n} {P} {Q} l e r w g) j k t d =
    ap (λ x. read_lines j beginning 1 (x ++ t)) e ∙ ap (read_lines j beginning 1) (append_assoc s (line l) t)
    ∙ lines-read r j (suc k) (line l ++ t) (omega arith)
    ∙ read-on k P Q (suc n) (line l ++ t) l t (line-cut l t w) ((given-good-exactly P (labels-distinct r) l Q).1 g)

pub read_short : (text : Bytes) → length text ≤ most_text → read text ≡ read_lines (suc (length text)) beginning 1 text
unfolding read
read_short text h = rw (le-leb (length text) most_text h, read)

pub read-long : (text : Bytes) → most_text < length text → read text ≡ refused TextTooLong 0
unfolding read
read-long text h = rw (lt-leb (length text) most_text h, read)

-- Reading a text that begins with good lines comes to reading the rest.
read-rest : (text s t : Bytes) {n : ℕ} {P : Progress} → length text ≤ most_text → text ≡ s ++ t → GoodLines s n P
    → (k : ℕ) × (read text ≡ read_lines (suc k) P (suc n) t)
read-rest text s t {n} {P} h e g =
    let few = lines-few g in
    let long = ap length e ∙ length-append s t in (
      length text - n,
      read_short text h ∙ ap (read_lines (suc (length text)) beginning 1) e
          ∙ lines-read g (suc (length text)) (suc (length text - n)) t (omega arith),
    )

-- What a reading says of the text.
abbrev ReadingOf : Bytes → Reading → Type 0
ReadingOf text (job J) = IsJob text J
ReadingOf text (refused r n) = Refused text r n

refused-read : (text : Bytes) {r : Refusal} {n : ℕ} → Refused text r n → read text ≡ refused r n
refused-read text (Refused.long h) = read-long text h
refused-read text (Refused.faulty {s} {n} {P} {r} l more h e g w f) =
    let rest = read-rest text s (line l ++ more) h e g in
    rest.1 ∙ read-fault rest.0 P (suc n) (line l ++ more) l more (line-cut l more w)
    ((given-bad-exactly P (labels-distinct g) l r).1 f)
refused-read text (Refused.unclosed {s} {n} {P} l h e one g w) =
    let rest = read-rest text s l h e g in
    rest.1 ∙ read-unclosed rest.0 P (suc n) l one ((uncut-exactly newline l).1 w)
refused-read text (Refused.no-query {n} {P} h g q) =
    let rest = read-rest text text [] h (sym (append-nil text)) g in
    rest.1 ∙ read-end rest.0 P (suc n) ∙ ended-early P (suc n) q

job_read : (text : Bytes) (J : NamedJob) → IsJob text J → read text ≡ job J
job_read text J j =
    let lines = (job-lines text J).0 j in
    let rest = read-rest text text [] j.short (sym (append-nil text)) lines.1.1 in
    rest.1 ∙ read-end rest.0 (progress_of J) (suc lines.1.0) ∙ ended-late J (suc lines.1.0)

-- What reading the rest of a text gives, good lines having been read before it.

pub whole : (P : Progress) {q : Expression} → P.query ≡ some q
    → P ≡ progress_of (record { labels = P.labels; query = q; list_names = P.list_names; lists = P.lists })
whole P e = λ i. record { labels = P.labels; query = e i; list_names = P.list_names; lists = P.lists }

ended_of : (text : Bytes) {n : ℕ} {P : Progress} → length text ≤ most_text → GoodLines text n P → ReadingOf text (ended P (suc n))
ended_of text {n} {P} h g = go P.query refl
  where
    go : (x : Option Expression) → P.query ≡ x → ReadingOf text (ended P (suc n))
    go none q = rw (ended-early P (suc n) q) (Refused.no-query h g q)
    go (some q) e =
        let J : NamedJob = record { labels = P.labels; query = q; list_names = P.list_names; lists = P.lists } in
        rw (ap (λ x. ended x (suc n)) (whole P e) ∙ ended-late J (suc n)) ((job-lines text J).1 (h, (n, rw (whole P e) at g)))

-- Reading with k calls gives what is so, where k are enough.
abbrev ReadsWell : Bytes → ℕ → Type 0
ReadsWell text k = (s t : Bytes) (n : ℕ) (P : Progress) → text ≡ s ++ t → length t < k → GoodLines s n P
    → ReadingOf text (read_lines k P (suc n) t)

lines_step : (text : Bytes) → length text ≤ most_text → (k : ℕ) → ReadsWell text k → ReadsWell text (suc k)
lines_step text h k ih s [] n P e f g = rw (read-end k P (suc n)) (ended_of text h (rw (e ∙ append-nil s) g))
lines_step text h k ih s (b ∷ t) n P e f g = by-line (cut_at newline (b ∷ t)) refl
  where
    by-given : (l more : Bytes) → cut_at newline (b ∷ t) ≡ cut l more → Without newline l → b ∷ t ≡ line l ++ more → (x : Given)
        → given P l ≡ x → ReadingOf text (read_lines (suc k) P (suc n) (b ∷ t))
    by-given l more c w d (bad r) i =
        rw (read-fault k P (suc n) (b ∷ t) l more c i)
        (Refused.faulty l more h (e ∙ ap (λ x. s ++ x) d) g w ((given-bad-exactly P (labels-distinct g) l r).0 i))
    by-given l more c w d (good Q) i =
        rw (read-on k P Q (suc n) (b ∷ t) l more c i)
        (ih (s ++ line l) more (suc n) Q (e ∙ ap (λ x. s ++ x) d ∙ sym (append_assoc s (line l) more))
        (omega (arith, ap length d ∙ length-append (line l) more, length-append l (newline ∷ [])))
        (GoodLines.next l refl g w ((given-good-exactly P (labels-distinct g) l Q).0 i)))

    by-line : (x : Cut) → cut_at newline (b ∷ t) ≡ x → ReadingOf text (read_lines (suc k) P (suc n) (b ∷ t))
    by-line uncut c =
        rw (read-unclosed k P (suc n) (b ∷ t) (omega arith) c)
        (Refused.unclosed (b ∷ t) h e (omega arith) g ((uncut-exactly newline (b ∷ t)).0 c))
    by-line (cut l more) c =
        let both = (cut-exactly newline (b ∷ t) l more).0 c in
        by-given l more c both.1 (both.0 ∙ sym (append_assoc l (newline ∷ []) more)) (given P l) refl

lines_of : (text : Bytes) → length text ≤ most_text → (k : ℕ) → ReadsWell text k
lines_of text h zero = λ s t n P e f g. absurd (omega arith)
lines_of text h (suc k) = lines_step text h k (lines_of text h k)

read_of : (text : Bytes) → ReadingOf text (read text)
read_of text = go (dec_le (length text) most_text)
  where
    go : Dec (length text ≤ most_text) → ReadingOf text (read text)
    go (yes h) = rw (read_short text h) (lines_of text h (suc (length text)) [] text 0 beginning refl (omega arith) GoodLines.nothing)
    go (no h) = rw (read-long text (omega arith)) (Refused.long (omega arith))

pub read-job : (text : Bytes) (J : NamedJob) → (read text ≡ job J) ↔ IsJob text J
read-job text J = (λ e. rw e at (read_of text), job_read text J)

pub read-refused : (text : Bytes) (r : Refusal) (n : ℕ) → (read text ≡ refused r n) ↔ Refused text r n
read-refused text r n = (λ e. rw e at (read_of text), refused-read text)

pub job-unique : {text : Bytes} {J K : NamedJob} → IsJob text J → IsJob text K → J ≡ K
job-unique {text} {J} {K} j k =
    let e = job_read text J j in
    let f = job_read text K k in
    cc

-- The line of a refusal is at most one more than the most bytes of a text.
refused-line : {text : Bytes} {r : Refusal} {n : ℕ} → Refused text r n → n ≤ suc most_text
refused-line (Refused.long h) = omega arith
refused-line {text} (Refused.faulty {s} l more h e g w f) = omega (arith, lines-few g, ap length e ∙ length-append s (line l ++ more))
refused-line {text} (Refused.unclosed {s} l h e k g w) = omega (arith, lines-few g, ap length e ∙ length-append s l)
refused-line (Refused.no-query h g q) = omega (arith, lines-few g)

pub read-line : (text : Bytes) (r : Refusal) (n : ℕ) → read text ≡ refused r n → n ≤ suc most_text
read-line text r n e = refused-line ((read-refused text r n).0 e)
