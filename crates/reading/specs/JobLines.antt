-- A job text line by line: a text is the job text of J exactly when it is short enough and made of good lines that give J.
use Rattle.std.specs.Prelude.{ℕ, ◌≤◌, ◌<◌, List, [], ◌∷◌, ◌++◌, ◌↔◌, ◌≡◌, refl, length}
use Rattle.std.proofs.Common.{append-nil, append_assoc, sym, ap, ◌∙◌, arith, length-append}
use Rattle.std.proofs.Math.Option.{some, none, some-ne-none, some-injective}
use Rattle.theory.specs.Expression.{Expression}
use Rattle.syntax.specs.Byte.{Bytes, kind}
use Rattle.syntax.specs.Name.{IsName}
use Rattle.syntax.specs.Grammar.{alternatives}
use Rattle.syntax.specs.Check.{Distinct, IsExpression}
use Rattle.reading.specs.Text.{newline, space, label_word, query_word, list_word, line, most_text, most_labels, most_lists}
use Rattle.reading.specs.JobText.{NamedJob, LabelLines, ListLines, IsJob}
use Rattle.reading.specs.Refusing.{Progress, Without, Fresh, GoodLine, GoodLines}
use Rattle.reading.specs.Read.{cut_at}
use Rattle.reading.specs.WithoutLaws.{without-cons, without-append, name-without, expression-without}
use Rattle.reading.specs.CutLaws.{uncut-exactly}
use Rattle.reading.specs.DistinctLaws.{distinct_nil, distinct_more, distinct-before}

-- What the lines of a job have given when all are read.
abbrev pub progress_of : NamedJob → Progress
progress_of J = record { labels = J.labels; query = some J.query; list_names = J.list_names; lists = J.lists }

-- From lines to blocks.

label-lines-more : {names : List Bytes} {s : Bytes} (n t : Bytes) → LabelLines names s → IsName n → t ≡ s ++ line (label_word ++ n)
    → LabelLines (names ++ (n ∷ [])) t
label-lines-more n t LabelLines.nothing m e = LabelLines.next [] m (e ∙ sym (append-nil (line (label_word ++ n)))) LabelLines.nothing
label-lines-more n t (LabelLines.next {n = first} more l f r) m e =
    LabelLines.next (more ++ line (label_word ++ n)) l
    (e ∙ ap (λ x. x ++ line (label_word ++ n)) f ∙ append_assoc (line (label_word ++ first)) more (line (label_word ++ n)))
    (label-lines-more n (more ++ line (label_word ++ n)) r m refl)

list-lines-more : {labels names : List Bytes} {lists : List Expression} {s : Bytes} (n text : Bytes) (e : Expression) (t : Bytes)
    → ListLines labels names lists s → IsName n → IsExpression labels text e → t ≡ s ++ line (list_word ++ (n ++ (space ∷ text)))
    → ListLines labels (names ++ (n ∷ [])) (lists ++ (e ∷ [])) t
list-lines-more n text e t ListLines.nothing m i d =
    ListLines.next text [] m i (d ∙ sym (append-nil (line (list_word ++ (n ++ (space ∷ text)))))) ListLines.nothing
list-lines-more n text e t (ListLines.next {n = first} u more l j f r) m i d =
    let last : Bytes = line (list_word ++ (n ++ (space ∷ text))) in
    ListLines.next u (more ++ last) l j (d ∙ ap (λ x. x ++ last) f ∙ append_assoc (line (list_word ++ (first ++ (space ∷ u)))) more last)
    (list-lines-more n text e (more ++ last) r m i refl)

-- The label lines and a query line are a job text with no list.
job-asked : (labels : List Bytes) (s text l : Bytes) (e : Expression) → LabelLines labels s → length labels ≤ most_labels → Distinct labels
    → 1 ≤ length labels → l ≡ query_word ++ text → IsExpression labels text e → length (s ++ line l) ≤ most_text
    → IsJob (s ++ line l) (record { labels = labels; query = e; list_names = []; lists = [] })
job-asked labels s text l e r few d one w i short = record {
  short = short;
  label_text = s;
  query_text = text;
  list_text = [];
  lines = ap (λ x. s ++ x) (ap line w ∙ sym (append-nil (line (query_word ++ text))));
  labels = r;
  some-label = one;
  few-labels = few;
  distinct-labels = d;
  query = i;
  lists = ListLines.nothing;
  few-lists = omega arith;
  distinct-lists = distinct_nil;
}

-- A job text and one more list line are a job text.
job-listed : (J : NamedJob) (s n text l : Bytes) (e : Expression) → IsJob s J → length J.list_names < most_lists → Fresh n J.list_names
    → l ≡ list_word ++ (n ++ (space ∷ text)) → IsExpression J.labels text e → length (s ++ line l) ≤ most_text
    → IsJob (s ++ line l)
    (record { labels = J.labels; query = J.query; list_names = J.list_names ++ (n ∷ []); lists = J.lists ++ (e ∷ []) })
job-listed J s n text l e j h f w i short = record {
  short = short;
  label_text = j.label_text;
  query_text = j.query_text;
  list_text = j.list_text ++ line l;
  lines = ap (λ x. x ++ line l) j.lines ∙ simp append_assoc;
  labels = j.labels;
  some-label = j.some-label;
  few-labels = j.few-labels;
  distinct-labels = j.distinct-labels;
  query = j.query;
  lists = list-lines-more n text e (j.list_text ++ line l) j.lists f.0 i (ap (λ x. j.list_text ++ line x) w);
  few-lists = simp length-append (omega arith);
  distinct-lists = distinct_more J.list_names n j.distinct-lists f.1;
}

-- What good lines are so far: label lines, or a job text.
data Blocks (s : Bytes) (P : Progress) : Type 0 where
  only-labels : P.query ≡ none → P.list_names ≡ [] → P.lists ≡ [] → LabelLines P.labels s → length P.labels ≤ most_labels
      → Distinct P.labels → Blocks s P
  whole : (q : Expression) → P.query ≡ some q
      → IsJob s (record { labels = P.labels; query = q; list_names = P.list_names; lists = P.lists }) → Blocks s P

blocks-next : {P Q : Progress} (s l : Bytes) → length (s ++ line l) ≤ most_text → Blocks s P → GoodLine P l Q → Blocks (s ++ line l) Q
blocks-next {P} s l short (Blocks.only-labels q m e r few d) (GoodLine.label n a h f) =
    Blocks.only-labels q m e (label-lines-more n (s ++ line l) r f.0 (ap (λ x. s ++ line x) a.1))
    (simp length-append (omega arith)) (distinct_more P.labels n d f.1)
blocks-next {P} s l short (Blocks.only-labels q m e r few d) (GoodLine.query text {e = x} a i) =
    Blocks.whole x refl (rw (m, e) (job-asked P.labels s text l x r few d a.1 a.2 i short))
blocks-next s l short (Blocks.only-labels q m e r few d) (GoodLine.list n text a h f i) = absurd (a.0 q)
blocks-next s l short (Blocks.whole q e j) (GoodLine.label n a h f) = absurd (some-ne-none q (sym e ∙ a.0))
blocks-next s l short (Blocks.whole q e j) (GoodLine.query text a i) = absurd (some-ne-none q (sym e ∙ a.0))
blocks-next {P} s l short (Blocks.whole q e j) (GoodLine.list n text {e = x} a h f i) =
    Blocks.whole q e
    (job-listed (record { labels = P.labels; query = q; list_names = P.list_names; lists = P.lists }) s n text l x j h f a.1 i short)

blocks : {s : Bytes} {n : ℕ} {P : Progress} → GoodLines s n P → length s ≤ most_text → Blocks s P
blocks GoodLines.nothing short = Blocks.only-labels refl refl refl LabelLines.nothing (omega arith) distinct_nil
blocks {s = t} (GoodLines.next {s} {P} {Q} l e r w g) short =
    let fits : length (s ++ line l) ≤ most_text = rw e at short in
    rw e (blocks-next s l fits (blocks r (omega (arith, length-append s (line l)))) g)

lines-job : (text : Bytes) (J : NamedJob) {n : ℕ} → length text ≤ most_text → GoodLines text n (progress_of J) → IsJob text J
lines-job text J short g = go (blocks g short)
  where
    go : Blocks text (progress_of J) → IsJob text J
    go (Blocks.only-labels q m e r few d) = absurd (some-ne-none J.query q)
    go (Blocks.whole q e j) = rw (some-injective J.query q e) j

-- From blocks to lines. A name and an expression have no byte 10, and a name no space.

name-no-newline : (n : Bytes) → IsName n → Without newline n
unfolding kind
name-no-newline n m = name-without newline (omega arith) n m

name-no-space : (n : Bytes) → IsName n → Without space n
unfolding kind
name-no-space n m = name-without space (omega arith) n m

expression-no-newline : {labels : List Bytes} (s : Bytes) {e : Expression} → IsExpression labels s e → Without newline s
unfolding kind
expression-no-newline s i = expression-without newline refl alternatives s i.tree i.derives

label-line-closed : (n : Bytes) → IsName n → Without newline (label_word ++ n)
unfolding cut_at
label-line-closed n m = without-append newline label_word n ((uncut-exactly newline label_word).0 refl) (name-no-newline n m)

query-line-closed : {labels : List Bytes} (text : Bytes) {e : Expression} → IsExpression labels text e → Without newline (query_word ++ text)
unfolding cut_at
query-line-closed text i =
    without-append newline query_word text ((uncut-exactly newline query_word).0 refl) (expression-no-newline text i)

list-line-closed : {labels : List Bytes} (n text : Bytes) {e : Expression} → IsName n → IsExpression labels text e
    → Without newline (list_word ++ (n ++ (space ∷ text)))
unfolding cut_at
list-line-closed n text m i =
    without-append newline list_word (n ++ (space ∷ text)) ((uncut-exactly newline list_word).0 refl)
    (without-append newline n (space ∷ text) (name-no-newline n m)
    (without-cons newline space text (omega arith) (expression-no-newline text i)))

-- The progress with label lines only.
abbrev labelled : List Bytes → Progress
labelled labels = record { labels = labels; query = none; list_names = []; lists = [] }

-- Label lines after label lines already read, all of them together having the names `all`.
labels-read : (before : List Bytes) {names : List Bytes} (all : List Bytes) (s : Bytes) {t : Bytes} (u : Bytes) {n : ℕ}
    → GoodLines s n (labelled before) → LabelLines names t → all ≡ before ++ names → u ≡ s ++ t → length all ≤ most_labels → Distinct all
    → (m : ℕ) × GoodLines u m (labelled all)
labels-read before all s u {n} g LabelLines.nothing b c few d = (n, rw (b ∙ append-nil before, c ∙ append-nil s) g)
labels-read before all s u {n} g (LabelLines.next {n = name} {t = names} more h e r) b c few d =
    labels-read (before ++ (name ∷ [])) all (s ++ line (label_word ++ name)) u
    (GoodLines.next (label_word ++ name) refl g (label-line-closed name h)
    (GoodLine.label name (refl, refl) (omega (arith, rw (b, length-append before (name ∷ names)) at few))
    (h, distinct-before before name names (rw b at d))))
    r (b ∙ sym (append_assoc before (name ∷ []) names))
    (c ∙ ap (λ x. s ++ x) e ∙ sym (append_assoc s (line (label_word ++ name)) more)) few d

-- List lines after list lines already read, all of them together having the names `all` and the expressions `every`.
module _ (labels : List Bytes) (query : Expression) where
  abbrev listed : List Bytes → List Expression → Progress
  listed names lists = record { labels = labels; query = some query; list_names = names; lists = lists }

  lists-read : (before : List Bytes) (lists : List Expression) {names : List Bytes} {others : List Expression}
      (all : List Bytes) (every : List Expression) (s : Bytes) {t : Bytes} (u : Bytes) {n : ℕ} → GoodLines s n (listed before lists)
      → ListLines labels names others t → all ≡ before ++ names → every ≡ lists ++ others → u ≡ s ++ t → length all ≤ most_lists
      → Distinct all → (m : ℕ) × GoodLines u m (listed all every)
  lists-read before lists all every s u {n} g ListLines.nothing b x c few d =
      (n, rw (b ∙ append-nil before, x ∙ append-nil lists, c ∙ append-nil s) g)
  lists-read before lists all every s u {n} g (ListLines.next {n = name} {t = names} {e} {l = others} text more h i w r) b x c few d =
      lists-read (before ++ (name ∷ [])) (lists ++ (e ∷ [])) all every (s ++ line (list_word ++ (name ++ (space ∷ text)))) u
      (GoodLines.next (list_word ++ (name ++ (space ∷ text))) refl g (list-line-closed name text h i)
      (GoodLine.list name text (some-ne-none query, refl, name-no-space name h)
      (omega (arith, rw (b, length-append before (name ∷ names)) at few)) (h, distinct-before before name names (rw b at d)) i))
      r (b ∙ sym (append_assoc before (name ∷ []) names)) (x ∙ sym (append_assoc lists (e ∷ []) others))
      (c ∙ ap (λ z. s ++ z) w ∙ sym (append_assoc s (line (list_word ++ (name ++ (space ∷ text)))) more)) few d

good-lines : (text : Bytes) (J : NamedJob) → IsJob text J → (n : ℕ) × GoodLines text n (progress_of J)
good-lines text J j =
    let first = labels-read [] J.labels [] j.label_text GoodLines.nothing j.labels refl refl j.few-labels j.distinct-labels in
    let asked = GoodLines.next (query_word ++ j.query_text) refl first.1 (query-line-closed j.query_text j.query)
    (GoodLine.query j.query_text (refl, j.some-label, refl) j.query) in
    lists-read J.labels J.query [] [] J.list_names J.lists (j.label_text ++ line (query_word ++ j.query_text)) text asked j.lists
    refl refl (j.lines ∙ sym (append_assoc j.label_text (line (query_word ++ j.query_text)) j.list_text)) j.few-lists
    j.distinct-lists

pub job-lines : (text : Bytes) (J : NamedJob) → IsJob text J ↔ ((length text ≤ most_text) × ((n : ℕ) × GoodLines text n (progress_of J)))
job-lines text J = (λ j. (j.short, good-lines text J j), λ g. lines-job text J g.0 g.1.1)
