-- Reading one line is as document 01 has it: `given` gives more exactly for a good line, and a refusal exactly for the first fault of a
-- line that has one.
use Rattle.std.specs.Prelude.{ℕ, ◌≤◌, ◌<◌, Bool, true, false, ◌∷◌, ◌++◌, ◌↔◌, ◌≢◌, ◌≡◌, refl, length}
use Rattle.std.proofs.lemmas.List.{append_cancel_left}
use Rattle.std.proofs.Math.Option.{Option, some, none, none-ne-some}
use Rattle.std.proofs.Common.{sym, ap, ◌∙◌, arith}
use Rattle.std.proofs.Math.Decide.{dec_le, dec_lt}
use borrow.Author.Tests.{lt-ltb, le-ltb, le-leb, lt-leb}
use Rattle.theory.specs.Expression.{Expression}
use Rattle.syntax.specs.declared.refusal.Refusal.{Refusal}
use Rattle.syntax.specs.declared.refusal.Refusal.TheVariants.{BadLine, BadName, TooManyNames}
use Rattle.syntax.specs.Byte.{Bytes}
use Rattle.syntax.specs.Check.{Distinct, Checked, fine, faulty, check}
use Rattle.syntax.specs.CheckLaws.{check-fine, check-faulty}
use Rattle.reading.specs.Text.{space, label_word, query_word, list_word, most_labels, most_lists}
use Rattle.reading.specs.Refusing.{Progress, with_label, with_query, with_list, Fresh, AsLabel, AsQuery, AsList, GoodLine, LineFault}
use Rattle.reading.specs.Read.{Cut, cut, uncut, cut_at, after, fresh, Given, good, bad, given_label, given_query, given_list, early, late, given}
use Rattle.reading.specs.DistinctLaws.{distinct_more}
use Rattle.reading.specs.CutLaws.{cut-exactly, after-exactly, after_none, fresh-exactly, fresh-not}

-- What the given says of the line.
abbrev GivenOf : Progress → Bytes → Given → Type 0
GivenOf P s (good Q) = GoodLine P s Q
GivenOf P s (bad r) = LineFault P s r

-- What reading a line comes to, by what the line is.

pub given-early : (P : Progress) (s : Bytes) → P.query ≡ none → given P s ≡ early P s
unfolding given
given-early P s q = ap (λ (x : Option Expression). elim x [ none ↦ early P s | some e ↦ late P s ]) q

pub given-late : (P : Progress) (s : Bytes) {e : Expression} → P.query ≡ some e → given P s ≡ late P s
unfolding given
given-late P s q = ap (λ (x : Option Expression). elim x [ none ↦ early P s | some e ↦ late P s ]) q

pub early-label : (P : Progress) (s n : Bytes) → s ≡ label_word ++ n → early P s ≡ given_label P n
unfolding early
early-label P s n e = rw ((after-exactly label_word s n).1 e, early)

pub early-query : (P : Progress) (s text : Bytes) → s ≡ query_word ++ text → early P s ≡ given_query P text
unfolding early after
early-query P s text e = ap (early P) e

pub early-neither : (P : Progress) (s : Bytes) → after label_word s ≡ none → after query_word s ≡ none → early P s ≡ bad BadLine
unfolding early
early-neither P s e f = rw (e, f, early)

pub late-list : (P : Progress) (s more : Bytes) → s ≡ list_word ++ more → late P s ≡ given_list P more
unfolding late
late-list P s more e = rw ((after-exactly list_word s more).1 e, late)

pub late-other : (P : Progress) (s : Bytes) → after list_word s ≡ none → late P s ≡ bad BadLine
unfolding late
late-other P s e = rw (e, late)

as-label : (P : Progress) (s n : Bytes) → AsLabel P s n → given P s ≡ given_label P n
as-label P s n a = given-early P s a.0 ∙ early-label P s n a.1

as-query : (P : Progress) (s text : Bytes) → AsQuery P s text → given P s ≡ given_query P text
as-query P s text a = given-early P s a.0 ∙ early-query P s text a.2

as-list : (P : Progress) (s n text : Bytes) → AsList P s n text → given P s ≡ given_list P (n ++ (space ∷ text))
as-list P s n text a = go P.query refl
  where
    go : (x : Option Expression) → P.query ≡ x → given P s ≡ given_list P (n ++ (space ∷ text))
    go none q = absurd (a.0 q)
    go (some e) q = given-late P s q ∙ late-list P s (n ++ (space ∷ text)) a.1

as-cut : (P : Progress) (s n text : Bytes) → AsList P s n text → cut_at space (n ++ (space ∷ text)) ≡ cut n text
as-cut P s n text a = (cut-exactly space (n ++ (space ∷ text)) n text).1 (refl, a.2)

module _ (P : Progress) (n : Bytes) where
  pub label-many : most_labels ≤ length P.labels → given_label P n ≡ bad TooManyNames
  unfolding given_label
  label-many h = rw (le-ltb (length P.labels) most_labels h, given_label)

  pub label-bad : length P.labels < most_labels → ¬ Fresh n P.labels → given_label P n ≡ bad BadName
  unfolding given_label
  label-bad h f = rw (lt-ltb (length P.labels) most_labels h, (fresh-not n P.labels).1 f, given_label)

  pub label-good : length P.labels < most_labels → Fresh n P.labels → given_label P n ≡ good (with_label P n)
  unfolding given_label
  label-good h f = rw (lt-ltb (length P.labels) most_labels h, (fresh-exactly n P.labels).1 f, given_label)

module _ (P : Progress) (text : Bytes) where
  pub query-early : length P.labels < 1 → given_query P text ≡ bad BadLine
  unfolding given_query
  query-early h = rw (lt-leb 1 (length P.labels) h, given_query)

  pub query-bad : 1 ≤ length P.labels → {r : Refusal} → check P.labels text ≡ faulty r → given_query P text ≡ bad r
  unfolding given_query
  query-bad h c = rw (le-leb 1 (length P.labels) h, c, given_query)

  pub query-good : 1 ≤ length P.labels → {e : Expression} → check P.labels text ≡ fine e → given_query P text ≡ good (with_query P e)
  unfolding given_query
  query-good h c = rw (le-leb 1 (length P.labels) h, c, given_query)

module _ (P : Progress) (s n text : Bytes) (split : cut_at space s ≡ cut n text) where
  pub list-many : most_lists ≤ length P.list_names → given_list P s ≡ bad TooManyNames
  unfolding given_list
  list-many h = rw (split, le-ltb (length P.list_names) most_lists h, given_list)

  pub list-name : length P.list_names < most_lists → ¬ Fresh n P.list_names → given_list P s ≡ bad BadName
  unfolding given_list
  list-name h f = rw (split, lt-ltb (length P.list_names) most_lists h, (fresh-not n P.list_names).1 f, given_list)

  pub list-bad : length P.list_names < most_lists → Fresh n P.list_names → {r : Refusal} → check P.labels text ≡ faulty r
      → given_list P s ≡ bad r
  unfolding given_list
  list-bad h f c = rw (split, lt-ltb (length P.list_names) most_lists h, (fresh-exactly n P.list_names).1 f, c, given_list)

  pub list-good : length P.list_names < most_lists → Fresh n P.list_names → {e : Expression} → check P.labels text ≡ fine e
      → given_list P s ≡ good (with_list P n e)
  unfolding given_list
  list-good h f c = rw (split, lt-ltb (length P.list_names) most_lists h, (fresh-exactly n P.list_names).1 f, c, given_list)

pub list-uncut : (P : Progress) (s : Bytes) → cut_at space s ≡ uncut → given_list P s ≡ bad BadLine
unfolding given_list
list-uncut P s e = rw (e, given_list)

-- What reading a line gives is so.

label_of : (P : Progress) (s n : Bytes) → AsLabel P s n → GivenOf P s (given_label P n)
label_of P s n a = go (dec_lt (length P.labels) most_labels) (fresh n P.labels) refl
  where
    go : Dec (length P.labels < most_labels) → (b : Bool) → fresh n P.labels ≡ b → GivenOf P s (given_label P n)
    go (no h) b f = rw (label-many P n (omega arith)) (LineFault.many-labels n a (omega arith))
    go (yes h) false f =
        let m = (fresh-not n P.labels).0 f in
        rw (label-bad P n h m) (LineFault.label-name n a h m)
    go (yes h) true f =
        let m = (fresh-exactly n P.labels).0 f in
        rw (label-good P n h m) (GoodLine.label n a h m)

query-of : (P : Progress) (s text : Bytes) → Distinct P.labels → AsQuery P s text → GivenOf P s (given_query P text)
query-of P s text d a = go (check P.labels text) refl
  where
    go : (c : Checked) → check P.labels text ≡ c → GivenOf P s (given_query P text)
    go (fine e) c = rw (query-good P text a.1 c) (GoodLine.query text a ((check-fine P.labels d text e).0 c))
    go (faulty r) c = rw (query-bad P text a.1 c) (LineFault.query text a ((check-faulty P.labels text r).0 c))

list_of : (P : Progress) (s more : Bytes) → Distinct P.labels → P.query ≢ none → s ≡ list_word ++ more → GivenOf P s (given_list P more)
list_of P s more d q w = go (cut_at space more) refl
  where
    expression : (n text : Bytes) → cut_at space more ≡ cut n text → AsList P s n text → length P.list_names < most_lists
        → Fresh n P.list_names → (c : Checked) → check P.labels text ≡ c → GivenOf P s (given_list P more)
    expression n text k a h f (fine e) c =
        rw (list-good P more n text k h f c) (GoodLine.list n text a h f ((check-fine P.labels d text e).0 c))
    expression n text k a h f (faulty r) c =
        rw (list-bad P more n text k h f c) (LineFault.list n text a h f ((check-faulty P.labels text r).0 c))

    named : (n text : Bytes) → cut_at space more ≡ cut n text → AsList P s n text → Dec (length P.list_names < most_lists)
        → (b : Bool) → fresh n P.list_names ≡ b → GivenOf P s (given_list P more)
    named n text k a (no h) b f = rw (list-many P more n text k (omega arith)) (LineFault.many-lists n text a (omega arith))
    named n text k a (yes h) false f =
        let m = (fresh-not n P.list_names).0 f in
        rw (list-name P more n text k h m) (LineFault.list-name n text a h m)
    named n text k a (yes h) true f =
        expression n text k a h ((fresh-exactly n P.list_names).0 f) (check P.labels text) refl

    unlike : cut_at space more ≡ uncut → (n t : Bytes) → ¬ AsList P s n t
    unlike k n t a =
        let c = (cut-exactly space more n t).1 (append_cancel_left list_word more (n ++ (space ∷ t)) (sym w ∙ a.1), a.2) in
        let z : ◌≡◌ {A = ℕ} 0 1 = cc in
        omega arith

    go : (x : Cut) → cut_at space more ≡ x → GivenOf P s (given_list P more)
    go uncut k =
        rw (list-uncut P more k) (LineFault.form (λ n a. q a.0) (λ t a. q a.0) (unlike k))
    go (cut n text) k =
        let c = (cut-exactly space more n text).0 k in
        named n text k (q, (w ∙ ap (λ t. list_word ++ t) c.0), c.1) (dec_lt (length P.list_names) most_lists) (fresh n P.list_names) refl

early-of : (P : Progress) (s : Bytes) → Distinct P.labels → P.query ≡ none → GivenOf P s (early P s)
early-of P s d q = go (after label_word s) refl (after query_word s) refl
  where
    form : ((n : Bytes) → s ≢ label_word ++ n) → ((t : Bytes) → ¬ AsQuery P s t) → LineFault P s BadLine
    form l m = LineFault.form (λ n a. l n a.1) m (λ n t a. a.0 q)

    asked : (text : Bytes) → after label_word s ≡ none → s ≡ query_word ++ text → Dec (1 ≤ length P.labels)
        → GivenOf P s (given_query P text)
    asked text e w (yes h) = query-of P s text d (q, h, w)
    asked text e w (no h) = rw (query-early P text (omega arith)) (form ((after_none label_word s).0 e) (λ t a. h a.1))

    go : (x : Option Bytes) → after label_word s ≡ x → (y : Option Bytes) → after query_word s ≡ y → GivenOf P s (early P s)
    go (some n) e y f =
        let w = (after-exactly label_word s n).0 e in
        rw (early-label P s n w) (label_of P s n (q, w))
    go none e (some t) f =
        let w = (after-exactly query_word s t).0 f in
        rw (early-query P s t w) (asked t e w (dec_le 1 (length P.labels)))
    go none e none f =
        rw (early-neither P s e f)
        (form ((after_none label_word s).0 e) (λ t a. (after_none query_word s).0 f t a.2))

late_of : (P : Progress) (s : Bytes) → Distinct P.labels → P.query ≢ none → GivenOf P s (late P s)
late_of P s d q = go (after list_word s) refl
  where
    go : (x : Option Bytes) → after list_word s ≡ x → GivenOf P s (late P s)
    go (some more) e =
        let w = (after-exactly list_word s more).0 e in
        rw (late-list P s more w) (list_of P s more d q w)
    go none e =
        rw (late-other P s e)
        (LineFault.form (λ n a. q a.0) (λ t a. q a.0) (λ n t a. (after_none list_word s).0 e (n ++ (space ∷ t)) a.1))

given-of : (P : Progress) (s : Bytes) → Distinct P.labels → GivenOf P s (given P s)
given-of P s d = go P.query refl
  where
    go : (x : Option Expression) → P.query ≡ x → GivenOf P s (given P s)
    go none q = rw (given-early P s q) (early-of P s d q)
    go (some e) q = rw (given-late P s q) (late_of P s d (λ n. none-ne-some e (sym n ∙ q)))

-- A line with no form is refused as such: its every other outcome has a form.
formless : (P : Progress) (s : Bytes) → Distinct P.labels → ((n : Bytes) → ¬ AsLabel P s n) → ((t : Bytes) → ¬ AsQuery P s t)
    → ((n t : Bytes) → ¬ AsList P s n t) → given P s ≡ bad BadLine
formless P s d l m k = go (given P s) (given-of P s d)
  where
    not_good : {Q : Progress} → GoodLine P s Q → ⊥
    not_good (GoodLine.label n a h f) = l n a
    not_good (GoodLine.query text a i) = m text a
    not_good (GoodLine.list n text a h f i) = k n text a

    badly : {r : Refusal} → LineFault P s r → bad r ≡ bad BadLine
    badly (LineFault.form _ _ _) = refl
    badly (LineFault.many-labels n a h) = absurd (l n a)
    badly (LineFault.label-name n a h f) = absurd (l n a)
    badly (LineFault.query text a i) = absurd (m text a)
    badly (LineFault.many-lists n text a h) = absurd (k n text a)
    badly (LineFault.list-name n text a h f) = absurd (k n text a)
    badly (LineFault.list n text a h f i) = absurd (k n text a)

    go : (g : Given) → GivenOf P s g → g ≡ bad BadLine
    go (good Q) h = absurd (not_good h)
    go (bad r) h = badly h

given-good : (P : Progress) (s : Bytes) → Distinct P.labels → {Q : Progress} → GoodLine P s Q → given P s ≡ good Q
given-good P s d (GoodLine.label n a h f) = as-label P s n a ∙ label-good P n h f
given-good P s d (GoodLine.query text {e} a i) = as-query P s text a ∙ query-good P text a.1 ((check-fine P.labels d text e).1 i)
given-good P s d (GoodLine.list n text {e} a h f i) =
    as-list P s n text a ∙ list-good P (n ++ (space ∷ text)) n text (as-cut P s n text a) h f ((check-fine P.labels d text e).1 i)

given-bad : (P : Progress) (s : Bytes) → Distinct P.labels → {r : Refusal} → LineFault P s r → given P s ≡ bad r
given-bad P s d (LineFault.form l m k) = formless P s d l m k
given-bad P s d (LineFault.many-labels n a h) = as-label P s n a ∙ label-many P n h
given-bad P s d (LineFault.label-name n a h f) = as-label P s n a ∙ label-bad P n h f
given-bad P s d (LineFault.query text {r} a i) = as-query P s text a ∙ query-bad P text a.1 ((check-faulty P.labels text r).1 i)
given-bad P s d (LineFault.many-lists n text a h) =
    as-list P s n text a ∙ list-many P (n ++ (space ∷ text)) n text (as-cut P s n text a) h
given-bad P s d (LineFault.list-name n text a h f) =
    as-list P s n text a ∙ list-name P (n ++ (space ∷ text)) n text (as-cut P s n text a) h f
given-bad P s d (LineFault.list n text {r} a h f i) =
    as-list P s n text a ∙ list-bad P (n ++ (space ∷ text)) n text (as-cut P s n text a) h f ((check-faulty P.labels text r).1 i)

pub given-good-exactly : (P : Progress) → Distinct P.labels → (s : Bytes) (Q : Progress) → (given P s ≡ good Q) ↔ GoodLine P s Q
given-good-exactly P d s Q = (λ e. rw e at (given-of P s d), given-good P s d)

pub given-bad-exactly : (P : Progress) → Distinct P.labels → (s : Bytes) (r : Refusal) → (given P s ≡ bad r) ↔ LineFault P s r
given-bad-exactly P d s r = (λ e. rw e at (given-of P s d), given-bad P s d)

-- A good line keeps the labels distinct, and the names of lists.
pub good-labels-distinct : {P Q : Progress} {s : Bytes} → GoodLine P s Q → Distinct P.labels → Distinct Q.labels
good-labels-distinct {P} (GoodLine.label n a h f) d = distinct_more P.labels n d f.1
good-labels-distinct (GoodLine.query text a i) d = d
good-labels-distinct (GoodLine.list n text a h f i) d = d

pub good-lists-distinct : {P Q : Progress} {s : Bytes} → GoodLine P s Q → Distinct P.list_names → Distinct Q.list_names
good-lists-distinct (GoodLine.label n a h f) d = d
good-lists-distinct (GoodLine.query text a i) d = d
good-lists-distinct {P} (GoodLine.list n text a h f i) d = distinct_more P.list_names n d f.1
