-- A label's name stored behind the names of the labels: the tables hold what the line gives.
use Rattle.std.specs.Prelude.{ℕ, suc, ◌+◌, ◌<◌, ◌≤◌, true, false, [], ◌∷◌, ◌++◌, ◌≡◌, length, take, set}
use Rattle.std.proofs.Common.{sym, ap, ◌∙◌, arith, length-append, drop-set-lt}
use Rattle.theory.specs.Expression.{Expression}
use Rattle.syntax.specs.declared.refusal.Refusal.TheVariants.{BadName, TooManyNames}
use Rattle.syntax.specs.declared.table.Span.{Span}
use Rattle.syntax.specs.Byte.{Bytes}
use Rattle.syntax.specs.Resolve.{names_at}
use Rattle.reading.specs.declared.progress.Progress.{Progress as Numbers}
use Rattle.std.specs.declared.result.Result.TheVariants.{Ok, Err}
use Rattle.reading.specs.Text.{most_labels}
use Rattle.reading.specs.Refusing.{Progress, with_label}
use Rattle.reading.specs.Read.{fresh, given_label}
use Rattle.reading.specs.CutLaws.{fresh-exactly, fresh-not}
use Rattle.reading.specs.LineLaws.{label-many, label-bad, label-good}
use Rattle.reading.specs.Tables.{Tables, Row, lists_from}
use Rattle.reading.specs.Loading.{tables, Held, Tells, Gives}
use Rattle.reading.specs.PartLaws.{part}
use Rattle.reading.specs.NamesLaws.{names-stored}

-- One label more.
abbrev pub one_label : Numbers → Numbers
one_label p = record { labels = p.labels + 1; lists = p.lists; query = p.query }

-- The number of labels, and their names, where the tables hold what P has.
pub labels-held : {text : Bytes} {P : Progress} {p : Numbers} {T : Tables} → Held text P p T → p.labels ≡ length P.labels
labels-held h = ap (λ (q : Numbers). q.labels) h.numbers

pub names-held : {text : Bytes} {P : Progress} {p : Numbers} {T : Tables} → Held text P p T
    → names_at text (take p.labels T.names) ≡ P.labels
names-held {text} {T} h = ap (λ k. names_at text (take k T.names)) (labels-held h) ∙ h.holds.labels

-- One more name in the tables; a row does not rest on the names.
abbrev pub with_name : Tables → ℕ → Span → Tables
with_name T i s = tables (set T.names i s) T.follow T.enter T.sizes T.accepting

pub row-renamed : {e : Expression} {x : ℕ} (T : Tables) (i : ℕ) (s : Span) → Row e x T → Row e x (with_name T i s)
row-renamed T i s r = record { follow = r.follow; enter = r.enter; size = r.size; accepting = r.accepting }

module _ (text : Bytes) (p : Numbers) (at : Span) (T : Tables) (room : length T.names ≡ 48) where
  abbrev name : Bytes
  name = part text at

  abbrev longer : Tables
  longer = with_name T p.labels at

  held-label : (P : Progress) → p.labels < most_labels → Held text P p T → Held text (with_label P name) (one_label p) longer
  held-label P few h =
      let n : p.labels ≡ length P.labels = labels-held h in
      let m : length (P.labels ++ (name ∷ [])) ≡ suc (length P.labels) = simp length-append (omega arith) in
      let e : p.labels + 1 ≡ length (P.labels ++ (name ∷ [])) = omega arith in
      record {
        numbers = λ i. record { labels = e i; lists = (h.numbers i).lists; query = (h.numbers i).query };
        few-labels = omega arith;
        few-lists = h.few-lists;
        as_many = h.as_many;
        query-fits = h.query-fits;
        lists-fit = h.lists-fit;
        holds = record {
          labels =
              rw (m, n) (names-stored text T.names (length P.labels) at (omega arith) ∙ ap (λ t. t ++ (name ∷ [])) h.holds.labels);
          lists =
              ap (λ t. names_at text (take (length P.list_names) t)) (drop-set-lt lists_from T.names p.labels at (omega arith))
              ∙ h.holds.lists;
          query = λ q e. row-renamed T p.labels at (h.holds.query q e);
          rows = λ v l. row-renamed T p.labels at (h.holds.rows v l);
        };
      }

  pub label-told : p.labels < most_labels → fresh name (names_at text (take p.labels T.names)) ≡ true
      → Gives text (λ P. given_label P name) p T (Ok (one_label p)) longer
  label-told few f = record {
    gives = λ P h.
        let g : fresh name P.labels ≡ true = ap (fresh name) (sym (names-held h)) ∙ f in
        rw (label-good P name (omega (arith, labels-held h)) ((fresh-exactly name P.labels).0 g))
        (Tells.more (held-label P few h));
  }

pub label-told-bad : (text n : Bytes) (p : Numbers) (T T' : Tables) → p.labels < most_labels
    → fresh n (names_at text (take p.labels T.names)) ≡ false → Gives text (λ P. given_label P n) p T (Err BadName) T'
label-told-bad text n p T T' few f = record {
  gives = λ P h.
      let g : fresh n P.labels ≡ false = ap (fresh n) (sym (names-held h)) ∙ f in
      rw (label-bad P n (omega (arith, labels-held h)) ((fresh-not n P.labels).0 g)) Tells.refusal;
}

pub label-told-many : (text n : Bytes) (p : Numbers) (T T' : Tables) → most_labels ≤ p.labels
    → Gives text (λ P. given_label P n) p T (Err TooManyNames) T'
label-told-many text n p T T' h = record {
  gives = λ P held. rw (label-many P n (omega (arith, labels-held held))) Tells.refusal;
}
