-- A query's expression read into the rows 0: the tables hold what the line gives.
use Rattle.std.specs.Prelude.{ℕ, suc, ◌<◌, ◌≤◌, true, List, ◌≡◌, refl, length, take, drop}
use Rattle.std.proofs.Math.Option.{some-injective}
use Rattle.std.proofs.Common.{sym, ap, ◌∙◌, arith}
use Rattle.theory.specs.Expression.{Expression}
use Rattle.std.specs.declared.result.Result.{Result}
use Rattle.syntax.specs.declared.refusal.Refusal.{Refusal}
use Rattle.syntax.specs.declared.refusal.Refusal.TheVariants.{BadLine}
use Rattle.syntax.specs.Byte.{Bytes}
use Rattle.syntax.specs.Check.{Checked, fine, faulty, check}
use Rattle.syntax.specs.FineLaws.{fine-cases}
use Rattle.syntax.specs.Verdict.{verdict}
use Rattle.syntax.specs.Resolve.{names_at}
use Rattle.reading.specs.declared.progress.Progress.{Progress as Numbers}
use Rattle.std.specs.declared.result.Result.TheVariants.{Ok, Err}
use Rattle.reading.specs.Refusing.{Progress, with_query}
use Rattle.reading.specs.Read.{given_query}
use Rattle.reading.specs.LineLaws.{query-early, query-bad, query-good}
use Rattle.reading.specs.Tables.{Tables, lists_from}
use Rattle.reading.specs.Loading.{Held, Tells, Gives}
use Rattle.reading.specs.Filling.{Reads}
use Rattle.reading.specs.LabelLaws.{labels-held, names-held}

-- The query's line read.
abbrev pub asked : Numbers → Numbers
asked p = record { labels = p.labels; lists = p.lists; query = true }

-- A verdict is that of one outcome of the check alone.
pub fine-told : {c : Checked} {r : Refusal} → Ok tt ≡ verdict c → c ≡ faulty r → ⊥
fine-told t e = let b : (Ok tt) ≡ Err _ = t ∙ ap verdict e in let z : ◌≡◌ {A = ℕ} 0 1 = cc in omega arith

pub faulty-told : {c : Checked} {r : Refusal} {e : Expression} → Err r ≡ verdict c → c ≡ fine e → ⊥
faulty-told t e = let b : Err _ ≡ Ok tt = t ∙ ap verdict e in let z : ◌≡◌ {A = ℕ} 0 1 = cc in omega arith

pub faulty-same : {c : Checked} {r q : Refusal} → Err r ≡ verdict c → c ≡ faulty q → q ≡ r
faulty-same {r} {q} t e = let b : Err r ≡ Err q = t ∙ ap verdict e in cc

module _ (text s : Bytes) (p : Numbers) (T T' : Tables) where
  abbrev labels : List Bytes
  labels = names_at text (take p.labels T.names)

  held-query : (P : Progress) (e : Expression) → check labels s ≡ fine e → Held text P p T → {r : Result (Unit {0}) Refusal}
      → Reads labels s 0 T r T' → Held text (with_query P e) (asked p) T'
  held-query P e c h m = record {
    numbers = λ i. record { labels = (h.numbers i).labels; lists = (h.numbers i).lists; query = true };
    few-labels = h.few-labels;
    few-lists = h.few-lists;
    as_many = h.as_many;
    query-fits = λ q d. rw (sym (some-injective e q d)) (fine-cases labels s e c).few;
    lists-fit = h.lists-fit;
    holds = record {
      labels = ap (λ n. names_at text (take (length P.labels) n)) m.same-names ∙ h.holds.labels;
      lists = ap (λ n. names_at text (take (length P.list_names) (drop lists_from n))) m.same-names ∙ h.holds.lists;
      query = λ q d. rw (sym (some-injective e q d)) (m.row e c);
      rows = λ v l. m.others _ (suc v) (omega arith) (h.lists-fit v l) (h.holds.rows v l);
    };
  }

  pub query-told-early : p.labels < 1 → Gives text (λ P. given_query P s) p T (Err BadLine) T'
  query-told-early few = record { gives = λ P h. rw (query-early P s (omega (arith, labels-held h))) Tells.refusal }

  pub query-told-faulty : 1 ≤ p.labels → {f : Refusal} → Reads labels s 0 T (Err f) T' → Gives text (λ P. given_query P s) p T (Err f) T'
  query-told-faulty one {f} m = record { gives = λ P h. go P h (check P.labels s) refl }
    where
      go : (P : Progress) → Held text P p T → (x : Checked) → check P.labels s ≡ x → Tells text T' (given_query P s) (Err f)
      go P h (fine e) c = absurd (faulty-told m.told (ap (λ l. check l s) (names-held h) ∙ c))
      go P h (faulty r) c =
          rw (query-bad P s (omega (arith, labels-held h)) c, faulty-same m.told (ap (λ l. check l s) (names-held h) ∙ c)) Tells.refusal

  pub query-told-fine : 1 ≤ p.labels → Reads labels s 0 T (Ok tt) T' → Gives text (λ P. given_query P s) p T (Ok (asked p)) T'
  query-told-fine one m = record { gives = λ P h. go P h (check P.labels s) refl }
    where
      go : (P : Progress) → Held text P p T → (x : Checked) → check P.labels s ≡ x → Tells text T' (given_query P s) (Ok (asked p))
      go P h (fine e) c =
          rw (query-good P s (omega (arith, labels-held h)) c)
          (Tells.more (held-query P e (ap (λ l. check l s) (names-held h) ∙ c) h m))
      go P h (faulty r) c = absurd (fine-told m.told (ap (λ l. check l s) (names-held h) ∙ c))
