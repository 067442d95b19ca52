-- A list's expression read into the rows behind those of the lists before it, and its name stored behind theirs: the tables hold what the
-- line gives.
use Rattle.std.specs.Prelude.{ℕ, suc, ◌+◌, ◌<◌, ◌≤◌, true, false, List, [], ◌∷◌, ◌++◌, ◌≡◌, refl, length, get_or, take, drop}
use Rattle.std.proofs.Common.{sym, ap, ◌∙◌, arith, length-append, length-drop}
use Rattle.std.proofs.Math.Decide.{dec_lt}
use Rattle.std.proofs.Math.ListN.{get_or-append}
use Rattle.std.proofs.Math.Seq.{get_or-append_seam}
use Rattle.theory.specs.Expression.{Expression, empty}
use Rattle.theory.specs.Standing.{size}
use Rattle.std.specs.declared.result.Result.{Result}
use Rattle.syntax.specs.declared.table.Span.{Span}
use Rattle.syntax.specs.declared.refusal.Refusal.{Refusal}
use Rattle.syntax.specs.declared.refusal.Refusal.TheVariants.{BadLine, BadName, TooManyNames}
use Rattle.syntax.specs.Byte.{Bytes}
use Rattle.syntax.specs.Limits.{most_occurrences}
use Rattle.syntax.specs.Check.{Checked, fine, faulty, check}
use Rattle.syntax.specs.FineLaws.{fine-cases}
use Rattle.syntax.specs.Resolve.{names_at}
use Rattle.reading.specs.declared.progress.Progress.{Progress as Numbers}
use Rattle.std.specs.declared.result.Result.TheVariants.{Ok, Err}
use Rattle.reading.specs.Text.{space, most_lists}
use Rattle.reading.specs.Refusing.{Progress, with_list}
use Rattle.reading.specs.Read.{cut, uncut, cut_at, fresh, given_list}
use Rattle.reading.specs.CutLaws.{fresh-exactly, fresh-not}
use Rattle.reading.specs.LineLaws.{list-many, list-name, list-bad, list-good, list-uncut}
use Rattle.reading.specs.Tables.{Tables, Row, lists_from}
use Rattle.reading.specs.Loading.{Held, Tells, Gives}
use Rattle.reading.specs.Filling.{Reads}
use Rattle.std.proofs.lemmas.List.{take-set-le, drop-set-add}
use Rattle.reading.specs.PartLaws.{part}
use Rattle.reading.specs.NamesLaws.{names-stored}
use Rattle.reading.specs.LabelLaws.{with_name, names-held, row-renamed}
use Rattle.reading.specs.QueryLaws.{fine-told, faulty-told, faulty-same}

-- One list more.
abbrev pub one_list : Numbers → Numbers
one_list p = record { labels = p.labels; lists = p.lists + 1; query = p.query }

-- The number of lists, and their names, where the tables hold what P has.
pub lists-held : {text : Bytes} {P : Progress} {p : Numbers} {T : Tables} → Held text P p T → p.lists ≡ length P.list_names
lists-held h = ap (λ (q : Numbers). q.lists) h.numbers

pub list-names-held : {text : Bytes} {P : Progress} {p : Numbers} {T : Tables} → Held text P p T
    → names_at text (take p.lists (drop lists_from T.names)) ≡ P.list_names
list-names-held {text} {T} h = ap (λ k. names_at text (take k (drop lists_from T.names))) (lists-held h) ∙ h.holds.lists

-- What holds of each expression of a list, and of one more at its end.
each_more : (A : Expression → ℕ → Type 0) (l : List Expression) (e : Expression)
    → ((v : ℕ) → v < length l → A (get_or l v empty) v) → A e (length l)
    → (v : ℕ) → v < length (l ++ (e ∷ [])) → A (get_or (l ++ (e ∷ [])) v empty) v
each_more A l e each more v h = go (dec_lt v (length l))
  where
    go : Dec (v < length l) → A (get_or (l ++ (e ∷ [])) v empty) v
    go (yes b) = rw (get_or-append l (e ∷ []) empty v b) (each v b)
    go (no n) =
        let d : v ≡ length l = omega (arith, length-append l (e ∷ [])) in
        rw (d, get_or-append_seam l e [] empty) more

module _ (text : Bytes) (p : Numbers) (at more : Span) (T : Tables) where
  abbrev labels : List Bytes
  labels = names_at text (take p.labels T.names)

  abbrev lists : List Bytes
  lists = names_at text (take p.lists (drop lists_from T.names))

  abbrev name : Bytes
  name = part text at

  abbrev text' : Bytes
  text' = part text more

  -- The tables with the expression read, and then with the name too.
  module _ (U : Tables) where
    abbrev longer : Tables
    longer = with_name U (lists_from + p.lists) at

    renamed : {e : Expression} {x : ℕ} → Row e x U → Row e x longer
    renamed = row-renamed U (lists_from + p.lists) at

    held-list : (P : Progress) (e : Expression) → length U.names ≡ 48 → p.lists < most_lists → check labels text' ≡ fine e → Held text P p T
        → {r : Result (Unit {0}) Refusal} → Reads labels text' (p.lists + 1) T r U → Held text (with_list P name e) (one_list p) longer
    held-list P e room few c h m =
        let n : p.lists ≡ length P.list_names = lists-held h in
        let k : length (P.list_names ++ (name ∷ [])) ≡ suc (length P.list_names) = simp length-append (omega arith) in
        let j : length (P.lists ++ (e ∷ [])) ≡ suc (length P.lists) = simp length-append (omega arith) in
        let d : p.lists + 1 ≡ length (P.list_names ++ (name ∷ [])) = omega arith in
        let x : p.lists + 1 ≡ suc (length P.lists) = omega (arith, h.as_many) in
        record {
          numbers = λ i. record { labels = (h.numbers i).labels; lists = d i; query = (h.numbers i).query };
          few-labels = h.few-labels;
          few-lists = omega arith;
          as_many = omega (arith, h.as_many);
          query-fits = h.query-fits;
          lists-fit = each_more (λ f v. size f ≤ most_occurrences) P.lists e h.lists-fit (fine-cases labels text' e c).few;
          holds = record {
            labels =
                ap (names_at text) (take-set-le (length P.labels) U.names (lists_from + p.lists) at (omega (arith, h.few-labels)))
                ∙ ap (λ t. names_at text (take (length P.labels) t)) m.same-names ∙ h.holds.labels;
            lists =
                rw (k, drop-set-add lists_from U.names p.lists at, n)
                (names-stored text (drop lists_from U.names) (length P.list_names) at (simp length-drop (omega arith))
                ∙ ap (λ t. names_at text (take (length P.list_names) (drop lists_from t)) ++ (name ∷ [])) m.same-names
                ∙ ap (λ t. t ++ (name ∷ [])) h.holds.lists);
            query = λ q f. renamed (m.others q 0 (omega arith) (h.query-fits q f) (h.holds.query q f));
            rows =
                each_more (λ f v. Row f (suc v) longer) P.lists e
                (λ v l. renamed (m.others _ (suc v) (omega arith) (h.lists-fit v l) (h.holds.rows v l)))
                (renamed (rw x at (m.row e c)));
          };
        }

  module _ (s : Bytes) (split : cut_at space s ≡ cut name text') where
    pub list-told-many : (T' : Tables) → most_lists ≤ p.lists → Gives text (λ P. given_list P s) p T (Err TooManyNames) T'
    list-told-many T' many = record {
      gives = λ P h. rw (list-many P s name text' split (omega (arith, lists-held h))) Tells.refusal;
    }

    pub list-told-name : (T' : Tables) → p.lists < most_lists → fresh name lists ≡ false
        → Gives text (λ P. given_list P s) p T (Err BadName) T'
    list-told-name T' few f = record {
      gives = λ P h.
          let g : fresh name P.list_names ≡ false = ap (fresh name) (sym (list-names-held h)) ∙ f in
          rw (list-name P s name text' split (omega (arith, lists-held h)) ((fresh-not name P.list_names).0 g)) Tells.refusal;
    }

    module _ (few : p.lists < most_lists) (new : fresh name lists ≡ true) where
      list-fresh : (P : Progress) → Held text P p T → fresh name P.list_names ≡ true
      list-fresh P h = ap (fresh name) (sym (list-names-held h)) ∙ new

      pub list-told-faulty : (T' : Tables) {f : Refusal} → Reads labels text' (p.lists + 1) T (Err f) T'
          → Gives text (λ P. given_list P s) p T (Err f) T'
      list-told-faulty T' {f} m = record { gives = λ P h. go P h (check P.labels text') refl }
        where
          go : (P : Progress) → Held text P p T → (x : Checked) → check P.labels text' ≡ x → Tells text T' (given_list P s) (Err f)
          go P h (fine e) c = absurd (faulty-told m.told (ap (λ l. check l text') (names-held h) ∙ c))
          go P h (faulty r) c =
              rw (
                list-bad P s name text' split (omega (arith, lists-held h)) ((fresh-exactly name P.list_names).0 (list-fresh P h)) c,
                faulty-same m.told (ap (λ l. check l text') (names-held h) ∙ c),
              )
              Tells.refusal

      pub list-told-fine : (U : Tables) → length U.names ≡ 48 → Reads labels text' (p.lists + 1) T (Ok tt) U
          → Gives text (λ P. given_list P s) p T (Ok (one_list p)) (with_name U (lists_from + p.lists) at)
      list-told-fine U room m = record { gives = λ P h. go P h (check P.labels text') refl }
        where
          go : (P : Progress) → Held text P p T → (x : Checked) → check P.labels text' ≡ x
              → Tells text (with_name U (lists_from + p.lists) at) (given_list P s) (Ok (one_list p))
          go P h (fine e) c =
              rw (list-good P s name text' split (omega (arith, lists-held h)) ((fresh-exactly name P.list_names).0 (list-fresh P h)) c)
              (Tells.more (held-list U P e room few (ap (λ l. check l text') (names-held h) ∙ c) h m))
          go P h (faulty r) c = absurd (fine-told m.told (ap (λ l. check l text') (names-held h) ∙ c))

-- A list line with no second space.
pub list-told-uncut : (text s : Bytes) (p : Numbers) (T T' : Tables) → cut_at space s ≡ uncut
    → Gives text (λ P. given_list P s) p T (Err BadLine) T'
list-told-uncut text s p T T' e = record { gives = λ P h. rw (list-uncut P s e) Tells.refusal }
