-- A line is told by its opening word, and by whether the query's line came before it.
use Rattle.std.specs.Prelude.{true, false, ◌≡◌, refl}
use Rattle.std.proofs.Common.{true≢false, sym, ap, ◌∙◌}
use Rattle.std.proofs.lemmas.Bool.{false≢true}
use Rattle.std.proofs.Math.Option.{Option, some, none}
use Rattle.theory.specs.Expression.{Expression}
use Rattle.syntax.specs.declared.refusal.Refusal.{Refusal}
use Rattle.syntax.specs.declared.refusal.Refusal.TheVariants.{BadLine}
use Rattle.syntax.specs.Byte.{Bytes}
use Rattle.syntax.specs.Some.{is_some}
use Rattle.reading.specs.declared.progress.Progress.{Progress as Numbers}
use Rattle.std.specs.declared.result.Result.{Result}
use Rattle.std.specs.declared.result.Result.TheVariants.{Err}
use Rattle.reading.specs.Text.{label_word, query_word, list_word}
use Rattle.reading.specs.Refusing.{Progress}
use Rattle.reading.specs.Read.{after, Given, given_label, given_query, given_list, early, late, given}
use Rattle.reading.specs.CutLaws.{after-exactly}
use Rattle.reading.specs.LineLaws.{given-early, given-late, early-label, early-query, early-neither, late-list, late-other}
use Rattle.reading.specs.Tables.{Tables}
use Rattle.reading.specs.Loading.{Held, Tells, Gives}

module _ {text : Bytes} {p : Numbers} {T : Tables} {r : Result Numbers Refusal} {T' : Tables} where
  gives-when : {f : Progress → Given} (g : Progress → Given) → ((P : Progress) → Held text P p T → g P ≡ f P) → Gives text f p T r T'
      → Gives text g p T r T'
  gives-when g e t = record { gives = λ P h. rw (e P h) (t.gives P h) }

  module _ (s more : Bytes) where
    pub early-told-label : after label_word s ≡ some more → Gives text (λ P. given_label P more) p T r T' → Gives text (λ P. early P s) p T r T'
    early-told-label e = gives-when (λ P. early P s) (λ P h. early-label P s more ((after-exactly label_word s more).0 e))

    pub early-told-query : after query_word s ≡ some more → Gives text (λ P. given_query P more) p T r T' → Gives text (λ P. early P s) p T r T'
    early-told-query e = gives-when (λ P. early P s) (λ P h. early-query P s more ((after-exactly query_word s more).0 e))

    pub late-told-list : after list_word s ≡ some more → Gives text (λ P. given_list P more) p T r T' → Gives text (λ P. late P s) p T r T'
    late-told-list e = gives-when (λ P. late P s) (λ P h. late-list P s more ((after-exactly list_word s more).0 e))

  pub given-told-early : (s : Bytes) → p.query ≡ false → Gives text (λ P. early P s) p T r T' → Gives text (λ P. given P s) p T r T'
  given-told-early s e = gives-when (λ P. given P s) (λ P h. go P P.query refl (ap (λ (q : Numbers). q.query) (sym h.numbers) ∙ e))
    where
      go : (P : Progress) (x : Option Expression) → P.query ≡ x → is_some P.query ≡ false → given P s ≡ early P s
      go P none q f = given-early P s q
      go P (some y) q f = absurd (true≢false (sym (ap is_some q) ∙ f))

  pub given-told-late : (s : Bytes) → p.query ≡ true → Gives text (λ P. late P s) p T r T' → Gives text (λ P. given P s) p T r T'
  given-told-late s e = gives-when (λ P. given P s) (λ P h. go P P.query refl (ap (λ (q : Numbers). q.query) (sym h.numbers) ∙ e))
    where
      go : (P : Progress) (x : Option Expression) → P.query ≡ x → is_some P.query ≡ true → given P s ≡ late P s
      go P none q f = absurd (false≢true (sym (ap is_some q) ∙ f))
      go P (some y) q f = given-late P s q

pub early-told-neither : (text s : Bytes) (p : Numbers) (T T' : Tables) → after label_word s ≡ none → after query_word s ≡ none
    → Gives text (λ P. early P s) p T (Err BadLine) T'
early-told-neither text s p T T' e f = record { gives = λ P h. rw (early-neither P s e f) Tells.refusal }

pub late-told-other : (text s : Bytes) (p : Numbers) (T T' : Tables) → after list_word s ≡ none → Gives text (λ P. late P s) p T (Err BadLine) T'
late-told-other text s p T T' e = record { gives = λ P h. rw (late-other P s e) Tells.refusal }
