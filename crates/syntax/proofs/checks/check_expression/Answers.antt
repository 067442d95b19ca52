-- `check_expression` meets its contract: the answers of the checks, in their order, are the check's outcome.
use Rattle.std.proofs.Common.{◌≡◌, refl, Bool, true, false, Result, Ok, Err, ap, ◌∙◌, leb, leb-true, leb-false, rules}
use Rattle.std.specs.Option as option
use Rattle.std.specs.Result.{result_and}
use Rattle.syntax.specs.declared.refusal.Refusal.{Refusal}
use Rattle.syntax.specs.declared.refusal.Refusal.TheVariants.{NotInGrammar, UnknownLabel, TooDeep, TooManyOccurrences}
use Rattle.syntax.specs.Limits.{most_nesting, most_occurrences, nesting}
use Rattle.syntax.specs.Parser.{parse}
use Rattle.syntax.specs.Resolve.{names_at}
use Rattle.syntax.specs.Some.{is_some}
use Rattle.syntax.specs.Told.{told}
use Rattle.syntax.specs.Verdict.{unless}
use Rattle.syntax.specs.VerdictLaws.{too_long, labels-told, in_order}
use Rattle.syntax.proofs.checks.check_expression.Goals as goal

-- What a check has said tells whether what it asks is met.
met : (b : Bool) (r : Refusal) (v : Result (Unit {0}) Refusal) (u : Unit {0}) → v ≡ unless b r → v ≡ Ok u → b ≡ true
met true r v u e h = refl
met false r v u e h = cc

unmet : (b : Bool) (r x : Refusal) (v : Result (Unit {0}) Refusal) → v ≡ unless b r → v ≡ Err x → (b ≡ false) × (x ≡ r)
unmet true r x v e h = cc
unmet false r x v e h = (refl, cc)

-- Which answers are put together first doesn't matter.
regroup : (a b c d : Result (Unit {0}) Refusal) → result_and (result_and (result_and a b) c) d ≡ result_and a (result_and b (result_and c d))
regroup (Ok u) (Ok v) c d = refl
regroup (Ok u) (Err r) c d = refl
regroup (Err r) b c d = refl

pub returns-in_err-unless : goal.returns-in_err-unless
returns-in_err-unless c =
    let e : c.from_residual.result ≡ Err c.in_err-unless.field-0.0 = search rules in
    let (n, r) = unmet _ _ _ _ c.unless.ensures c.in_err-unless.was in
    e ∙ ap Err r ∙ too_long _ _ (leb-false _ _ n)

pub returns : goal.returns
returns c =
    let a = c.args in
    let labels = names_at a.names.text.now a.names.spans.now in
    let short = leb-true _ _ (met _ _ _ _ c.unless.ensures c.in_ok-unless.was) in
    let grammar : c.unless-grammar.result ≡ unless (is_some (parse a.s.now)) NotInGrammar =
    c.unless-grammar.ensures ∙ ap (λ x. unless x NotInGrammar) c.in_grammar.ensures in
    let depth : c.unless-depth.result ≡ unless (leb (nesting 0 a.s.now) most_nesting) TooDeep =
    c.unless-depth.ensures ∙ ap (λ x. unless (leb x most_nesting) TooDeep) c.nesting-deep.ensures in
    let names : c.unless-labels.result ≡ unless (option.is_some (told labels a.s.now)) UnknownLabel =
    c.unless-labels.ensures ∙ ap (λ x. unless x UnknownLabel) (c.is_some.ensures ∙ ap option.is_some c.occurrences-told.ensures) in
    let number : c.unless-number.result ≡ unless (leb (option.unwrap_or (told labels a.s.now) 0) most_occurrences) TooManyOccurrences =
    c.unless-number.ensures
    ∙ ap (λ x. unless (leb x most_occurrences) TooManyOccurrences)
    (c.unwrap_or.ensures ∙ ap (λ o. option.unwrap_or o 0) c.occurrences-told.ensures) in
    let answered : c.and-3.result
    ≡ result_and (result_and (result_and c.unless-grammar.result c.unless-depth.result) c.unless-labels.result) c.unless-number.result =
    c.and-3.ensures
    ∙ ap (λ x. result_and x c.unless-number.result) (c.and-2.ensures ∙ ap (λ x. result_and x c.unless-labels.result) c.and.ensures) in
    rw (answered, regroup, grammar, depth, names, number, labels-told) (in_order labels a.s.now short)
