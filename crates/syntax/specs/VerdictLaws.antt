-- The verdict on a text by what its bytes show: the answers of the checks in their order, the labels' names read off as the longest runs of
-- name bytes.
use Rattle.std.specs.Prelude.{◌≤◌, ◌<◌, Bool, true, false, cond, List, Some, None, ◌≡◌, refl, Ok, Err, leb, length}
use Rattle.std.specs.Option as option
use Rattle.std.specs.Result.{result_and}
use Rattle.std.proofs.Common.{true≢false, sym, ap, ◌∙◌, arith, leb-true, leb-false}
use Rattle.std.proofs.lemmas.Bool.{false≢true}
use Rattle.std.proofs.Math.Option.{Option, some, none}
use Rattle.syntax.specs.declared.refusal.Refusal.TheVariants.{NotInGrammar, UnknownLabel, ExpressionTooLong, TooDeep, TooManyOccurrences}
use Rattle.theory.specs.Expression.{Expression}
use Rattle.theory.specs.Standing.{size}
use Rattle.syntax.specs.Some.{is_some}
use Rattle.syntax.specs.Byte.{Bytes}
use Rattle.syntax.specs.Grammar.{Tree, alternatives, Derives}
use Rattle.syntax.specs.Parser.{parse}
use Rattle.syntax.specs.ParserLaws.{parse-sound, parse-none}
use Rattle.syntax.specs.Limits.{most_bytes, most_nesting, most_occurrences, nesting, leaves, runs}
use Rattle.syntax.specs.LimitsLaws.{runs-leaves, leaves-size, known-resolves, resolves_known}
use Rattle.syntax.specs.Resolve.{Resolves, known, numbered}
use Rattle.syntax.specs.Check.{long, ungrammatical, deep, unknown, many, Checked, fine, faulty, check}
use Rattle.syntax.specs.CheckLaws.{check-faulty}
use Rattle.syntax.specs.FineLaws.{parse-fine}
use Rattle.syntax.specs.Told.{told}
use Rattle.syntax.specs.Verdict.{verdict, is_fine, unless}

-- How many occurrences are told of matters only where each is a known name.
pub labels-told : (labels : List Bytes) (s : Bytes)
    → result_and (unless (option.is_some (told labels s)) UnknownLabel)
    (unless (leb (option.unwrap_or (told labels s) 0) most_occurrences) TooManyOccurrences)
    ≡ result_and (unless (known labels (runs false s)) UnknownLabel)
    (unless (leb (length (runs false s)) most_occurrences) TooManyOccurrences)
labels-told labels s = go (known labels (runs false s))
  where
    go : (k : Bool) → let t = cond k (Some (length (runs false s))) None in
        result_and (unless (option.is_some t) UnknownLabel) (unless (leb (option.unwrap_or t 0) most_occurrences) TooManyOccurrences)
        ≡ result_and (unless k UnknownLabel) (unless (leb (length (runs false s)) most_occurrences) TooManyOccurrences)
    go true = refl
    go false = refl

pub fine-verdict : (c : Checked) → is_fine c ≡ true → Ok tt ≡ verdict c
fine-verdict (fine e) h = refl
fine-verdict (faulty r) h = absurd (false≢true h)

no-tree : (o : Option Tree) → is_some o ≡ false → o ≡ none
no-tree none g = refl
no-tree (some t) g = absurd (true≢false g)

some-tree : (o : Option Tree) → is_some o ≡ true → (t : Tree) × (o ≡ some t)
some-tree none g = absurd (false≢true g)
some-tree (some t) g = (t, refl)

module _ (labels : List Bytes) (s : Bytes) where
  pub too_long : most_bytes < length s → Err ExpressionTooLong ≡ verdict (check labels s)
  too_long h = sym (ap verdict ((check-faulty labels s ExpressionTooLong).1 (long h)))

  pub not-in-grammar : length s ≤ most_bytes → is_some (parse s) ≡ false → Err NotInGrammar ≡ verdict (check labels s)
  not-in-grammar h g =
      sym (ap verdict ((check-faulty labels s NotInGrammar).1 (ungrammatical h ((parse-none s).0 (no-tree (parse s) g)))))

-- The checks that follow, of a text in the grammar.
module _ (labels : List Bytes) (s : Bytes) (h : length s ≤ most_bytes) (g : is_some (parse s) ≡ true) where
  tree : Tree
  tree = (some-tree (parse s) g).0

  parses : parse s ≡ some tree
  unfolding tree
  parses = (some-tree (parse s) g).1

  derives : Derives alternatives s tree
  derives = parse-sound s tree parses

  names : runs false s ≡ leaves tree
  names = runs-leaves s tree derives

  pub too-deep : most_nesting < nesting 0 s → Err TooDeep ≡ verdict (check labels s)
  too-deep n = sym (ap verdict ((check-faulty labels s TooDeep).1 (deep h derives n)))

  module _ (n : nesting 0 s ≤ most_nesting) where
    none-resolves : known labels (runs false s) ≡ false → (e : Expression) → ¬ Resolves labels tree e
    none-resolves k e r = true≢false (sym (resolves_known r) ∙ ap (known labels) (sym names) ∙ k)

    pub unknown-label : known labels (runs false s) ≡ false → Err UnknownLabel ≡ verdict (check labels s)
    unknown-label k = sym (ap verdict ((check-faulty labels s UnknownLabel).1 (unknown h derives n (none-resolves k))))

    module _ (k : known labels (runs false s) ≡ true) where
      resolves : Resolves labels tree (numbered labels tree)
      resolves = known-resolves labels tree (rw names at k)

      pub too-many-occurrences : most_occurrences < length (runs false s) → Err TooManyOccurrences ≡ verdict (check labels s)
      too-many-occurrences m =
          let over : most_occurrences < size (numbered labels tree) = omega (arith, ap length names, leaves-size labels tree) in
          sym (ap verdict ((check-faulty labels s TooManyOccurrences).1 (many h derives n resolves over)))

      pub all-fine : length (runs false s) ≤ most_occurrences → Ok tt ≡ verdict (check labels s)
      all-fine m = sym (ap verdict (parse-fine labels s tree h n (rw names at k) (omega (arith, ap length names)) parses))

-- The outcome is the first fault of the checks' answers.
module _ (labels : List Bytes) (s : Bytes) (h : length s ≤ most_bytes) where
  in-order-of : (g d k m : Bool) → is_some (parse s) ≡ g → leb (nesting 0 s) most_nesting ≡ d → known labels (runs false s) ≡ k
      → leb (length (runs false s)) most_occurrences ≡ m
      → result_and (unless g NotInGrammar) (result_and (unless d TooDeep) (result_and (unless k UnknownLabel) (unless m TooManyOccurrences)))
      ≡ verdict (check labels s)
  in-order-of false d k m p q r t = not-in-grammar labels s h p
  in-order-of true false k m p q r t = too-deep labels s h p (leb-false (nesting 0 s) most_nesting q)
  in-order-of true true false m p q r t = unknown-label labels s h p (leb-true (nesting 0 s) most_nesting q) r
  in-order-of true true true false p q r t =
      too-many-occurrences labels s h p (leb-true (nesting 0 s) most_nesting q) r (leb-false (length (runs false s)) most_occurrences t)
  in-order-of true true true true p q r t =
      all-fine labels s h p (leb-true (nesting 0 s) most_nesting q) r (leb-true (length (runs false s)) most_occurrences t)

  pub in_order : let grammar = unless (is_some (parse s)) NotInGrammar in
      let depth = unless (leb (nesting 0 s) most_nesting) TooDeep in
      let names = unless (known labels (runs false s)) UnknownLabel in
      let number = unless (leb (length (runs false s)) most_occurrences) TooManyOccurrences in
      result_and grammar (result_and depth (result_and names number)) ≡ verdict (check labels s)
  in_order = in-order-of _ _ _ _ refl refl refl refl
