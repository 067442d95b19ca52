-- What `check` says of a text is what document 01 says of it: its expression, or its first fault.
use Rattle.std.specs.Prelude.{ℕ, ◌≤◌, ◌<◌, Bool, true, false, List, ◌↔◌, ◌≡◌, refl, length}
use Rattle.std.proofs.Math.Option.{Option, some, none}
use Rattle.std.proofs.Common.{◌∙◌, ap, arith}
use Rattle.std.proofs.Math.Decide.{dec_le}
use borrow.Author.Tests.{le-leb, lt-leb}
use Rattle.theory.specs.Expression.{Expression}
use Rattle.syntax.specs.declared.refusal.Refusal.{Refusal}
use Rattle.syntax.specs.declared.refusal.Refusal.TheVariants.{NotInGrammar, UnknownLabel, ExpressionTooLong, TooDeep, TooManyOccurrences}
use Rattle.syntax.specs.Byte.{Bytes}
use Rattle.syntax.specs.Grammar.{Tree, alternatives, Derives}
use Rattle.syntax.specs.Parser.{parse}
use Rattle.syntax.specs.ParserLaws.{parse-sound, parse-complete, parse-none}
use Rattle.syntax.specs.Limits.{most_bytes, most_nesting, most_occurrences, nesting, leaves}
use Rattle.syntax.specs.Resolve.{numbered, known}
use Rattle.syntax.specs.LimitsLaws.{leaves-size, resolves-size, known-resolves, resolves_known, resolves-numbered}
use Rattle.syntax.specs.Check.{Distinct, IsExpression, Fault, long, ungrammatical, deep, unknown, many, Checked, fine, faulty, check_tree, check}

-- The ways through `check`, each under what decides it.
module _ (labels : List Bytes) (s : Bytes) where
  check-long : most_bytes < length s → check labels s ≡ faulty ExpressionTooLong
  unfolding check
  check-long h = rw (lt-leb (length s) most_bytes h, check)

  check-ungrammatical : length s ≤ most_bytes → parse s ≡ none → check labels s ≡ faulty NotInGrammar
  unfolding check
  check-ungrammatical h p = rw (le-leb (length s) most_bytes h, check, p)

  check-tree : {t : Tree} → length s ≤ most_bytes → Derives alternatives s t → check labels s ≡ check_tree labels s t
  unfolding check
  check-tree {t} h d = rw (le-leb (length s) most_bytes h, check, parse-complete s t d)

  tree-deep : (t : Tree) → most_nesting < nesting 0 s → check_tree labels s t ≡ faulty TooDeep
  unfolding check_tree
  tree-deep t h = rw (lt-leb (nesting 0 s) most_nesting h, check_tree)

  tree-unknown : (t : Tree) → nesting 0 s ≤ most_nesting → known labels (leaves t) ≡ false → check_tree labels s t ≡ faulty UnknownLabel
  unfolding check_tree
  tree-unknown t h k = rw (le-leb (nesting 0 s) most_nesting h, check_tree, k)

  tree-many : (t : Tree) → nesting 0 s ≤ most_nesting → known labels (leaves t) ≡ true → most_occurrences < length (leaves t)
      → check_tree labels s t ≡ faulty TooManyOccurrences
  unfolding check_tree
  tree-many t h k n = rw (le-leb (nesting 0 s) most_nesting h, check_tree, k, lt-leb (length (leaves t)) most_occurrences n)

  tree-fine : (t : Tree) → nesting 0 s ≤ most_nesting → known labels (leaves t) ≡ true → length (leaves t) ≤ most_occurrences
      → check_tree labels s t ≡ fine (numbered labels t)
  unfolding check_tree
  tree-fine t h k n = rw (le-leb (nesting 0 s) most_nesting h, check_tree, k, le-leb (length (leaves t)) most_occurrences n)

  -- What an answer claims.
  abbrev Claims : Checked → Type 0
  Claims (fine e) = IsExpression labels s e
  Claims (faulty r) = Fault labels s r

  tree-holds : (t : Tree) → length s ≤ most_bytes → Derives alternatives s t → Claims (check_tree labels s t)
  tree-holds t h d = at-depth (dec_le (nesting 0 s) most_nesting)
    where
      at_size : nesting 0 s ≤ most_nesting → known labels (leaves t) ≡ true → Dec (length (leaves t) ≤ most_occurrences)
          → Claims (check_tree labels s t)
      at_size n k (no m) =
          rw (tree-many t n k (omega arith))
          (many h d n (known-resolves labels t k) (omega (arith, leaves-size labels t)))
      at_size n k (yes m) =
          rw (tree-fine t n k m) (record {
            short = h;
            tree = t;
            derives = d;
            shallow = n;
            resolves = known-resolves labels t k;
            few = omega (arith, leaves-size labels t);
          })

      at_names : nesting 0 s ≤ most_nesting → (q : Bool) → known labels (leaves t) ≡ q → Claims (check_tree labels s t)
      at_names n false k =
          rw (tree-unknown t n k)
          (unknown h d n (λ e r. let z : ◌≡◌ {A = ℕ} 0 1 = cc (resolves_known r) in omega arith))
      at_names n true k = at_size n k (dec_le (length (leaves t)) most_occurrences)

      at-depth : Dec (nesting 0 s ≤ most_nesting) → Claims (check_tree labels s t)
      at-depth (no n) = rw (tree-deep t (omega arith)) (deep h d (omega arith))
      at-depth (yes n) = at_names n (known labels (leaves t)) refl

  check-holds : Claims (check labels s)
  check-holds = at_length (dec_le (length s) most_bytes)
    where
      at-tree : length s ≤ most_bytes → (o : Option Tree) → parse s ≡ o → Claims (check labels s)
      at-tree h none p = rw (check-ungrammatical h p) (ungrammatical h ((parse-none s).0 p))
      at-tree h (some t) p =
          let d = parse-sound s t p in
          rw (check-tree h d) (tree-holds t h d)

      at_length : Dec (length s ≤ most_bytes) → Claims (check labels s)
      at_length (no h) = rw (check-long (omega arith)) (long (omega arith))
      at_length (yes h) = at-tree h (parse s) refl

  fault-checked : {r : Refusal} → Fault labels s r → check labels s ≡ faulty r
  fault-checked (long h) = check-long h
  fault-checked (ungrammatical h n) = check-ungrammatical h ((parse-none s).1 n)
  fault-checked (deep {t} h d n) = check-tree h d ∙ tree-deep t n
  fault-checked (unknown {t} h d n u) = check-tree h d ∙ tree-unknown t n (go (known labels (leaves t)) refl)
    where
      go : (q : Bool) → known labels (leaves t) ≡ q → known labels (leaves t) ≡ false
      go false k = k
      go true k = absurd (u (numbered labels t) (known-resolves labels t k))
  fault-checked (many {t} h d n r m) = check-tree h d ∙ tree-many t n (resolves_known r) (omega (arith, resolves-size r))

  expression-checked : Distinct labels → (e : Expression) → IsExpression labels s e → check labels s ≡ fine e
  expression-checked distinct e x =
      check-tree x.short x.derives
      ∙ tree-fine x.tree x.shallow (resolves_known x.resolves) (omega (arith, resolves-size x.resolves, x.few))
      ∙ ap (λ z. fine z) (resolves-numbered distinct x.resolves)

pub check-fine : (labels : List Bytes) → Distinct labels → (s : Bytes) (e : Expression) → (check labels s ≡ fine e) ↔ IsExpression labels s e
check-fine labels distinct s e = (λ p. rw p at (check-holds labels s), expression-checked labels s distinct e)

pub check-faulty : (labels : List Bytes) (s : Bytes) (r : Refusal) → (check labels s ≡ faulty r) ↔ Fault labels s r
check-faulty labels s r = (λ p. rw p at (check-holds labels s), fault-checked labels s)
