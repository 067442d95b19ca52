-- What it tells of a text that the check finds no fault in it.
use Rattle.std.specs.Prelude.{ℕ, ◌≤◌, Bool, true, false, List, [], ◌∷◌, ◌≡◌, refl, leb, length}
use Rattle.std.proofs.Math.Option.{Option, some, none}
use Rattle.std.proofs.Common.{ap, arith}
use borrow.Author.Tests.{le-leb, leb-true}
use Rattle.theory.specs.Expression.{Expression}
use Rattle.theory.specs.Standing.{size}
use Rattle.syntax.specs.declared.refusal.Refusal.TheVariants.{NotInGrammar, UnknownLabel, ExpressionTooLong, TooDeep, TooManyOccurrences}
use Rattle.syntax.specs.Byte.{Bytes}
use Rattle.syntax.specs.Grammar.{Tree}
use Rattle.syntax.specs.Parser.{Parsed, failed, parsed, alternatives, calls, parse}
use Rattle.syntax.specs.Limits.{most_bytes, most_nesting, most_occurrences, nesting, leaves}
use Rattle.syntax.specs.LimitsLaws.{leaves-size}
use Rattle.syntax.specs.Resolve.{numbered, known}
use Rattle.syntax.specs.Check.{Checked, fine, faulty, check, check_tree}

-- The parser reads the whole text, which is not too deep, and the expression, which has few occurrences, is that of the parser's tree, whose
-- labels are known.
pub record Fine (labels : List Bytes) (s : Bytes) (e : Expression) : Type 0 where
  pub short : length s ≤ most_bytes
  pub tree : Tree
  pub whole : alternatives (calls (length s)) s ≡ parsed tree []
  pub shallow : nesting 0 s ≤ most_nesting
  pub names : known labels (leaves tree) ≡ true
  pub expression : numbered labels tree ≡ e
  pub few : size e ≤ most_occurrences

record FineTree (labels : List Bytes) (s : Bytes) (t : Tree) (e : Expression) : Type 0 where
  pub shallow : nesting 0 s ≤ most_nesting
  pub names : known labels (leaves t) ≡ true
  pub expression : numbered labels t ≡ e
  pub few : length (leaves t) ≤ most_occurrences

fine-tree : (labels : List Bytes) (s : Bytes) (t : Tree) (e : Expression) → check_tree labels s t ≡ fine e → FineTree labels s t e
unfolding check_tree
fine-tree labels s t e h =
    go (leb (nesting 0 s) most_nesting) (known labels (leaves t)) (leb (length (leaves t)) most_occurrences) refl refl refl h
  where
    go : (x y z : Bool) → leb (nesting 0 s) most_nesting ≡ x → known labels (leaves t) ≡ y → leb (length (leaves t)) most_occurrences ≡ z
        → elim x as (λ b. Checked) [
          | false ↦ faulty TooDeep
          | true ↦ elim y [
            | false ↦ faulty UnknownLabel
            | true ↦ elim z [ false ↦ faulty TooManyOccurrences | true ↦ fine (numbered labels t) ]
          ]
        ] ≡ fine e
        → FineTree labels s t e
    go false y z p q d h = let n : ◌≡◌ {A = ℕ} 0 1 = cc in absurd (omega arith)
    go true false z p q d h = let n : ◌≡◌ {A = ℕ} 0 1 = cc in absurd (omega arith)
    go true true false p q d h = let n : ◌≡◌ {A = ℕ} 0 1 = cc in absurd (omega arith)
    go true true true p q d h =
        record {
          shallow = leb-true (nesting 0 s) most_nesting p;
          names = q;
          expression = cc;
          few = leb-true (length (leaves t)) most_occurrences d;
        }

parse-whole : (s : Bytes) (t : Tree) → parse s ≡ some t → alternatives (calls (length s)) s ≡ parsed t []
unfolding parse
parse-whole s t h = go (alternatives (calls (length s)) s) h
  where
    go : (p : Parsed) → elim p as (λ q. Option Tree) [ failed ↦ none | parsed u r ↦ elim r [ [] ↦ some u | b ∷ v ↦ none ] ] ≡ some t
        → p ≡ parsed t []
    go failed h = let n : ◌≡◌ {A = ℕ} 0 1 = cc in absurd (omega arith)
    go (parsed u []) h = let same : u ≡ t = cc in ap (λ x. parsed x []) same
    go (parsed u (b ∷ v)) h = let n : ◌≡◌ {A = ℕ} 0 1 = cc in absurd (omega arith)

pub fine-cases : (labels : List Bytes) (s : Bytes) (e : Expression) → check labels s ≡ fine e → Fine labels s e
unfolding check
fine-cases labels s e h = go (leb (length s) most_bytes) (parse s) refl refl h
  where
    go : (x : Bool) (o : Option Tree) → leb (length s) most_bytes ≡ x → parse s ≡ o
        → elim x as (λ b. Checked) [
          | false ↦ faulty ExpressionTooLong
          | true ↦ elim o [ none ↦ faulty NotInGrammar | some t ↦ check_tree labels s t ]
        ] ≡ fine e
        → Fine labels s e
    go false o p d h = let n : ◌≡◌ {A = ℕ} 0 1 = cc in absurd (omega arith)
    go true none p d h = let n : ◌≡◌ {A = ℕ} 0 1 = cc in absurd (omega arith)
    go true (some t) p d h =
        let r = fine-tree labels s t e h in
        record {
          short = leb-true (length s) most_bytes p;
          tree = t;
          whole = parse-whole s t d;
          shallow = r.shallow;
          names = r.names;
          expression = r.expression;
          few = omega (arith, leaves-size labels t, ap size r.expression);
        }

-- And what tells that it finds none.
module _ (labels : List Bytes) (s : Bytes) (t : Tree) (short : length s ≤ most_bytes) (shallow : nesting 0 s ≤ most_nesting)
    (names : known labels (leaves t) ≡ true) (few : length (leaves t) ≤ most_occurrences) where
  pub parse-fine : parse s ≡ some t → check labels s ≡ fine (numbered labels t)
  unfolding check check_tree
  parse-fine p =
      rw (le-leb (length s) most_bytes short, check, p, le-leb (nesting 0 s) most_nesting shallow, check_tree, names)
      (rw (le-leb (length (leaves t)) most_occurrences few))

  pub whole-fine : alternatives (calls (length s)) s ≡ parsed t [] → check labels s ≡ fine (numbered labels t)
  unfolding parse
  whole-fine w = parse-fine (rw (w, parse))
