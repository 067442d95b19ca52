-- What it tells of the text that a cursor has moved past a mark, or has not.
use Rattle.std.specs.Prelude.{ℕ, suc, max, ◌+◌, ◌-◌, ◌<◌, Bool, true, false, [], ◌∷◌, ◌≡◌, refl, eqb, length, drop}
use Rattle.std.proofs.Math.Option.{Option, some, none}
use Rattle.std.proofs.Common.{sym, ap, ◌∙◌, add-one, arith, length-drop, drop-drop}
use Rattle.syntax.specs.declared.cursor.Cursor.{Cursor}
use Rattle.std.specs.Prelude.{Some, None}
use Rattle.syntax.specs.Byte.{Bytes, opening, closing}
use Rattle.syntax.specs.Parser.{past_mark}
use Rattle.syntax.specs.ParserShapes.{past-mark}
use Rattle.syntax.specs.Limits.{balance, nesting}
use Rattle.syntax.specs.NestingLaws.{deeper, level}
use Rattle.syntax.specs.Place.{cursor_at, moved}

-- The mark m stands at the place `at` of s, and the place c comes after it.
pub record Past (m : ℕ) (s : Bytes) (at : ℕ) (c : Cursor) : Type 0 where
  pub inside : at < length s
  pub next : c.at ≡ suc at
  pub past : past_mark m (drop at s) ≡ some (drop c.at s)

pub mark-to : (m : ℕ) (s : Bytes) (at : ℕ) (c : Cursor) → Some c ≡ moved s (past_mark m (drop at s)) → Past m s at c
unfolding past_mark
mark-to m s at c e = let r = go (drop at s) refl e in record { inside = r.0; next = r.1; past = r.2 }
  where
    go : (x : Bytes) → drop at s ≡ x → Some c ≡ moved s (past_mark m x)
        → (at < length s) × (c.at ≡ suc at) × (past_mark m x ≡ some (drop c.at s))
    go [] d e = let z : ◌≡◌ {A = ℕ} 0 1 = cc in absurd (omega arith)
    go (b ∷ v) d e = test (eqb b m) e
      where
        inside : at < length s
        inside = omega (arith, sym (length-drop at s) ∙ ap length d)

        left : v ≡ drop (suc at) s
        left = sym (ap (drop 1) d) ∙ drop-drop 1 at s ∙ ap (λ n. drop n s) (add-one at)

        test : (x : Bool) → Some c ≡ moved s (elim x [ true ↦ some v | false ↦ none ])
            → (at < length s) × (c.at ≡ suc at) × (elim x as (λ y. Option Bytes) [ true ↦ some v | false ↦ none ] ≡ some (drop c.at s))
        test true t =
            let n : c.at ≡ suc at = placed t ∙ omega (arith, inside, ap length left ∙ length-drop (suc at) s) in
            (inside, n, ap some (left ∙ ap (λ n. drop n s) (sym n)))
          where
            placed : Some c ≡ Some (cursor_at s v) → c.at ≡ length s - length v
            placed t = let p : c ≡ cursor_at s v = cc in ap (λ (x : Cursor). x.at) p
        test false t = let z : ◌≡◌ {A = ℕ} 0 1 = cc in absurd (omega arith)

pub mark-failed : (m : ℕ) (s : Bytes) (at : ℕ) → None ≡ moved s (past_mark m (drop at s)) → past_mark m (drop at s) ≡ none
mark-failed m s at e = go (past_mark m (drop at s)) refl e
  where
    go : (x : Option Bytes) → past_mark m (drop at s) ≡ x → None ≡ moved s x → past_mark m (drop at s) ≡ none
    go none d e = d
    go (some v) d e = let z : ◌≡◌ {A = ℕ} 0 1 = cc in absurd (omega arith)

-- What the mark does to the nesting.
module _ (m : ℕ) (s : Bytes) (at : ℕ) (c : Cursor) (mark : Past m s at c) (n : ℕ) where
  there : drop at s ≡ m ∷ drop c.at s
  there = past-mark m (drop at s) (drop c.at s) mark.past

  pub past-level : balance n m ≡ n → nesting n (drop at s) ≡ nesting n (drop c.at s)
  past-level e = ap (nesting n) there ∙ level n m (drop c.at s) e

module _ (s : Bytes) (at : ℕ) (c : Cursor) (n : ℕ) where
  pub past-opening : Past opening s at c → nesting n (drop at s) ≡ nesting (n + 1) (drop c.at s)
  unfolding nesting balance
  past-opening mark = rw (add-one, there opening s at c mark n) (omega (arith, deeper (suc n) (drop c.at s)))

  pub past-closing : Past closing s at c → nesting (n + 1) (drop at s) ≡ max (n + 1) (nesting n (drop c.at s))
  unfolding nesting balance
  past-closing mark = rw (add-one, there closing s at c mark n)
