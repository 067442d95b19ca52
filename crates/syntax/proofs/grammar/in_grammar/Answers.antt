-- `in_grammar` meets its contract: a text that nests too deep has no tree, and another has one where an alternative is
-- read from its beginning to its end.
use Prim.Native.Nat.{◌-◌, ◌/◌, ◌≤◌, ◌<◌}
use mathlib.Core.Bool.{false}
use mathlib.Core.List.{[], ◌∷◌}
use mathlib.Core.Path.{◌≡◌, sym, ap}
use native.Mathlib.Omega.{arith}
use lib.Dec.{eqb}
use lib.ListN.{length, drop, length-drop}
use borrow.Author.Tests.{eq-eqb, ne_eqb}
use Rattle.syntax.specs.declared.cursor.Cursor.{Cursor}
use Rattle.std.specs.Prelude.{Some, None}
use Rattle.syntax.specs.Byte.{Bytes}
use Rattle.syntax.specs.Grammar.{Tree}
use Rattle.syntax.specs.Parser.{alternatives, parsed, calls, parse}
use Rattle.syntax.specs.ParserLaws.{parse-none}
use Rattle.syntax.specs.Limits.{nesting}
use Rattle.syntax.specs.NestingLaws.{nesting-half}
use Rattle.syntax.specs.Place.{Follows}
use Rattle.syntax.specs.Some.{is_some}
use Rattle.syntax.specs.Unread.{alternatives-unread}
use Rattle.syntax.proofs.Reading.{parsed-to, not-parsed}
use Rattle.syntax.proofs.grammar.in_grammar.Goals as goal

not-read : (s : Bytes) → Follows alternatives 3 s 0 None → false ≡ is_some (parse s)
unfolding parse
not-read s h = rw (not-parsed s 0 (alternatives (calls (length s)) s) (h.same (calls (length s)) (omega arith)), parse)

read : (s : Bytes) (c : Cursor) → Follows alternatives 3 s 0 (Some c) → eqb c.at (length s) ≡ is_some (parse s)
unfolding parse
read s c h =
    let k = calls (length s) in
    let p = parsed-to s 0 (alternatives k s) c (alternatives-unread k s) (h.same k (omega arith)) in
    let b = h.onward in
    go p.0 (drop c.at s) p.1 (omega (arith, length-drop c.at s))
  where
    go : (t : Tree) (v : Bytes) → alternatives (calls (length s)) s ≡ parsed t v → c.at ≡ length s - length v × length v ≤ length s
        → eqb c.at (length s) ≡ is_some (parse s)
    go t [] e l = rw (e, parse) (eq-eqb c.at (length s) (omega arith))
    go t (x ∷ v) e l = rw (e, parse) (ne_eqb c.at (length s) (omega arith))

-- A text that nests deeper than half its bytes has no tree.
too-deep : (s : Bytes) → length s / 2 < nesting 0 s → false ≡ is_some (parse s)
too-deep s h = ap is_some (sym ((parse-none s).1 (λ t d. omega (arith, h, nesting-half d))))

pub returns-then-half-deep : goal.returns-then-half-deep
returns-then-half-deep c = too-deep _ (omega (arith, c.if-half-deep.true, c.requires))

pub returns-in-None : goal.returns-in-None
returns-in-None c = not-read _ (rw c.in-None.is at c.alternative.ensures)

pub returns-in-Some : goal.returns-in-Some
returns-in-Some c = read _ _ (rw c.in-Some.is at c.alternative.ensures)
