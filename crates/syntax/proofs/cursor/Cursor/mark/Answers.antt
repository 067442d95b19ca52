-- `Cursor::mark` meets its contract: what is left of the text begins with the byte at the cursor.
use Prim.Native.Nat.{ℕ, suc, ◌+◌, ◌<◌, ◌≤◌}
use mathlib.Core.Path.{◌≡◌, ap}
use native.Mathlib.Omega.{arith}
use lib.ListN.{length, drop, get_or, length-drop, drop_of_length-le}
use lib.Seq.{drop-cons}
use borrow.Author.Tests.{eq-eqb, ne_eqb}
use Rattle.std.specs.Prelude.{Some, None}
use Rattle.syntax.specs.Byte.{Bytes}
use Rattle.syntax.specs.Parser.{past_mark}
use Rattle.syntax.specs.Place.{Moved, moved}
use Rattle.syntax.proofs.cursor.Cursor.mark.Goals as goal
use Rattle.syntax.proofs.cursor.Cursor.mark.Goals.{else-at-s-via-then-at-s+else-s-at, else-at-s-via-else-at-s}

module _ (s : Bytes) (at mark : ℕ) where
  there : at < length s → get_or s at 0 ≡ mark → Some (record { at = at + 1 }) ≡ moved s (past_mark mark (drop at s))
  unfolding past_mark
  there h e =
      rw (drop-cons s at 0 h, past_mark, eq-eqb (get_or s at 0) mark e, past_mark)
      (ap {B = Moved} (λ n. Some (record { at = n })) (omega (arith, length-drop (suc at) s)))

  other : at < length s → (get_or s at 0 ≡ mark → ⊥) → None ≡ moved s (past_mark mark (drop at s))
  unfolding past_mark
  other h e = rw (drop-cons s at 0 h, past_mark, ne_eqb (get_or s at 0) mark e, past_mark)

  beyond : length s ≤ at → None ≡ moved s (past_mark mark (drop at s))
  unfolding past_mark
  beyond h = rw (drop_of_length-le s h)

pub returns-then-s-at : goal.returns-then-s-at
returns-then-s-at c =
    let a = c.args in
    there a.s.now a.self.at a.mark c.if-at-s.true c.if-s-at.true

pub returns-else-at-s : goal.returns-else-at-s
returns-else-at-s c =
    let a = c.args in
    elim c.else-at-s.branch [
      | else-at-s-via-then-at-s+else-s-at w ↦ other a.s.now a.self.at a.mark w.if-at-s.true w.if-s-at.false
      | else-at-s-via-else-at-s w ↦ beyond a.s.now a.self.at a.mark w.if-at-s.false
    ]
