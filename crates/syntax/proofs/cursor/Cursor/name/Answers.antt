-- `Cursor::name` meets its contract: the run's length and its first byte decide whether it is a name.
use Prim.Native.Nat.{ℕ, ◌-◌, ◌<◌, ◌≤◌}
use mathlib.Core.Bool.{true, false}
use mathlib.Core.Path.{◌≡◌, ap, ◌∙◌}
use native.Mathlib.Omega.{arith}
use lib.ListN.{length, drop, get_or}
use lib.Dec.{eqb}
use Rattle.syntax.specs.declared.cursor.Cursor.{Cursor}
use Rattle.std.specs.Prelude.{Some, None}
use Rattle.syntax.specs.Byte.{Bytes, kind, letter}
use Rattle.syntax.specs.Parser.{past_run, named}
use Rattle.syntax.specs.Place.{Moved, cursor_at, parsed_to}
use Rattle.syntax.specs.KindTable.{kind_letter}
use Rattle.syntax.proofs.Named.{name-there, name-long, name-other, name-nothing}
use Rattle.syntax.proofs.cursor.Cursor.name.Goals as goal
use Rattle.syntax.proofs.cursor.Cursor.name.Goals.{else-at-past-via-then-at-past+then-past-at-le-LONGEST+else-is_letter, else-at-past-via-then-at-past+else-past-at-le-LONGEST, else-at-past-via-else-at-past}

-- The run at the place `at` ends where `past` stands.
module _ (s : Bytes) (at : ℕ) (past : Cursor) (h : past ≡ cursor_at s (past_run (drop at s))) where
  ends : past.at ≡ length s - length (past_run (drop at s))
  ends = ap (λ (c : Cursor). c.at) h

  found : at < past.at → past.at - at ≤ 16 → eqb (kind (get_or s at 0)) letter ≡ true → Some past ≡ parsed_to s (named (drop at s))
  found l m k = rw (name-there s at past.at ends l m k) (ap {B = Moved} Some h)

  long : at < past.at → 16 < past.at - at → None ≡ parsed_to s (named (drop at s))
  long l m = rw (name-long s at past.at ends l m)

  no-letter : at < past.at → eqb (kind (get_or s at 0)) letter ≡ false → None ≡ parsed_to s (named (drop at s))
  no-letter l k = rw (name-other s at past.at ends l k)

  nothing : past.at ≤ at → None ≡ parsed_to s (named (drop at s))
  nothing l = rw (name-nothing s at past.at ends l)

pub bounds-s-at : goal.bounds-s-at
bounds-s-at c = omega (arith, ap (λ (p : Cursor). p.at) c.past_run-past.ensures)

pub returns-then-is_letter : goal.returns-then-is_letter
returns-then-is_letter c =
    found _ _ _ c.past_run-past.ensures c.if-at-past.true c.if-past-at-le-LONGEST.true
    (kind_letter _ _ _ c.of.ensures c.is_letter.ensures ∙ c.if-is_letter.true)

pub returns-else-at-past : goal.returns-else-at-past
returns-else-at-past c =
    let p = c.past_run-past.ensures in
    elim c.else-at-past.branch [
      | else-at-past-via-then-at-past+then-past-at-le-LONGEST+else-is_letter w ↦
          no-letter _ _ _ p w.if-at-past.true (kind_letter _ _ _ w.of.ensures w.is_letter.ensures ∙ w.if-is_letter.false)
      | else-at-past-via-then-at-past+else-past-at-le-LONGEST w ↦ long _ _ _ p w.if-at-past.true w.if-past-at-le-LONGEST.false
      | else-at-past-via-else-at-past w ↦ nothing _ _ _ p w.if-at-past.false
    ]
