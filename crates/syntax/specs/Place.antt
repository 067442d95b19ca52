-- Places in a text: a text left unread, as a cursor into the whole text.
use Rattle.std.specs.Prelude.{ℕ, ◌-◌, ◌+◌, ◌*◌, ◌<◌, ◌≤◌, ◌≡◌, length, drop}
use Rattle.std.proofs.Math.Option.{Option, some, none}
use Rattle.syntax.specs.declared.cursor.Cursor.{Cursor}
use Rattle.std.specs.Prelude.{Some, None}
use Rattle.std.specs.Prelude.{Option as Perhaps}
use Rattle.syntax.specs.Byte.{Bytes}
use Rattle.syntax.specs.Parser.{Parsed, failed, parsed}

-- Where a reader has moved to, or that what it looked for is not there.
abbrev pub Moved : Type 0
Moved = Perhaps Cursor

-- The cursor at which the rest of the text s begins.
abbrev pub cursor_at : Bytes → Bytes → Cursor
cursor_at s rest = record { at = length s - length rest }

abbrev pub moved : Bytes → Option Bytes → Moved
moved s none = None
moved s (some rest) = Some (cursor_at s rest)

abbrev pub parsed_to : Bytes → Parsed → Moved
parsed_to s failed = None
parsed_to s (parsed t rest) = Some (cursor_at s rest)

-- The moved cursor stays in the text and does not go back.
abbrev pub Onward : Bytes → ℕ → Moved → Type 0
Onward s at None = Unit {0}
Onward s at (Some c) = (at < c.at) × (c.at ≤ length s)

-- What one of the three reading functions promises: for any number of calls that is enough, it moves to where the parser f stops.
pub record Follows (f : ℕ → Bytes → Parsed) (rank : ℕ) (s : Bytes) (at : ℕ) (r : Moved) : Type 0 where
  pub same : (k : ℕ) → 3 * (length s - at) + rank < k → r ≡ parsed_to s (f k (drop at s))
  pub onward : Onward s at r
