-- Why the lines that are put for what Find tells are its lines.
use Rattle.std.specs.Prelude.{ℕ, ◌/◌, ◌%◌, ◌≤◌, Bool, true, false, ◌≡◌, take}
use mathlib.Core.List.{List}
use Rattle.std.proofs.Math.Path.{sym, ap₂}
use Rattle.std.proofs.Common.{ap, ◌∙◌}
use native.Mathlib.Omega.{arith}
use Rattle.std.proofs.Math.ListN.{length}
use Rattle.theory.specs.Word.{Word}
use Rattle.syntax.specs.declared.table.Span.{Span}
use Rattle.syntax.specs.Byte.{Bytes}
use Rattle.syntax.specs.Resolve.{names_at}
use Rattle.syntax.specs.TableLaws.{length-names_at}
use Rattle.reading.specs.Text.{line}
use Rattle.printing.specs.Lines.{first_word, empty_word, named_line, rows, first_line}

-- Few lists and few states are written as they are.
pub few-rows : (text : Bytes) (spans : List Span) (states : ℕ) (table flags : List ℕ) → length spans ≤ 16 → states ≤ 256
    → rows table flags (length spans % 256) (states % 65536) 0 ≡ rows table flags (length (names_at text spans)) states 0
few-rows text spans states table flags h k =
    let lists : length spans % 256 ≡ length (names_at text spans) = omega (arith, length-names_at text spans) in
    let all : states % 65536 ≡ states = omega arith in
    ap₂ (λ (k n : ℕ). rows table flags k n 0) lists all
