-- `is_name` meets its contract: its length, its first byte and the others are told, one after the other.
use Rattle.std.proofs.Common.{◌-◌, ◌<◌, ◌≤◌, ◌≡◌, true, false, sym, ap, ◌∙◌, eqb, length, get_or, drop, arith, le-leb, length-drop}
use Rattle.std.proofs.lemmas.Bool.{lt-leb}
use Rattle.std.proofs.Math.Seq.{take_all}
use Rattle.std.specs.List.{list_all}
use Rattle.std.proofs.Math.Bool.{and-true, and-false}
use Rattle.syntax.specs.Byte.{Bytes, kind, letter, name_byte}
use Rattle.syntax.specs.KindTable.{kind_letter}
use Rattle.syntax.specs.Name.{name_bytes, is_name}
use Rattle.syntax.specs.NameLaws.{no_bytes, name-parts, name-bytes-all}
use Rattle.syntax.proofs.name.is_name.Goals as goal

module _ (s : Bytes) where
  too_long : 16 < length s → false ≡ is_name s
  too_long h = rw (name-parts s (omega arith), lt-leb (length s) 16 h, and-false)

  no-letter : 0 < length s → eqb (kind (get_or s 0 0)) letter ≡ false → false ≡ is_name s
  no-letter h k = rw (name-parts s h, k)

  begins : 0 < length s → length s ≤ 16 → eqb (kind (get_or s 0 0)) letter ≡ true → name_bytes (drop 1 s) ≡ is_name s
  begins h m k = rw (name-parts s h, k, le-leb (length s) 16 m, and-true)

pub returns-then-s-gt-LONGEST : goal.returns-then-s-gt-LONGEST
returns-then-s-gt-LONGEST c = too_long _ c.if-s-gt-LONGEST.true

pub returns-in-empty : goal.returns-in-empty
returns-in-empty c = sym (no_bytes _ (omega arith))

pub returns-then-is_letter : goal.returns-then-is_letter
returns-then-is_letter c =
    let s : Bytes = c.args.s.now in
    c.in_name.ensures
    ∙ ap (list_all name_byte) (take_all (length s - 1) (drop 1 s) (omega (arith, length-drop 1 s)))
    ∙ name-bytes-all (drop 1 s)
    ∙ begins s (omega arith) (omega arith) (kind_letter _ _ _ c.of.ensures c.is_letter.ensures ∙ c.if-is_letter.true)

pub returns-else-is_letter : goal.returns-else-is_letter
returns-else-is_letter c =
    c.if-is_letter.false ∙ no-letter c.args.s.now (omega arith) (kind_letter _ _ _ c.of.ensures c.is_letter.ensures ∙ c.if-is_letter.false)
