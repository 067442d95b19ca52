-- When the longest run of name bytes at the front of a text is a name: its bytes are those of a name already, so that its length and its first
-- byte decide.
use Prim.Native.Nat.{ℕ, ◌<◌}
use mathlib.Core.Bool.{Bool, true, false, ◌&&◌, and-true, false≢true}
use mathlib.Core.List.{[], ◌∷◌}
use mathlib.Core.Path.{◌≡◌, refl, sym, ap, ◌∙◌}
use native.Mathlib.Omega.{arith}
use borrow.Author.Tests.{ne_eqb}
use lib.Dec.{eqb, leb}
use lib.ListN.{length, get_or}
use Rattle.syntax.specs.Byte.{Bytes, kind, letter, hyphen, name_byte}
use Rattle.syntax.specs.Name.{name_bytes, is_name}
use Rattle.syntax.specs.Parser.{run}

run-bytes : (s : Bytes) → name_bytes (run s) ≡ true
unfolding name_bytes run
run-bytes [] = refl
run-bytes (b ∷ s) = go (name_byte b) refl (run-bytes s)
  where
    go : (t : Bool) → name_byte b ≡ t → name_bytes (run s) ≡ true → name_bytes (run (b ∷ s)) ≡ true
    go true e h = rw (e, run, name_bytes, e) h
    go false e h = rw (e, run)

-- A letter is a name byte.
letter-byte : (b : ℕ) → kind b ≡ letter → name_byte b ≡ true
letter-byte b e = ap (λ k. leb k hyphen) e

pub run-name : (s : Bytes) → 0 < length (run s) → is_name (run s) ≡ (eqb (kind (get_or s 0 0)) letter && leb (length (run s)) 16)
unfolding run is_name
run-name [] l = absurd (omega arith)
run-name (b ∷ s) l = go (name_byte b) refl
  where
    go : (t : Bool) → name_byte b ≡ t → is_name (run (b ∷ s)) ≡ (eqb (kind b) letter && leb (length (run (b ∷ s))) 16)
    go true e = rw (e, run, run-bytes s, and-true)
    go false e = let f : eqb (kind b) letter ≡ false = ne_eqb (kind b) letter (λ k. false≢true (sym e ∙ letter-byte b k)) in rw (e, run, f)
