-- Passing the bytes at the front of a text that meet a test, one after the other: what the loops of a cursor's methods do.
use Prim.Native.Nat.{ℕ, ◌+◌, ◌<◌, ◌≤◌}
use mathlib.Core.Bool.{Bool, true, false, cond, ◌||◌}
use mathlib.Core.List.{[], ◌∷◌}
use mathlib.Core.Path.{◌≡◌, refl, sym, ap, ◌∙◌}
use native.Mathlib.Numerals.{add-one}
use native.Mathlib.Omega.{arith}
use lib.Dec.{eqb}
use lib.ListN.{length, drop, get_or, length-drop, drop_of_length-le}
use lib.Seq.{drop-cons}
use Rattle.syntax.specs.declared.cursor.Cursor.{Cursor}
use Rattle.std.specs.Prelude.{Some}
use Rattle.theory.specs.Expression.{star, optional}
use Rattle.syntax.specs.Byte.{Bytes, asterisk, question, name_byte}
use Rattle.syntax.specs.Grammar.{Tree}
use Rattle.syntax.specs.Parser.{past_run, suffixes}
use Rattle.syntax.specs.Place.{cursor_at, parsed_to}

-- What is left of a text past the bytes at its front that meet f.
unfoldable pub past_while : (ℕ → Bool) → Bytes → Bytes
past_while f [] = []
past_while f (b ∷ s) = cond (f b) (past_while f s) (b ∷ s)

pub past-run : (s : Bytes) → past_run s ≡ past_while name_byte s
unfolding past_run past_while
past-run [] = refl
past-run (b ∷ s) = go (name_byte b) refl (past-run s)
  where
    go : (t : Bool) → name_byte b ≡ t → past_run s ≡ past_while name_byte s → past_run (b ∷ s) ≡ cond t (past_while name_byte s) (b ∷ s)
    go true e h = rw (e, past_run) h
    go false e h = rw (e, past_run)

-- A mark that may follow a factor.
abbrev pub suffix : ℕ → Bool
suffix b = eqb b asterisk || eqb b question

pub past-suffixes : (w : Bytes) (t : Tree) (s : Bytes) → Some (cursor_at w (past_while suffix s)) ≡ parsed_to w (suffixes t s)
unfolding suffixes past_while
past-suffixes w t [] = refl
past-suffixes w t (b ∷ s) = go (eqb b asterisk) refl (eqb b question) refl (past-suffixes w (star t) s) (past-suffixes w (optional t) s)
  where
    go : (x : Bool) → eqb b asterisk ≡ x → (y : Bool) → eqb b question ≡ y
        → Some (cursor_at w (past_while suffix s)) ≡ parsed_to w (suffixes (star t) s)
        → Some (cursor_at w (past_while suffix s)) ≡ parsed_to w (suffixes (optional t) s)
        → Some (cursor_at w (cond (x || y) (past_while suffix s) (b ∷ s))) ≡ parsed_to w (suffixes t (b ∷ s))
    go true e y f g h = rw (e, suffixes) g
    go false e true f g h = rw (e, suffixes, f, suffixes) h
    go false e false f g h = rw (e, suffixes, f, suffixes)

module _ (f : ℕ → Bool) (s : Bytes) (i : ℕ) where
  -- At a byte of the text: the bytes before it are passed, and it comes next.
  next : i < length s → past_while f (drop i s) ≡ cond (f (get_or s i 0)) (past_while f (drop (i + 1) s)) (drop i s)
  unfolding past_while
  next h = rw (add-one, drop-cons s i 0 h)

  pub passed : i < length s → f (get_or s i 0) ≡ true → past_while f (drop (i + 1) s) ≡ past_while f (drop i s)
  passed h e = sym (next h ∙ ap (λ t. cond t (past_while f (drop (i + 1) s)) (drop i s)) e)

  pub stopped : i < length s → f (get_or s i 0) ≡ false → record { at = i } ≡ cursor_at s (past_while f (drop i s))
  stopped h e = rw (next h, e) (ap {B = Cursor} (λ n. record { at = n }) (omega (arith, length-drop i s)))

  pub ended : length s ≤ i → record { at = length s } ≡ cursor_at s (past_while f (drop i s))
  unfolding past_while
  ended h = rw (drop_of_length-le s h, past_while) (ap {B = Cursor} (λ n. record { at = n }) (omega arith))
