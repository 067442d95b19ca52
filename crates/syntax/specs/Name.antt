-- Names (document 01): 1 to 16 bytes, a letter a to z, then letters, digits or hyphens.
use Prim.Native.Nat.{ℕ, ◌≤◌}
use Rattle.std.specs.Prelude.{Bool, true, false, ◌&&◌, List, [], ◌∷◌, ◌≡◌, Option, cond, Some, None, eqb, ltb, leb, length}
use Rattle.syntax.specs.Byte.{Bytes, kind, letter, NameByte, name_byte}

-- Every byte is one that a name may have.
pub data NameBytes : Bytes → Type 0 where
  nothing : NameBytes []
  next : {b : ℕ} {s : Bytes} → NameByte b → NameBytes s → NameBytes (b ∷ s)

pub record IsName (s : Bytes) : Type 0 where
  pub first : ℕ
  pub others : Bytes
  pub text : s ≡ first ∷ others
  pub begins : kind first ≡ letter
  pub goes_on : NameBytes others
  pub short : length s ≤ 16

-- When two names are the same.
abbrev pub SameName : Bytes → Bytes → Type 0
SameName m n = m ≡ n

unfoldable pub name_bytes : Bytes → Bool
name_bytes [] = true
name_bytes (b ∷ s) = name_byte b && name_bytes s

unfoldable pub is_name : Bytes → Bool
is_name [] = false
is_name (b ∷ s) = (eqb (kind b) letter && name_bytes s) && leb (length (b ∷ s)) 16

unfoldable pub same_name : Bytes → Bytes → Bool
same_name [] [] = true
same_name [] (b ∷ n) = false
same_name (a ∷ m) [] = false
same_name (a ∷ m) (b ∷ n) = eqb a b && same_name m n

-- The place of a name in a table of names, counted from i; the length of the table, so counted, where it has none.
unfoldable pub find : Bytes → ℕ → List Bytes → ℕ
find n i [] = i
find n i (m ∷ t) = elim (same_name m n) [ true ↦ i | false ↦ find n (Prim.Native.Nat.suc i) t ]

-- The place of a name in a table of names, if the table has it.
abbrev pub place_of : Bytes → List Bytes → Option ℕ
place_of n names = cond (ltb (find n 0 names) (length names)) (Some (find n 0 names)) None
