-- Laws of tables of names: how a search goes on through them, entry by entry.
use Rattle.std.specs.Prelude.{ℕ, suc, ◌+◌, ◌<◌, ◌≤◌, Bool, true, false, cond, eqb, ltb, ◌&&◌, ◌≡◌, refl, Some, None, length, get_or, take, drop}
use mathlib.Core.List.{List, [], ◌∷◌}
use Rattle.std.proofs.Common.{sym, ◌∙◌, add-one, arith, lt-ltb, le-ltb, ltb-true, ltb-false, drop-cons, drop_of_length-le}
use Rattle.std.proofs.Math.Path.{ap, ap₂}
use Rattle.std.specs.List.{position, position_or_len}
use Rattle.std.specs.Str.{bytes_eq}
use Rattle.std.proofs.lemmas.List.Recursion.{is_position_or_len}
use Rattle.syntax.specs.declared.table.Span.{Span}
use Rattle.syntax.specs.Byte.{Bytes}
use Rattle.syntax.specs.Name.{same_name, find, place_of}
use Rattle.syntax.specs.NameLaws.{find-here, find-later, find-from}
use Rattle.syntax.specs.Resolve.{known, names_at}

-- A table has a name for each place.
pub length-names_at : (text : Bytes) (l : List Span) → length (names_at text l) ≡ length l
unfolding names_at
length-names_at text [] = refl
length-names_at text (span ∷ l) = ap suc (length-names_at text l)

-- The name at a place of a table, and the names after it.
abbrev pub name_at : Bytes → List Span → ℕ → Bytes
name_at text l i = let span = get_or l i (record { start = 0; size = 0 }) in take span.size (drop span.start text)

pub names_at-next : (text : Bytes) (l : List Span) (i : ℕ) → i < length l
    → names_at text (drop i l) ≡ name_at text l i ∷ names_at text (drop (i + 1) l)
unfolding names_at
names_at-next text l i h = rw add-one (ap (names_at text) (drop-cons l i (record { start = 0; size = 0 }) h))

pub names_at-end : (text : Bytes) (l : List Span) (i : ℕ) → length l ≤ i → names_at text (drop i l) ≡ []
unfolding names_at
names_at-end text l i h = ap (names_at text) (drop_of_length-le l h)

-- What a search gives over the names from a place on.
abbrev pub find_from : Bytes → List Span → Bytes → ℕ → ℕ
find_from text l n i = find n i (names_at text (drop i l))

module _ (text : Bytes) (l : List Span) (n : Bytes) (i : ℕ) where
  pub find_from-here : i < length l → same_name (name_at text l i) n ≡ true → find_from text l n i ≡ i
  find_from-here h e = ap (find n i) (names_at-next text l i h) ∙ find-here n i (name_at text l i) _ e

  pub find_from-past : i < length l → same_name (name_at text l i) n ≡ false → find_from text l n i ≡ find_from text l n (i + 1)
  find_from-past h e = ap (find n i) (names_at-next text l i h) ∙ find-later n i (name_at text l i) _ e
      ∙ ap (λ (k : ℕ). find n k (names_at text (drop (i + 1) l))) (sym (add-one i))

  pub find_from-end : length l ≤ i → find_from text l n i ≡ i
  unfolding find
  find_from-end h = ap (find n i) (names_at-end text l i h)

-- Whether the name of a place is the given one.
abbrev pub named : Bytes → Bytes → Span → Bool
named text n span = bytes_eq (take span.size (drop span.start text)) n

same-bytes : (m n : Bytes) → same_name m n ≡ bytes_eq m n
unfolding same_name
same-bytes [] [] = refl
same-bytes [] (b ∷ n) = refl
same-bytes (a ∷ m) [] = refl
same-bytes (a ∷ m) (b ∷ n) = ap (λ t. eqb a b && t) (same-bytes m n)

find-cond : (n m : Bytes) (t : List Bytes) → find n 0 (m ∷ t) ≡ cond (same_name m n) 0 (1 + find n 0 t)
find-cond n m t = go (same_name m n) refl
  where
    go : (b : Bool) → same_name m n ≡ b → find n 0 (m ∷ t) ≡ cond b 0 (1 + find n 0 t)
    go true e = find-here n 0 m t e
    go false e = find-later n 0 m t e ∙ find-from n 1 t

-- The place of a name is that of the first entry that is it.
pub find-position : (text n : Bytes) (l : List Span) → find n 0 (names_at text l) ≡ position_or_len (named text n) l
unfolding names_at find
find-position text n l =
    is_position_or_len (λ k. find n 0 (names_at text k)) (named text n) refl
    (λ span k. find-cond n (take span.size (drop span.start text)) (names_at text k)
    ∙ ap (λ t. cond t 0 (1 + find n 0 (names_at text k))) (same-bytes (take span.size (drop span.start text)) n)) l

pub place-position : (text n : Bytes) (l : List Span) → place_of n (names_at text l) ≡ position (named text n) l
place-position text n l =
    ap₂ (λ k m. cond (ltb k m) (Some k) None) (find-position text n l) (length-names_at text l)

-- Whether a number is that of a name of the table decides its place.
pub place-some : (n : Bytes) (names : List Bytes) (k : ℕ) → k ≡ find n 0 names → k < length names → Some k ≡ place_of n names
place-some n names k e h =
    ap Some e ∙ ap (λ t. cond t (Some (find n 0 names)) None) (sym (lt-ltb (find n 0 names) (length names) (omega arith)))

pub place-none : (n : Bytes) (names : List Bytes) → length names ≤ find n 0 names → None ≡ place_of n names
place-none n names h = ap (λ t. cond t (Some (find n 0 names)) None) (sym (le-ltb (find n 0 names) (length names) h))

pub place-found : (n : Bytes) (names : List Bytes) (k : ℕ) → Some k ≡ place_of n names → (k ≡ find n 0 names) × (k < length names)
place-found n names k e = go (ltb (find n 0 names) (length names)) refl e
  where
    go : (b : Bool) → ltb (find n 0 names) (length names) ≡ b → Some k ≡ cond b (Some (find n 0 names)) None
        → (k ≡ find n 0 names) × (k < length names)
    go true h e = let same : k ≡ find n 0 names = cc in (same, omega (arith, ltb-true (find n 0 names) (length names) h))
    go false h e = cc

pub place-missing : (n : Bytes) (names : List Bytes) → None ≡ place_of n names → length names ≤ find n 0 names
place-missing n names e = go (ltb (find n 0 names) (length names)) refl e
  where
    go : (b : Bool) → ltb (find n 0 names) (length names) ≡ b → None ≡ cond b (Some (find n 0 names)) None → length names ≤ find n 0 names
    go true h e = cc
    go false h e = ltb-false (find n 0 names) (length names) h

-- Names are known where the first is found at some place of the table, and the others are known.
module _ (names : List Bytes) (n : Bytes) (others : List Bytes) where
  pub known_next : (k : ℕ) → Some k ≡ place_of n names → known names (n ∷ others) ≡ known names others
  unfolding known
  known_next k e = go (ltb (find n 0 names) (length names)) e
    where
      go : (b : Bool) → Some k ≡ cond b (Some (find n 0 names)) None → (b && known names others) ≡ known names others
      go true e = refl
      go false e = cc

  pub unknown-next : None ≡ place_of n names → known names (n ∷ others) ≡ false
  unfolding known
  unknown-next e = go (ltb (find n 0 names) (length names)) e
    where
      go : (b : Bool) → None ≡ cond b (Some (find n 0 names)) None → (b && known names others) ≡ false
      go true e = cc
      go false e = refl
