-- Laws of names: the tests on names decide what they are meant to, and what `find` finds in a table.
use Rattle.std.specs.Prelude.{ℕ, zero, suc, ◌+◌, ◌≤◌, ◌<◌, Bool, true, false, ◌&&◌, List, [], ◌∷◌, ◌↔◌, ◌≡◌, refl, eqb, leb, length, drop, get_or}
use Rattle.std.proofs.Math.Bool.{and-eq-true_iff, and-false}
use Rattle.std.proofs.lemmas.Bool.{false≢true}
use Rattle.std.proofs.Common.{sym, ◌∙◌, ap, ap₂, arith, eqb-true, eq-eqb, leb-true, le-leb}
use Rattle.std.proofs.Math.Decide.{dec_lt}
use Rattle.std.specs.List.{list_all}
use Rattle.syntax.specs.Byte.{Bytes, kind, letter, NameByte, name_byte, hyphen}
use Rattle.syntax.specs.Name.{NameBytes, nothing, next, IsName, SameName, name_bytes, is_name, same_name, find}
use Rattle.syntax.specs.Check.{Distinct}

pub name-byte-exactly : (b : ℕ) → (name_byte b ≡ true) ↔ NameByte b
name-byte-exactly b = (leb-true (kind b) hyphen, le-leb (kind b) hyphen)

pub name-bytes-exactly : (s : Bytes) → (name_bytes s ≡ true) ↔ NameBytes s
unfolding name_bytes
name-bytes-exactly s = (there s, back)
  where
    there : (s : Bytes) → name_bytes s ≡ true → NameBytes s
    there [] e = nothing
    there (b ∷ s) e =
        let both = (and-eq-true_iff (name_byte b) (name_bytes s)).0 e in
        next ((name-byte-exactly b).0 both.0) (there s both.1)

    back : {s : Bytes} → NameBytes s → name_bytes s ≡ true
    back nothing = refl
    back (next {b} {s} h r) = (and-eq-true_iff (name_byte b) (name_bytes s)).1 ((name-byte-exactly b).1 h, back r)

pub is-name-exactly : (s : Bytes) → (is_name s ≡ true) ↔ IsName s
unfolding is_name
is-name-exactly s = (there s, back)
  where
    there : (s : Bytes) → is_name s ≡ true → IsName s
    there [] e = absurd (false≢true e)
    there (b ∷ s) e =
        let whole = (and-eq-true_iff (eqb (kind b) letter && name_bytes s) (leb (length (b ∷ s)) 16)).0 e in
        let both = (and-eq-true_iff (eqb (kind b) letter) (name_bytes s)).0 whole.0 in
        record {
          first = b;
          others = s;
          text = refl;
          begins = eqb-true (kind b) letter both.0;
          goes_on = (name-bytes-exactly s).0 both.1;
          short = leb-true (length (b ∷ s)) 16 whole.1;
        }

    cons : (b : ℕ) (s : Bytes) → kind b ≡ letter → NameBytes s → length (b ∷ s) ≤ 16 → is_name (b ∷ s) ≡ true
    cons b s h r l =
        (and-eq-true_iff (eqb (kind b) letter && name_bytes s) (leb (length (b ∷ s)) 16)).1 (
          (and-eq-true_iff (eqb (kind b) letter) (name_bytes s)).1 (eq-eqb (kind b) letter h, (name-bytes-exactly s).1 r),
          le-leb (length (b ∷ s)) 16 l,
        )

    back : {s : Bytes} → IsName s → is_name s ≡ true
    back n = ap is_name n.text ∙ cons n.first n.others n.begins n.goes_on (rw n.text at n.short)

-- A name has a byte.
pub no_bytes : (s : Bytes) → length s ≡ 0 → is_name s ≡ false
unfolding is_name
no_bytes [] e = refl
no_bytes (b ∷ s) e = absurd (omega arith)

-- The bytes are looked at one by one.
pub name-bytes-all : (s : Bytes) → list_all name_byte s ≡ name_bytes s
unfolding name_bytes
name-bytes-all [] = refl
name-bytes-all (b ∷ s) = ap (λ t. name_byte b && t) (name-bytes-all s)

-- What is asked of a text that has a byte.
pub name-parts : (s : Bytes) → 0 < length s → is_name s ≡ ((eqb (kind (get_or s 0 0)) letter && name_bytes (drop 1 s)) && leb (length s) 16)
unfolding is_name
name-parts [] h = absurd (omega arith)
name-parts (b ∷ s) h = refl

pub same-name-exactly : (m n : Bytes) → (same_name m n ≡ true) ↔ SameName m n
unfolding same_name
same-name-exactly m n = (there m n, λ e. ap (λ z. same_name z n) e ∙ self n)
  where
    there : (m n : Bytes) → same_name m n ≡ true → SameName m n
    there [] [] e = refl
    there [] (b ∷ n) e = absurd (false≢true e)
    there (a ∷ m) [] e = absurd (false≢true e)
    there (a ∷ m) (b ∷ n) e =
        let both = (and-eq-true_iff (eqb a b) (same_name m n)).0 e in
        ap₂ (λ x y. x ∷ y) (eqb-true a b both.0) (there m n both.1)

    self : (n : Bytes) → same_name n n ≡ true
    self [] = refl
    self (a ∷ n) = (and-eq-true_iff (eqb a a) (same_name n n)).1 (eq-eqb a a refl, self n)

-- Names of different lengths differ.
pub lengths_differ : (a b : Bytes) → (length a ≡ length b → ⊥) → false ≡ same_name a b
unfolding same_name
lengths_differ [] [] f = absurd (f refl)
lengths_differ [] (y ∷ b) f = refl
lengths_differ (x ∷ a) [] f = refl
lengths_differ (x ∷ a) (y ∷ b) f = rw (← lengths_differ a b (λ e. f (ap suc e))) (sym (and-false (eqb x y)))

-- A text of one byte.
pub one_byte : (s : Bytes) → length s ≡ 1 → get_or s 0 0 ∷ [] ≡ s
one_byte [] e = absurd (omega arith)
one_byte (b ∷ []) e = refl
one_byte (b ∷ (d ∷ s)) e = absurd (omega arith)

-- How `find` goes on from an entry, by the test on that entry.
pub find-here : (n : Bytes) (i : ℕ) (m : Bytes) (t : List Bytes) → same_name m n ≡ true → find n i (m ∷ t) ≡ i
unfolding find
find-here n i m t e = rw (e, find)

pub find-later : (n : Bytes) (i : ℕ) (m : Bytes) (t : List Bytes) → same_name m n ≡ false → find n i (m ∷ t) ≡ find n (suc i) t
unfolding find
find-later n i m t e = rw (e, find)

-- Where the count begins only shifts the answer.
pub find-from : (n : Bytes) (i : ℕ) (labels : List Bytes) → find n i labels ≡ i + find n 0 labels
unfolding find
find-from n i [] = omega arith
find-from n i (m ∷ t) = go (same_name m n) refl (find-from n (suc i) t) (find-from n 1 t)
  where
    go : (b : Bool) → same_name m n ≡ b → find n (suc i) t ≡ suc i + find n 0 t → find n 1 t ≡ 1 + find n 0 t
        → find n i (m ∷ t) ≡ i + find n 0 (m ∷ t)
    go true e h one = rw (find-here n i m t e, find-here n 0 m t e) (omega arith)
    go false e h one = rw (find-later n i m t e, find-later n 0 m t e) (omega arith)

find-next : (n m : Bytes) (t : List Bytes) → same_name m n ≡ false → find n 0 (m ∷ t) ≡ suc (find n 0 t)
find-next n m t e = find-later n 0 m t e ∙ find-from n 1 t ∙ omega arith

pub find-within : (n : Bytes) (labels : List Bytes) → find n 0 labels ≤ length labels
unfolding find
find-within n [] = omega arith
find-within n (m ∷ t) = go (same_name m n) refl (find-within n t)
  where
    go : (b : Bool) → same_name m n ≡ b → find n 0 t ≤ length t → find n 0 (m ∷ t) ≤ length (m ∷ t)
    go true e h = rw (find-here n 0 m t e) (omega arith)
    go false e h = rw (find-next n m t e) (omega arith)

-- What is found has the name.
pub find-same : (n : Bytes) (labels : List Bytes) → find n 0 labels < length labels → SameName (get_or labels (find n 0 labels) []) n
find-same n [] l = absurd (omega arith)
find-same n (m ∷ t) l = go (same_name m n) refl (find-same n t)
  where
    go : (b : Bool) → same_name m n ≡ b → (find n 0 t < length t → SameName (get_or t (find n 0 t) []) n)
        → SameName (get_or (m ∷ t) (find n 0 (m ∷ t)) []) n
    go true e h = rw (find-here n 0 m t e) ((same-name-exactly m n).0 e)
    go false e h = rw (find-next n m t e) (h (omega (arith, find-next n m t e)))

-- No entry before it has the name.
pub find_first : (n : Bytes) (labels : List Bytes) (j : ℕ) → j < find n 0 labels → ¬ SameName (get_or labels j []) n
unfolding find
find_first n [] j l s = absurd (omega arith)
find_first n (m ∷ t) zero l s = absurd (omega (arith, find-here n 0 m t ((same-name-exactly m n).1 s)))
find_first n (m ∷ t) (suc j) l s = go (same_name m n) refl (λ h. find_first n t j h s)
  where
    go : (b : Bool) → same_name m n ≡ b → (j < find n 0 t → ⊥) → ⊥
    go true e h = omega (arith, find-here n 0 m t e)
    go false e h = h (omega (arith, find-next n m t e))

-- A name that the table has is found.
pub find-known : (n : Bytes) (labels : List Bytes) (a : ℕ) → a < length labels → SameName (get_or labels a []) n → find n 0 labels < length labels
find-known n labels a l s = go (dec_lt a (find n 0 labels))
  where
    go : Dec (a < find n 0 labels) → find n 0 labels < length labels
    go (yes h) = absurd (find_first n labels a h s)
    go (no h) = omega arith

-- Where the names are distinct, the entry with the name is the one found.
pub find-distinct : (n : Bytes) (labels : List Bytes) → Distinct labels → (a : ℕ) → a < length labels → SameName (get_or labels a []) n
    → find n 0 labels ≡ a
find-distinct n labels d a l s =
    let k = find-known n labels a l s in
    d (find n 0 labels) a k l (find-same n labels k ∙ sym s)

-- A name that the table does not have gets the length of the table.
pub find_none : (n : Bytes) (labels : List Bytes) → ((j : ℕ) → j < length labels → ¬ SameName (get_or labels j []) n)
    → find n 0 labels ≡ length labels
find_none n labels none = go (dec_lt (find n 0 labels) (length labels))
  where
    go : Dec (find n 0 labels < length labels) → find n 0 labels ≡ length labels
    go (yes h) = absurd (none (find n 0 labels) h (find-same n labels h))
    go (no h) = omega (arith, find-within n labels)
