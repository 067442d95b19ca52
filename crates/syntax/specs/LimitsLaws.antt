-- Laws of the limits: the leaves of a derived tree are the longest runs of name bytes in its text, and numbering a tree keeps its leaves
-- and gives the expression it stands for exactly if its names are known.
use Rattle.std.specs.Prelude.{ℕ, ◌+◌, Bool, true, false, ◌&&◌, List, [], ◌∷◌, ◌++◌, ◌↔◌, ◌≡◌, refl, ltb, length}
use Rattle.std.proofs.Math.Bool.{and-eq-true_iff}
use Rattle.std.proofs.Common.{append_assoc, append-nil, sym, ◌∙◌, ap, ap₂, arith, length-append, ltb-true, lt-ltb}
use Rattle.theory.specs.Expression.{empty, label, alternative, sequence, star, optional, Expression}
use Rattle.theory.specs.Standing.{size}
use Rattle.syntax.specs.Byte.{Bytes, kind, dot, bar, asterisk, question, closing, NameByte, name_byte}
use Rattle.syntax.specs.Name.{NameBytes, nothing, next, IsName, find}
use Rattle.syntax.specs.NameLaws.{name-byte-exactly, find-same, find-known, find-distinct}
use Rattle.syntax.specs.Grammar.{Tree, Level, alternatives, Derives, one-sequence, more-sequences, one-factor, more-factors, name, unit, group, starred, optioned}
use Rattle.syntax.specs.ParserComplete.{NoName, run-name}
use Rattle.syntax.specs.Limits.{leaves, runs}
use Rattle.syntax.specs.Resolve.{Resolves, at-empty, at_label, at-alternative, at-sequence, at-star, at-optional, numbered, known}
use Rattle.syntax.specs.Check.{Distinct}

-- What is left of a run that has begun adds nothing.
runs-inside : {n : Bytes} → NameBytes n → (rest : Bytes) → NoName rest → runs true (n ++ rest) ≡ runs false rest
unfolding runs
runs-inside nothing [] h = refl
runs-inside nothing (b ∷ s) h = rw (h, runs)
runs-inside (next {b} {s} l n) rest h = rw ((name-byte-exactly b).1 l, runs) (runs-inside n rest h)

runs-run : {b : ℕ} {n : Bytes} → NameByte b → NameBytes n → (rest : Bytes) → NoName rest
    → runs false (b ∷ (n ++ rest)) ≡ (b ∷ n) ∷ runs false rest
unfolding runs
runs-run {b} l n rest h =
    rw ((name-byte-exactly b).1 l, runs) (ap₂ (λ x y. x ∷ y) (run-name (next l n) rest h) (runs-inside n rest h))

runs-name : {n : Bytes} → IsName n → (rest : Bytes) → NoName rest → runs false (n ++ rest) ≡ n ∷ runs false rest
runs-name p rest h = rw p.text (runs-run {b = p.first} (omega (arith, p.begins)) p.goes_on rest h)

-- Of two parts with a mark between them, the runs of the one and then of the other.
runs-joined : {s : Bytes} (u : Bytes) (m : ℕ) (v rest : Bytes) (a b : List Bytes) → s ≡ u ++ (m ∷ v) → name_byte m ≡ false
    → runs false (u ++ (m ∷ (v ++ rest))) ≡ a ++ runs false (m ∷ (v ++ rest)) → runs false (v ++ rest) ≡ b ++ runs false rest
    → runs false (s ++ rest) ≡ (a ++ b) ++ runs false rest
unfolding runs
runs-joined u m v rest a b e h p q =
    rw (e, append_assoc u (m ∷ v) rest, p, append_assoc a b (runs false rest)) (ap (λ z. a ++ z) (rw (h, runs) q))

pub runs-derived : {level : Level} {u : Bytes} {t : Tree} → Derives level u t → (rest : Bytes) → NoName rest
    → runs false (u ++ rest) ≡ leaves t ++ runs false rest
unfolding kind runs leaves
runs-derived (one-sequence d) rest h = runs-derived d rest h
runs-derived (more-sequences {l} {r} u v e d c) rest h =
    runs-joined u bar v rest (leaves l) (leaves r) e refl (runs-derived d (bar ∷ (v ++ rest)) refl) (runs-derived c rest h)
runs-derived (one-factor d) rest h = runs-derived d rest h
runs-derived (more-factors {l} {r} u v e d c) rest h =
    runs-joined u dot v rest (leaves l) (leaves r) e refl (runs-derived d (dot ∷ (v ++ rest)) refl) (runs-derived c rest h)
runs-derived (name n) rest h = runs-name n rest h
runs-derived (unit e) rest h = rw e
runs-derived (group u e d) rest h = rw (e, append_assoc u (closing ∷ []) rest) (runs-derived d (closing ∷ rest) refl)
runs-derived (starred u e d) rest h = rw (e, append_assoc u (asterisk ∷ []) rest) (runs-derived d (asterisk ∷ rest) refl)
runs-derived (optioned u e d) rest h = rw (e, append_assoc u (question ∷ []) rest) (runs-derived d (question ∷ rest) refl)

pub runs-leaves : (s : Bytes) (t : Tree) → Derives alternatives s t → runs false s ≡ leaves t
unfolding runs
runs-leaves s t d = rw (append-nil s, append-nil (leaves t)) at (runs-derived d [] tt)

pub leaves-size : (labels : List Bytes) (t : Tree) → size (numbered labels t) ≡ length (leaves t)
unfolding numbered leaves
leaves-size labels empty = refl
leaves-size labels (label n) = refl
leaves-size labels (alternative l r) = ap₂ ◌+◌ (leaves-size labels l) (leaves-size labels r) ∙ sym (length-append (leaves l) (leaves r))
leaves-size labels (sequence l r) = ap₂ ◌+◌ (leaves-size labels l) (leaves-size labels r) ∙ sym (length-append (leaves l) (leaves r))
leaves-size labels (star t) = leaves-size labels t
leaves-size labels (optional t) = leaves-size labels t

pub resolves-size : {labels : List Bytes} {t : Tree} {e : Expression} → Resolves labels t e → size e ≡ length (leaves t)
unfolding leaves
resolves-size at-empty = refl
resolves-size (at_label h s) = refl
resolves-size (at-alternative {l} {r} p q) = ap₂ ◌+◌ (resolves-size p) (resolves-size q) ∙ sym (length-append (leaves l) (leaves r))
resolves-size (at-sequence {l} {r} p q) = ap₂ ◌+◌ (resolves-size p) (resolves-size q) ∙ sym (length-append (leaves l) (leaves r))
resolves-size (at-star p) = resolves-size p
resolves-size (at-optional p) = resolves-size p

-- Names joined are known exactly if those of each part are.
pub known-append : (labels m n : List Bytes) → known labels (m ++ n) ≡ (known labels m && known labels n)
unfolding known
known-append labels [] n = refl
known-append labels (a ∷ m) n = go (ltb (find a 0 labels) (length labels)) (known-append labels m n)
  where
    go : (q : Bool) → known labels (m ++ n) ≡ (known labels m && known labels n)
        → (q && known labels (m ++ n)) ≡ (q && known labels m && known labels n)
    go true e = e
    go false e = refl

pub known_both : (labels m n : List Bytes) → (known labels (m ++ n) ≡ true) ↔ ((known labels m ≡ true) × (known labels n ≡ true))
known_both labels m n = rw (known-append labels m n) (and-eq-true_iff (known labels m) (known labels n))

pub known-resolves : (labels : List Bytes) (t : Tree) → known labels (leaves t) ≡ true → Resolves labels t (numbered labels t)
unfolding leaves numbered known
known-resolves labels empty k = at-empty
known-resolves labels (label n) k =
    let h = ltb-true (find n 0 labels) (length labels) ((and-eq-true_iff (ltb (find n 0 labels) (length labels)) true).0 k).0 in
    at_label h (find-same n labels h)
known-resolves labels (alternative l r) k =
    let both = (known_both labels (leaves l) (leaves r)).0 k in
    at-alternative (known-resolves labels l both.0) (known-resolves labels r both.1)
known-resolves labels (sequence l r) k =
    let both = (known_both labels (leaves l) (leaves r)).0 k in
    at-sequence (known-resolves labels l both.0) (known-resolves labels r both.1)
known-resolves labels (star t) k = at-star (known-resolves labels t k)
known-resolves labels (optional t) k = at-optional (known-resolves labels t k)

pub resolves_known : {labels : List Bytes} {t : Tree} {e : Expression} → Resolves labels t e → known labels (leaves t) ≡ true
unfolding leaves known
resolves_known at-empty = refl
resolves_known {labels} (at_label {n} {a} h s) = rw (lt-ltb (find n 0 labels) (length labels) (find-known n labels a h s))
resolves_known {labels} (at-alternative {l} {r} p q) = (known_both labels (leaves l) (leaves r)).1 (resolves_known p, resolves_known q)
resolves_known {labels} (at-sequence {l} {r} p q) = (known_both labels (leaves l) (leaves r)).1 (resolves_known p, resolves_known q)
resolves_known (at-star p) = resolves_known p
resolves_known (at-optional p) = resolves_known p

pub resolves-numbered : {labels : List Bytes} → Distinct labels → {t : Tree} {e : Expression} → Resolves labels t e → numbered labels t ≡ e
unfolding numbered
resolves-numbered d at-empty = refl
resolves-numbered {labels} d (at_label {n} {a} h s) = ap (λ z. label z) (find-distinct n labels d a h s)
resolves-numbered d (at-alternative p q) = ap₂ (λ x y. alternative x y) (resolves-numbered d p) (resolves-numbered d q)
resolves-numbered d (at-sequence p q) = ap₂ (λ x y. sequence x y) (resolves-numbered d p) (resolves-numbered d q)
resolves-numbered d (at-star p) = ap (λ z. star z) (resolves-numbered d p)
resolves-numbered d (at-optional p) = ap (λ z. optional z) (resolves-numbered d p)

pub resolves-exactly : (labels : List Bytes) → Distinct labels → (t : Tree) (e : Expression)
    → Resolves labels t e ↔ ((known labels (leaves t) ≡ true) × (numbered labels t ≡ e))
resolves-exactly labels d t e = (λ r. (resolves_known r, resolves-numbered d r), λ h. rw h.1 at (known-resolves labels t h.0))
