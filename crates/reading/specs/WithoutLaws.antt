-- Texts without a byte: the empty text, a text with one more byte in front, two texts joined; and that names and expressions are without
-- every byte whose kind is not theirs.
use Rattle.std.specs.Prelude.{ℕ, zero, suc, ◌<◌, [], ◌∷◌, ◌++◌, ◌≢◌, ◌≡◌}
use Rattle.std.proofs.Common.{sym, ap, ◌∙◌, arith}
use Rattle.syntax.specs.Byte.{Bytes, kind, hyphen, rest, dot, bar, asterisk, question, opening, closing}
use Rattle.syntax.specs.Name.{NameBytes, nothing, next, IsName}
use Rattle.syntax.specs.Grammar.{Tree, Level, Derives, one-sequence, more-sequences, one-factor, more-factors, name, unit, group, starred, optioned}
use Rattle.reading.specs.Refusing.{Without}

pub without-nil : (b : ℕ) → Without b []
without-nil b i l = absurd (omega arith)

pub without-cons : (b c : ℕ) (s : Bytes) → c ≢ b → Without b s → Without b (c ∷ s)
without-cons b c s n w zero l = n
without-cons b c s n w (suc i) l = w i (omega arith)

pub without-head : (b c : ℕ) (s : Bytes) → Without b (c ∷ s) → c ≢ b
without-head b c s w = w 0 (omega arith)

pub without-tail : (b c : ℕ) (s : Bytes) → Without b (c ∷ s) → Without b s
without-tail b c s w i l = w (suc i) (omega arith)

pub without-append : (b : ℕ) (s t : Bytes) → Without b s → Without b t → Without b (s ++ t)
without-append b [] t v w = w
without-append b (c ∷ s) t v w = without-cons b c (s ++ t) (without-head b c s v) (without-append b s t (without-tail b c s v) w)

name-bytes-without : (b : ℕ) → hyphen < kind b → (s : Bytes) → NameBytes s → Without b s
name-bytes-without b h [] nothing = without-nil b
name-bytes-without b h (c ∷ s) (next n r) = without-cons b c s (λ e. omega (arith, ap kind e)) (name-bytes-without b h s r)

-- A name has no byte that a name may not have.
pub name-without : (b : ℕ) → hyphen < kind b → (s : Bytes) → IsName s → Without b s
name-without b h s n =
    rw n.text
    (without-cons b n.first n.others (λ e. omega (arith, sym n.begins ∙ ap kind e)) (name-bytes-without b h n.others n.goes_on))

-- An expression has no byte of the last kind: its bytes are those of names and the six marks.
pub expression-without : (b : ℕ) → kind b ≡ rest → (level : Level) (s : Bytes) (t : Tree) → Derives level s t → Without b s
unfolding kind
expression-without b h level s t d = go level s t d
  where
    mark : (c : ℕ) (s : Bytes) → kind c ≢ rest → Without b s → Without b (c ∷ s)
    mark c s n = without-cons b c s (λ e. n (ap kind e ∙ h))

    joined : (u : Bytes) (c : ℕ) (v : Bytes) → kind c ≢ rest → Without b u → Without b v → Without b (u ++ (c ∷ v))
    joined u c v n l r = without-append b u (c ∷ v) l (mark c v n r)

    last : (u : Bytes) (c : ℕ) → kind c ≢ rest → Without b u → Without b (u ++ (c ∷ []))
    last u c n l = joined u c [] n l (without-nil b)

    go : (level : Level) (s : Bytes) (t : Tree) → Derives level s t → Without b s
    go _ s t (one-sequence d) = go _ s t d
    go _ s t (more-sequences {l} {r} u v e d f) = rw e (joined u bar v (omega arith) (go _ u l d) (go _ v r f))
    go _ s t (one-factor d) = go _ s t d
    go _ s t (more-factors {l} {r} u v e d f) = rw e (joined u dot v (omega arith) (go _ u l d) (go _ v r f))
    go _ s t (name n) = name-without b (omega arith) s n
    go _ s t (unit e) = rw e (last (opening ∷ []) closing (omega arith) (last [] opening (omega arith) (without-nil b)))
    go _ s t (group u e d) = rw e (mark opening (u ++ (closing ∷ [])) (omega arith) (last u closing (omega arith) (go _ u t d)))
    go _ s t (starred u e d) = rw e (last u asterisk (omega arith) (go _ u _ d))
    go _ s t (optioned u e d) = rw e (last u question (omega arith) (go _ u _ d))
