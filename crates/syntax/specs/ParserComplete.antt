-- What is derived is read: a derived text is read as far as a rest that does not go on with it, at every level.
use Rattle.std.specs.Prelude.{ℕ, zero, suc, ◌+◌, ◌*◌, ◌<◌, true, false, [], ◌∷◌, ◌++◌, ◌≡◌, refl, eqb, length}
use Rattle.std.proofs.Common.{append_assoc, ◌∙◌, ap, arith, length-append, ne_eqb, eq-eqb}
use Rattle.std.proofs.Math.Option.{none}
use Rattle.theory.specs.Expression.{label, alternative, sequence}
use Rattle.syntax.specs.Byte.{Bytes, kind, letter, dot, bar, asterisk, question, opening, closing, name_byte}
use Rattle.syntax.specs.Name.{NameBytes, nothing, next, IsName, is_name}
use Rattle.syntax.specs.NameLaws.{is-name-exactly, name-byte-exactly}
use Rattle.syntax.specs.Grammar.{Tree, Level, alternatives, sequences, factors, Derives, one-sequence, more-sequences, one-factor, more-factors, name, unit, group, starred, optioned}
use Rattle.syntax.specs.Parser
use Rattle.syntax.specs.Parser.{Parsed, parsed, run, past_run, past_mark, suffixes, named, suffixed, closed, joined}
use Rattle.syntax.specs.ParserShapes.{read, rank, chain, factor, past-mark-true, past-mark-false}

-- The text begins with no name byte, or is empty: a name before it ends there.
abbrev pub NoName : Bytes → Type 0
NoName [] = Unit {0}
NoName (b ∷ s) = name_byte b ≡ false

-- The text begins with neither `*` nor `?`.
abbrev pub NoSuffix : Bytes → Type 0
NoSuffix [] = Unit {0}
NoSuffix (b ∷ s) = (eqb b asterisk ≡ false) × (eqb b question ≡ false)

-- The text begins with nothing that goes on with a text of the level before it. The marks after a factor may follow.
abbrev pub Stops : Level → Bytes → Type 0
Stops factors s = NoName s
Stops sequences s = NoName s × NoSuffix s × (past_mark dot s ≡ none)
Stops alternatives s = NoName s × NoSuffix s × (past_mark dot s ≡ none) × (past_mark bar s ≡ none)

-- What is read where a text with the tree t is followed by the text s.
abbrev pub after : Level → Tree → Bytes → Parsed
after factors t s = suffixes t s
after sequences t s = parsed t s
after alternatives t s = parsed t s

no-suffix : (t : Tree) (s : Bytes) → NoSuffix s → suffixes t s ≡ parsed t s
unfolding suffixes
no-suffix t [] h = refl
no-suffix t (b ∷ s) h = rw (h.0, h.1, suffixes)

-- A name is the longest run of name bytes.
pub run-name : {n : Bytes} → NameBytes n → (rest : Bytes) → NoName rest → run (n ++ rest) ≡ n
unfolding run
run-name nothing [] h = refl
run-name nothing (b ∷ s) h = rw (h, run)
run-name (next {b} {s} l n) rest h = rw ((name-byte-exactly b).1 l, run) (ap (λ z. b ∷ z) (run-name n rest h))

past-name : {n : Bytes} → NameBytes n → (rest : Bytes) → NoName rest → past_run (n ++ rest) ≡ rest
unfolding past_run
past-name nothing [] h = refl
past-name nothing (b ∷ s) h = rw (h, past_run)
past-name (next {b} {s} l n) rest h = rw ((name-byte-exactly b).1 l, past_run) (past-name n rest h)

-- All bytes of a name are name bytes, and its first is no mark.
pub whole-name : {s : Bytes} → IsName s → NameBytes s
whole-name n = rw n.text (next {b = n.first} (omega (arith, n.begins)) n.goes_on)

letter-mark : (b m : ℕ) → kind b ≡ letter → letter < kind m → eqb b m ≡ false
letter-mark b m e h = ne_eqb b m (λ q. omega (arith, ap kind q))

name-no-mark : (m : ℕ) → letter < kind m → {s : Bytes} → IsName s → (rest : Bytes) → past_mark m (s ++ rest) ≡ none
name-no-mark m h n rest = rw n.text (past-mark-false m n.first (n.others ++ rest) (letter-mark n.first m n.begins h))

-- A derived text is not empty and does not begin with `)`.
no-closing : {level : Level} {u : Bytes} {t : Tree} → Derives level u t → (rest : Bytes) → past_mark closing (u ++ rest) ≡ none
unfolding kind past_mark
no-closing (one-sequence d) rest = no-closing d rest
no-closing (more-sequences u v e d c) rest = rw (e, append_assoc u (bar ∷ v) rest) (no-closing d (bar ∷ (v ++ rest)))
no-closing (one-factor d) rest = no-closing d rest
no-closing (more-factors u v e d c) rest = rw (e, append_assoc u (dot ∷ v) rest) (no-closing d (dot ∷ (v ++ rest)))
no-closing (name n) rest = name-no-mark closing (omega arith) n rest
no-closing (unit e) rest = rw e
no-closing (group u e d) rest = rw e
no-closing (starred u e d) rest = rw (e, append_assoc u (asterisk ∷ []) rest) (no-closing d (asterisk ∷ rest))
no-closing (optioned u e d) rest = rw (e, append_assoc u (question ∷ []) rest) (no-closing d (question ∷ rest))

chain-one : (m : ℕ) (join : Tree → Tree → Tree) (more : Bytes → Parsed) (first : Parsed) (t : Tree) (rest : Bytes)
    → first ≡ parsed t rest → past_mark m rest ≡ none → chain m join more first ≡ parsed t rest
chain-one m join more first t rest e h = rw (e, chain, h)

chain_more : (m : ℕ) (join : Tree → Tree → Tree) (more : Bytes → Parsed) (first : Parsed) (l q : Tree) (v rest : Bytes)
    → first ≡ parsed l (m ∷ v) → more v ≡ parsed q rest → chain m join more first ≡ parsed (join l q) rest
unfolding joined
chain_more m join more first l q v rest e h = rw (e, chain, past-mark-true m m v (eq-eqb m m refl), h)

named-complete : (s n r : Bytes) → run s ≡ n → past_run s ≡ r → is_name n ≡ true → named s ≡ parsed (label n) r
unfolding named
named-complete s n r e p h = rw (ap is_name e ∙ h, named) (cc)

name-complete : (n : Bytes) → IsName n → (inside : Bytes → Parsed) (rest : Bytes) → NoName rest
    → factor inside (n ++ rest) ≡ suffixes (label n) rest
unfolding kind suffixed
name-complete n p inside rest h =
    rw (name-no-mark opening (omega arith) p rest, factor)
    (ap suffixed (named-complete (n ++ rest) n rest (run-name (whole-name p) rest h) (past-name (whole-name p) rest h) ((is-name-exactly n).1 p)))

group-complete : (u : Bytes) (t : Tree) → Derives alternatives u t → (inside : Bytes → Parsed) (rest : Bytes)
    → inside (u ++ (closing ∷ rest)) ≡ parsed t (closing ∷ rest) → factor inside (opening ∷ (u ++ (closing ∷ rest))) ≡ suffixes t rest
unfolding past_mark suffixed closed
group-complete u t d inside rest h = rw (no-closing d (closing ∷ rest), factor, h)

-- The length of a text made of two parts and a mark between them.
parts : (s u : Bytes) (m : ℕ) (v : Bytes) → s ≡ u ++ (m ∷ v) → length s ≡ length u + suc (length v)
parts s u m v e = ap length e ∙ length-append u (m ∷ v)

pub read-complete : {level : Level} {u : Bytes} {t : Tree} → Derives level u t → (rest : Bytes) → Stops level rest → (k : ℕ)
    → 3 * length u + rank level < k → read level k (u ++ rest) ≡ after level t rest
unfolding kind past_mark suffixes Parser.alternatives
read-complete (one-sequence d) rest stops zero h = absurd (omega arith)
read-complete (one-sequence {s} {t} d) rest stops (suc k) h =
    chain-one bar alternative (Parser.alternatives k) (Parser.sequences k (s ++ rest)) t rest
    (read-complete d rest (stops.0, stops.1, stops.2) k (omega arith)) stops.3
read-complete (more-sequences u v e d c) rest stops zero h = absurd (omega arith)
read-complete (more-sequences {s} {l} {r} u v e d c) rest stops (suc k) h =
    rw (e, append_assoc u (bar ∷ v) rest)
    (chain_more bar alternative (Parser.alternatives k) (Parser.sequences k (u ++ (bar ∷ (v ++ rest)))) l r (v ++ rest) rest
    (read-complete d (bar ∷ (v ++ rest)) (refl, (refl, refl), refl) k (omega (arith, parts s u bar v e)))
    (read-complete c rest stops k (omega (arith, parts s u bar v e))))
read-complete (one-factor d) rest stops zero h = absurd (omega arith)
read-complete (one-factor {s} {t} d) rest stops (suc k) h =
    chain-one dot sequence (Parser.sequences k) (Parser.factors k (s ++ rest)) t rest
    (read-complete d rest stops.0 k (omega arith) ∙ no-suffix t rest stops.1) stops.2
read-complete (more-factors u v e d c) rest stops zero h = absurd (omega arith)
read-complete (more-factors {s} {l} {r} u v e d c) rest stops (suc k) h =
    rw (e, append_assoc u (dot ∷ v) rest)
    (chain_more dot sequence (Parser.sequences k) (Parser.factors k (u ++ (dot ∷ (v ++ rest)))) l r (v ++ rest) rest
    (read-complete d (dot ∷ (v ++ rest)) refl k (omega (arith, parts s u dot v e)))
    (read-complete c rest stops k (omega (arith, parts s u dot v e))))
read-complete (name n) rest stops zero h = absurd (omega arith)
read-complete (name {s} n) rest stops (suc k) h = name-complete s n (Parser.alternatives k) rest stops
read-complete (unit e) rest stops zero h = absurd (omega arith)
read-complete (unit e) rest stops (suc k) h = rw e
read-complete (group u e d) rest stops zero h = absurd (omega arith)
read-complete (group {s} {t} u e d) rest stops (suc k) h =
    rw (e, append_assoc u (closing ∷ []) rest)
    (group-complete u t d (Parser.alternatives k) rest
    (read-complete d (closing ∷ rest) (refl, (refl, refl), refl, refl) k
    (omega (arith, ap length e, length-append u (closing ∷ [])))))
read-complete (starred {s} {t} u e d) rest stops k h =
    rw (e, append_assoc u (asterisk ∷ []) rest) (read-complete d (asterisk ∷ rest) refl k (omega (arith, parts s u asterisk [] e)))
read-complete (optioned {s} {t} u e d) rest stops k h =
    rw (e, append_assoc u (question ∷ []) rest) (read-complete d (question ∷ rest) refl k (omega (arith, parts s u question [] e)))
