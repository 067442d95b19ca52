-- Laws of nesting: what a byte does to it, and that in a text of the grammar every parenthesis is closed, so that they nest no deeper than
-- half its bytes.
use Rattle.std.specs.Prelude.{ℕ, suc, pred, max, ◌+◌, ◌≤◌, Bool, true, false, [], ◌∷◌, ◌++◌, ◌≡◌, refl, length}
use Rattle.std.proofs.Common.{append_assoc, append-nil, ◌∙◌, arith, length-append}
use Rattle.std.proofs.Math.Path.{ap}
use borrow.Author.Tests.{ne_eqb, leb-true}
use Rattle.syntax.specs.Byte.{Bytes, kind, hyphen, NameByte, name_byte, dot, bar, asterisk, question, opening, closing}
use Rattle.syntax.specs.Name.{NameBytes, nothing, next, IsName}
use Rattle.syntax.specs.Grammar.{Tree, Level, alternatives, Derives, one-sequence, more-sequences, one-factor, more-factors, name, unit, group, starred, optioned}
use Rattle.syntax.specs.Parser.{past_run}
use Rattle.syntax.specs.Limits.{balance, nesting}

-- What one byte does to the number of open parentheses.
module _ (n b : ℕ) where
  pub opens : b ≡ opening → balance n b ≡ suc n
  unfolding balance
  opens e = ap (balance n) e

  pub closes : b ≡ closing → balance n b ≡ pred n
  unfolding balance
  closes e = ap (balance n) e

  pub keeps : (b ≡ opening → ⊥) → (b ≡ closing → ⊥) → balance n b ≡ n
  unfolding balance
  keeps f g = rw (ne_eqb b opening f, balance, ne_eqb b closing g, balance)

-- What is open before a text counts in it.
pub deeper : (n : ℕ) (s : Bytes) → n ≤ nesting n s
unfolding nesting
deeper n [] = omega arith
deeper n (b ∷ s) = omega arith

-- A byte that neither opens nor closes does not change how deep a text nests.
pub level : (n b : ℕ) (s : Bytes) → balance n b ≡ n → nesting n (b ∷ s) ≡ nesting n s
unfolding nesting
level n b s e = rw e (omega (arith, deeper n s))

-- A part that closes what it opens, and nests no deeper than half its bytes.
record Balanced (u : Bytes) : Type 0 where
  pub deep : ℕ
  pub half : deep + deep ≤ length u
  pub nests : (n : ℕ) (rest : Bytes) → nesting n (u ++ rest) ≤ max (n + deep) (nesting n rest)

name-keeps : (n b : ℕ) → NameByte b → balance n b ≡ n
unfolding kind
name-keeps n b h = keeps n b (λ e. omega (arith, ap kind e)) (λ e. omega (arith, ap kind e))

names-nest : {u : Bytes} → NameBytes u → (n : ℕ) (rest : Bytes) → nesting n (u ++ rest) ≡ nesting n rest
names-nest nothing n rest = refl
names-nest (next {b} {s} h r) n rest = level n b (s ++ rest) (name-keeps n b h) ∙ names-nest r n rest

-- A run of name bytes at the front of a text does not change how deep it nests.
pub run-nests : (n : ℕ) (s : Bytes) → nesting n s ≡ nesting n (past_run s)
unfolding past_run
run-nests n [] = refl
run-nests n (b ∷ s) = go (name_byte b) refl (run-nests n s)
  where
    go : (t : Bool) → name_byte b ≡ t → nesting n s ≡ nesting n (past_run s) → nesting n (b ∷ s) ≡ nesting n (past_run (b ∷ s))
    go true e h = rw (e, past_run) (level n b s (name-keeps n b (leb-true (kind b) hyphen e)) ∙ h)
    go false e h = rw (e, past_run) refl

nothing-balanced : Balanced []
nothing-balanced = record { deep = 0; half = omega arith; nests = λ n rest. omega arith }

name-balanced : {s : Bytes} → IsName s → Balanced s
unfolding kind
name-balanced p =
    let all : NameBytes (p.first ∷ p.others) = next {b = p.first} (omega (arith, p.begins)) p.goes_on in
    rw p.text (record { deep = 0; half = omega arith; nests = λ n rest. omega (arith, names-nest all n rest) })

-- Two parts with a byte between them that is no parenthesis.
joined : {s : Bytes} (u : Bytes) (m : ℕ) (v : Bytes) → s ≡ u ++ (m ∷ v) → ((n : ℕ) → balance n m ≡ n) → Balanced u → Balanced v → Balanced s
unfolding nesting
joined u m v e k p q =
    rw e
    (record {
      deep = max p.deep q.deep;
      half = omega (arith, p.half, q.half, length-append u (m ∷ v));
      nests = λ n rest. rw (append_assoc u (m ∷ v) rest) (omega (arith, p.nests n (m ∷ (v ++ rest)), q.nests n rest, ap (λ x. nesting x (v ++ rest)) (k n)));
    })

grouped : {s : Bytes} (u : Bytes) → s ≡ opening ∷ (u ++ (closing ∷ [])) → Balanced u → Balanced s
unfolding nesting balance
grouped u e p =
    rw e
    (record {
      deep = suc p.deep;
      half = omega (arith, p.half, length-append u (closing ∷ []));
      nests = λ n rest. rw (append_assoc u (closing ∷ []) rest) (omega (arith, p.nests (suc n) (closing ∷ rest)));
    })

derived-balanced : {level : Level} {u : Bytes} {t : Tree} → Derives level u t → Balanced u
unfolding balance
derived-balanced (one-sequence d) = derived-balanced d
derived-balanced (more-sequences u v e d c) = joined u bar v e (λ n. refl) (derived-balanced d) (derived-balanced c)
derived-balanced (one-factor d) = derived-balanced d
derived-balanced (more-factors u v e d c) = joined u dot v e (λ n. refl) (derived-balanced d) (derived-balanced c)
derived-balanced (name n) = name-balanced n
derived-balanced (unit e) = grouped [] e nothing-balanced
derived-balanced (group u e d) = grouped u e (derived-balanced d)
derived-balanced (starred u e d) = joined u asterisk [] e (λ n. refl) (derived-balanced d) nothing-balanced
derived-balanced (optioned u e d) = joined u question [] e (λ n. refl) (derived-balanced d) nothing-balanced

pub nesting-half : {s : Bytes} {t : Tree} → Derives alternatives s t → nesting 0 s + nesting 0 s ≤ length s
unfolding nesting
nesting-half {s} d =
    let p = derived-balanced d in
    omega (arith, p.half, rw (append-nil s) at (p.nests 0 []))
