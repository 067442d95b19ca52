-- The shapes of the reader: one reading function for each level, and what the levels share, so that each law of the reader is stated once.
use Rattle.std.specs.Prelude.{ℕ, Bool, true, false, [], ◌∷◌, ◌≡◌, refl, eqb}
use Rattle.std.proofs.Math.Option.{some, none}
use Rattle.std.proofs.Common.{arith, eqb-true}
use Rattle.theory.specs.Expression.{empty}
use Rattle.syntax.specs.Byte.{Bytes, opening, closing}
use Rattle.syntax.specs.Grammar.{Tree, Level, alternatives, sequences, factors}
use Rattle.syntax.specs.Parser
use Rattle.syntax.specs.Parser.{Parsed, failed, parsed, past_mark, suffixes, named, suffixed, closed, joined}

-- The reading function of a level, and the rank that its calls are counted from.
abbrev pub read : Level → ℕ → Bytes → Parsed
read alternatives = Parser.alternatives
read sequences = Parser.sequences
read factors = Parser.factors

abbrev pub rank : Level → ℕ
rank alternatives = 3
rank sequences = 2
rank factors = 1

-- A part and, after the mark m, more of the same: what alternatives and sequences share.
abbrev pub chain : ℕ → (Tree → Tree → Tree) → (Bytes → Parsed) → Parsed → Parsed
chain m join more first =
    elim first [ failed ↦ failed | parsed l r ↦ elim (past_mark m r) [ none ↦ parsed l r | some v ↦ joined join l (more v) ] ]

-- A factor, given how an alternative inside its parentheses is read.
abbrev pub factor : (Bytes → Parsed) → Bytes → Parsed
factor inside s =
    elim (past_mark opening s) [
      | none ↦ suffixed (named s)
      | some v ↦ elim (past_mark closing v) [ none ↦ suffixed (closed (inside v)) | some r ↦ suffixes empty r ]
    ]

-- A failure is no reading.
pub never : {A : Type 0} {t : Tree} {r : Bytes} → failed ≡ parsed t r → A
never e = let z : ◌≡◌ {A = ℕ} 0 1 = cc in absurd (omega arith)

pub past-mark-true : (m b : ℕ) (s : Bytes) → eqb b m ≡ true → past_mark m (b ∷ s) ≡ some s
unfolding past_mark
past-mark-true m b s e = rw (e, past_mark)

pub past-mark-false : (m b : ℕ) (s : Bytes) → eqb b m ≡ false → past_mark m (b ∷ s) ≡ none
unfolding past_mark
past-mark-false m b s e = rw (e, past_mark)

-- A mark that is passed stood there.
pub past-mark : (m : ℕ) (s v : Bytes) → past_mark m s ≡ some v → s ≡ m ∷ v
unfolding past_mark
past-mark m [] v e = cc
past-mark m (b ∷ s) v e = go (eqb b m) refl
  where
    go : (q : Bool) → eqb b m ≡ q → b ∷ s ≡ m ∷ v
    go true h = cc (past-mark-true m b s h, eqb-true b m h)
    go false h = cc (past-mark-false m b s h)
