-- A buffer lent to an operation: how long its named part is, and what it holds before and after the call.
use Rattle.std.specs.Prelude.{ℕ, List, [], ◌∷◌, ◌++◌, ◌≡◌, length, drop, replicate}

pub record Lent : Type 0 where
  pub named : ℕ
  pub before : List ℕ
  pub after : List ℕ

abbrev pub lent : ℕ → List ℕ → List ℕ → Lent
lent named before after = record { named = named; before = before; after = after }

abbrev pub Unchanged : Lent → Type 0
Unchanged b = b.after ≡ b.before

-- The named part is zeros, and nothing else is changed.
abbrev pub Zeroed : Lent → Type 0
Zeroed b = b.after ≡ replicate b.named 0 ++ drop b.named b.before

-- Nothing beyond the named part is changed.
abbrev pub Within : Lent → Type 0
Within b = (length b.after ≡ length b.before) × (drop b.named b.after ≡ drop b.named b.before)

-- P holds of each of the buffers.
abbrev pub Each : (Lent → Type 0) → List Lent → Type 0
Each P [] = Unit {0}
Each P (b ∷ l) = P b × Each P l
