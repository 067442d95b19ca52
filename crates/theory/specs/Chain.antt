-- Chains of places: place 0 is the start, the others are the occurrences of an expression, numbered from 1, and each place of a chain
-- follows the one before.
use Rattle.std.specs.Prelude.{ℕ, zero, suc, List, [], ◌∷◌, ◌⊎◌, ◌≡◌}
use Rattle.theory.specs.Expression.{Expression}
use Rattle.theory.specs.Positions.{Nullable, First, Last, Follow}

-- The place y can come right after the place x.
abbrev pub FollowFrom : Expression → ℕ → ℕ → Type 0
FollowFrom e zero y = First 1 e y
FollowFrom e (suc i) y = Follow 1 e (suc i) y

-- `Chain e x m y`: m leads from the place x to the place y.
pub data Chain (e : Expression) : ℕ → List ℕ → ℕ → Type 0 where
  done : {x : ℕ} → Chain e x [] x
  next : {x y z : ℕ} {m : List ℕ} → FollowFrom e x z → Chain e z m y → Chain e x (z ∷ m) y

-- A path may end at the place x.
abbrev pub Final : Expression → ℕ → Type 0
Final e x = ((x ≡ 0) × Nullable e) ⊎ Last 1 e x
