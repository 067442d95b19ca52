-- Reading a path place by place: the standing after a path as the places that its reading can end at.
use Rattle.std.specs.Prelude.{ℕ, [], ◌∷◌}
use Rattle.theory.specs.Path.{Label, Path}
use Rattle.theory.specs.Expression.{Expression}
use Rattle.theory.specs.Standing.{Labelled}
use Rattle.theory.specs.Chain.{FollowFrom}

-- `StandsAt e x p y`: reading the path p from the place x can end at the place y.
pub data StandsAt (e : Expression) : ℕ → Path → ℕ → Type 0 where
  done : {x : ℕ} → StandsAt e x [] x
  next : {x y z : ℕ} {a : Label} {p : Path} → FollowFrom e x z → Labelled 1 e z a → StandsAt e z p y → StandsAt e x (a ∷ p) y
