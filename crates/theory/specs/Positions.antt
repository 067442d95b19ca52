-- Glushkov's relations between the occurrences of an expression, numbered from k on: which can be read first, which last, and which
-- right after which. Each is empty outside the expression's own numbers, k to k + size e - 1.
use Rattle.std.specs.Prelude.{ℕ, ◌+◌, ◌⊎◌, ◌≡◌}
use Rattle.theory.specs.Expression.{Expression, empty, label, alternative, sequence, star, optional}
use Rattle.theory.specs.Standing.{size}

-- The empty path is a path of the expression.
abbrev pub Nullable : Expression → Type 0
Nullable empty = Unit {0}
Nullable (label a) = ⊥
Nullable (alternative l r) = Nullable l ⊎ Nullable r
Nullable (sequence l r) = Nullable l × Nullable r
Nullable (star e) = Unit {0}
Nullable (optional e) = Unit {0}

-- Some path's first label is read by the occurrence x.
abbrev pub First : ℕ → Expression → ℕ → Type 0
First k empty x = ⊥
First k (label a) x = x ≡ k
First k (alternative l r) x = First k l x ⊎ First (k + size l) r x
First k (sequence l r) x = First k l x ⊎ (Nullable l × First (k + size l) r x)
First k (star e) x = First k e x
First k (optional e) x = First k e x

-- Some path's last label is read by the occurrence x.
abbrev pub Last : ℕ → Expression → ℕ → Type 0
Last k empty x = ⊥
Last k (label a) x = x ≡ k
Last k (alternative l r) x = Last k l x ⊎ Last (k + size l) r x
Last k (sequence l r) x = (Last k l x × Nullable r) ⊎ Last (k + size l) r x
Last k (star e) x = Last k e x
Last k (optional e) x = Last k e x

-- In some path the occurrence y reads the label right after that read by x.
abbrev pub Follow : ℕ → Expression → ℕ → ℕ → Type 0
Follow k empty x y = ⊥
Follow k (label a) x y = ⊥
Follow k (alternative l r) x y = Follow k l x y ⊎ Follow (k + size l) r x y
Follow k (sequence l r) x y = Follow k l x y ⊎ (Follow (k + size l) r x y ⊎ (Last k l x × First (k + size l) r y))
Follow k (star e) x y = Follow k e x y ⊎ (Last k e x × First k e y)
Follow k (optional e) x y = Follow k e x y
