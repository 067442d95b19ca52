-- Zeros in the first part of lent memory.
use Rattle.std.specs.Prelude.{◌≡◌, ℕ, ◌<◌, ◌≤◌, List, ◌++◌, length, drop, replicate}

-- The first n items have become zero, where there are so many; otherwise nothing has changed.
pub record ClearedTo {A : Type 0} (zero : A) (n : ℕ) (before after : List A) : Type 0 where
  pub enough : n ≤ length before → after ≡ replicate n zero ++ drop n before
  pub short : length before < n → after ≡ before

-- The same of numbers.
abbrev pub Cleared : (n : ℕ) (before after : List ℕ) → Type 0
Cleared n before after = ClearedTo 0 n before after
