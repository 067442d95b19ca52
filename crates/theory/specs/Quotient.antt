-- The table whose states are the classes of another table's states, numbered in the order of their first members.
use Rattle.std.specs.Prelude.{ℕ, ◌≤◌, ◌<◌, ◌≡◌}
use Rattle.theory.specs.Deterministic.{Deterministic}

-- c names the classes of the states below n by 0 to m − 1, in the order of their first members; `first k` is the first of the class k.
pub record Named (n : ℕ) (c : ℕ → ℕ) (m : ℕ) (first : ℕ → ℕ) : Type 0 where
  pub within : (q : ℕ) → q < n → c q < m
  pub state : (k : ℕ) → k < m → first k < n
  pub member : (k : ℕ) → k < m → c (first k) ≡ k
  pub least : (q : ℕ) → q < n → first (c q) ≤ q
  pub ordered : (j k : ℕ) → j < k → k < m → first j < first k

-- Each class goes on as its first member does.
unfoldable pub quotient : Deterministic → (ℕ → ℕ) → ℕ → (ℕ → ℕ) → Deterministic
quotient D c m first =
    record {
      states = m;
      symbols = D.symbols;
      next = λ k v. c (D.next (first k) v);
      accepting = λ k. D.accepting (first k);
    }
