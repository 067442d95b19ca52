-- A table of the values of a function: that its entries are these is one computed test.
use Rattle.std.specs.Prelude.{ℕ, zero, suc, ◌+◌, ◌<◌, List, [], ◌∷◌, ◌≡◌, get_or}
use Rattle.std.proofs.Common.{ap, ◌∙◌, sym, add-zero, zero-add, add-suc, suc-add, le_of_suc-le-suc, not-suc-le-zero}

-- The values of g at n numbers from i on.
abbrev pub values : (ℕ → ℕ) → ℕ → ℕ → List ℕ
values g i zero = []
values g i (suc n) = g i ∷ values g (suc i) n

value-from : (g : ℕ → ℕ) (i n k : ℕ) → k < n → get_or (values g i n) k 0 ≡ g (i + k)
value-from g i zero k h = absurd (not-suc-le-zero h)
value-from g i (suc n) zero h = ap g (sym (add-zero i))
value-from g i (suc n) (suc k) h = value-from g (suc i) n k (le_of_suc-le-suc h) ∙ ap g (suc-add i k ∙ sym (add-suc i k))

pub value-at : (g : ℕ → ℕ) (n k : ℕ) → k < n → get_or (values g 0 n) k 0 ≡ g k
value-at g n k h = value-from g 0 n k h ∙ ap g (zero-add k)
