-- The checks of an operation (document 01: "makes its checks in the order listed"): which refusals they give, each by its number and line.
use Rattle.std.specs.Prelude.{ℕ, ◌⊎◌, ◌≡◌}

-- A check: with which numbers and lines it refuses.
abbrev pub Check : Type 1
Check = ℕ → ℕ → Type 0

-- It refuses nothing.
abbrev pub Passes : Check → Type 0
Passes c = (n l : ℕ) → ¬ c n l

-- Under this condition the refusal of this number, with line 0.
abbrev pub refusal : ℕ → Type 0 → Check
refusal number P n l = (n ≡ number) × (l ≡ 0) × P

-- One check, and where it refuses nothing another.
abbrev pub then : Check → Check → Check
then c d n l = c n l ⊎ (Passes c × d n l)
