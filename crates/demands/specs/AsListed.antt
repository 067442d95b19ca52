-- What document 01 lists of every operation: when it refuses and with what, and what a refusal leaves of each lent buffer.
use Rattle.std.specs.Prelude.{ℕ, ◌<◌, List, [], ◌↔◌, ◌⊎◌, ◌≡◌}
use Rattle.syntax.specs.Reply.{Reply}
use Rattle.demands.specs.Checks.{Check, Passes}
use Rattle.demands.specs.Lent.{Lent, Unchanged, Zeroed, Within, Each}

-- The refusals that zero the named part of every lent buffer.
abbrev pub Zeroing : ℕ → Type 0
Zeroing n = (n ≡ 9) ⊎ ((n ≡ 10) ⊎ ((n ≡ 12) ⊎ (n ≡ 13)))

pub record AsListed (checks : Check) (reply : Reply) (buffers : List Lent) : Type 0 where
  -- a refusal is given, with this number and line, exactly where the checks have it
  pub refuses : (n l : ℕ) → checks n l ↔ ((0 < n) × (reply.number ≡ n) × (reply.line ≡ l))
  -- an answer is given exactly where no check refuses; it has no line, and a refusal has no values
  pub answers : Passes checks ↔ (reply.number ≡ 0)
  pub lineless : reply.number ≡ 0 → reply.line ≡ 0
  pub valueless : 0 < reply.number → reply.values ≡ []
  -- 9, 10, 12 and 13 zero the named parts, every other refusal changes nothing, and nothing beyond a named part ever changes
  pub zeroes : Zeroing reply.number → Each Zeroed buffers
  pub keeps : 0 < reply.number → ¬ Zeroing reply.number → Each Unchanged buffers
  pub within : Each Within buffers
