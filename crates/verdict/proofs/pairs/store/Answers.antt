use Rattle.std.proofs.Common.{ℕ, ◌+◌, ◌*◌, ◌<◌, ◌≤◌, ◌⊎◌, arith}
use Rattle.std.proofs.lemmas.Grind.{common_steps}
use Rattle.verdict.proofs.pairs.store.Goals as goal

-- A word of no part of the pair number m.
apart : (m j : ℕ) → (18 * m ≤ j → j < 18 * m + 18 → ⊥) → (j < 18 * m) ⊎ (18 * m + 18 ≤ j)
apart m j k = grind (arith, k)

pub returns : goal.returns
returns c = record {
  size = grind (arith, common_steps);
  standing-at = grind (arith, common_steps);
  cover-at = λ j k. grind (arith, common_steps);
  link_at = grind (arith, common_steps);
  others = λ j k. grind (arith, common_steps, apart c.args.m j k);
}
