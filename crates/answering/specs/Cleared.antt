-- What memory holds whose first part was cleared.
use Rattle.std.specs.Prelude.{◌≡◌, ℕ, ◌*◌, ◌<◌, ◌≤◌, List, length, drop}
use Rattle.std.proofs.Common.{ap, ◌∙◌, subst}
use Rattle.finding.specs.Cleared.{Cleared}
use Rattle.finding.specs.Padded.{cleared-behind}
use Rattle.answering.specs.Pairs.{Has, place-below, zeros-none}

-- Nothing behind the first part has changed.
pub cleared-beyond : {n : ℕ} {before after : List ℕ} → Cleared n before after → n ≤ length before → drop n after ≡ drop n before
cleared-beyond {n} {before} c h = ap (drop n) (c.enough h) ∙ cleared-behind n before

-- Cleared words hold no pair (Pairs).
pub cleared-none : (w N : ℕ) {before after : List ℕ} → Cleared (w * N) before after → w * N ≤ length before
    → (y s : ℕ) → y < N → s < 64 * w → ¬ Has w after y s
cleared-none w N {before} {after} c h y s k l m =
    zeros-none w (w * N) (drop (w * N) before) y s (place-below w N k l) (subst (λ R. Has w R y s) (c.enough h) m)
