-- The loop's invariant: no list passed has more occurrences.
use Rattle.std.specs.Prelude.{ℕ, ◌+◌, ◌<◌, ◌≤◌, get_or}
use Rattle.finding.proofs.list_images.greatest.Given as goal

abbrev pub invariant-loop-v : goal.invariant-loop-v
invariant-loop-v l = (w : ℕ) → w < l.v → get_or l.sizes (w + 1) 0 ≤ l.most
