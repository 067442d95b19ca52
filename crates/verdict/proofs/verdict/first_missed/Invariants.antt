-- The loop's invariant: the paths of the first i pairs are not missed.
use Rattle.std.specs.Prelude.{◌≡◌, ℕ, ◌<◌, false}
use Rattle.places.specs.Words.{number_of}
use Rattle.verdict.specs.PairTable.{pair_at}
use Rattle.verdict.specs.Missing.{misses_with}
use Rattle.verdict.proofs.verdict.first_missed.Given as goal

abbrev pub invariant-loop-i : goal.invariant-loop-i
invariant-loop-i l = (k : ℕ) → k < l.i → misses_with l.ends (number_of l.yields.words) (pair_at l.workspace k) ≡ false
