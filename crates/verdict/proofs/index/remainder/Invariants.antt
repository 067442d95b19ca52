-- The loop's invariant: the words from j on are mixed.
use Rattle.std.specs.Prelude.{◌≡◌, ◌-◌, drop}
use Rattle.places.specs.Words.{number_of}
use Rattle.verdict.specs.PairIndex.{mix_of}
use Rattle.verdict.proofs.index.remainder.Given as goal

abbrev pub invariant-loop-j : goal.invariant-loop-j
invariant-loop-j l = l.mix ≡ mix_of (16 - l.j) (number_of (drop l.j l.cover))
