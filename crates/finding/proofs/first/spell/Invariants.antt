-- The loop's invariant: the word of the trail from here, with what is stored behind it, is the word of the state's trail.
use Rattle.std.specs.Prelude.{◌<◌}
use Rattle.finding.specs.FirstWords.{Spelling}
use Rattle.finding.proofs.first.spell.Given as goal

abbrev pub invariant-loop-end : goal.invariant-loop-end
invariant-loop-end l =
    (l.at < 256) × Spelling l.parents l.symbols l.state l.size l.initial.word l.at l.end l.word
