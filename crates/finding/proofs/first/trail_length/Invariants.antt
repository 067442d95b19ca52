-- The loop's invariant: the steps gone and the trail from here make up the state's trail.
use Rattle.finding.specs.FirstWords.{Walking}
use Rattle.finding.proofs.first.trail_length.Given as goal

abbrev pub invariant-loop-at : goal.invariant-loop-at
invariant-loop-at l = Walking l.parents l.state l.at l.steps

abbrev pub decreases-loop-at : goal.decreases-loop-at
decreases-loop-at l = l.at
