-- The loop's invariant: the rounds that are left give what all rounds give.
use Rattle.std.specs.Prelude.{◌≡◌, ◌*◌}
use Rattle.verdict.specs.CoverRounds.{RoundsLeft}
use Rattle.verdict.proofs.cover.settled.Given as goal

abbrev pub invariant-loop-round : goal.invariant-loop-round
invariant-loop-round l = (l.count ≡ l.states * l.w) × RoundsLeft l.states l.lists l.sizes l.accepting l.table l.w l.initial.set.words l.set.words l.fresh.words l._round
