-- `gain` meets its contract: the words are the same, or not.
use mathlib.Core.Path.{sym}
use Rattle.finding.specs.SourcesGathered.{gain-none, gain-some}
use Rattle.finding.proofs.sources.gain.Goals as goal

pub returns-then-all-old : goal.returns-then-all-old
returns-then-all-old c = sym (gain-none c.args.old c.args.all c.if-all-old.true)

pub returns-else-all-old : goal.returns-else-all-old
returns-else-all-old c = sym (gain-some c.args.old c.args.all c.if-all-old.false)
