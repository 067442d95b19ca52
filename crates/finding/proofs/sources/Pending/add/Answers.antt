-- What is put in is what `gathered` says.
use Rattle.std.specs.Prelude.{◌≡◌, ◌*◌, ◌%◌, ◌^◌, get_or, set}
use mathlib.Core.Path.{ap, ◌∙◌}
use Rattle.theory.specs.Places.{union}
use Rattle.finding.specs.Sources.{sources, gain_of}
use Rattle.finding.specs.SourcesGathered.{gain-up}
use native.Mathlib.Omega.{arith}
use Rattle.finding.proofs.sources.Pending.add.Goals as goal

pub returns : goal.returns
returns c from =
    let x = c.args in
    let e : c.gain.result * 2 ^ x.next % 2 ^ 64 ≡ gain_of 0 x.added * 2 ^ x.next =
    ap (λ g. g * 2 ^ x.next % 2 ^ 64) c.gain.ensures ∙ gain-up 0 x.added x.next (omega arith) in
    ap (λ z. sources from (set x.self.now.at x.next (union (get_or x.self.now.at x.next 0) x.added)) (union x.self.now.waiting z)) e
