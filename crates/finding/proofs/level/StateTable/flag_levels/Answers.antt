use Rattle.std.specs.Prelude.{◌≡◌, get_or}
use mathlib.Core.Path.{◌∙◌}
use lib.ListN.{length-set}
use Rattle.finding.specs.LevelTold.{flag_level}
use Rattle.finding.specs.Filling.{filled_more}
use native.Mathlib.Omega.{arith}
use Rattle.finding.proofs.level.StateTable.flag_levels.Goals as goal

pub loop-s-init : goal.loop-s-init
loop-s-init c = record { sized = c.requires; at = λ q h. absurd (omega arith) }

pub loop-s-preserved : goal.loop-s-preserved
loop-s-preserved c =
    let l = c.loop-s in
    let flags = c.args.self.now.flags.now in
    record {
      sized = length-set l.levels l.s c.flag_level.result ∙ l.invariant.sized;
      at = filled_more (λ q n. n ≡ flag_level (get_or flags q 0)) l.levels l.s c.flag_level.result
          (omega (arith, l.invariant.sized, c.args.self.now.lent.rows.most)) l.invariant.at c.flag_level.ensures;
    }

pub returns : goal.returns
returns c =
    let l = c.loop-s in
    record { sized = l.invariant.sized; at = λ q h. l.invariant.at q (omega arith) }
