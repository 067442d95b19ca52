-- `put` meets its contract: within the buffer the byte is stored and the place moves on; at its end nothing can be stored.
use mathlib.Core.Path.{refl, sym}
use native.Mathlib.Omega.{arith}
use lib.Seq.{set_out}
use Rattle.output.specs.Put.{put, puts, same-writing}
use Rattle.output.proofs.writer.Writer.put.Goals as goal

pub returns-then-self : goal.returns-then-self
unfolding put puts
returns-then-self c = record { same_reference = refl; puts = same-writing refl (omega arith) }

pub returns-else-self : goal.returns-else-self
unfolding put puts
returns-else-self c =
    let w = c.args.self.now in
    record { same_reference = refl; puts = same-writing (sym (set_out w.out.now w.at c.args.byte (omega arith))) (omega arith) }
