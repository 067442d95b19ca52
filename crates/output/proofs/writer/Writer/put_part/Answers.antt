use Rattle.std.proofs.Common.{sym, arith}
use Rattle.std.proofs.lemmas.List.{take_more}
use lib.Seq.{take_all}
use Rattle.output.specs.Writer.{puts_nothing, puts_both, puts_same}
use Rattle.output.proofs.writer.Writer.put_part.Goals as goal

pub loop-byte-init : goal.loop-byte-init
loop-byte-init c = puts_nothing c.args.self.now

pub loop-byte-preserved : goal.loop-byte-preserved
loop-byte-preserved c =
    let l = c.loop-byte in
    puts_same (sym (take_more c.args.bytes.now l.byte-index 0 (omega arith))) (puts_both l.invariant c.put.ensures)

pub returns : goal.returns
returns c = let l = c.loop-byte in puts_same (take_all l.byte-index c.args.bytes.now (omega arith)) l.invariant
