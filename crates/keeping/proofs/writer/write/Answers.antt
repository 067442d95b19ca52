-- `write` meets its contract: within the limits the pieces that are put one after another are the kept bytes.
use Rattle.std.proofs.Common.{rules, arith}
use Rattle.output.specs.Writer.{puts_started}
use Rattle.keeping.specs.Write.{Within}
use Rattle.keeping.specs.WriteLaws.{beyond, writes}
use Rattle.keeping.proofs.writer.write.Goals as goal

pub returns : goal.returns
returns c =
    let a = c.args in
    let limits : Within a.names.spans.now a.states a.out.now = omega arith in
    search (
      rules,
      writes a.names.text.now a.names.spans.now a.states a.table.now a.flags.now a.out.now limits
          (puts_started c.new-w.ensures.starts c.put_header.ensures) c.put_names.ensures.puts c.put_states.ensures.puts c.put_rest.ensures.puts,
    )
