-- `put_sequence_text` meets its contract: its parts one after the other.
use Rattle.output.specs.Writer.{puts_both}
use Rattle.listed.specs.Texts.{sequence_text}
use Rattle.listed.proofs.limits.put_sequence_text.Goals as goal

pub returns : goal.returns
unfolding sequence_text
returns c = puts_both c.put_part.ensures (puts_both c.put_sequence.ensures c.put.ensures)
