-- `put_joined_text` meets its contract: the sequence, and the lists behind it.
use Rattle.output.specs.Writer.{puts_both}
use Rattle.listed.specs.Texts.{joined_text}
use Rattle.listed.proofs.limits.put_joined_text.Goals as goal

pub returns : goal.returns
unfolding joined_text
returns c = puts_both c.put_sequence_text.ensures (puts_both c.put_part.ensures (puts_both c.put_sequence.ensures c.put.ensures))
