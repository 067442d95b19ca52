-- `put_optional_text` meets its contract: the sequence, and the lists behind it.
use Rattle.output.specs.Writer.{puts_both}
use Rattle.listed.specs.Texts.{optional_text}
use Rattle.listed.proofs.limits.put_optional_text.Goals as goal

pub returns : goal.returns
unfolding optional_text
returns c = puts_both c.put_sequence_text.ensures c.put_part.ensures
