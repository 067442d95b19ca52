-- `put_followed_text` meets its contract: its parts one after the other.
use Rattle.output.specs.Writer.{puts_both}
use Rattle.listed.specs.Texts.{followed_text}
use Rattle.listed.proofs.limits.put_followed_text.Goals as goal

pub returns : goal.returns
unfolding followed_text
returns c = puts_both c.put_part.ensures (puts_both c.put_repeated.ensures c.put.ensures)
