-- `put_text` meets its contract, by the kind of the case.
use Rattle.std.proofs.Common.{sym, ap}
use Rattle.output.specs.Writer.{puts_same}
use Rattle.listed.specs.Texts.{text_of}
use Rattle.listed.proofs.texts.put_text.Goals as goal

pub returns-in-Proved : goal.returns-in-Proved
returns-in-Proved c = puts_same (ap text_of (sym c.in-Proved.is)) c.put_proved.ensures

pub returns-in-Sequence : goal.returns-in-Sequence
returns-in-Sequence c = puts_same (ap text_of (sym c.in-Sequence.is)) c.put_sequence_text.ensures

pub returns-in-Followed : goal.returns-in-Followed
returns-in-Followed c = puts_same (ap text_of (sym c.in-Followed.is)) c.put_followed_text.ensures

pub returns-in-Optional : goal.returns-in-Optional
returns-in-Optional c = puts_same (ap text_of (sym c.in-Optional.is)) c.put_optional_text.ensures

pub returns-in-Joined : goal.returns-in-Joined
returns-in-Joined c = puts_same (ap text_of (sym c.in-Joined.is)) c.put_joined_text.ensures
