-- `load_rows` meets its contract: a text that is too long is refused, and of any other the lines are read.
use Rattle.reading.specs.RowRoom.{roomy-refused}
use Rattle.reading.specs.Underway.{loaded-long}
use Rattle.reading.proofs.reader.load_rows.Goals as goal

pub returns-then-text-gt-MOST_TEXT : goal.returns-then-text-gt-MOST_TEXT
returns-then-text-gt-MOST_TEXT c =
    rw c.from.ensures (record { loaded = loaded-long c.args.text.now _ c.if-text-gt-MOST_TEXT.true; roomy = roomy-refused _ 0 _ _ })
