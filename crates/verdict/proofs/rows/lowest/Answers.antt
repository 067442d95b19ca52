-- The places from w on are moved out of the word, and the others back.
use Rattle.verdict.specs.RowsLaws.{cut_word}
use Rattle.verdict.proofs.rows.lowest.Goals as goal

pub returns : goal.returns
returns c = cut_word c.args.word c.args.w c.requires.1
