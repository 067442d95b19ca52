-- `put_number` meets its contract. The measure is the number: a tenth of a number of more than one digit is less.
use Rattle.output.proofs.writer.Writer.+put_number.Given as goal

abbrev pub decreases-put_number : goal.decreases-put_number
decreases-put_number l = l.n
