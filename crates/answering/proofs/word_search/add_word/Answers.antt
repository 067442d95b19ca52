-- `add_word` meets its contract: the word of what is reached changes, and the recording is stored behind the stack.
use Rattle.answering.specs.WordsPending.{done-added}
use native.Mathlib.Omega.{arith}
use Rattle.answering.proofs.word_search.add_word.Goals as goal

pub returns : goal.returns
returns c N r k =
    done-added c.requires (omega arith) (omega arith) c.raised.ensures r k
