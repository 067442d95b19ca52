-- `follow_all_words` meets its contract. The loop's invariant: what is reached was found, and all links of what is reached and not pending
-- were followed; those that wait stand in the stack from `head` on; where the rows are cut, the words of the symbols stay as they are. A
-- turn takes the recording at the front, and each recording that comes behind the others has a pair that was not reached before.
use Rattle.std.specs.Prelude.{◌≡◌, ◌+◌, ◌<◌, true, length, drop}
use Rattle.answering.specs.Pairs.{room}
use Rattle.answering.specs.SetSearchRun.{SetGoing}
use Rattle.answering.specs.WordSteps.{WordStep}
use Rattle.answering.specs.WordsPending.{pending_of, DoneReached}
use Rattle.answering.proofs.word_search.follow_all_words.Given as goal

abbrev pub invariant-loop-top : goal.invariant-loop-top
invariant-loop-top l =
    (length l.reached ≡ length l.initial.reached) × (length l.images ≡ length l.initial.images) × (length l.done ≡ length l.initial.done) ×
    (length l.stack ≡ length l.initial.stack) × (l.steps.cut ≡ true → l.images ≡ l.initial.images)
    × SetGoing 1 (WordStep l.steps.cut l.steps.rows.now l.steps.sizes.symbols l.initial.images) l.steps.sizes.symbols l.steps.sizes.states l.table l.steps.sizes.recordings l.start
    l.initial.reached l.reached (pending_of l.reached l.done) (drop l.head l.stack) l.top
    × (l.head < l.steps.sizes.recordings) × DoneReached l.reached l.done

abbrev pub decreases-loop-top : goal.decreases-loop-top
decreases-loop-top l =
    room l.reached + l.top
