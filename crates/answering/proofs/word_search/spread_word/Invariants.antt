-- `spread_word` meets its contract. The loop's invariant: the symbols before `a` have their images.
use Rattle.std.specs.Prelude.{◌≡◌, ℕ, ◌<◌, get_or}
use Rattle.places.specs.Joined.{joined}
use Rattle.answering.proofs.word_search.spread_word.Given as goal

abbrev pub invariant-loop-a : goal.invariant-loop-a
invariant-loop-a l = (b : ℕ) → b < l.a → get_or l.images b 0 ≡ joined l.rows b l.symbols l.states
