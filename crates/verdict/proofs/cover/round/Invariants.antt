-- The loop's invariant: the words hold the set, with what the places of `fresh` before p reach. The measure is the number of places left.
use Rattle.std.specs.Prelude.{◌≡◌, ℕ, ◌+◌, ◌-◌, ◌*◌, ◌≤◌, List, length}
use Rattle.places.specs.Words.{number_of}
use Rattle.verdict.specs.Cover.{ends as ends_of}
use Rattle.verdict.specs.Tables.{automata_of, rewritten}
use Rattle.verdict.specs.CoverWalk.{Walk}
use Rattle.verdict.proofs.cover.round.Given as goal

abbrev pub invariant-loop-p : goal.invariant-loop-p
invariant-loop-p l =
    (l.count ≡ l.states * l.w) × (l.p ≤ 1024) × (length l.words ≡ 16)
    × ((any : ℕ) (flags follow enter : List ℕ) → 64 * l.lists + 64 ≤ length follow
    → Walk (ends_of (rewritten any l.table flags) (automata_of follow enter l.sizes l.accepting l.lists)) (number_of l.places) (number_of l.initial.words) (l.states * l.w) l.words l.p)

abbrev pub decreases-loop-p : goal.decreases-loop-p
decreases-loop-p l = 1024 - l.p
