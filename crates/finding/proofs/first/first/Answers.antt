-- The first state with flag 1 has the first accepted word, and its trail is spelled into zeros.
use mathlib.Core.Path.{sym, ◌∙◌}
use Rattle.finding.specs.FirstWords.{first-many, first_short, first-none, first-word}
use Rattle.finding.proofs.first.first.Goals as goal
use Rattle.finding.proofs.first.first.Goals.{then-n-gt256-via-then-n-gt256, then-n-gt256-via-else-n-gt256+then-n-flags}

pub returns-then-n-gt256 : goal.returns-then-n-gt256
returns-then-n-gt256 c =
    let a = c.args in
    elim c.then-n-gt256.branch [
      | then-n-gt256-via-then-n-gt256 w ↦ first-many a.flags.now a.count a.parents.now a.symbols.now w.if-n-gt256.true
      | then-n-gt256-via-else-n-gt256+then-n-flags w ↦ first_short a.flags.now a.count a.parents.now a.symbols.now w.if-n-flags.true
    ]

pub returns-in_err-state : goal.returns-in_err-state
returns-in_err-state c =
    let a = c.args in
    rw c.from_residual.ensures (first-none a.flags.now a.count a.parents.now a.symbols.now (sym c.flag_place.ensures ∙ c.in_err-state.was))

pub returns : goal.returns
returns c =
    let a = c.args in
    let t = c.trail_length-length in
    let s = c.spell in
    first-word a.flags.now a.count a.parents.now a.symbols.now _ t.result s.new.word (sym c.flag_place.ensures ∙ c.in_ok-state.was)
    t.ensures s.ensures
