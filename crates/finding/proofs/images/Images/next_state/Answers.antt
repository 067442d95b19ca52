-- The part of the images from 64 × list on has an image for each standing.
use Rattle.std.specs.Prelude.{◌*◌, take, drop}
use mathlib.Core.Path.{ap, ◌∙◌}
use Rattle.theory.specs.Automaton.{nexts}
use native.Mathlib.Nat.{add-sub_cancel_left}
use Rattle.finding.proofs.images.Images.next_state.Goals as goal

pub returns : goal.returns
returns c =
    let a = c.args in
    c.follows.ensures
    ∙ ap (λ n. nexts a.state (take n (drop (64 * a.list) a.self.rows.now))) (add-sub_cancel_left (64 * a.list) a.self.standings)
