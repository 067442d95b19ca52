use Rattle.std.proofs.Common.{rules}
use Rattle.std.proofs.lemmas.Bool.{false≢true}
use Rattle.std.proofs.lemmas.Bool.Decides.{Decides-eqb}
use Rattle.std.proofs.lemmas.Slice.Eq.{slice_eq-Decides}
use Rattle.verdict.specs.Workspace.{standing-differs, words-compared}
use Rattle.verdict.proofs.index.is_pair.Goals as goal

pub returns-then-workspace-i : goal.returns-then-workspace-i
returns-then-workspace-i c =
    let a = c.args in
    record {
      same = λ q. absurd (false≢true q);
      differs = λ q. standing-differs a.workspace.now a.i a.standing a.cover.now c.if-workspace-i.true;
    }

pub returns : goal.returns
returns c =
    let a = c.args in
    words-compared a.workspace.now a.i a.standing a.used a.cover.now c.eq.result (search rules) (search rules) c.requires.0 (search rules)
    c.requires.1 c.requires.3 c.requires.2 c.if-workspace-i.false (slice_eq-Decides Decides-eqb _ _ _ c.eq.ensures)
