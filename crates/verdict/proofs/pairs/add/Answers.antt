-- The pair is stored, and put in front of its chain.
use Rattle.verdict.specs.Workspace.{pair}
use Rattle.verdict.specs.PairIndexLaws.{bucket-below, indexed-more}
use native.Mathlib.Omega.{arith}
use Rattle.verdict.proofs.pairs.add.Goals as goal

pub note-requires : goal.note-requires
note-requires c =
    let s = c in
    (omega (arith, bucket-below (pair s.args.standing s.args.cover.now), s.requires.3), s.requires.1)

pub shape_of-workspace : goal.shape_of-workspace
shape_of-workspace c = c.store.ensures.size

pub returns : goal.returns
returns c =
    let s = c in
    let stored = c.store.ensures in
    (stored, indexed-more stored s.requires.2 s.args.at _ _ _ _ s.requires.3 s.requires.1 s.requires.4 c.note.ensures)
