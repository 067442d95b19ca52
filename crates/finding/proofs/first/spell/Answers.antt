use Rattle.std.specs.Prelude.{get_or}
use mathlib.Core.Path.{refl}
use native.Mathlib.Omega.{arith}
use Rattle.finding.specs.FirstWords.{spelling-start, spelling-more, spelling-end}
use Rattle.finding.proofs.first.spell.Goals as goal

pub loop-end-init : goal.loop-end-init
loop-end-init c =
    let a = c.args in
    (c.requires.0, spelling-start a.parents.now a.symbols.now a.state a.size a.word.now c.requires.1)

pub bounds-word-end : goal.bounds-word-end
bounds-word-end c = omega (arith, c.loop-end.invariant.1.below, c.loop-end.invariant.1.sized)

pub loop-end-preserved : goal.loop-end-preserved
loop-end-preserved c =
    let a = c.args in
    let l = c.loop-end in (
      omega (arith, c.from-at.ensures, c.fits-parents l.at),
      spelling-more a.parents.now a.symbols.now a.state a.size a.word.now l.at l.end
          (get_or a.symbols.now l.at 0) c.from-at.result l.word l.invariant.1 c.requires.1
          (omega arith) refl c.from-at.ensures,
    )

pub shape_of-word : goal.shape_of-word
shape_of-word c = c.loop-end.invariant.1.sized

pub returns : goal.returns
returns c =
    let a = c.args in
    let l = c.loop-end in
    spelling-end a.parents.now a.symbols.now a.state a.size a.word.now l.at l.end l.word l.invariant.1 c.requires.1
    (omega arith)
