use Rattle.std.specs.Prelude.{◌-◌, ◌/◌, ◌%◌, set}
use mathlib.Core.Path.{sym, subst}
use Rattle.verdict.specs.PathTold.{WriteLoop, write-start, write-turn, write-end, write-short}
use native.Mathlib.Omega.{arith}
use Rattle.verdict.proofs.path.write_path.Goals as goal

pub returns-then-path-labels : goal.returns-then-path-labels
returns-then-path-labels c = write-short _ _ _ _ c.if-path-labels.true

pub loop-k-init : goal.loop-k-init
loop-k-init c = write-start _ _ _ _ c.if-path-labels.false

pub bounds-path-k : goal.bounds-path-k
bounds-path-k c = omega (arith, c.loop-k.invariant.inside, c.loop-k.invariant.room)

pub loop-k-preserved : goal.loop-k-preserved
loop-k-preserved c =
    let s = c in
    let l = c.loop-k in
    subst (λ x. WriteLoop s.args.workspace.now s.args.i s.args.labels s.args.path.now (x % 8192) (l.k - 1) (set l.path (l.k - 1) (x / 8192 % 64)))
    (sym c.link-reached.ensures)
    (write-turn s.args.workspace.now s.args.i s.args.labels s.args.path.now l.j l.k l.path l.invariant c.loop-k-test.true)

pub shape_of-path : goal.shape_of-path
shape_of-path c = c.loop-k.invariant.size

pub returns : goal.returns
returns c = write-end _ _ _ _ c.loop-k.j c.loop-k.k _ c.loop-k.invariant (omega (arith, c.loop-k-test.false))
