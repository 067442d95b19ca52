use Rattle.std.specs.Prelude.{◌+◌, ◌%◌, ◌<◌, ◌≤◌}
use mathlib.Core.Path.{sym, subst}
use Rattle.verdict.specs.PathTold.{DepthLoop, depth-start, depth-turn, depth-end, depth-wrong}
use native.Mathlib.Omega.{arith}
use Rattle.verdict.proofs.path.depth.Goals as goal

pub loop-j-init : goal.loop-j-init
loop-j-init c = depth-start _ _

pub returns-then-before-j : goal.returns-then-before-j
returns-then-before-j c =
    let s = c in
    let l = c.loop-j in
    depth-wrong s.args.workspace.now s.args.i l.j l.labels l.invariant c.loop-j-test.true
    (subst (λ x. l.j ≤ x % 8192) c.link.ensures c.if-before-j.true)

pub overflow_add-labels : goal.overflow_add-labels
overflow_add-labels c = omega (arith, c.loop-j.invariant.few)

pub loop-j-preserved : goal.loop-j-preserved
loop-j-preserved c =
    let s = c in
    let l = c.loop-j in
    subst (λ x. DepthLoop s.args.workspace.now s.args.i (x % 8192) (l.labels + 1)) (sym c.link.ensures)
    (depth-turn s.args.workspace.now s.args.i l.j l.labels l.invariant c.loop-j-test.true
    (subst (λ x. x % 8192 < l.j) c.link.ensures c.if-before-j.false))

pub returns : goal.returns
returns c = depth-end _ _ c.loop-j.j c.loop-j.labels c.loop-j.invariant c.loop-j-test.false
