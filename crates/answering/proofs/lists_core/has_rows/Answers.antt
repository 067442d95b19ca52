-- `has_rows` meets its contract: the tests come one after the other.
use Rattle.std.specs.Prelude.{◌*◌, length}
use mathlib.Core.Bool.{false≢true}
use borrow.Author.Tests.{leb-true, le-leb}
use native.Mathlib.Omega.{arith}
use Rattle.answering.proofs.lists_core.has_rows.Goals as goal

pub returns-then-states-eq0 : goal.returns-then-states-eq0
returns-then-states-eq0 c = (λ e. absurd (false≢true e), λ (z, a, b, d). absurd (omega arith))

pub returns-then-states-gt256 : goal.returns-then-states-gt256
returns-then-states-gt256 c = (λ e. absurd (false≢true e), λ (z, a, b, d). absurd (omega arith))

pub returns-then-lists-gt16 : goal.returns-then-lists-gt16
returns-then-lists-gt16 c = (λ e. absurd (false≢true e), λ (z, a, b, d). absurd (omega arith))

pub returns : goal.returns
returns c =
    let a = c.args in
    let n = 16 * a.states in
    let l = length a.next.now in
    (λ e. (omega arith, omega arith, omega arith, leb-true n l e), λ (z, u, v, w). le-leb n l w)
