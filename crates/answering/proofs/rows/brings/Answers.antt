use Rattle.std.specs.Prelude.{◌+◌}
use mathlib.Core.Bool.{false≢true}
use mathlib.Core.Path.{sym}
use borrow.Author.Count.{below_more}
use Rattle.answering.specs.SetRows.{word_of, some-new, none-new}
use native.Mathlib.Omega.{arith}
use Rattle.answering.proofs.rows.brings.Goals as goal

pub returns-then-new-ne0 : goal.returns-then-new-ne0
returns-then-new-ne0 c =
    let l = c.loop-j in
    let a = c.args in
    let known = c.type_inv.sets (a.from + l.j) in
    record {
      some = λ e. some-new l.j (omega arith) (omega (arith, known)) c.if-new-ne0.true;
      nothing = λ e. absurd (false≢true (sym e));
    }

pub loop-j-preserved : goal.loop-j-preserved
loop-j-preserved c =
    below_more _ _ c.loop-j.invariant c.if-new-ne0.false

pub returns : goal.returns
returns c =
    let l = c.loop-j in
    let a = c.args in
    record {
      some = λ e. absurd (false≢true e);
      nothing = λ e k h i m.
          none-new (word_of a.sets.now a.from k) (word_of a.known.now a.base k) (l.invariant k (omega arith)) i m;
    }
