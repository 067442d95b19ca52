use mathlib.Core.Bool.{false≢true}
use mathlib.Core.Path.{refl}
use borrow.Author.Count.{below_more}
use Rattle.finding.specs.TableLent.{row-lent}
use native.Mathlib.Omega.{arith}
use Rattle.finding.proofs.level.StateTable.alike.Goals as goal

pub returns-then-self-s : goal.returns-then-self-s
returns-then-self-s c = (λ f. absurd (false≢true f), λ same. absurd (c.if-self-s.true same.flag))

pub loop-v-init : goal.loop-v-init
loop-v-init c = λ u h. absurd (omega arith)

pub overflow_cast-next : goal.overflow_cast-next
overflow_cast-next c =
    omega (arith, (row-lent c.args.self.now.lent.rows c.args.s c.requires.0).next c.loop-v.v c.loop-v-test.true)

pub overflow_cast-other : goal.overflow_cast-other
overflow_cast-other c =
    omega (arith, (row-lent c.args.self.now.lent.rows c.args.t c.requires.1).next c.loop-v.v c.loop-v-test.true)

pub bounds-classes-next : goal.bounds-classes-next
bounds-classes-next c =
    (row-lent c.args.self.now.lent.rows c.args.s c.requires.0).next c.loop-v.v c.loop-v-test.true

pub bounds-classes-other : goal.bounds-classes-other
bounds-classes-other c =
    (row-lent c.args.self.now.lent.rows c.args.t c.requires.1).next c.loop-v.v c.loop-v-test.true

pub returns-then-classes-next : goal.returns-then-classes-next
returns-then-classes-next c =
    (λ f. absurd (false≢true f), λ same. absurd (c.if-classes-next.true (same.next c.loop-v.v c.loop-v-test.true)))

pub loop-v-preserved : goal.loop-v-preserved
loop-v-preserved c =
    let l = c.loop-v in
    below_more _ _ l.invariant c.if-classes-next.false

pub returns : goal.returns
returns c = (
  λ e. record { flag = c.if-self-s.false; next = λ u h. c.loop-v.invariant u (omega arith) },
  λ same. refl,
)
