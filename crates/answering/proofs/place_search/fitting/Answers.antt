-- `fitting` meets its contract: the tests come one after the other.
use mathlib.Core.Bool.{false≢true}
use borrow.Author.Tests.{leb-true, le-leb}
use native.Mathlib.Omega.{arith}
use Rattle.answering.proofs.place_search.fitting.Goals as goal

pub returns-then-labels-gt32 : goal.returns-then-labels-gt32
returns-then-labels-gt32 c = (λ e. absurd (false≢true e), λ f. absurd (omega (arith, f.few-labels)))

pub returns-then-enter-labels : goal.returns-then-enter-labels
returns-then-enter-labels c = (λ e. absurd (false≢true e), λ f. absurd (omega (arith, f.enters)))

pub returns-then-recordings-gt4096 : goal.returns-then-recordings-gt4096
returns-then-recordings-gt4096 c = (λ e. absurd (false≢true e), λ f. absurd (omega (arith, f.few)))

pub returns-then-recordings-start : goal.returns-then-recordings-start
returns-then-recordings-start c = (λ e. absurd (false≢true e), λ f. absurd (omega (arith, f.begins)))

pub returns : goal.returns
returns c = (
  λ e. record {
    few-labels = omega arith;
    enters = omega arith;
    few = omega arith;
    begins = omega arith;
    room = leb-true _ _ e;
  },
  λ f. le-leb _ _ f.room,
)
