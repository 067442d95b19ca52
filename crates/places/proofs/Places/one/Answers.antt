use native.Mathlib.Omega.{arith}
use borrow.Author.Tests.{lt-ltb, le-ltb}
use lib.Dec.{lit<}
use lib.Pow.{shl_exact}
use Rattle.places.proofs.Places.one.Goals as goal

-- src/lib.rt:16:5
pub returns-then-place-lt64 : goal.returns-then-place-lt64
returns-then-place-lt64 c = simp (lt-ltb _ _ c.if-place-lt64.true) (omega (arith, shl_exact {a = 1} 1 c.args.place 64 (lit< tt) (omega arith)))

-- src/lib.rt:16:5
pub returns-else-place-lt64 : goal.returns-else-place-lt64
returns-else-place-lt64 c = simp (le-ltb _ _ c.if-place-lt64.false)
