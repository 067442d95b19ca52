use native.Mathlib.Omega.{arith}
use lib.Bits.{and_mask}
use lib.Dec.{eqb}
use Prim.Native.Nat.{◌/◌, ◌^◌}
use Rattle.theory.specs.PlacesLaws.{member-beyond}
use mathlib.Core.Path.{sym, ap}
use Rattle.places.proofs.Places.has.Goals as goal

-- src/lib.rt:39:5
pub returns-then-place-lt64 : goal.returns-then-place-lt64
returns-then-place-lt64 c = ap (λ z. eqb z 1) (and_mask (c.args.self.0 / 2 ^ c.args.place) 1)

-- src/lib.rt:39:5
pub returns-else-place-lt64 : goal.returns-else-place-lt64
returns-else-place-lt64 c = sym (member-beyond 64 c.args.self.0 c.args.place (omega arith) c.if-place-lt64.false)
