use mathlib.Core.Path.{refl}
use native.Mathlib.Omega.{arith}
use Rattle.verdict.proofs.classes.list_keys.Goals as goal

pub loop-p-init : goal.loop-p-init
loop-p-init c = (omega arith, omega arith, refl)

pub classes_of-requires : goal.classes_of-requires
classes_of-requires c =
    let s = c in
    let l = c.loop-p in
    λ q m. omega (arith, s.requires.3, s.requires.5 q l.p (omega (arith, c.loop-p-test.true, s.requires.1)) m)
