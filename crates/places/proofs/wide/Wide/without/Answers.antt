use mathlib.Core.Path.{refl}
use Rattle.places.specs.WordsLaws.{joined-none, joined-next, joined-all, number-without}
use Rattle.places.proofs.Held.{array_count, array-words}
use native.Mathlib.Omega.{arith}
use Rattle.places.proofs.wide.Wide.without.Invariants.{less}
use Rattle.places.proofs.wide.Wide.without.Goals as goal

pub loop-i-init : goal.loop-i-init
loop-i-init c = joined-none _ _ _

pub loop-i-preserved : goal.loop-i-preserved
loop-i-preserved c =
    let l = c.loop-i in
    let a = c.args in
    joined-next less a.self.words a.other.words l.words l.i (omega (arith, l.invariant.size, array_count 16 a.self.words _ c.well_formed.0.1.1.0)) l.invariant

pub returns : goal.returns
returns c =
    let s = c in
    let l = c.loop-i in
    let x = array_count 16 s.args.self.words _ s.well_formed.0.1.1.0 in
    let y = array_count 16 s.args.other.words _ s.well_formed.1.0.1.1.0 in
    number-without s.args.self.words s.args.other.words l.words
    (array-words 16 s.args.self.words _ s.well_formed.0.1.1.0) (array-words 16 s.args.other.words _ s.well_formed.1.0.1.1.0)
    (joined-all less s.args.self.words s.args.other.words l.words l.i refl (omega arith) (omega arith) l.invariant)
