use mathlib.Core.Path.{sym, ap}
use mathlib.Core.Bool.{not}
use borrow.Author.Count.{below_more}
use borrow.Author.Tests.{eq-eqb, ne_eqb}
use Rattle.places.specs.WordsLaws.{number-apart, number-meets, words-apart}
use Rattle.places.proofs.Held.{array_count, array-words}
use native.Mathlib.Omega.{arith}
use Rattle.places.proofs.wide.Wide.meets.Goals as goal

pub loop-i-init : goal.loop-i-init
loop-i-init c = λ k h. absurd (omega arith)

pub returns-then-words-i-ne0 : goal.returns-then-words-i-ne0
returns-then-words-i-ne0 c =
    let s = c in
    let l = c.loop-i in
    sym (ap not (ne_eqb _ 0 (number-meets s.args.self.words s.args.other.words
    (array-words 16 s.args.self.words _ s.well_formed.0.1.1.0) (array-words 16 s.args.other.words _ s.well_formed.1.0.1.1.0)
    l.i c.if-words-i-ne0.true)))

pub loop-i-preserved : goal.loop-i-preserved
loop-i-preserved c = below_more _ _ c.loop-i.invariant c.if-words-i-ne0.false

pub returns : goal.returns
returns c =
    let s = c in
    let l = c.loop-i in
    let x = array_count 16 s.args.self.words _ s.well_formed.0.1.1.0 in
    let y = array_count 16 s.args.other.words _ s.well_formed.1.0.1.1.0 in
    sym (ap not (eq-eqb _ 0 (number-apart s.args.self.words s.args.other.words
    (array-words 16 s.args.self.words _ s.well_formed.0.1.1.0) (array-words 16 s.args.other.words _ s.well_formed.1.0.1.1.0)
    (λ k. words-apart s.args.self.words s.args.other.words l.i (omega arith) (omega arith) l.invariant k))))
