use Rattle.std.specs.Prelude.{◌-◌, ◌%◌, ◌<◌, get_or}
use mathlib.Core.Path.{ap, ◌∙◌}
use lib.Bits.{bit_xor}
use Rattle.verdict.specs.PairIndexLaws.{mixed-start, mixed-turn, mixed-end}
use native.Mathlib.Omega.{arith}
use Rattle.verdict.proofs.index.remainder.Goals as goal

pub loop-j-init : goal.loop-j-init
loop-j-init c =
    let s = c in
    mixed-start s.args.cover.now s.args.count s.requires.1

pub loop-j-preserved : goal.loop-j-preserved
loop-j-preserved c =
    let s = c in
    let l = c.loop-j in
    let entered : 0 < l.j = c.loop-j-test.true in
    ap (λ z. bit_xor z (get_or s.args.cover.now (l.j - 1) 0)) c.rotate.ensures
    ∙ mixed-turn s.args.cover.now l.j l.mix entered (omega (arith, s.requires.0))
    (omega arith) l.invariant

pub returns : goal.returns
returns c =
    let s = c in
    let l = c.loop-j in
    ap (λ z. bit_xor z s.args.standing % 4093) c.rotate-2.ensures
    ∙ mixed-end s.args.cover.now s.args.standing l.j l.mix (omega (arith, c.loop-j-test.false)) l.invariant
