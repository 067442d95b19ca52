-- The two words are put one after the other.
use mathlib.Core.Path.{◌∙◌}
use Rattle.verdict.specs.WideRowsTurns.{row_put}
use native.Mathlib.Omega.{arith}
use Rattle.verdict.proofs.wide_rows.put_row.Goals as goal

pub put_at-requires : goal.put_at-requires
put_at-requires c =
    let p = c.requires in
    (p.0, omega arith, omega arith, omega arith, omega (arith, p.1, p.3))

pub put_at-requires-2 : goal.put_at-requires-2
put_at-requires-2 c =
    let s = c in
    let put-at = c.put_at in
    let p = s.requires in
    (put-at.auto.words ∙ p.0, p.4, omega (arith, p.1), omega (arith, p.2), omega (arith, p.1, p.3))

pub returns : goal.returns
returns c =
    let s = c in
    let put-at = c.put_at in
    let a = s.args in
    let p = s.requires in
    row_put a.words.now _ _ a.from a.low a.high a.w (omega arith) p.1 p.2 p.3 p.4 put-at.ensures
    c.put_at-2.ensures
