use native.Mathlib.Omega.{arith}
use Rattle.std.proofs.Common.{◌∙◌, ◌≤◌, length, refl, ap}
use Rattle.output.specs.Put.{Writing}
use Rattle.output.specs.Within.{stays_within, same_length}
use Rattle.cases.proofs.marks.put_marks.Goals as goal

pub loop-mark-init : goal.loop-mark-init
loop-mark-init c =
    let w = c.new-w in
    let h : w.result.at ≤ length w.result.out.now = omega (arith, ap (λ (x : Writing). x.at) w.ensures.starts) in
    record { within = stays_within c.put_part.ensures h; same = refl }

pub loop-mark-preserved : goal.loop-mark-preserved
loop-mark-preserved c =
    let i = c.loop-mark.invariant in
    record {
      within = stays_within c.put_number.ensures (stays_within c.put.ensures i.within);
      same = same_length c.put_number.ensures ∙ (same_length c.put.ensures ∙ i.same);
    }

pub returns : goal.returns
returns c =
    let i = c.loop-mark.invariant in
    omega (
      arith,
      i.same,
      stays_within c.put-2.ensures i.within,
      same_length c.put-2.ensures,
      same_length c.put_part.ensures,
      ap (λ (x : Writing). length x.out) c.new-w.ensures.starts,
    )
