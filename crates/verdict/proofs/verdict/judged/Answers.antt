-- No pair is missed, or the path of the first missed one is written.
use Rattle.std.specs.Prelude.{ℕ, zero, suc, ◌*◌, ◌<◌, ◌≤◌}
use mathlib.Core.Path.{refl, sym, subst}
use native.Mathlib.Nat.{mul-one, mul-le-mul_left}
use native.Mathlib.Omega.{arith}
use Rattle.verdict.specs.Missing.{gap, Yields}
use Rattle.verdict.specs.Judging.{judged-none, judged-some}
use Rattle.verdict.proofs.verdict.judged.Goals as goal

-- There is room for the states alone.
gap-fits : (c w n : ℕ) → 0 < w → n * w ≤ 1024 → (0 < gap c w) × (n * gap c w ≤ 1024)
gap-fits zero w n h k = (h, k)
gap-fits (suc c) w n h k = (omega arith, omega (arith, mul-one n, mul-le-mul_left n h))

pub yielding-requires : goal.yielding-requires
yielding-requires c =
    let s = c in
    let (least, few) = gap-fits s.args.turned s.args.w s.args.states s.requires.0 s.requires.1 in
    (subst (λ z. 0 < z) (sym c.gap.ensures) least, subst (λ z. s.args.states * z ≤ 1024) (sym c.gap.ensures) few, s.requires.2)

pub returns-in_default : goal.returns-in_default
returns-in_default c =
    let s = c in
    let y = c.yielding in
    judged-none s.args.states s.args.flags.now s.args.w s.args.turned s.args.ends s.args.n s.args.workspace.now
    s.args.path.now y.result.words s.args.n
    (subst (λ z. Yields s.args.flags.now z s.args.states y.result.words) c.gap.ensures y.ensures) c.in_default.ensures refl

pub shape_of-path : goal.shape_of-path
shape_of-path c = c.write_path.ensures.size

pub returns : goal.returns
returns c =
    let s = c in
    let y = c.yielding in
    let (inside, first) = c.in-Some.ensures in
    judged-some s.args.states s.args.flags.now s.args.w s.args.turned s.args.ends s.args.n s.args.workspace.now
    s.args.path.now y.result.words c.in-Some.i
    (subst (λ z. Yields s.args.flags.now z s.args.states y.result.words) c.gap.ensures y.ensures) first
    c.depth-labels.result c.write_path.new.path (λ e. omega arith) c.depth-labels.ensures c.write_path.ensures
