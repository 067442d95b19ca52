-- The list may end at the place, or not.
use Rattle.std.specs.Prelude.{◌+◌, ◌*◌, ◌%◌, ◌^◌, ◌≤◌, get_or}
use mathlib.Core.Path.{sym, ap, ◌∙◌}
use native.Mathlib.Nat.{one-mul, mul-le-mul}
use Rattle.theory.specs.Places.{one, union, when}
use Rattle.places.specs.Words.{number_of}
use Rattle.verdict.specs.CoverLoops.{end_at, gains-none}
use native.Mathlib.Omega.{arith}
use Rattle.verdict.proofs.cover.ended.Goals as goal

pub overflow_mul-w : goal.overflow_mul-w
overflow_mul-w c =
    let s = c in
    let t = get_or s.args.table.now (16 * s.args.q + s.args.v) 0 in
    let h : t ≤ 65535 = omega arith in
    omega (arith, mul-le-mul s.requires.4 h)

pub add_shifted-requires : goal.add_shifted-requires
add_shifted-requires c = c.requires.5

pub shape_of-into : goal.shape_of-into
shape_of-into c = c.add_shifted.auto.words

pub returns-then-has : goal.returns-then-has
returns-then-has c =
    let s = c in
    let x = one (s.args.w * get_or s.args.table.now (16 * s.args.q + s.args.v) 0) in
    c.add_shifted.ensures
    ∙ ap (λ y. union (number_of s.args.into.now) (y % 2 ^ 1024))
    (one-mul x ∙ sym (ap (λ b. when b x) (sym c.has.ensures ∙ c.if-has.true)))

pub returns-else-has : goal.returns-else-has
returns-else-has c =
    let s = c in
    gains-none s.args.into.now (end_at s.args.accepting.now s.args.table.now s.args.w s.args.v s.args.o s.args.q)
    (ap (λ b. when b (one (s.args.w * get_or s.args.table.now (16 * s.args.q + s.args.v) 0))) (sym c.has.ensures ∙ c.if-has.false))
