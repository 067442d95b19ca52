-- The words are enough for the list with the most occurrences, or for any.
use Rattle.std.specs.Prelude.{◌+◌, ◌*◌}
use native.Mathlib.Nat.{mul-le-mul_left}
use Rattle.finding.specs.ListRows.{paired-most, paired-any}
use native.Mathlib.Omega.{arith}
use Rattle.finding.proofs.list_images.words_for.Goals as goal

pub overflow_mul-result : goal.overflow_mul-result
overflow_mul-result c =
    omega (arith, c.requires.1, mul-le-mul_left {m = c.greatest-most.result + 1} {n = 64} c.args.count (omega arith))

pub returns-then-most-lt64 : goal.returns-then-most-lt64
returns-then-most-lt64 c =
    let a = c.args in
    let g = c.greatest-most in
    λ v h. paired-most a.count g.result a.sizes.now v (a.count * (g.result + 1)) (g.ensures v h) (omega arith)

pub returns-else-most-lt64 : goal.returns-else-most-lt64
returns-else-most-lt64 c =
    λ v h. paired-any c.args.count c.args.sizes.now v c.requires.1
