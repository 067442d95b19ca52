-- Each of the two tables for the sums has room for the words before them.
use Rattle.std.specs.Prelude.{◌+◌, ◌*◌, ◌/◌}
use native.Mathlib.Nat.{mul-le-mul_left}
use native.Mathlib.Omega.{arith}
use Rattle.verdict.proofs.explore.explore_merged.Goals as goal

pub overflow_add-words : goal.overflow_add-words
overflow_add-words c = omega (arith, c.requires.2)

pub overflow_mul-words : goal.overflow_mul-words
overflow_mul-words c = omega (arith, c.requires.2)

pub count_ending-requires : goal.count_ending-requires
count_ending-requires c = omega (arith, c.requires.0.few-classes)

pub overflow_mul-words-2 : goal.overflow_mul-words-2
overflow_mul-words-2 c =
    let s = c in
    omega (arith, s.requires.2, mul-le-mul_left (32 * ((s.args.tables.states + 7) / 8)) c.count_ending.ensures)

pub explore_sums-requires : goal.explore_sums-requires
explore_sums-requires c = record { given = c.requires; room = (omega arith, omega arith) }

pub explore_sums-requires-else-words-le512 : goal.explore_sums-requires-else-words-le512
explore_sums-requires-else-words-le512 c = record { given = c.requires; room = (omega arith, omega arith) }
