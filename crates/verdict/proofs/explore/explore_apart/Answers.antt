-- There is room for what is prepared and for the columns of sixteen lists, and for the sums where there are at most 64 states.
use Rattle.std.specs.Prelude.{ℕ, ◌*◌}
use lib.ListN.{length-replicate}
use native.Mathlib.Nat.{mul-le-mul_left}
use Rattle.verdict.specs.Sums.{quarters}
use native.Mathlib.Omega.{arith}
use Rattle.verdict.proofs.explore.explore_apart.Goals as goal

pub explore_in-requires : goal.explore_in-requires
explore_in-requires c =
    let s = c in
    let z : ℕ = 0 in
    record {
      counted = s.requires;
      room = (
        omega arith,
        λ h. omega (arith, s.requires.few, mul-le-mul_left (16 * quarters s.args.tables.states) s.requires.few, length-replicate 5120 z),
      );
      small = omega arith;
    }

pub explore_in-requires-else-tables-le64 : goal.explore_in-requires-else-tables-le64
explore_in-requires-else-tables-le64 c =
    record { counted = c.requires; room = (omega arith, λ h. absurd (omega (arith, c.if-tables-le64.false))); small = omega arith }
