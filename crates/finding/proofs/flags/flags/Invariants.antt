-- The loop's invariant: the first i bytes are the flags of the first i states, the rest is as it was.
use Rattle.std.specs.Prelude.{◌≡◌, ◌≤◌, ◌++◌, map, length, take, drop}
use Rattle.finding.specs.States.{state_accepts}
use Rattle.finding.specs.Find.{flag}
use Rattle.finding.proofs.flags.flags.Given as goal

abbrev pub invariant-loop-i : goal.invariant-loop-i
invariant-loop-i l =
    (l.count ≤ length l.states) × (l.count ≤ length l.initial.flags) × (length l.flags ≡ length l.initial.flags)
    × (l.flags ≡ map (λ X. flag (state_accepts l.accepting X)) (take l.i l.states) ++ drop l.i l.initial.flags)
