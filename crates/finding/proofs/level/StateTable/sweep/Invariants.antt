-- The loop's invariant: what was known is known, and where none was lowered, the states from s on are settled.
use Rattle.std.specs.Prelude.{◌≡◌, ℕ, suc, ◌+◌, ◌*◌, ◌<◌, ◌≤◌, false, List, length, get_or}
use Rattle.theory.specs.Level.{Known}
use Rattle.finding.specs.Find.{deterministic}
use Rattle.finding.specs.LevelTold.{most_level, level_at}
use Rattle.finding.proofs.level.StateTable.sweep.Given as goal

-- The states from s on are settled.
abbrev pub SettledFrom : List ℕ → ℕ → ℕ → List ℕ → ℕ → Type 0
SettledFrom table lists states levels s =
    (q v : ℕ) → s ≤ q → q < states → v < lists → level_at levels q ≤ suc (level_at levels (get_or table (16 * q + v) 0))

abbrev pub invariant-loop-s : goal.invariant-loop-s
invariant-loop-s l =
    (length l.levels ≡ 256)
    × ((flags : List ℕ) → Known (deterministic l.self.states l.self.lists l.self.table.now flags) most_level (level_at l.initial.levels)
    → Known (deterministic l.self.states l.self.lists l.self.table.now flags) most_level (level_at l.levels))
    × (l.lowered ≡ false → SettledFrom l.self.table.now l.self.lists l.self.states l.levels l.s)
