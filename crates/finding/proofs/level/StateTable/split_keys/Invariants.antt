-- The loop's invariant: the keys of the states below s are stored, and it is told whether one of them leaves its class.
use Rattle.std.specs.Prelude.{◌≡◌, ℕ, ◌<◌, ◌≤◌, true, false, List, length}
use Rattle.finding.specs.ClassesTold.{key_at, SplitKey}
use Rattle.finding.proofs.level.StateTable.split_keys.Given as goal

-- Some state below s leaves its class.
abbrev pub Leaving : List ℕ → ℕ → Type 0
Leaving keys s = (q : ℕ) × (q < s) × (256 ≤ key_at keys q)

abbrev pub invariant-loop-s : goal.invariant-loop-s
invariant-loop-s l =
    (length l.keys ≡ 256)
    × ((q : ℕ) → q < l.s → SplitKey l.self.table.now l.self.flags.now l.self.lists l.classes q (key_at l.keys q))
    × (l.leaves ≡ true → Leaving l.keys l.s)
    × (l.leaves ≡ false → (q : ℕ) → q < l.s → key_at l.keys q < 256)
