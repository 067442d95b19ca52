-- The loop's invariant: the classes are numbered below `count` (Numbered).
use Rattle.std.specs.Prelude.{◌≡◌, length, get_or}
use Rattle.verdict.specs.Classes.{Numbered}
use Rattle.verdict.proofs.classes.refine.Given as goal

abbrev pub invariant-loop-round : goal.invariant-loop-round
invariant-loop-round l =
    Numbered l.w l.count l.classes × (get_or l.classes 0 0 ≡ get_or l.initial.classes 0 0)
    × (length l.keys ≡ length l.initial.keys) × (length l.classes ≡ length l.initial.classes)
