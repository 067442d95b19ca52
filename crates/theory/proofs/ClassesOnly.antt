-- The classes that splitting ends in are those of the definition by rounds.
use Rattle.std.specs.Prelude.{ℕ, ◌≡◌, length}
use mathlib.Core.List.{List}
use Rattle.std.proofs.Common.{sym, ◌∙◌, arith, ext_get_or}
use Rattle.theory.specs.Deterministic.{Deterministic, Complete}
use Rattle.theory.specs.Classes.{Coarse, Stable}
use Rattle.theory.specs.Leaders.{Led}
use Rattle.theory.specs.Refinement.{class_at, classes}
use Rattle.theory.proofs.RefinementLaws.{classes-led, classes-coarse, classes-stable, classes-length}
use Rattle.theory.specs.Splitting.{led-unique}

-- They are the classes that the rounds end in.
pub classes-only : (D : Deterministic) (s : List ℕ) → length s ≡ D.states → Complete D
    → Led D.states (class_at s) → Coarse D (class_at s) → Stable D (class_at s) → s ≡ classes D
classes-only D s e C L A S =
    ext_get_or 0 s (classes D) (e ∙ sym (classes-length D))
    (λ q h. led-unique C L A S (classes-led D) (classes-coarse D C) (classes-stable D) q (omega (arith, e)))
