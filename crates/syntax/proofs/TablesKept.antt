-- What the reading functions leave of the lent tables, step after step.
use Prim.Native.Nat.{ℕ, ◌≤◌}
use mathlib.Core.List.{List}
use mathlib.Core.Path.{refl, sym, ap, ◌∙◌}
use lib.ListN.{take}
use lib.Seq.{take-take}
use Rattle.syntax.specs.declared.parts.Part.{Part}
use Rattle.syntax.specs.Byte.{Bytes}
use Rattle.syntax.specs.Parser.{Parsed}
use Rattle.syntax.specs.Build.{TablesKept, Builds}

-- No step.
pub tables-same : (k : ℕ) (follow enter : List ℕ) → TablesKept k follow enter follow enter
tables-same k follow enter = record { same-follow = refl; same-enter = refl; kept = refl }

-- A part that is built.
pub tables-built : {f : ℕ → Bytes → Parsed} {rank : ℕ} {labels : List Bytes} {s : Bytes} {at k d : ℕ} {follow enter : List ℕ} {r : Part}
    {f₁ e₁ : List ℕ} → Builds f rank labels s at k d follow enter r f₁ e₁ → TablesKept k follow enter f₁ e₁
tables-built b = record { same-follow = b.same-follow; same-enter = b.same-enter; kept = b.kept }

-- One step, and then one that begins at the same place or a later one.
pub tables-on : (k j : ℕ) (follow enter f₁ e₁ f₂ e₂ : List ℕ) → k ≤ j → TablesKept k follow enter f₁ e₁ → TablesKept j f₁ e₁ f₂ e₂
    → TablesKept k follow enter f₂ e₂
tables-on k j follow enter f₁ e₁ f₂ e₂ h one then =
    record {
      same-follow = then.same-follow ∙ one.same-follow;
      same-enter = then.same-enter ∙ one.same-enter;
      kept = sym (take-take k j f₂ h) ∙ ap (take k) then.kept ∙ take-take k j f₁ h ∙ one.kept;
    }
