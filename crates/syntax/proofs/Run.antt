-- The longest run of name bytes at the front of a text: with what comes after it, it is the text.
use Prim.Native.Nat.{ℕ, ◌+◌, ◌-◌}
use mathlib.Core.Bool.{Bool, true, false}
use mathlib.Core.List.{[], ◌∷◌, ◌++◌}
use mathlib.Core.Path.{◌≡◌, refl, sym, ap, ◌∙◌}
use native.Mathlib.Omega.{arith}
use lib.ListN.{length, take, length-append}
use lib.Seq.{take_at}
use Rattle.syntax.specs.Byte.{Bytes, name_byte}
use Rattle.syntax.specs.Parser.{run, past_run}

pub run_on : (b : ℕ) (s : Bytes) → name_byte b ≡ true → past_run (b ∷ s) ≡ past_run s
unfolding past_run
run_on b s e = rw (e, past_run)

pub run_past : (s : Bytes) → run s ++ past_run s ≡ s
unfolding run past_run
run_past [] = refl
run_past (b ∷ s) = go (name_byte b) refl (run_past s)
  where
    go : (t : Bool) → name_byte b ≡ t → run s ++ past_run s ≡ s → run (b ∷ s) ++ past_run (b ∷ s) ≡ b ∷ s
    go true e h = rw (e, run, past_run) (ap (λ v. b ∷ v) h)
    go false e h = rw (e, run, past_run)

pub run-lengths : (s : Bytes) → length (run s) + length (past_run s) ≡ length s
run-lengths s = sym (length-append (run s) (past_run s)) ∙ ap length (run_past s)

-- The run, as a part of the text.
pub run-part : (s : Bytes) → take (length s - length (past_run s)) s ≡ run s
run-part s =
    ap (take (length s - length (past_run s))) (sym (run_past s))
    ∙ take_at (run s) (past_run s) (length s - length (past_run s)) (omega (arith, run-lengths s))
