-- When a name stands at a place of a text: the length of the run of name bytes there and its first byte decide.
use Prim.Native.Nat.{ℕ, ◌+◌, ◌-◌, ◌<◌, ◌≤◌}
use mathlib.Core.Bool.{true, false, ◌&&◌, and-false}
use mathlib.Core.Path.{◌≡◌, ap, ◌∙◌}
use native.Mathlib.Nat.{add-zero}
use native.Mathlib.Omega.{arith}
use lib.Dec.{eqb, leb}
use lib.ListN.{length, drop, get_or, length-drop}
use lib.Seq.{get_or-drop}
use borrow.Author.Tests.{le-leb, lt-leb}
use Rattle.theory.specs.Expression.{label}
use Rattle.syntax.specs.Byte.{Bytes, kind, letter}
use Rattle.syntax.specs.Name.{is_name}
use Rattle.syntax.specs.NameLaws.{no_bytes}
use Rattle.syntax.specs.Parser.{failed, parsed, run, past_run, named}
use Rattle.syntax.proofs.Run.{run-lengths}
use Rattle.syntax.proofs.RunName.{run-name}

-- The run at the place `at` ends at `end`.
module _ (s : Bytes) (at end : ℕ) (ends : end ≡ length s - length (past_run (drop at s))) where
  pub run_length : length (run (drop at s)) + length (past_run (drop at s)) ≡ length s - at
  run_length = run-lengths (drop at s) ∙ length-drop at s

  decided : at < end → is_name (run (drop at s)) ≡ (eqb (kind (get_or s at 0)) letter && leb (end - at) 16)
  decided l =
      let first : get_or (drop at s) 0 0 ≡ get_or s at 0 = get_or-drop at s 0 0 ∙ ap (λ n. get_or s n 0) (add-zero at) in
      let size : length (run (drop at s)) ≡ end - at = omega (arith, run_length) in
      rw (run-name (drop at s) (omega arith), first, size)

  pub name-there : at < end → end - at ≤ 16 → eqb (kind (get_or s at 0)) letter ≡ true
      → named (drop at s) ≡ parsed (label (run (drop at s))) (past_run (drop at s))
  unfolding named
  name-there l m k = rw (decided l, k, le-leb (end - at) 16 m, named)

  pub name-long : at < end → 16 < end - at → named (drop at s) ≡ failed
  unfolding named
  name-long l m = rw (decided l, lt-leb (end - at) 16 m, and-false (eqb (kind (get_or s at 0)) letter), named)

  pub name-other : at < end → eqb (kind (get_or s at 0)) letter ≡ false → named (drop at s) ≡ failed
  unfolding named
  name-other l k = rw (decided l, k, named)

  pub name-nothing : end ≤ at → named (drop at s) ≡ failed
  unfolding named
  name-nothing l = rw (no_bytes (run (drop at s)) (omega (arith, run_length)), named)
