-- The longest runs of name bytes in a text, as a walk along the text meets them.
use Prim.Native.Nat.{ℕ, suc, ◌+◌, ◌-◌, ◌<◌, ◌≤◌}
use mathlib.Core.Bool.{Bool, true, false}
use mathlib.Core.List.{List, [], ◌∷◌}
use mathlib.Core.Path.{◌≡◌, refl, sym, ap, ◌∙◌}
use native.Mathlib.Numerals.{add-one}
use native.Mathlib.Omega.{arith}
use lib.ListN.{length, get_or, take, drop, drop_of_length-le, length-drop}
use lib.Seq.{drop-cons, drop-drop, drop-append_seam}
use Rattle.syntax.specs.Byte.{Bytes, name_byte}
use Rattle.syntax.specs.Parser.{run, past_run}
use Rattle.syntax.specs.Limits.{runs}
use Rattle.syntax.proofs.Run.{run_on, run_past, run-lengths, run-part}

-- A run that has begun before a text is not counted again: what is left of it is passed.
runs_past : (s : Bytes) → runs true s ≡ runs false (past_run s)
unfolding runs past_run
runs_past [] = refl
runs_past (b ∷ s) = go (name_byte b) refl (runs_past s)
  where
    go : (t : Bool) → name_byte b ≡ t → runs true s ≡ runs false (past_run s) → runs true (b ∷ s) ≡ runs false (past_run (b ∷ s))
    go true e h = rw (e, runs, past_run) h
    go false e h = rw (e, past_run, runs, e, runs)

runs-begin : (b : ℕ) (s : Bytes) → name_byte b ≡ true → runs false (b ∷ s) ≡ run (b ∷ s) ∷ runs false (past_run (b ∷ s))
unfolding runs
runs-begin b s e = rw (run_on b s e, e, runs) (ap (λ (r : List Bytes). run (b ∷ s) ∷ r) (runs_past s))

past-less : (b : ℕ) (s : Bytes) → name_byte b ≡ true → length (past_run (b ∷ s)) < length (b ∷ s)
past-less b s e = rw (run_on b s e) (omega (arith, run-lengths s))

-- The run that begins at i ends at end.
pub record RunAt (s : Bytes) (i end : ℕ) : Type 0 where
  pub onward : i < end
  pub within : end ≤ length s
  pub part : take (end - i) (drop i s) ≡ run (drop i s)
  pub others : runs false (drop i s) ≡ run (drop i s) ∷ runs false (drop end s)

-- At a place there is the beginning of a run, another byte, or the end.
module _ (s : Bytes) (i : ℕ) where
  past-drop : drop (i + length (run (drop i s))) s ≡ past_run (drop i s)
  past-drop =
      let r : Bytes = run (drop i s) in
      sym (drop-drop (length r) i s)
      ∙ ap (drop (length r)) (sym (run_past (drop i s))) ∙ drop-append_seam r (past_run (drop i s))

  past-here : i < length s → name_byte (get_or s i 0) ≡ true → length (past_run (drop i s)) < length (drop i s)
  past-here h e = rw (drop-cons s i 0 h) (past-less (get_or s i 0) (drop (suc i) s) e)

  runs_here : i < length s → name_byte (get_or s i 0) ≡ true → runs false (drop i s) ≡ run (drop i s) ∷ runs false (past_run (drop i s))
  runs_here h e = rw (drop-cons s i 0 h) (runs-begin (get_or s i 0) (drop (suc i) s) e)

  pub run_at : (end : ℕ) → i < length s → name_byte (get_or s i 0) ≡ true → end ≡ length s - length (past_run (drop i s)) → RunAt s i end
  run_at end h e p =
      let u : Bytes = drop i s in
      let l : length u ≡ length s - i = length-drop i s in
      let m : length (run u) + length (past_run u) ≡ length u = run-lengths u in
      let q : end ≡ i + length (run u) = omega arith in
      let d : end - i ≡ length u - length (past_run u) = omega arith in
      record {
        onward = omega (arith, past-here h e);
        within = omega arith;
        part = rw d (run-part u);
        others = rw (q, past-drop) (runs_here h e);
      }

  pub runs_none : i < length s → name_byte (get_or s i 0) ≡ false → runs false (drop i s) ≡ runs false (drop (i + 1) s)
  unfolding runs
  runs_none h e = rw (add-one, drop-cons s i 0 h, runs, e)

  pub runs-end : length s ≤ i → runs false (drop i s) ≡ []
  unfolding runs
  runs-end h = ap (runs false) (drop_of_length-le s h)
