use Prim.Native.Nat.{ℕ, ◌+◌, ◌-◌, ◌<◌}
use mathlib.Core.Bool.{true, false, cond}
use mathlib.Core.List.{List, ◌∷◌}
use mathlib.Core.Path.{◌≡◌, sym, ap, ◌∙◌}
use native.Mathlib.Omega.{arith}
use lib.ListN.{length, take, drop, get_or}
use Rattle.std.specs.Prelude.{Option, Some, None}
use Rattle.syntax.specs.declared.cursor.Cursor.{Cursor}
use Rattle.syntax.specs.Byte.{Bytes, name_byte}
use Rattle.syntax.specs.KindTable.{kind_name}
use Rattle.syntax.specs.Name.{place_of}
use Rattle.syntax.specs.Parser.{run, past_run}
use Rattle.syntax.specs.Place.{cursor_at}
use Rattle.syntax.specs.Limits.{runs}
use Rattle.syntax.specs.Resolve.{known, names_at}
use Rattle.syntax.specs.TableLaws.{known_next, unknown-next}
use Rattle.syntax.specs.Told.{told}
use Rattle.syntax.proofs.Runs.{RunAt, run_at, runs_none, runs-end}
use Rattle.syntax.proofs.labels.occurrences.Goals as goal
use Rattle.syntax.proofs.labels.occurrences.Goals.{After-past_run-end}

-- What its kind says of the byte at i tells whether a run begins there.
module _ (s : Bytes) (i : ℕ) (inside : i < length s) where
  between_runs : name_byte (get_or s i 0) ≡ false → runs false (drop i s) ≡ runs false (drop (i + 1) s)
  between_runs h = runs_none s i inside h

  begins_run : name_byte (get_or s i 0) ≡ true → (past : Cursor) → past ≡ cursor_at s (past_run (drop i s)) → RunAt s i past.at
  begins_run h past p = run_at s i past.at inside h (ap (λ (c : Cursor). c.at) p)

-- The run that begins at i is looked up as a part of the text.
module _ (names : List Bytes) (s : Bytes) (i end : ℕ) (here : RunAt s i end) (found : Option ℕ)
    (is : found ≡ place_of (take (end - i) (drop i s)) names) where
  looked-up : found ≡ place_of (run (drop i s)) names
  looked-up = is ∙ ap (λ (n : Bytes). place_of n names) here.part

  left : known names (runs false (drop i s)) ≡ known names (run (drop i s) ∷ runs false (drop end s))
  left = ap (known names) here.others

  known_here : (k : ℕ) → found ≡ Some k → known names (runs false (drop i s)) ≡ known names (runs false (drop end s))
  known_here k h = left ∙ known_next names _ _ k (sym h ∙ looked-up)

  unknown_here : found ≡ None → known names (runs false (drop i s)) ≡ false
  unknown_here h = left ∙ unknown-next names _ _ (sym h ∙ looked-up)

-- What is told where the names are known, or not.
told-known : (names : List Bytes) (s : Bytes) (n : ℕ) → known names (runs false s) ≡ true → n ≡ length (runs false s) → Some n ≡ told names s
told-known names s n h e = ap Some e ∙ ap (λ t. cond t (Some (length (runs false s))) None) (sym h)

told-unknown : (names : List Bytes) (s : Bytes) → known names (runs false s) ≡ false → None ≡ told names s
told-unknown names s h = ap (λ t. cond t (Some (length (runs false s))) None) (sym h)

begins : (c : After-past_run-end) → RunAt c.args.s.now c.loop-i.i c.past_run-end.result.at
begins c =
    begins_run c.args.s.now c.loop-i.i c.loop-i-test.true (kind_name _ _ _ c.of.ensures c.in_name.ensures ∙ c.if-in_name.true) _
    c.past_run-end.ensures

pub slice_bounds-find-count : goal.slice_bounds-find-count
slice_bounds-find-count c = let b = begins c in omega arith

pub slice_bounds-find-start : goal.slice_bounds-find-start
slice_bounds-find-start c = let b = begins c in omega arith

pub slice_bounds-find-end : goal.slice_bounds-find-end
slice_bounds-find-end c = let b = begins c in omega arith

pub returns-in_err-find : goal.returns-in_err-find
returns-in_err-find c =
    let l = c.loop-i in
    let b = begins (goal.at.returns-in_err-find c).After-past_run-end in
    c.from_residual.ensures
    ∙ told-unknown _ _ (sym l.invariant.3 ∙ unknown_here _ _ _ _ b _ c.find.ensures c.in_err-find.was)

pub loop-i-smaller-then-in_name : goal.loop-i-smaller-then-in_name
loop-i-smaller-then-in_name c =
    let b = begins (goal.at.loop-i-smaller-then-in_name c).After-past_run-end in
    omega arith

pub loop-i-preserved-then-in_name : goal.loop-i-preserved-then-in_name
loop-i-preserved-then-in_name c =
    let l = c.loop-i in
    let b = begins (goal.at.loop-i-preserved-then-in_name c).After-past_run-end in (
      omega arith,
      omega arith,
      omega (arith, l.invariant.2, ap length b.others),
      sym (known_here _ _ _ _ b _ c.find.ensures _ c.in_ok-find.was) ∙ l.invariant.3,
    )

pub loop-i-preserved : goal.loop-i-preserved
loop-i-preserved c =
    let a = c.args in
    let l = c.loop-i in
    let none = between_runs a.s.now l.i c.loop-i-test.true (kind_name _ _ _ c.of.ensures c.in_name.ensures ∙ c.if-in_name.false) in (
      omega arith,
      omega arith,
      omega (arith, ap length none),
      sym (ap (known (names_at a.names.text.now a.names.spans.now)) none) ∙ l.invariant.3,
    )

pub returns : goal.returns
unfolding known
returns c =
    let a = c.args in
    let l = c.loop-i in
    let none = runs-end a.s.now l.i c.loop-i-test.false in
    told-known _ _ l.count (sym l.invariant.3 ∙ ap (known (names_at a.names.text.now a.names.spans.now)) none) (omega (arith, ap length none))
