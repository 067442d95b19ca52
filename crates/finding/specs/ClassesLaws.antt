-- What the code compares and stores while it refines classes is what a split says (theory: Splitting).
use Rattle.std.specs.Prelude.{◌≡◌, ℕ, zero, suc, ◌+◌, ◌-◌, ◌<◌, ◌≤◌, Bool, true, ◌⊎◌, List, length, take, nat_eq, slice_index}
use Rattle.std.proofs.Common.{inl, inr, sym, ap, ◌∙◌, arith, length-take-le, get_or-take}
use Rattle.std.specs.Prelude.{refl}
use Rattle.theory.specs.Deterministic.{Deterministic, Complete}
use Rattle.theory.specs.Classes.{Coarse}
use Rattle.theory.specs.ClassesLaws.{coarse-as, stable-as}
use Rattle.theory.specs.Leaders.{Led, led-agree, leaders, leaders-at-most, leaders-agree}
use Rattle.theory.specs.Refinement.{class_at}
use Rattle.theory.specs.Splitting.{Alike, first_with, Keyed, first-led, first-coarse, split-coarse, split-more, alike-stable}
use Rattle.theory.proofs.ClassesOnly.{classes-only}
use Rattle.theory.specs.Level.{level-coarse}
use Rattle.finding.specs.Find.{deterministic}
use Rattle.finding.specs.Table.{flag_same}
use Rattle.finding.specs.TableLent.{StatesLent, rows-complete}
use Rattle.finding.specs.LevelTold.{level_at, Levelled}
use Rattle.finding.specs.ClassesTold.{key_at, Classed, SameRows, SplitKey, SplitKeys, Refined}

none-or-one : (f : ℕ) → f ≤ 1 → (f ≡ 0) ⊎ (f ≡ 1)
none-or-one zero h = inl refl
none-or-one (suc f) h = inr (omega arith)

module _ {states lists : ℕ} {table flags : List ℕ} (T : StatesLent states lists table flags) (classes : List ℕ) where
  pub rows_alike : (s t : ℕ) → SameRows table flags lists classes s t
      → Alike (deterministic states lists table flags) (class_at classes) s t
  rows_alike s t same = record { flag = ap (λ f. nat_eq f 1) same.flag; next = same.next }

  pub alike-rows : (s t : ℕ) → s < states → t < states → Alike (deterministic states lists table flags) (class_at classes) s t
      → SameRows table flags lists classes s t
  alike-rows s t h k a =
      record { flag = flag_same (slice_index flags s) (slice_index flags t) (none-or-one _ (T.flag s h)) (none-or-one _ (T.flag t k)) a.flag; next = a.next }

  pub split-keyed : (keys : List ℕ) → Led states (class_at classes)
      → ((s : ℕ) → s < states → SplitKey table flags lists classes s (key_at keys s))
      → Keyed (deterministic states lists table flags) (class_at classes) 256 (key_at keys)
  split-keyed keys L split =
      record {
        below = λ s h. omega (arith, L.at_most s h, T.rows.most);
        at = λ s h. side s h (split s h);
      }
    where
      side : (s : ℕ) → s < states → SplitKey table flags lists classes s (key_at keys s)
          → ((key_at keys s ≡ class_at classes s)
          × Alike (deterministic states lists table flags) (class_at classes) (class_at classes s) s)
          ⊎ ((key_at keys s ≡ 256 + class_at classes s)
          × (¬ Alike (deterministic states lists table flags) (class_at classes) (class_at classes s) s))
      side s h (inl (e, same)) = inl (e, rows_alike (class_at classes s) s same)
      side s h (inr (e, differ)) =
          inr (e, λ a. differ (alike-rows (class_at classes s) s (omega (arith, L.at_most s h)) h a))

-- A state keeps its class exactly if its key is below 256.
pub key-keeps : {table flags : List ℕ} {lists : ℕ} {classes : List ℕ} {s r : ℕ} → SplitKey table flags lists classes s r → r < 256
    → SameRows table flags lists classes (class_at classes s) s
key-keeps (inl (e, same)) h = same
key-keeps (inr (e, differ)) h = absurd (omega arith)

pub key-leaves : {table flags : List ℕ} {lists : ℕ} {classes : List ℕ} {s r : ℕ} → SplitKey table flags lists classes s r
    → class_at classes s < 256 → 256 ≤ r → r ≡ 256 + class_at classes s
key-leaves (inl (e, same)) below h = absurd (omega arith)
key-leaves (inr (e, differ)) below h = e

-- Classes that are named by the first states with each key.
pub classed-led : {keys classes : List ℕ} {states : ℕ} → Classed keys states classes → Led states (class_at classes)
classed-led {keys} {classes} {states} C = led-agree (first-led states (key_at keys)) (λ q h. sym (C.at q h))

module _ {states lists : ℕ} {table flags : List ℕ} (T : StatesLent states lists table flags) where
  -- All states in one class.
  pub one_class : (classes : List ℕ) → ((s : ℕ) → s < states → class_at classes s ≡ 0)
      → Led states (class_at classes) × Coarse (deterministic states lists table flags) (class_at classes)
  one_class classes none = (
    led-agree {c = λ q. 0} (record { at_most = λ q h. omega arith; leads = λ q h. refl }) (λ q h. sym (none q h)),
    λ q r h k s. none q h ∙ sym (none r k),
  )

  -- The classes of states with one level.
  pub levels-class : {levels classes : List ℕ} → Levelled table flags lists states levels → Classed levels states classes
      → Coarse (deterministic states lists table flags) (class_at classes)
  levels-class {levels} F C =
      let D = deterministic states lists table flags in
      coarse-as D C.at (first-coarse D (level_at levels) (level-coarse (rows-complete flags T.rows) F.known F.settled))

  -- One split: its classes are coarse where those before were, and there are more of them where a state leaves its class.
  module _ {classes keys : List ℕ} {r : Bool} (S : SplitKeys table flags lists states classes keys r) where
    pub split-class : {classes' : List ℕ} → Coarse (deterministic states lists table flags) (class_at classes) → Classed keys states classes'
        → Coarse (deterministic states lists table flags) (class_at classes')
    split-class A C =
        let D = deterministic states lists table flags in
        coarse-as D C.at (first-coarse D (key_at keys) (split-coarse S.keyed (rows-complete flags T.rows) A))

    pub split-falls : {classes' : List ℕ} → r ≡ true → Led states (class_at classes) → Classed keys states classes'
        → states - leaders (class_at classes') states < states - leaders (class_at classes) states
    split-falls {classes'} f L C =
        let (s, h, e) = S.leaves f in
        omega (
          arith,
          split-more S.keyed L s h e,
          leaders-agree (class_at classes') (first_with (key_at keys)) states C.at,
          leaders-at-most (first_with (key_at keys)) states,
        )

-- Where each state is like the first of its class, the classes are those of states with the same continuations.
pub classes-refined : {states lists : ℕ} {table flags : List ℕ} → StatesLent states lists table flags → (classes' : List ℕ)
    → length classes' ≡ 256 → Led states (class_at classes') → Coarse (deterministic states lists table flags) (class_at classes')
    → ((s : ℕ) → s < states → Alike (deterministic states lists table flags) (class_at classes') (class_at classes' s) s)
    → Refined table flags lists states classes'
classes-refined {states} {lists} {table} {flags} T classes' e L A stays =
    record {
      sized = e;
      classed = classes-only D (take states classes') (length-take-le states classes' (omega (arith, e, T.rows.most))) C
          (led-agree L (λ q h. sym (same q h))) (coarse-as D same A) (stable-as C same (alike-stable stays));
    }
  where
    D : Deterministic
    D = deterministic states lists table flags

    C : Complete D
    C = rows-complete flags T.rows

    same : (q : ℕ) → q < states → class_at (take states classes') q ≡ class_at classes' q
    same q h = get_or-take states classes' q 0 h
