-- The table of an explored rewriting (Find), before states are merged: each state has a row and a flag, a next state for each list, and
-- zeros behind the lists.
use Rattle.std.specs.Prelude.{◌≡◌, ℕ, ◌+◌, ◌*◌, ◌<◌, ◌≤◌, ◌⊎◌, List, length, slice_index}
use Rattle.std.specs.Prelude.{refl}
use Rattle.std.proofs.Common.{◌∙◌, subst, arith}
use Rattle.std.proofs.lemmas.List.{length-map}
use Rattle.theory.specs.Automaton.{Automaton}
use Rattle.theory.specs.Exploration.{Entry}
use Rattle.theory.specs.Explored.{Explored}
use Rattle.finding.specs.Standings.{values}
use Rattle.finding.specs.ListImage.{image_table}
use Rattle.finding.specs.ImageTable.{length-image_table}
use Rattle.finding.specs.States.{state_step, state_system, state_accepts, accepting_standings}
use Rattle.finding.specs.StatesLaws.{states-explored}
use Rattle.finding.specs.Find.{Rewriting, found, flag, row_width, explore_automata}
use Rattle.finding.specs.FindStates.{rewriting}
use Rattle.finding.specs.FindLaws.{Course, course, standings-exceeded, states-exceeded, answered}
use Rattle.finding.specs.Numbers.{length-values, values-start, step-place}
use Rattle.finding.specs.Table.{length-rows, rows-used, rows-unused, flag-value, get_or-flags}

pub record Tabled (lists : ℕ) (R : Rewriting) : Type 0 where
  pub some : 0 < R.states
  pub rows : length R.table ≡ row_width * R.states
  pub next : (s v : ℕ) → s < R.states → v < lists → slice_index R.table (row_width * s + v) < R.states
  pub unused : (s v : ℕ) → s < R.states → lists ≤ v → v < row_width → slice_index R.table (row_width * s + v) ≡ 0
  pub flag-count : length R.flags ≡ R.states
  pub flag-value : (s : ℕ) → s < R.states → (slice_index R.flags s ≡ 0) ⊎ (slice_index R.flags s ≡ 1)

module _ (images : List (List ℕ)) (m accepting : ℕ) (l : List (Entry ℕ)) (x : Explored (state_system images m) l)
    (fits : length images ≤ row_width) where
  rewriting-tabled : Tabled (length images) (rewriting images m accepting l)
  rewriting-tabled =
      record {
        some = omega (arith, (values-start x).0, length-values l);
        rows = omega (arith, length-rows images m (values l) fits (values l), length-values l);
        next = λ s v h k.
            rw (rows-used images m (values l) fits (values l) s v (omega (arith, length-values l)) k)
            (omega (arith, (step-place x s v (state_step images m (slice_index (values l) s) v) (omega (arith, length-values l)) k refl).0, length-values l));
        unused = λ s v h k b. rows-unused images m (values l) fits (values l) s v (omega (arith, length-values l)) k b;
        flag-count = length-map (values l) (λ X. flag (state_accepts accepting X)) ∙ length-values l;
        flag-value = λ s h.
            rw (get_or-flags accepting (values l) s (omega (arith, length-values l))) (flag-value (state_accepts accepting (slice_index (values l) s)));
      }

pub explored-tabled : (A : Automaton) (k : ℕ) (lists : List Automaton) (most_a most_b : ℕ) (R : Rewriting)
    → explore_automata A k lists most_a most_b ≡ found R → length lists ≤ row_width → Tabled (length lists) R
explored-tabled A k lists most_a most_b R h fits = side (course A k lists most_a most_b)
  where
    side : Course A k lists most_a most_b → Tabled (length lists) R
    side (standings-exceeded e u f) = absurd (let z : ◌≡◌ {A = ℕ} 0 1 = cc in omega arith)
    side (states-exceeded l e g u f) = absurd (let z : ◌≡◌ {A = ℕ} 0 1 = cc in omega arith)
    side (answered l r e g u f) =
        let images = image_table A (values l) k lists in
        let same : rewriting images (length (values l)) (accepting_standings A (values l)) r ≡ R = cc in
        let size : length images ≡ length lists = length-image_table A (values l) k lists in
        subst (λ n. Tabled n R) size
        (subst (Tabled (length images)) same
        (rewriting-tabled images (length (values l)) (accepting_standings A (values l)) r
        (states-explored images (length (values l)) most_b r g) (omega (arith, size))))
