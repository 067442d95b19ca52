-- A numbering of an automaton's standings over k labels: the places of a list that begins with the start, has no duplicates and is closed
-- under the labels. What an exploration of the standings finds is one.
use Rattle.std.specs.Prelude.{◌≡◌, ℕ, ◌<◌, List, [], ◌∷◌, length, slice_index}
use Rattle.std.specs.Prelude.{refl}
use Rattle.std.proofs.Common.{◌∙◌}
use Rattle.std.proofs.Math.Path.{ap}
use Rattle.theory.specs.Path.{Path, Below, nothing, next}
use Rattle.theory.specs.Places.{one}
use Rattle.theory.specs.Automaton.{Automaton, step, standing_from, standing}
use Rattle.theory.specs.Exploration.{Entry, all}
use Rattle.theory.specs.Explored.{Explored}
use Rattle.finding.specs.Standings.{standing_system, standings, values, move}
use Rattle.finding.specs.StandingsLaws.{standings-explored}
use Rattle.finding.specs.Numbers.{NoDuplicates, values-distinct, values-start, step-place}

pub record Numbering (A : Automaton) (k : ℕ) (found : List ℕ) : Type 0 where
  -- number 0 is the start
  pub start : (0 < length found) × (slice_index found 0 ≡ one 0)
  pub distinct : NoDuplicates found
  -- a label moves to the number of the next standing
  pub moves : (i a : ℕ) → i < length found → a < k
      → (move A found i a < length found) × (slice_index found (move A found i a) ≡ step A (slice_index found i) a)

pub explored-numbering : (A : Automaton) (k : ℕ) (l : List (Entry ℕ)) → Explored (standing_system A k) l → Numbering A k (values l)
unfolding move
explored-numbering A k l x =
    record {
      start = values-start x;
      distinct = values-distinct x;
      moves = λ i a h b. step-place x i a (step A (slice_index (values l) i) a) h b refl;
    }

pub standings-numbering : (A : Automaton) (k limit : ℕ) (l : List (Entry ℕ)) → standings A k limit ≡ all l → Numbering A k (values l)
standings-numbering A k limit l e = explored-numbering A k l (standings-explored A k limit l e)

module _ {A : Automaton} {k : ℕ} {found : List ℕ} (N : Numbering A k found) where
  -- A path leads from one number to another.
  pub standing-onward : (i : ℕ) (p : Path) → i < length found → Below k p
      → (j : ℕ) × (j < length found) × (slice_index found j ≡ standing_from A (slice_index found i) p)
  unfolding standing_from
  standing-onward i [] h nothing = (i, h, refl)
  standing-onward i (a ∷ p) h (next b c) =
      let (g, e) = N.moves i a h b in
      let (j, f, d) = standing-onward (move A found i a) p g c in
      (j, f, d ∙ ap (λ s. standing_from A s p) e)

  -- Every standing has a number.
  pub standing-number : (p : Path) → Below k p → (j : ℕ) × (j < length found) × (slice_index found j ≡ standing A p)
  unfolding standing
  standing-number p b =
      let (j, h, e) = standing-onward 0 p N.start.0 b in
      (j, h, e ∙ ap (λ s. standing_from A s p) N.start.1)
