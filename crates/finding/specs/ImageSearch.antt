-- The search for the images of the standings, on plain data: which (standing, list place) a label leads to, and what the image of a
-- standing is.
use Rattle.std.specs.Prelude.{◌≡◌, ℕ, ◌+◌, ◌*◌, ◌<◌, ◌≤◌, ◌↔◌, List, length, slice_index}
use Rattle.theory.specs.Places.{Member, intersection}
use Rattle.theory.specs.Closure.{Reaches}

-- The tables that the search reads: the standings' moves in rows of 32, with how many standings and labels there are, and the list's
-- follow sets and entered places.
pub record Tables : Type 0 where
  pub moves : List ℕ
  pub count : ℕ
  pub labels : ℕ
  pub follow : List ℕ
  pub enter : List ℕ

abbrev pub tables : List ℕ → ℕ → ℕ → List ℕ → List ℕ → Tables
tables moves count labels follow enter = record { moves = moves; count = count; labels = labels; follow = follow; enter = enter }

-- What the code has room for.
pub record Fitting (D : Tables) : Type 0 where
  pub standings : D.count ≤ 64
  pub row : D.labels ≤ 32
  pub enters : D.labels ≤ length D.enter
  pub places : length D.follow ≤ 64

abbrev pub move_to : Tables → ℕ → ℕ → ℕ
move_to D j a = slice_index D.moves (32 * j + a)

-- A label leads from a standing with a list place to another, below the count.
pub record Onward (D : Tables) (u v : ℕ × ℕ) : Type 0 where
  pub label : ℕ
  pub below : label < D.labels
  pub moved : v.0 ≡ move_to D u.0 label
  pub inside : v.0 < D.count
  pub enters : Member v.1 (intersection (slice_index D.follow u.1) (slice_index D.enter label))

-- The image of the standing i, as a set of standings: those reached together with an accepting place.
pub record ImageOf (D : Tables) (accepting i r : ℕ) : Type 0 where
  pub exactly : (j : ℕ) → Member j r ↔ ((j < D.count) × (y : ℕ) × Member y accepting × Reaches (Onward D) (i, 0) (j, y))
