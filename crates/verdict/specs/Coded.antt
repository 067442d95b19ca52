-- How pairs stand in the workspace: with the cover set as it is, or turned (Turned).
use Rattle.std.specs.Prelude.{◌≡◌, ℕ, zero, suc, ◌<◌, Bool, true, false, List, slice_index}
use Rattle.verdict.specs.Pairs.{Pair}
use Rattle.verdict.specs.Turned.{Turned}

-- How cover sets stand: as they are, or turned by w offsets, k columns and the column of each offset.
pub data Layout : Type 0 where
  plain : Layout
  turned : (w k : ℕ) (f : ℕ → ℕ) → Layout

-- The layout with so many columns, as they are where there are none: each offset has its own column, or that of its class.
abbrev pub layout_of : (w k : ℕ) → Bool → List ℕ → Layout
layout_of w zero by classes = plain
layout_of w (suc k) false classes = turned w (suc k) (λ o. o)
layout_of w (suc k) true classes = turned w (suc k) (λ o. slice_index classes o)

-- Sets of the layout stand as they are where c is 0, else turned; their width is w.
abbrev pub Sided : ℕ → ℕ → Layout → Type 0
Sided c w plain = c ≡ 0
Sided c w (turned x k f) = (0 < c) × (x ≡ w)

-- The cover set C stands as D, for n states.
abbrev pub StandsAs : (L : Layout) (n C D : ℕ) → Type 0
StandsAs plain n C D = C ≡ D
StandsAs (turned w k f) n C D = Turned w k f n C D

pub record Coded (L : Layout) (n : ℕ) (x y : Pair) : Type 0 where
  pub standing : x.standing ≡ y.standing
  pub cover : StandsAs L n x.cover y.cover
