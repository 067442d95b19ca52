-- What a recording has at a place among the triples of a table: a link that leaves it, with its label and its end, or none.
use Rattle.std.specs.Prelude.{◌≡◌, ℕ, ◌+◌, ◌*◌, ◌/◌, ◌<◌, ◌≤◌, Bool, true, false, ◌&&◌, Option, Some, None, length, ◌==◌, nat_lt, slice_index}
use borrow.Author.Tests.{lt-ltb, le-ltb, eq-eqb, ne_eqb}
use Rattle.theory.specs.Graph.{Table}
use Rattle.answering.specs.Links.{leaves}
use Rattle.answering.specs.declared.links.Link.{Link}

-- Whether the triple number i is there and leaves x.
abbrev pub leaves_at : Table → ℕ → ℕ → Bool
leaves_at t i x = nat_lt i (length t / 3) && leaves t i == x

-- A link, where there is one.
abbrev pub found : Bool → Link → Option Link
found true l = Some l
found false l = None

-- The link at the place i, where it leaves x.
unfoldable pub link_at : Table → ℕ → ℕ → Option Link
link_at t i x = found (leaves_at t i x) (record { at = i; label = slice_index t (3 * i + 1); end = slice_index t (3 * i + 2) })

-- The place after that of a triple; where no triple stands, there is none after it.
abbrev pub after : Bool → ℕ → ℕ
after true i = i + 1
after false i = i

unfoldable pub place_after : Table → ℕ → ℕ
place_after t i = after (nat_lt i (length t / 3)) i

module _ (t : Table) (i : ℕ) where
  pub place-next : i < length t / 3 → place_after t i ≡ i + 1
  unfolding place_after
  place-next h = rw (lt-ltb i (length t / 3) h)

  pub place_end : length t / 3 ≤ i → place_after t i ≡ i
  unfolding place_after
  place_end h = rw (le-ltb i (length t / 3) h)

  module _ (x : ℕ) where
    pub link-there : i < length t / 3 → leaves t i ≡ x
        → link_at t i x ≡ Some (record { at = i; label = slice_index t (3 * i + 1); end = slice_index t (3 * i + 2) })
    unfolding link_at
    link-there h e = rw (lt-ltb i (length t / 3) h, eq-eqb (leaves t i) x e)

    pub link-beyond : length t / 3 ≤ i → link_at t i x ≡ None
    unfolding link_at
    link-beyond h = rw (le-ltb i (length t / 3) h)

    pub link-other : i < length t / 3 → ¬ (leaves t i ≡ x) → link_at t i x ≡ None
    unfolding link_at
    link-other h d = rw (lt-ltb i (length t / 3) h, ne_eqb (leaves t i) x d)
