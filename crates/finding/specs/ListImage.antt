-- The image of a query standing under a list (document 001, section 2): the standings after the list's paths from it. Computed as the
-- closure of (standing, list place) under the labels; a node is the number width × standing + place, where the width is the number of the
-- list's places.
use Rattle.std.specs.Prelude.{ℕ, zero, suc, ◌*◌, ◌/◌, ◌%◌, ◌^◌, List, [], ◌∷◌, length, slice_index}
use Rattle.theory.specs.Places.{none, one, union, intersection, collect}
use Rattle.theory.specs.Automaton.{Automaton, accepts}
use Rattle.theory.specs.Closure.{closure}
use Rattle.finding.specs.Standings.{move}

abbrev pub width : Automaton → ℕ
width B = length B.follow

-- The nodes one label below k away from the standing i with the list place x.
unfoldable pub onwards : Automaton → List ℕ → Automaton → ℕ → ℕ → ℕ → ℕ
onwards A found B i x zero = none
onwards A found B i x (suc k) =
    union (onwards A found B i x k) (intersection (slice_index B.follow x) (B.enter k) * 2 ^ (width B * move A found i k))

unfoldable pub next_nodes : Automaton → List ℕ → ℕ → Automaton → ℕ → ℕ
next_nodes A found k B n = onwards A found B (n / width B) (n % width B) k

-- All nodes reached from the standing i and the start of the list.
unfoldable pub reached_nodes : Automaton → List ℕ → ℕ → Automaton → ℕ → ℕ
reached_nodes A found k B i =
    closure (next_nodes A found k B) (width B * length found) (width B * length found) (one (width B * i))

-- The list places reached together with the standing j.
unfoldable pub places_at : Automaton → ℕ → ℕ → ℕ
places_at B nodes j = nodes / 2 ^ (width B * j) % 2 ^ width B

-- The image of the standing i, as a set of standing numbers.
unfoldable pub image : Automaton → List ℕ → ℕ → Automaton → ℕ → ℕ
image A found k B i = let nodes = reached_nodes A found k B i in collect (λ j. accepts B (places_at B nodes j)) (length found)

-- The images of the standings from i on, n of them.
unfoldable pub images_from : Automaton → List ℕ → ℕ → Automaton → ℕ → ℕ → List ℕ
images_from A found k B zero i = []
images_from A found k B (suc n) i = image A found k B i ∷ images_from A found k B n (suc i)

-- For each list the images of all standings.
unfoldable pub image_table : Automaton → List ℕ → ℕ → List Automaton → List (List ℕ)
image_table A found k [] = []
image_table A found k (B ∷ l) = images_from A found k B (length found) 0 ∷ image_table A found k l
