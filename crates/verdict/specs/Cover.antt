-- Cover places (document 01): a state alone, or a state with one label occurrence of one list. A place is the number width × state + offset,
-- where the width is 1 + all occurrences in all lists; offset 0 is the state alone, and the occurrences of the lists come after it, list by
-- list. A set of cover places is a number, as every set of places.
use Rattle.std.specs.Prelude.{ℕ, zero, suc, pred, ◌+◌, ◌-◌, ◌*◌, ◌/◌, ◌%◌, ◌^◌, true, false, List, [], ◌∷◌, length, ◌==◌, nat_le, slice_index}
use Rattle.theory.specs.Places.{member, none, one, union, intersection, when, union_over}
use Rattle.theory.specs.Automaton.{Automaton}
use Rattle.theory.specs.Closure.{closure}
use Rattle.finding.specs.Rewritten.{Rewritten, next_state}

-- The number of label occurrences of a list's automaton, which has one place more.
abbrev pub occurrences : Automaton → ℕ
occurrences B = pred (length B.follow)

-- The occurrences of all lists.
unfoldable pub all_occurrences : List Automaton → ℕ
all_occurrences [] = 0
all_occurrences (B ∷ l) = occurrences B + all_occurrences l

unfoldable pub width : List Automaton → ℕ
width lists = suc (all_occurrences lists)

-- The number of cover places.
unfoldable pub places : Rewritten → List Automaton → ℕ
places R lists = R.states * width lists

-- The offsets that a label enters from the start of each list, the first list's occurrences coming after the offset `base`.
unfoldable pub entered : List Automaton → ℕ → ℕ → ℕ
entered [] base a = none
entered (B ∷ l) base a =
    union (intersection (slice_index B.follow 0) (B.enter a) * 2 ^ base) (entered l (base + occurrences B) a)

-- The offsets that a label leads to from the occurrence at o, counted from the first list of those given.
unfoldable pub moved_within : List Automaton → ℕ → ℕ → ℕ → ℕ
moved_within [] base o a = none
moved_within (B ∷ l) base o a =
    elim (nat_le o (occurrences B)) [
      | true ↦ intersection (slice_index B.follow o) (B.enter a) * 2 ^ base
      | false ↦ moved_within l (base + occurrences B) (o - occurrences B) a
    ]

-- The cover places that a label leads to from a place.
unfoldable pub moves : List Automaton → ℕ → ℕ → ℕ
moves lists a p =
    let q = p / width lists in
    let o = p % width lists in
    elim (o == 0) [
      | true ↦ entered lists 0 a * 2 ^ (width lists * q)
      | false ↦ moved_within lists 0 o a * 2 ^ (width lists * q)
    ]

-- The states that the lists with the empty path lead to, from the list number v on.
unfoldable pub passed : Rewritten → ℕ → List Automaton → ℕ → ℕ → ℕ
passed R w [] v q = none
passed R w (B ∷ l) v q = union (when (member 0 B.accepting) (one (w * next_state R q v))) (passed R w l (suc v) q)

-- The state that is reached where a path of a list may end at its occurrence o.
unfoldable pub finished : Rewritten → ℕ → List Automaton → ℕ → ℕ → ℕ → ℕ
finished R w [] v o q = none
finished R w (B ∷ l) v o q =
    elim (nat_le o (occurrences B)) [
      | true ↦ when (member o B.accepting) (one (w * next_state R q v))
      | false ↦ finished R w l (suc v) (o - occurrences B) q
    ]

-- The cover places reached from a place without reading a label: a list ends, or one with the empty path is passed over.
unfoldable pub ends : Rewritten → List Automaton → ℕ → ℕ
ends R lists p =
    let q = p / width lists in
    let o = p % width lists in
    elim (o == 0) [ true ↦ passed R (width lists) lists 0 q | false ↦ finished R (width lists) lists 0 o q ]

-- A set of cover places with all that is reached from it without reading a label.
unfoldable pub settled : Rewritten → List Automaton → ℕ → ℕ
settled R lists C = closure (ends R lists) (places R lists) (places R lists) C

-- The cover places that the empty path reaches, and the step over a label.
unfoldable pub cover_start : Rewritten → List Automaton → ℕ
cover_start R lists = settled R lists (one 0)

unfoldable pub cover_step : Rewritten → List Automaton → ℕ → ℕ → ℕ
cover_step R lists C a = settled R lists (union_over (moves lists a) (places R lists) C)

-- The cover places whose state, alone, accepts: those of the states below n.
unfoldable pub yielding : Rewritten → ℕ → ℕ → ℕ
yielding R w zero = none
yielding R w (suc n) = union (yielding R w n) (when (slice_index R.flags n == 1) (one (w * n)))
