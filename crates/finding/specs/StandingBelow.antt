-- A standing is followed through the places that a table has entries for: the others lead nowhere.
use Rattle.std.specs.Prelude.{◌≡◌, ℕ, ◌%◌, ◌^◌, List, length}
use Rattle.theory.specs.Automaton.{nexts}
use Rattle.theory.proofs.AutomatonLaws.{member-nexts}
use Rattle.theory.specs.PlacesLaws.{equal-members}
use Rattle.theory.specs.PlacesShift.{member-cut}

pub nexts-below : (s : ℕ) (t : List ℕ) → nexts (s % 2 ^ length t) t ≡ nexts s t
nexts-below s t = equal-members (nexts (s % 2 ^ length t) t) (nexts s t) λ y. (
  λ m.
      let (x, l, a, b) = (member-nexts (s % 2 ^ length t) t y).0 m in
      (member-nexts s t y).1 (x, l, ((member-cut (length t) x s).0 a).1, b),
  λ m.
      let (x, l, a, b) = (member-nexts s t y).0 m in
      (member-nexts (s % 2 ^ length t) t y).1 (x, l, (member-cut (length t) x s).1 (l, a), b),
)
