-- Glushkov's automaton of an expression, executable: sets of places are numbers (Places), place 0 is the start and the occurrences are
-- numbered from 1. A standing (document 01) is a set of places.
use Rattle.std.specs.Prelude.{ℕ, suc, ◌+◌, ◌/◌, Bool, true, false, ◌||◌, ◌&&◌, not, List, [], ◌∷◌, ◌++◌, eqb}
use Rattle.theory.specs.Path.{Label, Path}
use Rattle.theory.specs.Expression.{Expression, empty, label, alternative, sequence, star, optional}
use Rattle.theory.specs.Standing.{size}
use Rattle.theory.specs.Places.{member, none, one, union, intersection, when}

-- The empty path is a path of the expression.
unfoldable pub nullable : Expression → Bool
nullable empty = true
nullable (label a) = false
nullable (alternative l r) = nullable l || nullable r
nullable (sequence l r) = nullable l && nullable r
nullable (star e) = true
nullable (optional e) = true

-- The occurrences that can be read first, the occurrences being numbered from k on.
unfoldable pub first : ℕ → Expression → ℕ
first k empty = none
first k (label a) = one k
first k (alternative l r) = union (first k l) (first (k + size l) r)
first k (sequence l r) = union (first k l) (when (nullable l) (first (k + size l) r))
first k (star e) = first k e
first k (optional e) = first k e

-- The occurrences that can be read last.
unfoldable pub last : ℕ → Expression → ℕ
last k empty = none
last k (label a) = one k
last k (alternative l r) = union (last k l) (last (k + size l) r)
last k (sequence l r) = union (when (nullable r) (last k l)) (last (k + size l) r)
last k (star e) = last k e
last k (optional e) = last k e

-- The follow sets of the occurrences from k on, with `more` added to those of the occurrences in `ends`.
unfoldable pub link : ℕ → ℕ → ℕ → List ℕ → List ℕ
link ends more k [] = []
link ends more k (s ∷ t) = union s (when (member k ends) more) ∷ link ends more (suc k) t

-- The follow set of each occurrence, in order: the occurrences that can be read right after it.
unfoldable pub follows : ℕ → Expression → List ℕ
follows k empty = []
follows k (label a) = none ∷ []
follows k (alternative l r) = follows k l ++ follows (k + size l) r
follows k (sequence l r) = link (last k l) (first (k + size l) r) k (follows k l) ++ follows (k + size l) r
follows k (star e) = link (last k e) (first k e) k (follows k e)
follows k (optional e) = follows k e

-- The occurrences that read the label a.
unfoldable pub labelled : ℕ → Expression → Label → ℕ
labelled k empty a = none
labelled k (label b) a = when (eqb a b) (one k)
labelled k (alternative l r) a = union (labelled k l a) (labelled (k + size l) r a)
labelled k (sequence l r) a = union (labelled k l a) (labelled (k + size l) r a)
labelled k (star e) a = labelled k e a
labelled k (optional e) a = labelled k e a

-- An automaton over sets of places: for each place the places that can come next, for each label the places that it may enter, and the
-- accepting places.
pub record Automaton : Type 0 where
  pub follow : List ℕ
  pub enter : Label → ℕ
  pub accepting : ℕ

unfoldable pub glushkov : Expression → Automaton
glushkov e =
    record {
      follow = first 1 e ∷ follows 1 e;
      enter = labelled 1 e;
      accepting = union (when (nullable e) (one 0)) (last 1 e);
    }

-- The union of the table's entries at the places of s.
unfoldable pub nexts : ℕ → List ℕ → ℕ
nexts s [] = none
nexts s (f ∷ t) = union (when (member 0 s) f) (nexts (s / 2) t)

-- The step of a standing over a label.
unfoldable pub step : Automaton → ℕ → Label → ℕ
step A s a = intersection (nexts s A.follow) (A.enter a)

-- The standing that a path leads to from the standing s.
unfoldable pub standing_from : Automaton → ℕ → Path → ℕ
standing_from A s [] = s
standing_from A s (a ∷ p) = standing_from A (step A s a) p

-- The standing after a path.
unfoldable pub standing : Automaton → Path → ℕ
standing A p = standing_from A (one 0) p

-- A standing accepts: it holds an accepting place.
unfoldable pub accepts : Automaton → ℕ → Bool
accepts A s = not (eqb (intersection s A.accepting) none)
