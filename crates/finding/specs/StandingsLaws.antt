-- The standings of a query over k labels (Standings): exploration meets the meaning of standings. The limit is exceeded exactly where
-- there are more standings than it, and where it is not, there are exactly as many standings as were found.
use Rattle.std.specs.Prelude.{◌≡◌, ℕ, suc, ◌↔◌, List, [], ◌∷◌, length, slice_index_or}
use Rattle.std.proofs.Math.Logic.Iff
use Rattle.std.proofs.Math.Option.{some}
use Rattle.std.specs.Prelude.{refl}
use Rattle.std.proofs.Common.{eqb-true, eq-eqb}
use Rattle.theory.specs.Path.{Path}
use Rattle.theory.specs.Expression.{Expression}
use Rattle.theory.specs.Places.{one}
use Rattle.theory.specs.Automaton.{Automaton, glushkov, step, standing_from, standing}
use Rattle.theory.proofs.Glushkov.{glushkov-same}
use Rattle.theory.specs.Exploration.{Entry, all, over, run}
use Rattle.theory.specs.Explored.{Tests, Explored}
use Rattle.theory.proofs.ExplorationLaws.{explored, over-exactly}
use Rattle.theory.specs.DistinctWords.{DistinctWords, explored-counts, exceeds-exactly}
use Rattle.finding.specs.Standings.{standing_system, standings}
use Rattle.finding.specs.Finds.{DistinctStandings, CountsStandings}

pub standing-tests : (A : Automaton) (k : ℕ) → Tests (standing_system A k)
standing-tests A k = record { sound = eqb-true; complete = λ s. eq-eqb s s refl }

-- The system runs to the standing.
pub standing-run-from : (A : Automaton) (k s : ℕ) (p : Path) → run (standing_system A k) s p ≡ some (standing_from A s p)
unfolding run standing_from
standing-run-from A k s [] = refl
standing-run-from A k s (a ∷ p) = standing-run-from A k (step A s a) p

pub standing-run : (A : Automaton) (k : ℕ) (p : Path) → run (standing_system A k) (one 0) p ≡ some (standing A p)
unfolding standing
standing-run A k p = standing-run-from A k (one 0) p

-- Different standings are different numbers.
distinct-standings : (q : Expression) (k n : ℕ)
    → DistinctWords (λ p r. standing (glushkov q) p ≡ standing (glushkov q) r) k n ↔ DistinctStandings q k n
distinct-standings q k n = (
  λ d. record {
    paths = d.words;
    count = d.count;
    below = d.below;
    distinct = λ i j h l s. d.distinct i j h l ((glushkov-same q (slice_index_or d.words i []) (slice_index_or d.words j [])).0 s);
  },
  λ d. record {
    words = d.paths;
    count = d.count;
    below = d.below;
    distinct = λ i j h l s. d.distinct i j h l ((glushkov-same q (slice_index_or d.paths i []) (slice_index_or d.paths j [])).1 s);
  },
)

-- There are more standings than the limit exactly where there are paths that show it.
pub standings-over : (q : Expression) (k limit : ℕ) → (standings (glushkov q) k limit ≡ over) ↔ DistinctStandings q k (suc limit)
unfolding standings
standings-over q k limit =
    Iff.trans (over-exactly (standing-tests (glushkov q) k))
    (Iff.trans (exceeds-exactly (standing_system (glushkov q) k) (standing (glushkov q)) (standing-run (glushkov q) k) limit)
    (distinct-standings q k (suc limit)))

pub standings-explored : (A : Automaton) (k limit : ℕ) (l : List (Entry ℕ)) → standings A k limit ≡ all l → Explored (standing_system A k) l
unfolding standings
standings-explored A k limit l e = (explored (standing-tests A k) l e).0

-- There are exactly as many standings as were found.
pub counts-standings : (q : Expression) (k : ℕ) (l : List (Entry ℕ)) → Explored (standing_system (glushkov q) k) l
    → CountsStandings q k (length l)
unfolding distinct-standings
counts-standings q k l x =
    let c = explored-counts (standing_system (glushkov q) k) (standing (glushkov q)) (standing-run (glushkov q) k) x in
    record {
      some = (distinct-standings q k (length l)).0 c.some;
      all = λ p b. let (i, h, e) = c.all p b in (i, h, (glushkov-same q p (slice_index_or c.some.words i [])).1 e);
    }

pub standings-all : (q : Expression) (k limit : ℕ) (l : List (Entry ℕ)) → standings (glushkov q) k limit ≡ all l
    → CountsStandings q k (length l)
standings-all q k limit l e = counts-standings q k l (standings-explored (glushkov q) k limit l e)
