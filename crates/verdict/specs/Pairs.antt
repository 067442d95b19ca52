-- Pairs (document 01): of a path over the job's labels, its query standing with the set of cover places that it reaches; by exploration.
use Rattle.std.specs.Prelude.{ℕ, Bool, true, false, ◌&&◌, List, [], ◌∷◌, reverse, ◌==◌}
use Rattle.std.proofs.Math.Option.{Option, some, none}
use Rattle.theory.specs.Path.{Path}
use Rattle.theory.specs.Places.{one, intersection}
use Rattle.theory.specs.Automaton.{Automaton, step, accepts}
use Rattle.theory.specs.Exploration.{System, Entry, Exploration, explore}
use Rattle.finding.specs.Rewritten.{Rewritten}
use Rattle.verdict.specs.Cover.{width, cover_start, cover_step, yielding}

pub record Pair : Type 0 where
  pub standing : ℕ
  pub cover : ℕ

unfoldable pub same_pair : Pair → Pair → Bool
same_pair x y = x.standing == y.standing && x.cover == y.cover

-- The pairs of the query's automaton A over the labels below k.
abbrev pub pair_system : Automaton → ℕ → Rewritten → List Automaton → System Pair
pair_system A k R lists =
    record {
      same = same_pair;
      start = record { standing = one 0; cover = cover_start R lists };
      step = λ x a. some (record { standing = step A x.standing a; cover = cover_step R lists x.cover a });
      symbols = k;
    }

unfoldable pub pairs : Automaton → ℕ → Rewritten → List Automaton → ℕ → Exploration Pair
pairs A k R lists allowance = explore (pair_system A k R lists) allowance

-- The paths of the pair are query paths, and none of them is yielded.
unfoldable pub misses : Automaton → Rewritten → List Automaton → Pair → Bool
misses A R lists x =
    accepts A x.standing && intersection x.cover (yielding R (width lists) R.states) == 0

-- The path of the first pair whose paths are missed.
unfoldable pub first_missed : Automaton → Rewritten → List Automaton → List (Entry Pair) → Option Path
first_missed A R lists [] = none
first_missed A R lists (e ∷ l) =
    elim (misses A R lists e.value) [ true ↦ some (reverse e.trail) | false ↦ first_missed A R lists l ]
