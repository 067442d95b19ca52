-- What the code that explores the standings promises: what the exploration tells, the standings found, and for each of them where each
-- label leads, in rows of 32.
use Rattle.std.specs.Prelude.{◌≡◌, ℕ, ◌+◌, ◌*◌, ◌<◌, ◌↔◌, List, length, take, slice_index, Option, Some, None}
use Rattle.std.specs.Prelude.{refl}
use Rattle.std.proofs.Common.{sym, ◌∙◌}
use Rattle.std.proofs.Math.Path.{ap, subst}
use Rattle.theory.specs.Exploration.{Entry, all, over}
use Rattle.theory.proofs.ExplorationSteps.{explore-none}
use Rattle.finding.specs.Standings.{standings, values, move}
use Rattle.finding.specs.Plain.{plain}
use Rattle.finding.specs.Exploring.{system, explored, AllFound, entries-same, not-both, not-all}
use Rattle.finding.specs.StandingsExploring.{standing_task, Alone, SweepTold}

-- With A the automaton of the plain data; its accepting places play no role here.
pub record StandingsTold (follow enter : List ℕ) (labels limit : ℕ) (r : Option ℕ) (found moves : List ℕ) : Type 0 where
  pub is_over : (r ≡ None) ↔ (standings (plain follow enter 0) labels limit ≡ over)
  pub count : (l : List (Entry ℕ)) → standings (plain follow enter 0) labels limit ≡ all l → r ≡ Some (length l)
  pub numbers : (l : List (Entry ℕ)) → standings (plain follow enter 0) labels limit ≡ all l → take (length l) found ≡ values l
  pub moved : (l : List (Entry ℕ)) → standings (plain follow enter 0) labels limit ≡ all l → (i a : ℕ) → i < length l → a < labels
      → slice_index moves (32 * i + a) ≡ move (plain follow enter 0) (values l) i a
  -- a label leads from a standing to a standing
  pub inside : (l : List (Entry ℕ)) → standings (plain follow enter 0) labels limit ≡ all l → (i a : ℕ) → i < length l → a < labels
      → move (plain follow enter 0) (values l) i a < length l

-- The whole exploration gives what is promised.

module _ (follow enter : List ℕ) (labels limit : ℕ) (found moves : List ℕ) where
  told_over : explored (standing_task follow enter labels limit) ≡ over → StandingsTold follow enter labels limit None found moves
  unfolding standings
  told_over e =
      record {
        is_over = (λ p. e, λ p. refl);
        count = λ l p. absurd (not-both (explored (standing_task follow enter labels limit)) l p e);
        numbers = λ l p. absurd (not-both (explored (standing_task follow enter labels limit)) l p e);
        moved = λ l p. absurd (not-both (explored (standing_task follow enter labels limit)) l p e);
        inside = λ l p. absurd (not-both (explored (standing_task follow enter labels limit)) l p e);
      }

  told-all : (n : ℕ) → AllFound (standing_task follow enter labels limit) Alone n found moves
      → StandingsTold follow enter labels limit (Some n) found moves
  unfolding standings move
  told-all n f =
      record {
        is_over = (
          λ p. absurd (not-all n p),
          λ p. absurd (not-both (explored (standing_task follow enter labels limit)) f.entries f.told p),
        );
        count = λ l p. ap Some (sym f.size ∙ ap length (same l p));
        numbers = λ l p. subst (λ m. take (length m) found ≡ values m) (same l p) f.numbers;
        moved = λ l p.
            subst (λ m. (i a : ℕ) → i < length m → a < labels → slice_index moves (32 * i + a) ≡ move (plain follow enter 0) (values m) i a)
            (same l p) f.moved;
        inside = λ l p.
            subst (λ m. (i a : ℕ) → i < length m → a < labels → move (plain follow enter 0) (values m) i a < length m) (same l p) f.inside;
      }
    where
      same : (l : List (Entry ℕ)) → explored (standing_task follow enter labels limit) ≡ all l → f.entries ≡ l
      same l p = entries-same (explored (standing_task follow enter labels limit)) f.entries l f.told p

  pub standings-told : (r : Option ℕ) → SweepTold (standing_task follow enter labels limit) r found moves
      → StandingsTold follow enter labels limit r found moves
  standings-told (Some n) f = told-all n f
  standings-told None e = told_over e

  pub standings-none : limit ≡ 0 → StandingsTold follow enter labels limit None found moves
  standings-none e = told_over (explore-none (system (standing_task follow enter labels limit)) limit e)
