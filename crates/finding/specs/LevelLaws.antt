-- What the code that looks for levels keeps: levels that are known stay known as the flags, and then the next states, tell more.
use Rattle.std.specs.Prelude.{◌≡◌, ℕ, ◌+◌, ◌*◌, ◌<◌, ◌≤◌, true, false, List, [], length, slice_index, slice_set, min}
use Rattle.std.proofs.Common.{true≢false, ap, sym, ◌∙◌, arith, eqb-true, eq-eqb, ne_eqb, length-set, get_or-set_same, get_or-set_other}
use Rattle.std.specs.Prelude.{refl}
use Rattle.std.proofs.Math.Decide.{ℕ_discrete, dec_lt}
use Rattle.theory.specs.Path.{nothing}
use Rattle.theory.specs.Deterministic.{run}
use Rattle.theory.specs.Level.{Continued, Known, known-lowered}
use Rattle.finding.specs.Find.{deterministic}
use Rattle.finding.specs.LevelTold.{most_level, level_at, flag_level, FlagLevels, LeastNext, Lowered}

pub flag_one : (f : ℕ) → f ≡ 1 → flag_level f ≡ 0
unfolding flag_level
flag_one f e = ap flag_level e

pub flag-other : (f : ℕ) → ¬ (f ≡ 1) → flag_level f ≡ most_level
unfolding flag_level
flag-other f d = rw (ne_eqb f 1 d, flag_level)

-- What the flags tell is known.
pub flags-known : (table : List ℕ) (lists : ℕ) {flags levels : List ℕ} {states : ℕ} → FlagLevels flags states levels
    → Known (deterministic states lists table flags) most_level (level_at levels)
unfolding run
flags-known table lists {flags} {levels} {states} F =
    record {
      within = λ q h. bound q h (ℕ_discrete (slice_index flags q) 1);
      flagged = λ q h t. F.at q h ∙ flag_one _ (eqb-true (slice_index flags q) 1 t);
      continued = λ q h l. empty q h l (ℕ_discrete (slice_index flags q) 1);
    }
  where
    bound : (q : ℕ) → q < states → Dec (slice_index flags q ≡ 1) → level_at levels q ≤ most_level
    bound q h (yes e) = omega (arith, F.at q h, flag_one _ e)
    bound q h (no d) = omega (arith, F.at q h, flag-other _ d)

    empty : (q : ℕ) → q < states → level_at levels q < most_level → Dec (slice_index flags q ≡ 1)
        → Continued (deterministic states lists table flags) q (level_at levels q)
    empty q h l (yes e) =
        record { word = []; below = nothing; long = sym (F.at q h ∙ flag_one _ e); accepted = eq-eqb (slice_index flags q) 1 e }
    empty q h l (no d) = absurd (omega (arith, F.at q h, flag-other _ d))

-- The least level of the next states for the lists below v, for no list and for one list more.
pub least-none : (table : List ℕ) (s : ℕ) (levels : List ℕ) → LeastNext table 0 s levels most_level
least-none table s levels =
    record { within = omega arith; least = λ v h. absurd (omega arith); of-list = λ h. absurd (omega arith) }

pub least_more : {table : List ℕ} {v s : ℕ} {levels : List ℕ} {r r' : ℕ} → LeastNext table v s levels r
    → r' ≡ min (level_at levels (slice_index table (16 * s + v))) r → LeastNext table (v + 1) s levels r'
least_more {table} {v} {s} {levels} {r} {r'} L e =
    record {
      within = omega (arith, L.within);
      least = λ u h. side u h (ℕ_discrete u v);
      of-list = λ h. came h (dec_lt r' r);
    }
  where
    side : (u : ℕ) → u < v + 1 → Dec (u ≡ v) → r' ≤ level_at levels (slice_index table (16 * s + u))
    side u h (yes f) = rw f (omega arith)
    side u h (no f) = omega (arith, L.least u (omega arith))

    came : r' < most_level → Dec (r' < r) → (u : ℕ) × (u < v + 1) × (level_at levels (slice_index table (16 * s + u)) ≡ r')
    came h (yes k) = (v, omega arith, omega arith)
    came h (no k) = let (u, below, f) = L.of-list (omega arith) in (u, omega arith, omega arith)

-- The level of s falls below what it was.
pub level-falls : {table : List ℕ} {lists s : ℕ} {levels : List ℕ} {r : ℕ} → length levels ≡ 256 → s < 256
    → LeastNext table lists s levels r → r + 1 < level_at levels s → Lowered table lists s levels (slice_set levels s (r + 1)) true
level-falls {table} {lists} {s} {levels} {r} e h L l =
    record {
      sized = length-set levels s (r + 1) ∙ e;
      known = λ states flags k inside K. keep states flags k inside K (L.of-list (omega (arith, K.within s k)));
      still = λ f. absurd (true≢false f);
      settled = λ f. absurd (true≢false f);
    }
  where
    here : level_at (slice_set levels s (r + 1)) s ≡ r + 1
    here = get_or-set_same levels s (r + 1) 0 (omega (arith, e))

    keep : (states : ℕ) (flags : List ℕ) → s < states
        → ((q v : ℕ) → q < states → v < lists → slice_index table (16 * q + v) < states)
        → Known (deterministic states lists table flags) most_level (level_at levels)
        → (v : ℕ) × (v < lists) × (level_at levels (slice_index table (16 * s + v)) ≡ r)
        → Known (deterministic states lists table flags) most_level (level_at (slice_set levels s (r + 1)))
    keep states flags k inside K (v, a, b) =
        known-lowered (deterministic states lists table flags) K k a (inside s v k a) (omega (arith, here, b)) (omega (arith, here))
        (λ q d. get_or-set_other levels s q (r + 1) 0 d)

-- The level of s stays.
pub level-stays : {table : List ℕ} {lists s : ℕ} {levels : List ℕ} {r : ℕ} → length levels ≡ 256
    → LeastNext table lists s levels r → level_at levels s ≤ r + 1 → Lowered table lists s levels levels false
level-stays e L l =
    record {
      sized = e;
      known = λ states flags k inside K. K;
      still = λ f. refl;
      settled = λ f v h. omega (arith, L.least v h);
    }
