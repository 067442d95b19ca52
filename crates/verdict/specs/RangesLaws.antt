-- What a step by ranges asks (Ranges), where the tables are ready and the states that are reached from each state are told; and where the
-- places after it lie.
use Rattle.std.specs.Prelude.{◌≡◌, ℕ, suc, ◌+◌, ◌*◌, ◌^◌, ◌<◌, ◌≤◌, List, length, slice_index}
use Rattle.std.proofs.Common.{inl, inr, subst, mul_comm, arith}
use Rattle.theory.specs.PlacesLaws.{members-below}
use Rattle.theory.specs.Closure.{here}
use Rattle.theory.specs.ClosureLaws.{reaches-trans}
use Rattle.verdict.specs.Tables.{occupied, Ready}
use Rattle.verdict.specs.Columns.{Leading, NextBelow, Passing}
use Rattle.verdict.specs.ColumnOffsets.{occupied-room}
use Rattle.verdict.specs.CoverPlaces.{split_below}
use Rattle.verdict.specs.Ranges.{Leads, Closing, RangesReady, StepNew, RangesStepped}

pub passing-closing : (states n : ℕ) (accepting table reached : List ℕ) → Passing 4 states n accepting table reached
    → 4 * states ≤ length reached → states ≤ 1024 → Closing states reached
passing-closing states n accepting table reached r room few =
    record {
      own = λ q h. (r.exact q q h).1 here;
      onward = λ q t u h k l.
          (r.exact q u h).1 (reaches-trans ((r.exact q t h).0 k) ((r.exact t u (r.within q t h k)).0 l));
      within = r.within;
      room = room;
      few = few;
    }

pub ranges-ready : (states n : ℕ) (follow enter sizes accepting table : List ℕ) (w : ℕ) (before reached : List ℕ)
    → Ready states n follow enter sizes accepting table w → 0 < states → states ≤ 1024 → Leading n follow sizes before → 64 * n ≤ length before
    → NextBelow states n table → Passing 4 states n accepting table reached
    → 4 * states ≤ length reached → RangesReady states n enter sizes accepting before reached table
ranges-ready states n follow enter sizes accepting table w before reached ready some few leading before-room next r room =
    let wide : w ≡ occupied sizes 0 n + 1 = omega (arith, ready.wide) in
    record {
      counted = ready.counted;
      enter-room = ready.enter-room;
      accepting-room = ready.accepting-room;
      before-room = before-room;
      table-room = ready.table-room;
      some = some;
      few-places = subst (λ z. states * z ≤ 1024) wide ready.few-places;
      places = leading.within;
      closing = passing-closing states n accepting table reached r room few;
      next = next;
    }

-- The places after the step are those of the occurrences and of the states alone.
pub ranges-below : (states n a : ℕ) (enter sizes accepting before reached table : List ℕ) (s r w : ℕ) → w ≡ suc (occupied sizes 0 n)
    → ((q t : ℕ) → q < states → Leads reached q t → t < states) → NextBelow states n table
    → RangesStepped states n a enter sizes accepting before reached table s r → r < 2 ^ (states * w)
ranges-below states n a enter sizes accepting before reached table s r w wide within next stepped =
    members-below (states * w) r λ i m. side i ((stepped.exact i).0 m)
  where
    side : (i : ℕ) → StepNew states a n enter sizes accepting before reached table s i → i < states * w
    side i (v, h, (p, some, small, enters, inl (q, k, c, e))) =
        omega (
          arith,
          mul_comm states w,
          split_below states w (occupied sizes 0 v + p) q k (omega (arith, wide, occupied-room sizes v n h)),
        )
    side i (v, h, (p, some, small, enters, inr (f, (q, k, c, l)))) =
        omega (
          arith,
          mul_comm states w,
          split_below states w 0 i (within (slice_index table (16 * q + v)) i (next q v k h) l) (omega (arith, wide)),
        )
