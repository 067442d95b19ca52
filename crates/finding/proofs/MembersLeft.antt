-- A loop over the members of a set (places: Members), of which those of `rest` are left.
use Rattle.std.specs.Prelude.{◌≡◌, ℕ, ◌-◌, ◌^◌, ◌<◌, ◌≢◌, ◌⊎◌, ◌↔◌, bit_and}
use Rattle.std.proofs.Common.{arith}
use Rattle.std.specs.Int.Count.{count_trailing_zeros}
use lib.Bits.{and_le_r}
use Rattle.theory.specs.Places.{Member}
use Rattle.theory.specs.PlacesLaws.{member_below}
use Rattle.places.specs.NextPlace.{trailing-here}
use Rattle.places.specs.Followed.{Passed, passed-turn, rest-within}

pub record MembersLeft (whole rest : ℕ) : Type 0 where
  pub small : rest < 2 ^ 64
  pub within : (i : ℕ) → Member i rest → Member i whole

-- At the beginning all are.
pub members-all : {whole rest : ℕ} → whole < 2 ^ 64 → rest ≡ whole → MembersLeft whole rest
members-all h e = rw e (record { small = h; within = λ i m. m })

-- A turn takes the member s.
module _ {whole rest s left : ℕ} (M : MembersLeft whole rest)
    (step : (rest ≢ 0) × (s ≡ count_trailing_zeros 64 rest) × (left ≡ bit_and rest (rest - 1))) where
  pub members-on : MembersLeft whole left
  members-on =
      rw step.2 (record {
        small = omega (arith, M.small, and_le_r rest (rest - 1));
        within = rest-within whole rest M.within step.0 M.small;
      })

  pub member-here : Member s whole
  member-here = rw step.1 (M.within _ (trailing-here 64 rest step.0 M.small))

  pub member-small : s < 64
  member-small = rw step.1 (member_below 64 rest (count_trailing_zeros 64 rest) M.small (trailing-here 64 rest step.0 M.small))

  pub member-turn : (x : ℕ) → Passed whole left x ↔ (Passed whole rest x ⊎ (x ≡ s))
  member-turn x = rw (step.1, step.2) (passed-turn whole rest M.within step.0 M.small x)
