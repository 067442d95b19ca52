-- Whether there are few enough cover places, told from the width (VerdictTold, Placed).
use Rattle.std.specs.Prelude.{ℕ, suc, ◌*◌, ◌<◌, ◌≤◌, List}
use Rattle.std.proofs.Common.{ap, mul-le-mul_left, mul-one, arith}
use Rattle.verdict.specs.Tables.{occupied, Counted}
use Rattle.verdict.specs.CoverTold.{WidthTold}
use Rattle.verdict.specs.VerdictTold.{Placed}

module _ (states n : ℕ) (sizes : List ℕ) (most : ℕ) where
  pub placed-not : ((c : Counted n sizes) → most ≤ 1024 → most < states * suc (occupied sizes 0 n)) → Placed states n sizes most 0
  placed-not h =
      record {
        counted = λ k. absurd (omega arith);
        wide = λ k. absurd (omega arith);
        few = λ k. absurd (omega arith);
        many = λ c m e. h c m;
      }

  pub placed-few : (w : ℕ) → WidthTold n sizes w → 0 < w → most ≤ 1024 → states * w ≤ most → Placed states n sizes most w
  placed-few w t h m f =
      record { counted = t.counted; wide = t.exact; few = λ k. (f, m); many = λ c x e. absurd (omega arith) }

  -- Every state has a place.
  pub many-states : most < states → (w : ℕ) → 0 < w → most < states * w
  many-states h w some = omega (arith, mul-le-mul_left states some, mul-one states)

  pub many-places : (w : ℕ) → WidthTold n sizes w → Counted n sizes → most < states * w → most < states * suc (occupied sizes 0 n)
  many-places w t c h = omega (arith, ap (λ z. states * z) (t.complete c))
