-- The pairs explored in the layout that the columns give (PairsTold, Coded), and words that are all zero.
use Rattle.std.specs.Prelude.{◌≡◌, ℕ, zero, suc, ◌<◌, Bool, true, false, List, replicate, slice_index, Option}
use Rattle.std.specs.Prelude.{refl}
use Rattle.std.proofs.Math.Decide.{dec_lt}
use Rattle.std.proofs.Common.{arith}
use Rattle.std.proofs.lemmas.List.{length-replicate, get_or-replicate}
use Rattle.std.proofs.Math.ListN.{get_or-eq_default}
use Rattle.verdict.specs.Coded.{layout_of, Sided}
use Rattle.verdict.specs.PairsTold.{Lent, PairsTold, SearchTold}
use Rattle.verdict.specs.Tables.{occupied}

-- Sets stand turned where there are columns.
sided : (w c : ℕ) (by : Bool) (classes : List ℕ) → Sided c w (layout_of w c by classes)
sided w zero by classes = refl
sided w (suc c) false classes = (omega arith, refl)
sided w (suc c) true classes = (omega arith, refl)

pub told-search : {D : Lent} (c : ℕ) (by : Bool) (classes : List ℕ) {limit : ℕ} {space : List ℕ} {r : Option ℕ} {space' : List ℕ}
    → PairsTold D (layout_of (suc (occupied D.sizes 0 D.lists)) c by classes) limit space r space'
    → SearchTold D c limit space r space'
told-search {D} c by classes told =
    record {
      layout = layout_of (suc (occupied D.sizes 0 D.lists)) c by classes;
      sided = sided (suc (occupied D.sizes 0 D.lists)) c by classes;
      told = told;
    }

-- Words that are all zero, and past them.
pub zero-words : (n i : ℕ) → ◌≡◌ {A = ℕ} (slice_index (replicate n 0) i) 0
zero-words n i = side (dec_lt i n)
  where
    side : Dec (i < n) → ◌≡◌ {A = ℕ} (slice_index (replicate n 0) i) 0
    side (yes h) = get_or-replicate n i 0 0 h
    side (no h) =
        let z : ℕ = 0 in
        get_or-eq_default (replicate n z) z (omega (arith, length-replicate n z))
