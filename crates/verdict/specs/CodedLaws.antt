-- The laws of how pairs stand in the workspace (Coded): a pair is known from how it stands, and how it stands from the pair. The layouts of
-- numbers of columns.
use Rattle.std.specs.Prelude.{◌≡◌, ℕ, zero, suc, ◌*◌, ◌^◌, ◌<◌, Bool, true, false, List, slice_index}
use Rattle.std.specs.Prelude.{refl}
use Rattle.std.proofs.Common.{sym, ◌∙◌, subst, mul-zero, arith}
use Rattle.verdict.specs.Pairs.{Pair}
use Rattle.verdict.specs.Coded.{Layout, plain, turned, layout_of, StandsAs, Coded}
use Rattle.verdict.specs.TurnedLaws.{turned-from, turned-to}

-- Without columns sets stand as they are.
pub layout-plain : (w k : ℕ) (by : Bool) (classes : List ℕ) → k ≡ 0 → layout_of w k by classes ≡ plain
layout-plain w zero by classes e = refl
layout-plain w (suc k) by classes e = absurd (omega arith)

-- Else they stand turned, each offset with its own column or with that of its class.

pub layout-apart : (w k : ℕ) (by : Bool) (classes : List ℕ) → 0 < k → by ≡ false → layout_of w k by classes ≡ turned w k (λ o. o)
layout-apart w zero by classes h e = absurd (omega arith)
layout-apart w (suc k) false classes h e = refl
layout-apart w (suc k) true classes h e = let z : ◌≡◌ {A = ℕ} 0 1 = cc in absurd (omega arith)

pub layout-classed : (w k : ℕ) (by : Bool) (classes : List ℕ) → 0 < k → by ≡ true
    → layout_of w k by classes ≡ turned w k (λ o. slice_index classes o)
layout-classed w zero by classes h e = absurd (omega arith)
layout-classed w (suc k) true classes h e = refl
layout-classed w (suc k) false classes h e = let z : ◌≡◌ {A = ℕ} 0 1 = cc in absurd (omega arith)

pub pair_path : {s t c d : ℕ} → s ≡ t → c ≡ d → ◌≡◌ {A = Pair} (record { standing = s; cover = c }) (record { standing = t; cover = d })
pair_path p q i = record { standing = p i; cover = q i }

-- A set without offsets is empty.
no-offsets : (n C : ℕ) → C < 2 ^ (n * 0) → C ≡ 0
no-offsets n C h = let k : C < 2 ^ 0 = subst (λ z. C < 2 ^ z) (mul-zero n) h in omega arith

stands_from : (L : Layout) (n B C D : ℕ) → StandsAs L n B D → StandsAs L n C D → B ≡ C
stands_from plain n B C D s t = s ∙ sym t
stands_from (turned zero k f) n B C D s t = no-offsets n B s.below ∙ sym (no-offsets n C t.below)
stands_from (turned (suc w) k f) n B C D s t = turned-from (omega arith) s t

stands-to : (L : Layout) (n B C D : ℕ) → 0 < n → StandsAs L n B C → StandsAs L n B D → C ≡ D
stands-to plain n B C D some s t = sym s ∙ t
stands-to (turned w k f) n B C D some s t = turned-to some s t

pub coded-from : (L : Layout) (n : ℕ) (x y z : Pair) → Coded L n x z → Coded L n y z → x ≡ y
coded-from L n x y z s t = pair_path (s.standing ∙ sym t.standing) (stands_from L n x.cover y.cover z.cover s.cover t.cover)

pub coded-to : (L : Layout) (n : ℕ) (x y z : Pair) → 0 < n → Coded L n x y → Coded L n x z → y ≡ z
coded-to L n x y z some s t = pair_path (sym s.standing ∙ t.standing) (stands-to L n x.cover y.cover z.cover some s.cover t.cover)
