-- How steps go, in numbers: how many columns there are, whether offsets share them, and how long rows are.
use Rattle.std.specs.Prelude.{◌≡◌, ℕ, ◌<◌, ◌⊎◌, Bool, true, false}
use Rattle.std.proofs.Common.{inl, inr, ap}
use Rattle.verdict.specs.declared.ways.Way.{Way}
use Rattle.verdict.specs.declared.ways.Way.TheVariants.{Plain, Columns, Classes, Rows}

abbrev pub columns_of : Way → ℕ
columns_of Plain = 0
columns_of (Columns w) = w
columns_of (Classes k) = k
columns_of (Rows r) = 0

abbrev pub classed_of : Way → Bool
classed_of Plain = false
classed_of (Columns w) = false
classed_of (Classes k) = true
classed_of (Rows r) = false

abbrev pub rows_of : Way → ℕ
rows_of Plain = 0
rows_of (Columns w) = 0
rows_of (Classes k) = 0
rows_of (Rows r) = r

-- Columns, classes and rows are not none.
abbrev pub amount_of : Way → ℕ
amount_of Plain = 1
amount_of (Columns w) = w
amount_of (Classes k) = k
amount_of (Rows r) = r

abbrev pub SomeWay : Way → Type 0
SomeWay x = 0 < amount_of x

-- Where sets stand turned there are no rows.
pub turned-way : {x : Way} {w : ℕ} → (x ≡ Columns w) ⊎ (x ≡ Classes w) → (columns_of x ≡ w) × (rows_of x ≡ 0)
turned-way (inl e) = (ap columns_of e, ap rows_of e)
turned-way (inr e) = (ap columns_of e, ap rows_of e)
