-- What the exploration of pairs promises of the tables that it is lent (PairsTold), and of how steps go (Prepared, Coded).
use Rattle.std.specs.Prelude.{◌≡◌, ℕ, suc, List, Option, Some, None}
use Rattle.verdict.specs.declared.explore.Search.{Search}
use Rattle.verdict.specs.declared.tables.Tables.{Tables}
use Rattle.verdict.specs.declared.ways.Ways.{Ways}
use Rattle.verdict.specs.Classes.{Merged}
use Rattle.verdict.specs.Coded.{Layout, layout_of}
use Rattle.verdict.specs.PairsTold.{Lent, lent, SearchTold}
use Rattle.verdict.specs.Prepared.{WayReady, RowsReady}
use Rattle.verdict.specs.Tables.{occupied}
use Rattle.verdict.specs.Ways.{columns_of, classed_of, rows_of}

-- The tables lent.
abbrev pub lent_of : Tables → Lent
lent_of T = lent T.states T.labels T.lists T.follow.now T.enter.now T.sizes.now T.accepting.now T.table.now

-- How cover sets stand where steps go so.
abbrev pub layout_in : Tables → Ways → Layout
layout_in T W = layout_of (suc (occupied T.sizes.now 0 T.lists)) (columns_of W.way) (classed_of W.way) W.classes.now

-- What such steps need is prepared.
abbrev pub ByWay : Tables → Ways → Type 0
ByWay T W =
    WayReady T.states T.lists T.labels T.follow.now T.enter.now T.sizes.now T.accepting.now T.table.now (columns_of W.way) (classed_of W.way) W.before.now W.ended.now
    W.classes.now

-- The same of steps by rows, with words for the rows that can come next.
abbrev pub ByRows : Tables → Ways → List ℕ → Type 0
ByRows T W laid =
    RowsReady T.states T.lists T.follow.now T.enter.now T.sizes.now T.accepting.now T.table.now (columns_of W.way) (rows_of W.way) W.before.now W.ended.now laid

-- The occurrences of the tables are merged, k classes of them.
abbrev pub MergedIn : Tables → (k : ℕ) (merged classes ends : List ℕ) → Type 0
MergedIn T k merged classes ends =
    Merged T.states T.lists T.labels T.follow.now T.enter.now T.sizes.now T.accepting.now T.table.now k merged classes ends

-- The pairs are explored, or else nothing is done.
abbrev pub Searched : (D : Lent) (limit : ℕ) (space : List ℕ) → Option Search → List ℕ → Type 0
Searched D limit space (Some s) space' = SearchTold D s.turned limit space s.found space'
Searched D limit space None space' = space' ≡ space
