-- What the exploration of pairs promises: the entries that `pairs` tells (Pairs) are held in the workspace (PairTable), the cover sets in some
-- layout (Coded); or there are more pairs than the allowance.
use Rattle.std.specs.Prelude.{◌≡◌, ℕ, suc, ◌+◌, ◌*◌, ◌<◌, ◌≤◌, List, length, take, slice_index, slice_index_or, Option, Some, None}
use Rattle.theory.specs.Automaton.{nexts, step}
use Rattle.theory.specs.Exploration.{System, Entry, all, over, row}
use Rattle.theory.specs.Explored.{entry_at}
use Rattle.verdict.specs.Pairs.{Pair, pair_system, pairs}
use Rattle.verdict.specs.Tables.{automaton_at, automata_of, occupied, rewritten, Proper}
use Rattle.verdict.specs.Coded.{Layout, Sided}
use Rattle.verdict.specs.PairTable.{Holds}

-- What is lent: the automata of the query and of the lists in tables (Tables), and the table of a rewriting.
pub record Lent : Type 0 where
  pub states : ℕ
  pub labels : ℕ
  pub lists : ℕ
  pub follow : List ℕ
  pub enter : List ℕ
  pub sizes : List ℕ
  pub accepting : List ℕ
  pub table : List ℕ

abbrev pub lent : (states labels lists : ℕ) (follow enter sizes accepting table : List ℕ) → Lent
lent states labels lists follow enter sizes accepting table =
    record {
      states = states;
      labels = labels;
      lists = lists;
      follow = follow;
      enter = enter;
      sizes = sizes;
      accepting = accepting;
      table = table;
    }

-- What the exploration needs of it.
pub record Lending (D : Lent) : Type 0 where
  pub proper : Proper D.states D.lists D.follow D.enter D.sizes D.accepting D.table
  pub few-labels : D.labels ≤ 32
  pub query : slice_index_or D.sizes 0 0 ≤ 63

-- The system of pairs, whatever the flags.
abbrev pub system_of : Lent → List ℕ → System Pair
system_of D flags =
    pair_system (automaton_at D.follow D.enter D.sizes D.accepting 0) D.labels (rewritten D.states D.table flags)
    (automata_of D.follow D.enter D.sizes D.accepting D.lists)

-- The places of the query that can come next from a standing.
pub record QueryFollows (follow sizes : List ℕ) (s r : ℕ) : Type 0 where
  pub told : slice_index_or sizes 0 0 ≤ 63 → 64 ≤ length follow → 0 < length sizes → r ≡ nexts s (take (slice_index sizes 0 + 1) follow)

-- The step of the query's standing.
pub record QueryStep (follow enter sizes : List ℕ) (a s r : ℕ) : Type 0 where
  pub told : slice_index_or sizes 0 0 ≤ 63 → 64 ≤ length follow → 32 ≤ length enter → a < 32 → 0 < length sizes → (accepting : List ℕ)
      → r ≡ step (automaton_at follow enter sizes accepting 0) s a

-- The labels of one entry.

unfoldable pub RowCase : (D : Lent) (L : Layout) (flags : List ℕ) (limit i : ℕ) (l : List (Entry Pair)) (space' : List ℕ) → Option ℕ → Type 0
RowCase D L flags limit i l space' (Some m) =
    (more : List (Entry Pair)) × (row (system_of D flags) limit (entry_at (system_of D flags) l i) D.labels 0 l ≡ all more)
    × Holds L D.states (system_of D flags) space' more × (length more ≡ m)
RowCase D L flags limit i l space' None = row (system_of D flags) limit (entry_at (system_of D flags) l i) D.labels 0 l ≡ over

pub record RowTold (D : Lent) (L : Layout) (limit i n : ℕ) (space : List ℕ) (r : Option ℕ) (space' : List ℕ) : Type 0 where
  pub bounds : (m : ℕ) → r ≡ Some m → (n ≤ m) × (m ≤ limit)
  pub beyond : (j : ℕ) → 18 * limit ≤ j → slice_index space' j ≡ slice_index space j
  pub told : Lending D → (flags : List ℕ) (l : List (Entry Pair)) → Holds L D.states (system_of D flags) space l
      → length l ≡ n → RowCase D L flags limit i l space' r

-- All entries.

unfoldable pub PairsCase : (D : Lent) (L : Layout) (flags : List ℕ) (limit : ℕ) (space' : List ℕ) → Option ℕ → Type 0
PairsCase D L flags limit space' (Some m) =
    (l : List (Entry Pair))
    × (pairs (automaton_at D.follow D.enter D.sizes D.accepting 0) D.labels (rewritten D.states D.table flags)
    (automata_of D.follow D.enter D.sizes D.accepting D.lists) limit ≡ all l)
    × Holds L D.states (system_of D flags) space' l × (length l ≡ m)
PairsCase D L flags limit space' None =
    pairs (automaton_at D.follow D.enter D.sizes D.accepting 0) D.labels (rewritten D.states D.table flags)
    (automata_of D.follow D.enter D.sizes D.accepting D.lists) limit ≡ over

pub record PairsTold (D : Lent) (L : Layout) (limit : ℕ) (space : List ℕ) (r : Option ℕ) (space' : List ℕ) : Type 0 where
  pub few : (m : ℕ) → r ≡ Some m → (m ≤ limit) × (limit ≤ 4096) × (18 * limit ≤ length space)
  pub beyond : (j : ℕ) → 18 * limit ≤ j → slice_index space' j ≡ slice_index space j
  pub told : Lending D → limit ≤ 4096 → 18 * limit ≤ length space → (flags : List ℕ) → PairsCase D L flags limit space' r

-- The pairs are explored, in some layout: turned where c is not 0.
pub record SearchTold (D : Lent) (c limit : ℕ) (space : List ℕ) (r : Option ℕ) (space' : List ℕ) : Type 0 where
  pub layout : Layout
  pub sided : Sided c (suc (occupied D.sizes 0 D.lists)) layout
  pub told : PairsTold D layout limit space r space'
