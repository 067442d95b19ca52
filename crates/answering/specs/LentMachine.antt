-- A machine (Product) as lent numbers: its next states in rows.
use Rattle.std.specs.Prelude.{◌≡◌, ℕ, ◌+◌, ◌*◌, ◌<◌, true, List, slice_index}
use Rattle.std.proofs.Common.{arith}
use Rattle.theory.specs.Graph.{Table}
use Rattle.answering.specs.Table.{is_table}
use Rattle.answering.specs.TableLaws.{is-table-exactly, table-labels}
use Rattle.answering.specs.Product.{Machine}
use Rattle.answering.specs.ProductLaws.{StaysWithin}

-- The lent numbers are a table of these recordings, and each next state over one of its symbols is a state; the machine has these states
-- and next states.
pub record Runs (M : Machine) (moves : List ℕ) (stride states symbols : ℕ) (table : Table) (recordings : ℕ) : Type 0 where
  pub is-table : is_table recordings symbols table ≡ true
  pub same-states : M.states ≡ states
  pub same_next : (s a : ℕ) → s < states → a < symbols → M.next s a ≡ slice_index moves (stride * s + a)
  pub next-below : (s a : ℕ) → s < states → a < symbols → slice_index moves (stride * s + a) < states

-- Over such a table the machine stays within its states.
pub stays : {M : Machine} {moves : List ℕ} {stride states symbols : ℕ} {table : Table} {N : ℕ}
    → Runs M moves stride states symbols table N → StaysWithin M table
stays {states = states} {symbols = symbols} {table = table} {N = N} r s x a y h l =
    let e = r.same-states in
    let b : a < symbols = table-labels ((is-table-exactly N symbols table).0 r.is-table) l in
    let k : s < states = omega arith in
    let f = r.same_next s a k b in
    let n = r.next-below s a k b in
    omega arith
