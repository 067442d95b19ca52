-- How long the tables of a job must be for Find: they have a row for each expression, and may have more.
use Rattle.std.specs.Prelude.{ℕ, ◌+◌, ◌*◌, ◌≤◌, List, length}

-- The tables have the row of the query, and those of the lists, if these are no more than 16.
pub record RowsFit (lists : ℕ) (follow enter : List ℕ) : Type 0 where
  pub query_follow : 64 ≤ length follow
  pub query_enter : 32 ≤ length enter
  pub lists_follow : lists ≤ 16 → 64 * lists + 64 ≤ length follow
  pub lists_enter : lists ≤ 16 → 32 * lists + 32 ≤ length enter
