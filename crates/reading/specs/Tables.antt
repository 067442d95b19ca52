-- The tables that reading a job fills for the layers above: where the names stand in the text, and Glushkov's automaton of each expression,
-- side by side. Expression 0 is the query, and 1 + v the list v.
use Rattle.std.specs.Prelude.{ℕ, suc, ◌+◌, ◌*◌, ◌<◌, List, ◌≡◌, length, get_or, take, drop}
use Rattle.std.proofs.Math.Option.{some}
use Rattle.theory.specs.Expression.{Expression, empty}
use Rattle.theory.specs.Standing.{size}
use Rattle.theory.specs.Automaton.{glushkov}
use Rattle.syntax.specs.declared.table.Span.{Span}
use Rattle.syntax.specs.Byte.{Bytes}
use Rattle.syntax.specs.Resolve.{names_at}
use Rattle.reading.specs.JobText.{NamedJob}
use Rattle.reading.specs.Refusing.{Progress}

-- The labels' names stand from the entry 0 on, the lists' from `lists_from` on.
abbrev pub lists_from : ℕ
lists_from = 32

-- The places of a follow row and the labels of an enter row.
abbrev pub follow_width : ℕ
follow_width = 64

abbrev pub enter_width : ℕ
enter_width = 32

pub record Tables : Type 0 where
  pub names : List Span
  pub follow : List ℕ
  pub enter : List ℕ
  pub sizes : List ℕ
  pub accepting : List ℕ

-- The rows of the expression number x hold the automaton of e.
pub record Row (e : Expression) (x : ℕ) (T : Tables) : Type 0 where
  pub follow : take (suc (size e)) (drop (follow_width * x) T.follow) ≡ (glushkov e).follow
  pub enter : (a : ℕ) → a < enter_width → get_or T.enter (enter_width * x + a) 0 ≡ (glushkov e).enter a
  pub size : get_or T.sizes x 0 ≡ size e
  pub accepting : get_or T.accepting x 0 ≡ (glushkov e).accepting

-- The tables hold what the lines read so far give.
pub record HoldsSoFar (text : Bytes) (P : Progress) (T : Tables) : Type 0 where
  pub labels : names_at text (take (length P.labels) T.names) ≡ P.labels
  pub lists : names_at text (take (length P.list_names) (drop lists_from T.names)) ≡ P.list_names
  pub query : (q : Expression) → P.query ≡ some q → Row q 0 T
  pub rows : (v : ℕ) → v < length P.lists → Row (get_or P.lists v empty) (suc v) T

-- The tables hold the job.
pub record Holds (text : Bytes) (J : NamedJob) (T : Tables) : Type 0 where
  pub labels : names_at text (take (length J.labels) T.names) ≡ J.labels
  pub lists : names_at text (take (length J.list_names) (drop lists_from T.names)) ≡ J.list_names
  pub query : Row J.query 0 T
  pub rows : (v : ℕ) → v < length J.lists → Row (get_or J.lists v empty) (suc v) T
