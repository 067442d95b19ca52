-- What building an expression's automaton in a row of each table promises.
use Rattle.std.specs.Prelude.{ℕ, suc, ◌+◌, ◌*◌, ◌≤◌, ◌<◌, List, ◌⊎◌, ◌≢◌, ◌≡◌, Option, Some, Result, length, get_or, take, drop}
use Rattle.std.specs.Option.{is_some}
use Rattle.theory.specs.Expression.{Expression}
use Rattle.theory.specs.Standing.{size}
use Rattle.theory.specs.Automaton.{glushkov}
use Rattle.syntax.specs.declared.build.Automaton.{Automaton}
use Rattle.syntax.specs.declared.refusal.Refusal.{Refusal}
use Rattle.syntax.specs.Byte.{Bytes}
use Rattle.syntax.specs.Limits.{most_occurrences}
use Rattle.syntax.specs.Check.{fine, check}
use Rattle.syntax.specs.Verdict.{verdict, is_fine}
use Rattle.reading.specs.Tables.{Tables, Row, follow_width, enter_width}

-- The automaton of e, in the answer r and in one row of each table.
pub record InRow (e : Expression) (r : Automaton) (follow enter : List ℕ) : Type 0 where
  pub places : r.size ≡ size e
  pub accepts : r.accepting.0 ≡ (glushkov e).accepting
  pub follows : take (suc (size e)) follow ≡ (glushkov e).follow
  pub enters : (a : ℕ) → a < length enter → get_or enter a 0 ≡ (glushkov e).enter a

-- One row of each table: it stays as long as it is, and where the text is fine, it holds the automaton; whether the text is fine is told.
pub record FillsRow (labels : List Bytes) (s : Bytes) (follow enter : List ℕ) (r : Option Automaton) (follow' enter' : List ℕ) : Type 0 where
  pub same-follow : length follow' ≡ length follow
  pub same-enter : length enter' ≡ length enter
  pub fills : (e : Expression) (a : Automaton) → check labels s ≡ fine e → r ≡ Some a → InRow e a follow' enter'
  pub told : is_some r ≡ is_fine (check labels s)

-- The rows x of whole tables: all else stays as it is, and whether the text is fine is told.
pub record Fills (labels : List Bytes) (s : Bytes) (x : ℕ) (follow enter : List ℕ) (r : Option Automaton) (follow' enter' : List ℕ) : Type 0 where
  pub same-follow : length follow' ≡ length follow
  pub same-enter : length enter' ≡ length enter
  pub other-follow : (i : ℕ) → (i < follow_width * x) ⊎ (follow_width * x + follow_width ≤ i) → get_or follow' i 0 ≡ get_or follow i 0
  pub other-enter : (i : ℕ) → (i < enter_width * x) ⊎ (enter_width * x + enter_width ≤ i) → get_or enter' i 0 ≡ get_or enter i 0
  pub fills : (e : Expression) (a : Automaton) → check labels s ≡ fine e → r ≡ Some a
      → InRow e a (take follow_width (drop (follow_width * x) follow')) (take enter_width (drop (enter_width * x) enter'))
  pub told : is_some r ≡ is_fine (check labels s)

-- An expression read into the rows x: the verdict on it, the rows where it is fine, and all other rows, which stay as they are.
pub record Reads (labels : List Bytes) (s : Bytes) (x : ℕ) (T : Tables) (r : Result (Unit {0}) Refusal) (T' : Tables) : Type 0 where
  pub told : r ≡ verdict (check labels s)
  pub same-names : T'.names ≡ T.names
  pub row : (e : Expression) → check labels s ≡ fine e → Row e x T'
  pub others : (e : Expression) (y : ℕ) → y ≢ x → size e ≤ most_occurrences → Row e y T → Row e y T'
