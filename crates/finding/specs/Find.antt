-- What Find gives for a job (document 01, "Find"): the counts, the table at 16 × state + list, the flags and the first accepted word; or
-- refusal 9 or 10. The limits are arguments. States are explored and counted first, then merged (document 02, F-7).
use Rattle.std.specs.Prelude.{ℕ, zero, suc, ◌+◌, ◌-◌, ◌*◌, ◌/◌, ◌%◌, Bool, true, false, List, [], ◌∷◌, ◌++◌, map, length, replicate, ◌==◌, nat_lt, slice_index}
use Rattle.std.proofs.Math.Option.{Option}
use Rattle.theory.specs.Word.{Word}
use Rattle.theory.specs.Job.{Job}
use Rattle.theory.specs.Automaton.{Automaton, glushkov}
use Rattle.theory.specs.Exploration.{all, over}
use Rattle.theory.specs.Deterministic.{Deterministic}
use Rattle.theory.specs.NumberLists.{tabulate}
use Rattle.theory.specs.Minimized.{minimized}
use Rattle.syntax.specs.declared.refusal.Refusal.{Refusal}
use Rattle.syntax.specs.declared.refusal.Refusal.TheVariants.{TooManyStandings, TooManyStates}
use Rattle.finding.specs.Standings.{standings, values, place_of}
use Rattle.finding.specs.ListImage.{image_table}
use Rattle.finding.specs.States.{state_step, states, accepting_standings, state_accepts, first_accepted}

abbrev pub most_standings : ℕ
most_standings = 64

abbrev pub most_states : ℕ
most_states = 256

abbrev pub row_width : ℕ
row_width = 16

-- A row of the table: the next state for each list below n from v on.
unfoldable pub row : List (List ℕ) → ℕ → List ℕ → ℕ → ℕ → ℕ → List ℕ
row images m found X zero v = []
row images m found X (suc n) v = place_of (state_step images m X v) found ∷ row images m found X n (suc v)

-- The rows of the states in X, each with zeros up to the row's width.
unfoldable pub rows : List (List ℕ) → ℕ → List ℕ → List ℕ → List ℕ
rows images m found [] = []
rows images m found (X ∷ l) = row images m found X (length images) 0 ++ (replicate (row_width - length images) 0 ++ rows images m found l)

unfoldable pub flag : Bool → ℕ
flag true = 1
flag false = 0

-- What is found: the numbers of standings and of states, the table and the flags in their used parts, and the first accepted word.
pub record Rewriting : Type 0 where
  pub standings : ℕ
  pub states : ℕ
  pub table : List ℕ
  pub flags : List ℕ
  pub first : Option Word

pub data Found : Type 0 where
  found : Rewriting → Found
  refused : Refusal → Found

-- The states' part, from the images of m standings and the set of accepting standings.
unfoldable pub find_states : List (List ℕ) → ℕ → ℕ → ℕ → Found
find_states images m accepting limit =
    elim (states images m limit) [
      | over ↦ refused TooManyStates
      | all l ↦ found (record {
        standings = m;
        states = length l;
        table = rows images m (values l) (values l);
        flags = map (λ X. flag (state_accepts accepting X)) (values l);
        first = first_accepted accepting l;
      })
    ]

-- On automata: of the query, over k labels, and of the lists. The states are not merged.
unfoldable pub explore_automata : Automaton → ℕ → List Automaton → ℕ → ℕ → Found
explore_automata A k lists most_a most_b =
    elim (standings A k most_a) [
      | over ↦ refused TooManyStandings
      | all l ↦ find_states (image_table A (values l) k lists) (length l) (accepting_standings A (values l)) most_b
    ]

-- A table and flags, read as a deterministic table over the lists.
abbrev pub deterministic : ℕ → ℕ → List ℕ → List ℕ → Deterministic
deterministic states lists table flags =
    record {
      states = states;
      symbols = lists;
      next = λ s v. slice_index table (row_width * s + v);
      accepting = λ s. (slice_index flags s == 1);
    }

-- A deterministic table, written as a table: at 16 × state + list the next state, and zeros behind the lists.
unfoldable pub entry_of : Deterministic → ℕ → ℕ → ℕ
entry_of D s v = elim (nat_lt v D.symbols) [ true ↦ D.next s v | false ↦ 0 ]

unfoldable pub table_of : Deterministic → List ℕ
table_of D = tabulate (λ i. entry_of D (i / row_width) (i % row_width)) (row_width * D.states)

unfoldable pub flags_of : Deterministic → List ℕ
flags_of D = tabulate (λ s. flag (D.accepting s)) D.states

-- The counts and the first word of R, with the states, the table and the flags of D.
abbrev pub with_table : Rewriting → Deterministic → Rewriting
with_table R D = record { standings = R.standings; states = D.states; table = table_of D; flags = flags_of D; first = R.first }

-- The states of R merged, over so many lists: the smallest table that accepts the same words.
abbrev pub merged : ℕ → Rewriting → Rewriting
merged lists R = with_table R (minimized (deterministic R.states lists R.table R.flags))

unfoldable pub merged_found : ℕ → Found → Found
merged_found lists (found R) = found (merged lists R)
merged_found lists (refused r) = refused r

unfoldable pub find_automata : Automaton → ℕ → List Automaton → ℕ → ℕ → Found
find_automata A k lists most_a most_b = merged_found (length lists) (explore_automata A k lists most_a most_b)

-- What is found before states are merged: document 01's own count of states.
unfoldable pub unmerged : Job → Found
unmerged J = explore_automata (glushkov J.query) J.labels (map glushkov J.lists) most_standings most_states

unfoldable pub find : Job → Found
find J = find_automata (glushkov J.query) J.labels (map glushkov J.lists) most_standings most_states
