-- The automata of a job's expressions side by side in lent tables: expression x has its follow sets in the 64 entries from 64 × x on, the
-- places that each label enters in the 32 entries from 32 × x on, its number of occurrences and its accepting places. Expression 0 is the
-- query, and the list number v is expression v + 1.
use Rattle.std.specs.Prelude.{◌≡◌, ℕ, zero, suc, ◌+◌, ◌*◌, ◌^◌, ◌<◌, ◌≤◌, List, [], ◌∷◌, length, take, drop, slice_index}
use Rattle.theory.specs.Automaton.{Automaton}
use Rattle.finding.specs.Plain.{plain}
use Rattle.finding.specs.Rewritten.{Rewritten}

module _ (follow enter sizes accepting : List ℕ) where
  -- The automaton of expression x.
  abbrev pub automaton_at : ℕ → Automaton
  automaton_at x = plain (take (suc (slice_index sizes x)) (drop (64 * x) follow)) (take 32 (drop (32 * x) enter)) (slice_index accepting x)

  -- The automata of n lists, from the list number v on.
  unfoldable pub automata_from : ℕ → ℕ → List Automaton
  automata_from v zero = []
  automata_from v (suc n) = automaton_at (v + 1) ∷ automata_from (v + 1) n

  -- The automata of the first n lists.
  abbrev pub automata_of : ℕ → List Automaton
  automata_of n = automata_from 0 n

-- The occurrences of n lists, from the list number v on.
unfoldable pub occupied : List ℕ → ℕ → ℕ → ℕ
occupied sizes v zero = 0
occupied sizes v (suc n) = slice_index sizes (v + 1) + occupied sizes (v + 1) n

-- There are at most 16 lists, of at most 63 occurrences each.
pub record Counted (n : ℕ) (sizes : List ℕ) : Type 0 where
  pub few : n ≤ 16
  pub room : n < length sizes
  pub small : (v : ℕ) → v < n → slice_index sizes (v + 1) ≤ 63

abbrev pub rewritten : ℕ → List ℕ → List ℕ → Rewritten
rewritten states table flags = record { states = states; table = table; flags = flags }

-- The tables have room for n lists and the rewriting's states; the width is w, and there are at most 1,024 cover places.
pub record Ready (states n : ℕ) (follow enter sizes accepting table : List ℕ) (w : ℕ) : Type 0 where
  pub counted : Counted n sizes
  pub follow-room : 64 * n + 64 ≤ length follow
  pub enter-room : 32 * n + 32 ≤ length enter
  pub accepting-room : n < length accepting
  pub table-room : 16 * states ≤ length table
  pub wide : w ≡ suc (occupied sizes 0 n)
  pub few-places : states * w ≤ 1024

-- What the cover needs besides: sets hold places of their own automaton alone, and each next state is one of the rewriting's.
pub record Proper (states n : ℕ) (follow enter sizes accepting table : List ℕ) : Type 0 where
  pub ready : Ready states n follow enter sizes accepting table (suc (occupied sizes 0 n))
  pub sets : (v o : ℕ) → v < n → o ≤ slice_index sizes (v + 1) → slice_index follow (64 * (v + 1) + o) < 2 ^ suc (slice_index sizes (v + 1))
  pub some-state : 0 < states
  pub next : (q v : ℕ) → q < states → v < n → slice_index table (16 * q + v) < states
