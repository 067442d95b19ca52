-- What the writer of kept files promises.
use Rattle.std.specs.Prelude.{◌≡◌, ℕ, ◌+◌, ◌-◌, ◌*◌, ◌%◌, ◌<◌, ◌≤◌, List, [], ◌∷◌, ◌++◌, length, take, drop, replicate, slice_index}
use Rattle.std.proofs.Math.Option.{none}
use Rattle.syntax.specs.declared.table.Span.{Span}
use Rattle.syntax.specs.Byte.{Bytes}
use Rattle.syntax.specs.Resolve.{names_at}
use Rattle.reading.specs.ReadFacts.{ShortNames}
use Rattle.finding.specs.Find.{Rewriting, row_width}
use Rattle.keeping.specs.Kept.{kept_length, kept_mark, two_bytes, kept}

-- The mark, the version and the counts.
abbrev pub header : ℕ → ℕ → Bytes
header lists states = kept_mark ++ (two_bytes 1 ++ (lists ∷ two_bytes states))

-- A length byte and a name.
abbrev pub one_name : Bytes → Bytes
one_name n = (length n % 256) ∷ n

-- The names as they are written; where they are short, these are the kept names.
unfoldable pub name_bytes : List Bytes → Bytes
name_bytes [] = []
name_bytes (n ∷ t) = one_name n ++ name_bytes t

-- The rewriting that a lent table and lent flags hold, as far as the kept bytes go.
abbrev pub lent : ℕ → List ℕ → List ℕ → Rewriting
lent states table flags = record { standings = 0; states = states; table = table; flags = flags; first = none }

-- Two rewritings have the same flags and next states, for so many lists and states.
pub record Agree (R S : Rewriting) (lists states : ℕ) : Type 0 where
  pub nexts : (s v : ℕ) → s < states → v < lists → slice_index R.table (row_width * s + v) ≡ slice_index S.table (row_width * s + v)
  pub flags : (s : ℕ) → s < states → slice_index R.flags s ≡ slice_index S.flags s

-- The numbers of lists and states are within document 01's limits, and the output is long enough.
pub record Within (spans : List Span) (states : ℕ) (out : Bytes) : Type 0 where
  pub few : length spans ≤ 16
  pub small : states ≤ 256
  pub room : kept_length ≤ length out

-- The output holds the kept bytes of a rewriting and then zeros up to the end of its named part; the length of the kept bytes is told.
pub record Keeps (names : List Bytes) (R : Rewriting) (before : Bytes) (told : ℕ) (after : Bytes) : Type 0 where
  pub size : told ≡ length (kept names R)
  pub fits : length (kept names R) ≤ kept_length
  pub bytes : after ≡ kept names R ++ (replicate (kept_length - length (kept names R)) 0 ++ drop kept_length before)

-- Within the limits and for short names, the output keeps every rewriting that the table and the flags hold, in terms of the lists whose
-- names stand at these places; beyond the limits nothing is written and 0 is told.
pub record Writes (text : Bytes) (spans : List Span) (states : ℕ) (table flags : List ℕ) (before : Bytes) (told : ℕ) (after : Bytes) : Type 0 where
  pub keeps : Within spans states before → ShortNames (names_at text spans) → (R : Rewriting) → R.states ≡ states
      → Agree R (lent states table flags) (length spans) states → Keeps (names_at text spans) R before told after
  pub nothing : (Within spans states before → ⊥) → (told ≡ 0) × (after ≡ before)
