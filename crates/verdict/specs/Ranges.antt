-- Turned cover sets (Turned) with more than 64 states: the column of an offset is a range of n places, up to four words of them. What is
-- prepared for steps by such ranges, and what a step promises.
use Rattle.std.specs.Prelude.{◌≡◌, ℕ, ◌+◌, ◌*◌, ◌<◌, ◌≤◌, ◌⊎◌, ◌↔◌, List, length, slice_index}
use Rattle.theory.specs.Places.{Member}
use Rattle.places.specs.Words.{number_of}
use Rattle.verdict.specs.Tables.{occupied, Counted}
use Rattle.verdict.specs.Columns.{PlacesWithin, LeadsIn}
use Rattle.verdict.specs.ColumnOffsets.{offset_from}

-- The state t is in the four words of the state q.
abbrev pub Leads : List ℕ → ℕ → ℕ → Type 0
Leads reached q t = LeadsIn 4 reached q t

-- Of n states, each leads to itself and to all that those lead to which it leads to.
pub record Closing (n : ℕ) (reached : List ℕ) : Type 0 where
  pub own : (q : ℕ) → q < n → Leads reached q q
  pub onward : (q t u : ℕ) → q < n → Leads reached q t → Leads reached t u → Leads reached q u
  pub within : (q t : ℕ) → q < n → Leads reached q t → t < n
  pub room : 4 * n ≤ length reached
  pub few : n ≤ 1024

-- The states alone in a set, its places below n, are there with all that they lead to.
abbrev pub Closed : ℕ → List ℕ → ℕ → Type 0
Closed n reached s = (q t : ℕ) → q < n → Member q s → Leads reached q t → Member t s

-- `set` becomes `set'`: it gains the places that are `New`.
pub record Adds (New : ℕ → Type 0) (set set' : List ℕ) : Type 0 where
  pub exact : (i : ℕ) → Member i (number_of set') ↔ (Member i (number_of set) ⊎ New i)

-- A block of at most 64 of n places, from the place k on.
pub record Block (n k r : ℕ) : Type 0 where
  pub some : 0 < r
  pub word : r ≤ 64
  pub inside : k + r ≤ n
  pub whole : (x : ℕ) → x < n → x < k + 64 → x < k + r

-- The place i is that at `to` of one of the n places of s from `from` on.
abbrev pub RangeAt : ℕ → ℕ → ℕ → ℕ → ℕ → Type 0
RangeAt n s from to i = (x : ℕ) × (x < n) × (i ≡ to + x) × Member (from + x) s

-- The same of the columns of the places of a list, whose occurrences come after the offset `base`.
abbrev pub RangesAt : ℕ → ℕ → ℕ → ℕ → ℕ → ℕ → Type 0
RangesAt n s base from to i = (o : ℕ) × Member o from × RangeAt n s (n * offset_from base o) to i

-- The state t is led to from the next state over the list v of a state in a word, whose first is `first`.
abbrev pub NextAt : List ℕ → List ℕ → ℕ → ℕ → ℕ → ℕ → Type 0
NextAt reached table v first states t = (x : ℕ) × Member x states × Leads reached (slice_index table (16 * (first + x) + v)) t

-- The states alone are closed, and the states of the word are of n.
pub record Going (n v first : ℕ) (reached table : List ℕ) (s states : ℕ) : Type 0 where
  pub closing : Closing n reached
  pub closed : Closed n reached s
  pub room : 16 * n ≤ length table
  pub next : (q : ℕ) → q < n → slice_index table (16 * q + v) < n
  pub inside : (x : ℕ) → Member x states → first + x < n

-- The same of the n states whose column stands at `at`.
abbrev pub EndsAt : ℕ → List ℕ → List ℕ → ℕ → ℕ → ℕ → ℕ → Type 0
EndsAt n reached table v s at t = (q : ℕ) × (q < n) × Member (at + q) s × Leads reached (slice_index table (16 * q + v)) t

-- The next states over the list v are of n.
abbrev pub NextWithin : ℕ → ℕ → List ℕ → Type 0
NextWithin n v table = (q : ℕ) → q < n → slice_index table (16 * q + v) < n

-- The occurrence p of the list v comes next in the state q: from a place o of the list that is in the set s.
abbrev pub Comes : ℕ → ℕ → List ℕ → ℕ → ℕ → ℕ → ℕ → Type 0
Comes n s before v base p q = (o : ℕ) × Member o (slice_index before (64 * v + p)) × Member (n * offset_from base o + q) s

-- The place i is that of the occurrence p in a state where it comes next, or is reached from there, where a path of the list may end.
abbrev pub PlaceNew : ℕ → ℕ → List ℕ → List ℕ → List ℕ → ℕ → ℕ → ℕ → ℕ → ℕ → Type 0
PlaceNew n s before reached table accepting v base p i =
    ((q : ℕ) × (q < n) × Comes n s before v base p q × (i ≡ n * (base + p) + q))
    ⊎ (Member p accepting × ((q : ℕ) × (q < n) × Comes n s before v base p q × Leads reached (slice_index table (16 * q + v)) i))

-- The same of an occurrence of the list that the label enters.
abbrev pub ListNew : ℕ → ℕ → List ℕ → List ℕ → List ℕ → ℕ → ℕ → ℕ → ℕ → ℕ → ℕ → Type 0
ListNew n s before reached table entered accepting size v base i =
    (p : ℕ) × (0 < p) × (p ≤ size) × Member p entered × PlaceNew n s before reached table accepting v base p i

-- The columns of the places that lead to occurrences of the list v lie in the set.
abbrev pub FromWithin : ℕ → List ℕ → ℕ → ℕ → ℕ → Type 0
FromWithin n before v base size =
    (o p : ℕ) → 0 < p → p ≤ size → Member o (slice_index before (64 * v + p)) → n * offset_from base o + n ≤ 1024

-- What is asked for the occurrence p of the list v: the states alone are closed, and a column that stands there is one that comes next.
pub record PlaceReady (n s v base p : ℕ) (before reached table words : List ℕ) : Type 0 where
  pub list : v < 16
  pub place : p < 64
  pub before-room : 64 * v + 64 ≤ length before
  pub table-room : 16 * n ≤ length table
  pub few : base + p ≤ 1024
  pub beyond : n ≤ n * (base + p)
  pub few-places : n * (base + p) + n ≤ 1024
  pub from : (o : ℕ) → Member o (slice_index before (64 * v + p)) → n * offset_from base o + n ≤ 1024
  pub closing : Closing n reached
  pub next : NextWithin n v table
  pub closed : Closed n reached (number_of words)
  pub held : (q : ℕ) → q < n → Member (n * (base + p) + q) (number_of words) → Comes n s before v base p q

-- The same for the list: no places stand yet from that of its first occurrence on.
pub record ListReady (n v base size : ℕ) (before reached table words : List ℕ) : Type 0 where
  pub list : v < 16
  pub small : size < 64
  pub before-room : 64 * v + 64 ≤ length before
  pub table-room : 16 * n ≤ length table
  pub few : base + size ≤ 1024
  pub few-places : n * (base + size) + n ≤ 1024
  pub from : FromWithin n before v base size
  pub closing : Closing n reached
  pub next : NextWithin n v table
  pub closed : Closed n reached (number_of words)
  pub fresh : (i : ℕ) → Member i (number_of words) → i < n * (base + 1)

-- What a step by ranges asks of the tables.
pub record RangesReady (n lists : ℕ) (enter sizes accepting before reached table : List ℕ) : Type 0 where
  pub counted : Counted lists sizes
  pub enter-room : 32 * lists + 32 ≤ length enter
  pub accepting-room : lists < length accepting
  pub before-room : 64 * lists ≤ length before
  pub table-room : 16 * n ≤ length table
  pub some : 0 < n
  pub few-places : n * (occupied sizes 0 lists + 1) ≤ 1024
  pub places : PlacesWithin lists sizes before
  pub closing : Closing n reached
  pub next : (q v : ℕ) → q < n → v < lists → slice_index table (16 * q + v) < n

-- The place i is new over the label a, from the set s, in one of the first v lists.
abbrev pub StepNew : ℕ → ℕ → ℕ → List ℕ → List ℕ → List ℕ → List ℕ → List ℕ → List ℕ → ℕ → ℕ → Type 0
StepNew n a v enter sizes accepting before reached table s i =
    (u : ℕ) × (u < v) × ListNew n s before reached table (slice_index enter (32 * (u + 1) + a)) (slice_index accepting (u + 1))
    (slice_index sizes (u + 1)) u (occupied sizes 0 u) i

-- The set r after the step over the label a from the set s.
pub record RangesStepped (n lists a : ℕ) (enter sizes accepting before reached table : List ℕ) (s r : ℕ) : Type 0 where
  pub exact : (i : ℕ) → Member i r ↔ StepNew n a lists enter sizes accepting before reached table s i
