-- The search from all standings at once, on plain data: for each pair of a standing and a list place, its sources are the standings from
-- which, with the list's start, the pair is reached. With w standings a pair (standing, place) has the word w × place + standing. Pending
-- at a place are the standings whose pair has sources that have not been passed on over the labels yet; a place waits where something is
-- pending at it.
use Rattle.std.specs.Prelude.{◌≡◌, ℕ, ◌+◌, ◌-◌, ◌*◌, ◌^◌, ◌<◌, ◌≤◌, true, false, ◌⊎◌, ◌↔◌, List, [], ◌∷◌, length, ◌==◌, slice_index, slice_set}
use Rattle.theory.specs.Places.{Member, union, intersection}
use Rattle.theory.specs.Closure.{Reaches}
use Rattle.finding.specs.ImageSearch.{Tables, Onward}

abbrev pub sources_of : ℕ → List ℕ → ℕ × ℕ → ℕ
sources_of w from v = slice_index from (w * v.1 + v.0)

-- What the search holds.
pub record Sources : Type 0 where
  pub from : List ℕ
  pub pending : List ℕ
  pub waiting : ℕ

abbrev pub sources : List ℕ → List ℕ → ℕ → Sources
sources from pending waiting = record { from = from; pending = pending; waiting = waiting }

-- 1 where a word has become another.
unfoldable pub gain_of : ℕ → ℕ → ℕ
gain_of old all = elim (all == old) [ true ↦ 0 | false ↦ 1 ]

-- The search with the standings `added` put into it: they are pending at the place next, and where there are some, it waits.
abbrev pub gathered : List ℕ → List ℕ → ℕ → ℕ → ℕ → Sources
gathered from pending waiting next added =
    sources from (slice_set pending next (union (slice_index pending next) added)) (union waiting (gain_of 0 added * 2 ^ next))

-- How much can still be added to words, and with it to a search: a source that is added weighs more than any set of waiting places.

unfoldable pub room : List ℕ → ℕ
room [] = 0
room (x ∷ l) = (2 ^ 64 - x) + room l

unfoldable pub left : List ℕ → ℕ → ℕ
left from waiting = room from * 2 ^ 64 + waiting

-- From one moment to a later one, sources were added: a pair that gained is pending, and a place where something came to be pending waits.
pub record Grown (w : ℕ) (X Y : Sources) : Type 0 where
  pub words : length Y.from ≡ length X.from
  pub slots : length Y.pending ≡ length X.pending
  pub kept : (v : ℕ × ℕ) (i : ℕ) → Member i (sources_of w X.from v) → Member i (sources_of w Y.from v)
  pub new : (v : ℕ × ℕ) → v.0 < w
      → (sources_of w Y.from v ≡ sources_of w X.from v) ⊎ Member v.0 (slice_index Y.pending v.1)
  pub still : (q s : ℕ) → Member s (slice_index X.pending q) → Member s (slice_index Y.pending q)
  pub stays : (q : ℕ) → Member q X.waiting → Member q Y.waiting
  pub waits : (q s : ℕ) → Member s (slice_index Y.pending q) → Member s (slice_index X.pending q) ⊎ (Member q Y.waiting × (s < w))
  pub less : left Y.from Y.waiting ≤ left X.from X.waiting

-- Just the sources of B were added: i to the pair v where B v i.
pub record Gained (w : ℕ) (B : ℕ × ℕ → ℕ → Type 0) (X Y : Sources) : Type 0 where
  pub grown : Grown w X Y
  pub covers : (v : ℕ × ℕ) (i : ℕ) → B v i → Member i (sources_of w Y.from v)
  pub sound : (v : ℕ × ℕ) (i : ℕ) → v.0 < w → Member i (sources_of w Y.from v) → Member i (sources_of w X.from v) ⊎ B v i
  pub told : (q : ℕ) → Member q Y.waiting → Member q X.waiting ⊎ ((v : ℕ × ℕ) × (i : ℕ) × B v i × (v.1 ≡ q))

-- The sources x of the one pair (to, next).
abbrev pub At : ℕ → ℕ → ℕ → ℕ × ℕ → ℕ → Type 0
At next to x v i = (v.1 ≡ next) × (v.0 ≡ to) × Member i x

-- Sources were passed on over steps of S, each from what it began with.
pub record Followed (w : ℕ) (S : ℕ × ℕ → ℕ × ℕ → Type 0) (X Y : Sources) : Type 0 where
  pub grown : Grown w X Y
  pub covers : (u v : ℕ × ℕ) (i : ℕ) → S u v → Member i (sources_of w X.from u) → Member i (sources_of w Y.from v)
  pub sound : (v : ℕ × ℕ) (i : ℕ) → v.0 < w → Member i (sources_of w Y.from v)
      → (u : ℕ × ℕ) × (u.0 < w) × Member i (sources_of w X.from u) × Reaches S u v
  pub told : (q : ℕ) → Member q Y.waiting → Member q X.waiting ⊎ ((u : ℕ × ℕ) × (v : ℕ × ℕ) × S u v × (v.1 ≡ q))

-- The one step from (s, p) to (to, next).
abbrev pub Only : ℕ → ℕ → ℕ → ℕ → ℕ × ℕ → ℕ × ℕ → Type 0
Only p s next to u v = (u.1 ≡ p) × (u.0 ≡ s) × (v.1 ≡ next) × (v.0 ≡ to)

-- The steps over the label a from the place p with the standings taken, to some places.
abbrev pub Moved : List ℕ → ℕ → ℕ → ℕ → (ℕ → Type 0) → (ℕ → Type 0) → ℕ × ℕ → ℕ × ℕ → Type 0
Moved moves count a p Taken Next u v =
    (u.1 ≡ p) × Taken u.0 × Next v.1 × (v.0 ≡ slice_index moves (32 * u.0 + a)) × (v.0 < count)

-- The same over the labels below k: to the places below n that a label enters after p.
abbrev pub Labelled : List ℕ → ℕ → List ℕ → List ℕ → ℕ → ℕ → (ℕ → Type 0) → ℕ → ℕ × ℕ → ℕ × ℕ → Type 0
Labelled moves count follow enter n p Taken k u v =
    (a : ℕ) × (a < k)
    × Moved moves count a p Taken (λ y. Member y (intersection (slice_index follow p) (slice_index enter a)) × (y < n)) u v

-- A step to a place below n.
abbrev pub OnwardBelow : Tables → ℕ → ℕ × ℕ → ℕ × ℕ → Type 0
OnwardBelow D n u v = Onward D u v × (v.1 < n)

-- The search begins: each standing is a source of itself with the list's start, `first` holds them all, and there is nothing else.
pub record Begun (w count n : ℕ) (from : List ℕ) (first : ℕ) : Type 0 where
  pub start : (i : ℕ) → i < count → Member i (sources_of w from (i, 0))
  pub only : (v : ℕ × ℕ) (i : ℕ) → v.0 < w → v.1 < n → Member i (sources_of w from v) → (v.1 ≡ 0) × (v.0 ≡ i) × (i < count)
  pub all : (s : ℕ) → Member s first ↔ (s < count)

-- What the search holds at each turn, over the list places below n.
pub record Searching (D : Tables) (n : ℕ) (X : Sources) : Type 0 where
  pub start : (i : ℕ) → i < D.count → Member i (sources_of D.count X.from (i, 0))
  pub sound : (v : ℕ × ℕ) (i : ℕ) → v.0 < D.count → v.1 < n → Member i (sources_of D.count X.from v)
      → (i < D.count) × Reaches (Onward D) (i, 0) v
  pub closed : (u : ℕ × ℕ) → u.0 < D.count → u.1 < n
      → Member u.0 (slice_index X.pending u.1)
      ⊎ ((v : ℕ × ℕ) (i : ℕ) → OnwardBelow D n u v → Member i (sources_of D.count X.from u) → Member i (sources_of D.count X.from v))
  pub waits : (q s : ℕ) → Member s (slice_index X.pending q) → Member q X.waiting × (s < D.count)
  pub below : (q : ℕ) → Member q X.waiting → q < n

-- What it has found: the sources of each pair, over the list places below n.
pub record Searched (D : Tables) (n : ℕ) (from : List ℕ) : Type 0 where
  pub sound : (v : ℕ × ℕ) (i : ℕ) → v.0 < D.count → v.1 < n → Member i (sources_of D.count from v) → (i < D.count) × Reaches (Onward D) (i, 0) v
  pub complete : (i : ℕ) (v : ℕ × ℕ) → i < D.count → Reaches (OnwardBelow D n) (i, 0) v → Member i (sources_of D.count from v)
