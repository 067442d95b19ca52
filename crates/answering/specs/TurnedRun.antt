-- The search by sets of recordings: for each state the set of the recordings that are reached in it, in four words, the row of the state
-- (Pairs). What is done are those recordings of a state whose links have been followed from it.
use Rattle.std.specs.Prelude.{◌≡◌, ℕ, ◌+◌, ◌*◌, ◌<◌, ◌≤◌, Bool, true, false, List, length, slice_index}
use Rattle.theory.specs.Places.{Member}
use Rattle.answering.specs.SetSearch.{Steps}
use Rattle.answering.specs.Pairs.{Has, room}

-- The pairs of a recording and a state that the ends of links lead to from the start in state 0.
pub data EndFound (rows : List ℕ) (k states N : ℕ) (ends : List ℕ) (start : ℕ) : ℕ → ℕ → Type 0 where
  begins : EndFound rows k states N ends start start 0
  onward : {x s a y t : ℕ} → EndFound rows k states N ends start x s → s < states → a < k → y < 256 → t < 64 → Steps rows k 1 s a t
      → Has 4 ends (N * a + x) y → EndFound rows k states N ends start y t

-- There are rows for the states, with recordings below N; what is done is reached.
pub record TurnedRoom (states N : ℕ) (sets done : List ℕ) : Type 0 where
  pub sets-fit : 4 * states ≤ length sets
  pub done-fit : 4 * states ≤ length done
  pub below : (s y : ℕ) → s < states → y < 256 → Has 4 sets s y → y < N
  pub within : (i b : ℕ) → i < 4 * states → Member b (slice_index done i) → Member b (slice_index sets i)

-- What holds whenever recordings are taken.
pub record TurnedGoing (rows : List ℕ) (k states N : ℕ) (ends : List ℕ) (start : ℕ) (sets done : List ℕ) : Type 0 where
  pub sound : (s y : ℕ) → s < states → y < 256 → Has 4 sets s y → EndFound rows k states N ends start y s
  pub begins : start < N
  pub first : Has 4 sets 0 start
  pub closed : (s x : ℕ) → s < states → x < N → Has 4 done s x → (a y t : ℕ) → a < k → y < 256 → t < 64 → Steps rows k 1 s a t
      → Has 4 ends (N * a + x) y → Has 4 sets t y

-- The word number i is taken: what is new in it is done now; or nothing is.
pub record WordTaken (rows : List ℕ) (k states N : ℕ) (ends : List ℕ) (i : ℕ) (sets done sets' done' : List ℕ) (r : Bool) : Type 0 where
  pub lent : TurnedRoom states N sets' done'
  pub going : (start : ℕ) → TurnedGoing rows k states N ends start sets done → TurnedGoing rows k states N ends start sets' done'
  pub more : r ≡ true → room done' < room done
  pub nothing : r ≡ false → (sets' ≡ sets) × (done' ≡ done) × (slice_index sets i ≡ slice_index done i)

-- All words are taken: more is done, or all was.
pub record RoundTaken (rows : List ℕ) (k states N : ℕ) (ends : List ℕ) (sets done sets' done' : List ℕ) (r : Bool) : Type 0 where
  pub lent : TurnedRoom states N sets' done'
  pub going : (start : ℕ) → TurnedGoing rows k states N ends start sets done → TurnedGoing rows k states N ends start sets' done'
  pub more : r ≡ true → room done' < room done
  pub settled : r ≡ false → (i : ℕ) → i < 4 * states → slice_index sets' i ≡ slice_index done' i

-- There are rows for the states, with nothing in them.
pub record TurnedBlank (states : ℕ) (sets done : List ℕ) : Type 0 where
  pub sets-fit : 4 * states ≤ length sets
  pub done-fit : 4 * states ≤ length done
  pub no-sets : (i : ℕ) → slice_index sets i ≡ 0
  pub no-done : (i : ℕ) → slice_index done i ≡ 0

-- The sets of the states are what is found.
pub record TurnedFound (rows : List ℕ) (k states N : ℕ) (ends : List ℕ) (start : ℕ) (sets : List ℕ) : Type 0 where
  pub below : (s y : ℕ) → s < states → y < 256 → Has 4 sets s y → y < N
  pub sound : (s y : ℕ) → s < states → y < 256 → Has 4 sets s y → EndFound rows k states N ends start y s
  pub complete : (s y : ℕ) → EndFound rows k states N ends start y s → (s < states) × (y < N) × Has 4 sets s y
