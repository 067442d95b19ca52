-- What an exploration has to tell, declaratively: all values reached, no duplicates, each with its least word, in the order of least
-- words; or that strictly more values than the limit are reached.
use Rattle.std.specs.Prelude.{ℕ, suc, ◌<◌, true, List, [], reverse, ◌⊎◌, ◌≡◌, length, get_or}
use Rattle.std.proofs.Math.Option.{some}
use Rattle.theory.specs.Path.{Below, Before}
use Rattle.theory.specs.Exploration.{System, Entry, run}

-- The system's test holds exactly of equal values.
pub record Tests {A : Type 0} (S : System A) : Type 0 where
  pub sound : (u v : A) → S.same u v ≡ true → u ≡ v
  pub complete : (v : A) → S.same v v ≡ true

-- The word w, over the system's symbols, leads from the start to v.
abbrev pub Reached : {A : Type 0} → System A → A → List ℕ → Type 0
Reached S v w = Below S.symbols w × (run S S.start w ≡ some v)

abbrev pub entry_at : {A : Type 0} → System A → List (Entry A) → ℕ → Entry A
entry_at S found i = get_or found i (record { value = S.start; trail = [] })

abbrev pub value_at : {A : Type 0} → System A → List (Entry A) → ℕ → A
value_at S found i = (entry_at S found i).value

-- The word found for the i-th value.
abbrev pub word_at : {A : Type 0} → System A → List (Entry A) → ℕ → List ℕ
word_at S found i = reverse (entry_at S found i).trail

-- `found` is all that the system reaches.
pub record Explored {A : Type 0} (S : System A) (found : List (Entry A)) : Type 0 where
  -- each word found leads to its value
  pub words : (i : ℕ) → i < length found → Reached S (value_at S found i) (word_at S found i)
  -- every value reached is found
  pub reached : (v : A) (w : List ℕ) → Reached S v w → (i : ℕ) × (i < length found) × (value_at S found i ≡ v)
  -- no value is found twice
  pub distinct : (i j : ℕ) → i < length found → j < length found → value_at S found i ≡ value_at S found j → i ≡ j
  -- the word found is the first one that leads to its value
  pub least : (i : ℕ) (w : List ℕ) → i < length found → Reached S (value_at S found i) w → (word_at S found i ≡ w) ⊎ Before (word_at S found i) w
  -- the values stand in the order of their words
  pub ordered : (i j : ℕ) → i < j → j < length found → Before (word_at S found i) (word_at S found j)

-- More than `limit` distinct values are reached: the entries of `found` show one more than that.
pub record Exceeds {A : Type 0} (S : System A) (limit : ℕ) : Type 0 where
  pub found : List (Entry A)
  pub count : length found ≡ suc limit
  pub words : (i : ℕ) → i < length found → Reached S (value_at S found i) (word_at S found i)
  pub distinct : (i j : ℕ) → i < length found → j < length found → value_at S found i ≡ value_at S found j → i ≡ j
