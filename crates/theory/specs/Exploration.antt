-- Exploration of a deterministic system: the values that it reaches from its start over words of its symbols, each with its first word,
-- in the order of those words (shorter first, then symbol order), as long as there are no more values than a limit. Query standings over
-- labels, states over lists and pairs over labels (document 01) are three such systems. A step may be undefined.
use Rattle.std.specs.Prelude.{ℕ, zero, suc, Bool, true, false, ◌||◌, List, [], ◌∷◌, ◌++◌, ltb, length, get_or}
use Rattle.std.proofs.Math.Option.{Option, some, none}

-- A deterministic system over the values A: a test for equal values, the start, the step over a symbol, and how many symbols there are.
pub record System (A : Type 0) : Type 0 where
  pub same : A → A → Bool
  pub start : A
  pub step : A → ℕ → Option A
  pub symbols : ℕ

-- The value that a word leads to.
unfoldable pub run : {A : Type 0} → System A → A → List ℕ → Option A
run S v [] = some v
run S v (a ∷ w) = elim (S.step v a) [ none ↦ none | some u ↦ run S u w ]

-- A value found, and its trail: the word that reaches it, last symbol first.
pub record Entry (A : Type 0) : Type 0 where
  pub value : A
  pub trail : List ℕ

-- What an exploration tells: everything reached, or that there are more values than the limit.
pub data Exploration (A : Type 0) : Type 0 where
  all : List (Entry A) → Exploration A
  over : Exploration A

unfoldable pub known : {A : Type 0} → System A → A → List (Entry A) → Bool
known S v [] = false
known S v (e ∷ l) = S.same v e.value || known S v l

-- What was found, with the entry put behind it if its value is new.
unfoldable pub grow : {A : Type 0} → System A → ℕ → Entry A → List (Entry A) → Exploration A
grow S limit e found =
    elim (known S e.value found) [
      | true ↦ all found
      | false ↦ elim (ltb (length found) limit) [ true ↦ all (found ++ (e ∷ [])) | false ↦ over ]
    ]

-- The same for a step from the entry e over the symbol a, where it is defined.
unfoldable pub extend : {A : Type 0} → System A → ℕ → Entry A → ℕ → List (Entry A) → Exploration A
extend S limit e a found =
    elim (S.step e.value a) [
      | none ↦ all found
      | some v ↦ grow S limit (record { value = v; trail = a ∷ e.trail }) found
    ]

-- The same for the n symbols from a on.
unfoldable pub row : {A : Type 0} → System A → ℕ → Entry A → ℕ → ℕ → List (Entry A) → Exploration A
row S limit e zero a found = all found
row S limit e (suc n) a found = elim (extend S limit e a found) [ all more ↦ row S limit e n (suc a) more | over ↦ over ]

-- The same for the entries from i on, those that are found on the way too; at most n of them.
unfoldable pub sweep : {A : Type 0} → System A → ℕ → ℕ → ℕ → List (Entry A) → Exploration A
sweep S limit zero i found = all found
sweep S limit (suc n) i found =
    elim (ltb i (length found)) [
      | true ↦ elim (row S limit (get_or found i (record { value = S.start; trail = [] })) S.symbols 0 found) [
        | all more ↦ sweep S limit n (suc i) more
        | over ↦ over
      ]
      | false ↦ all found
    ]

-- The exploration from the start.
unfoldable pub explore : {A : Type 0} → System A → ℕ → Exploration A
explore S limit =
    elim (grow S limit (record { value = S.start; trail = [] }) []) [ all found ↦ sweep S limit limit 0 found | over ↦ over ]
