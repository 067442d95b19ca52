-- Pairs in a lent workspace: 18 words a pair. Word 0 is the standing, words 1 to 16 are the cover set, and word 17 tells how the pair was
-- first reached: its lowest 13 bits are the place of the pair before it, the next 6 bits the label.
use Rattle.std.specs.Prelude.{◌≡◌, ℕ, zero, suc, ◌+◌, ◌*◌, ◌/◌, ◌%◌, ◌^◌, ◌<◌, ◌≤◌, Bool, true, false, List, [], ◌∷◌, length, ◌≢◌, slice_index, slice_index_or}
use Rattle.theory.specs.Exploration.{System, Entry}
use Rattle.theory.specs.Explored.{entry_at}
use Rattle.places.specs.Words.{number_of}
use Rattle.verdict.specs.Pairs.{Pair}
use Rattle.verdict.specs.Coded.{Layout, Coded}

-- The n words from x on.
unfoldable pub words_at : List ℕ → ℕ → ℕ → List ℕ
words_at space x zero = []
words_at space x (suc n) = slice_index space x ∷ words_at space (suc x) n

abbrev pub pair_at : List ℕ → ℕ → Pair
pair_at space i = record { standing = slice_index space (18 * i); cover = number_of (words_at space (18 * i + 1) 16) }

abbrev pub parent_at : List ℕ → ℕ → ℕ
parent_at space i = slice_index space (18 * i + 17) % 2 ^ 13

abbrev pub label_at : List ℕ → ℕ → ℕ
label_at space i = slice_index space (18 * i + 17) / 2 ^ 13 % 2 ^ 6

-- The workspace tells how the entries l were reached: for each but the first the entry before it and the label.
pub record Trails (S : System Pair) (space : List ℕ) (l : List (Entry Pair)) : Type 0 where
  pub first : (entry_at S l 0).trail ≡ []
  pub parent : (i : ℕ) → 0 < i → i < length l → parent_at space i < i
  pub trail : (i : ℕ) → 0 < i → i < length l → (entry_at S l i).trail ≡ label_at space i ∷ (entry_at S l (parent_at space i)).trail

-- It holds the entries l: the value of each, as it stands there (Coded), and how it was reached.
pub record Holds (L : Layout) (n : ℕ) (S : System Pair) (space : List ℕ) (l : List (Entry Pair)) : Type 0 where
  pub value : (i : ℕ) → i < length l → Coded L n (entry_at S l i).value (pair_at space i)
  pub trails : Trails S space l

-- The pair number m is stored: `space` becomes `space'`.
pub record Stored (space : List ℕ) (m standing : ℕ) (cover : List ℕ) (link : ℕ) (space' : List ℕ) : Type 0 where
  pub size : length space' ≡ length space
  pub standing-at : slice_index_or space' (18 * m) 0 ≡ standing
  pub cover-at : (j : ℕ) → j < 16 → slice_index space' (18 * m + 1 + j) ≡ slice_index cover j
  pub link_at : slice_index_or space' (18 * m + 17) 0 ≡ link
  pub others : (j : ℕ) → (18 * m ≤ j → j < 18 * m + 18 → ⊥) → slice_index space' j ≡ slice_index space j

-- The pair number i is x, or not.
pub record Compared (space : List ℕ) (i : ℕ) (x : Pair) (r : Bool) : Type 0 where
  pub same : r ≡ true → pair_at space i ≡ x
  pub differs : r ≡ false → pair_at space i ≢ x

-- A pair is among the first n in the workspace, or not.
pub record Seen (n : ℕ) (space : List ℕ) (x : Pair) (r : Bool) : Type 0 where
  pub found : r ≡ true → (i : ℕ) × (i < n) × (pair_at space i ≡ x)
  pub new : r ≡ false → (i : ℕ) → i < n → pair_at space i ≢ x
