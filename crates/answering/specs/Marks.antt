-- Marks from words (document 01, "Answer"): the recording y is marked where some of its w words has a bit in common with the accepting
-- words.
use Rattle.std.specs.Prelude.{◌≡◌, ℕ, zero, suc, ◌+◌, ◌*◌, ◌<◌, ◌≤◌, Bool, true, false, not, ◌||◌, List, [], ◌∷◌, ◌++◌, length, drop, ◌==◌, slice_index}
use Rattle.theory.specs.Places.{intersection}
use Rattle.answering.specs.Marked.{ones}
use Rattle.answering.specs.MarksLaws.{mark_of}

-- Some of the first n words from `base` on has a bit in common with the accepting word in the same place.
unfoldable pub meets : List ℕ → List ℕ → ℕ → ℕ → Bool
meets words accepting base zero = false
meets words accepting base (suc n) =
    meets words accepting base n || not (intersection (slice_index words (base + n)) (slice_index accepting n) == 0)

-- The marks of the n recordings from y on.
unfoldable pub marks_of : ℕ → List ℕ → List ℕ → ℕ → ℕ → List ℕ
marks_of w words accepting zero y = []
marks_of w words accepting (suc n) y = mark_of (meets words accepting (w * y) w) ∷ marks_of w words accepting n (suc y)

-- The lent words and marks suffice.
pub record Markable (w N : ℕ) (words marks : List ℕ) : Type 0 where
  pub some : 0 < w
  pub few_words : w ≤ 4
  pub room : w * N ≤ length words
  pub marks-fit : N ≤ length marks

-- Whether they suffice.
pub record Sufficing (w N : ℕ) (words marks : List ℕ) (r : Bool) : Type 0 where
  pub fits : r ≡ true → Markable w N words marks
  pub unfit : r ≡ false → ¬ Markable w N words marks

-- The first N marks say which recordings are marked, and the number of ones is told; where the sizes do not fit, nothing is changed and
-- 0 is told.
pub record MarksSet (w : ℕ) (words accepting : List ℕ) (N : ℕ) (before after : List ℕ) (r : ℕ) : Type 0 where
  pub set : Markable w N words before → after ≡ marks_of w words accepting N 0 ++ drop N before
  pub counted : Markable w N words before → r ≡ ones (marks_of w words accepting N 0)
  pub unfit : ¬ Markable w N words before → (after ≡ before) × (r ≡ 0)
