-- Lists and list words (document 01, "Path"): a list word is a finite sequence of list numbers. It spells every path made by joining, in
-- order, one path of each name; the empty word spells the empty path alone.
use Rattle.std.specs.Prelude.{ℕ, List, [], ◌∷◌, ◌++◌, ◌≡◌}
use Rattle.theory.specs.Path.{Path, Language}

abbrev pub Word : Type 0
Word = List ℕ

-- `Spells lists w p`: the word w spells the path p, where `lists v` is the language of the list v.
pub data Spells (lists : ℕ → Language) : Word → Path → Type 0 where
  nothing : Spells lists [] []
  name : {v : ℕ} {w : Word} {p : Path} (u r : Path) → p ≡ u ++ r → lists v u → Spells lists w r → Spells lists (v ∷ w) p
