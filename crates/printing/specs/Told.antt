-- What Find and Verdict tell, as the definitions have it.
use Rattle.std.specs.Prelude.{ℕ, List}
use Rattle.finding.specs.declared.answer.Found.{Found}
use Rattle.finding.specs.Find.{Rewriting}
use Rattle.finding.specs.WordTold.{word_of}

-- The rewriting that a lent table and lent flags hold.
abbrev pub rewriting_told : Found → List ℕ → List ℕ → Rewriting
rewriting_told f table flags =
    record { standings = f.standings; states = f.states; table = table; flags = flags; first = word_of f.first }
