-- What an answer of Verdict says of its job (demand 3), read off what is told and off the buffers as they are left.
use Rattle.std.specs.Prelude.{ℕ, ◌*◌, ◌≤◌, List, [], ◌∷◌, ◌⊎◌, ◌≡◌, length}
use Rattle.theory.specs.Path.{Path}
use Rattle.theory.specs.Job.{Job}
use Rattle.theory.specs.Rewriting.{FirstMissed, Complete}
use Rattle.syntax.specs.Reply.{given}
use Rattle.finding.specs.Find.{Rewriting}
use Rattle.finding.specs.Finds.{Finds}
use Rattle.finding.specs.Named.{cleared, written}
use Rattle.finding.specs.Rewritten.{rewritten}
use Rattle.verdict.specs.Verdicts.{CountsPairs}
use Rattle.verdict.specs.VerdictOperation.{Outcome}

-- Every query path is yielded: the number of pairs is told, and no path is left.
abbrev pub SaysComplete : Job → ℕ → ℕ → List ℕ → Outcome → Type 0
SaysComplete J pairs allowance path o = Complete J × (o.reply ≡ given (pairs ∷ [])) × (o.path ≡ cleared allowance path)

-- A path is missed: its length is told too, and the first missed one is left, with zeros behind it.
abbrev pub SaysMissed : Job → ℕ → ℕ → List ℕ → Outcome → Type 0
SaysMissed J pairs allowance path o =
    (p : Path) × FirstMissed J p × (o.reply ≡ given (pairs ∷ (length p ∷ []))) × (length p ≤ allowance)
    × (o.path ≡ written allowance p path)

pub record VerdictSays (J : Job) (allowance : ℕ) (lent_table lent_flags lent_path lent_workspace : List ℕ) (o : Outcome) : Type 0 where
  -- Find's table and flags are left
  pub rewriting : Rewriting
  pub finds : Finds J rewriting
  pub table : o.table ≡ written 4096 rewriting.table lent_table
  pub flags : o.flags ≡ written 256 rewriting.flags lent_flags
  -- the number told is that of the distinct pairs over all paths
  pub pairs : ℕ
  pub counted : CountsPairs J (rewritten rewriting) pairs
  -- complete, or the first missed path
  pub verdict : SaysComplete J pairs allowance lent_path o ⊎ SaysMissed J pairs allowance lent_path o
  pub workspace : o.workspace ≡ cleared (18 * allowance) lent_workspace
