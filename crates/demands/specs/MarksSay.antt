-- What an answer from links or from lists says (demand 3), read off what is told and off the buffers as they are left.
use Rattle.std.specs.Prelude.{ℕ, ◌*◌, ◌<◌, List, [], ◌∷◌, ◌≡◌, length, take, drop}
use Rattle.theory.specs.Path.{Path}
use Rattle.theory.specs.Expression.{Expression, IsPath}
use Rattle.theory.specs.Job.{Job}
use Rattle.theory.specs.Graph.{Table, Leads, AnswersFromLists}
use Rattle.syntax.specs.Reply.{given}
use Rattle.finding.specs.Named.{cleared}
use Rattle.answering.specs.Marked.{ones}
use Rattle.answering.specs.Table.{IsTable}
use Rattle.answering.specs.Marked.{Chosen, MarksOf}
use Rattle.answering.specs.LinksOperation.{Outcome}

-- A path of the expression leads from x to y over the links.
abbrev pub Reaches : Expression → Table → ℕ → ℕ → Type 0
Reaches e links x y = (p : Path) × IsPath e p × Leads links p x y

-- Of N recordings those are marked of which P holds; so many words of the workspace are named.
pub record MarksSay (N words : ℕ) (P : ℕ → Type 0) (lent_marks lent_workspace : List ℕ) (o : Outcome) : Type 0 where
  -- N marks, each 0 or 1, and 1 exactly where P holds
  pub marks : MarksOf N P (take N o.marks)
  pub beyond : drop N o.marks ≡ drop N lent_marks
  -- the number of ones is told
  pub told : o.reply ≡ given (ones (take N o.marks) ∷ [])
  pub workspace : o.workspace ≡ cleared words lent_workspace

-- What an answer from links rests on and says: the chosen expression, a proper table and start, and the marks.
pub record LinksSay (J : Job) (N c : ℕ) (links : Table) (start : ℕ) (lent_marks lent_workspace : List ℕ) (o : Outcome) : Type 0 where
  pub expression : Expression
  pub chosen : Chosen J c expression
  pub table : IsTable N J.labels links
  pub begins : start < N
  pub says : MarksSay N N (Reaches expression links start) lent_marks lent_workspace o

-- What an answer from lists rests on and says.
pub record ListsSay (J : Job) (N : ℕ) (lists : Table) (start : ℕ) (lent_marks lent_workspace : List ℕ) (o : Outcome) : Type 0 where
  pub table : IsTable N (length J.lists) lists
  pub begins : start < N
  pub says : MarksSay N (4 * N) (AnswersFromLists J lists start) lent_marks lent_workspace o
