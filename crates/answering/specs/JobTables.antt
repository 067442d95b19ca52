-- A job and the rows that reading left of it.
use Rattle.theory.specs.Job.{Job}
use Rattle.finding.specs.declared.rows.JobRows.{JobRows}
use Rattle.answering.specs.LinksOperation.{JobGiven}

-- The rows hold the automata of the job's expressions.
abbrev pub JobIn : Job → JobRows → Type 0
JobIn J t = JobGiven J t.follow.now t.enter.now t.sizes.now t.accepting.now t.labels t.lists
