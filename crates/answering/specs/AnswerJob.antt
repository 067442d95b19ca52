-- The two answers on a job (document 01, "Answer from links" and "Answer from lists"), after Read's checks: the marks, or a refusal, in the
-- listed order.
use Rattle.std.specs.Prelude.{ℕ, zero, suc, true, false, List, length, nat_lt, slice_index_or}
use Rattle.std.proofs.Math.Option.{Option, some, none}
use Rattle.theory.specs.Expression.{Expression, empty}
use Rattle.theory.specs.Job.{Job}
use Rattle.theory.specs.Graph.{Table}
use Rattle.theory.specs.Automaton.{glushkov}
use Rattle.theory.specs.Exploration.{Exploration, all, over}
use Rattle.syntax.specs.declared.refusal.Refusal.{Refusal}
use Rattle.syntax.specs.declared.refusal.Refusal.TheVariants.{TooManyStandings, BadTable, BadStart, NoExpression}
use Rattle.finding.specs.Standings.{standings, values}
use Rattle.finding.specs.Find.{Found, found, find, most_standings}
use Rattle.finding.specs.Rewritten.{rewritten}
use Rattle.answering.specs.Table.{is_table}
use Rattle.answering.specs.Product.{marks}
use Rattle.answering.specs.Answer.{link_machine, list_machine}

-- The marks, one for each recording, or a refusal.
pub data Marking : Type 0 where
  marked : List ℕ → Marking
  refused : Refusal → Marking

-- The chosen expression: 0 is the query, 1 upward a list.
unfoldable pub chosen : Job → ℕ → Option Expression
chosen J zero = some J.query
chosen J (suc v) = elim (nat_lt v (length J.lists)) [ true ↦ some (slice_index_or J.lists v empty) | false ↦ none ]

-- A table of N recordings and k symbols, and a start among them: 15, then 16, then what comes after.
abbrev pub checked : ℕ → ℕ → Table → ℕ → Marking → Marking
checked N k t x more =
    elim (is_table N k t) [ false ↦ refused BadTable | true ↦ elim (nat_lt x N) [ false ↦ refused BadStart | true ↦ more ] ]

-- The marks by the standings of an expression.
abbrev pub marked_links : Expression → ℕ → Table → ℕ → Exploration ℕ → Marking
marked_links e N t x over = refused TooManyStandings
marked_links e N t x (all l) = marked (marks (link_machine (glushkov e) (values l)) N t x)

abbrev pub links_of : Job → ℕ → Table → ℕ → Option Expression → Marking
links_of J N t x none = refused NoExpression
links_of J N t x (some e) =
    let more = marked_links e N t x (standings (glushkov e) J.labels most_standings) in checked N J.labels t x more

unfoldable pub links_job : Job → ℕ → ℕ → Table → ℕ → Marking
links_job J N c t x = links_of J N t x (chosen J c)

-- The marks by the states of a rewriting.
abbrev pub marked_lists : ℕ → Table → ℕ → Found → Marking
marked_lists N t x (Found.refused r) = refused r
marked_lists N t x (found R) = marked (marks (list_machine (rewritten R)) N t x)

unfoldable pub lists_job : Job → ℕ → Table → ℕ → Marking
lists_job J N t x = let more = marked_lists N t x (find J) in checked N (length J.lists) t x more
