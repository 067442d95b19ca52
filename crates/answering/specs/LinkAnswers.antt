-- Answers from links (T7): which recordings are marked by the standings of an expression over a table of links.
use Rattle.std.specs.Prelude.{◌≡◌, ℕ, ◌+◌, ◌*◌, ◌<◌, true, ◌↔◌, List, length, slice_index}
use Rattle.std.proofs.Math.Logic.Iff
use Rattle.std.proofs.Common.{sym, ◌∙◌}
use Rattle.std.proofs.Math.Path.{ap}
use Rattle.theory.specs.Path.{Path}
use Rattle.theory.specs.Expression.{Expression, IsPath}
use Rattle.theory.specs.Graph.{Table, Leads}
use Rattle.theory.specs.Places.{Member}
use Rattle.theory.specs.PlacesLaws.{member-collect}
use Rattle.theory.specs.Automaton.{Automaton, glushkov, standing, accepts}
use Rattle.theory.proofs.Glushkov.{glushkov-accepts}
use Rattle.theory.specs.Exploration.{Entry, all}
use Rattle.finding.specs.Standings.{standings, values}
use Rattle.finding.specs.States.{accepting_standings}
use Rattle.answering.specs.Table.{IsTable}
use Rattle.answering.specs.TableLaws.{table-ends, table-labels, table-path}
use Rattle.answering.specs.Product.{reached_nodes, marks}
use Rattle.answering.specs.ProductLaws.{ends_at, StaysWithin, reached-exactly}
use Rattle.answering.specs.MarksLaws.{mark-exactly}
use Rattle.finding.specs.Numbering.{Numbering, standings-numbering}
use Rattle.answering.specs.Moves.{state-exactly, state-number}
use Rattle.answering.specs.Answer.{link_machine}

module _ (A : Automaton) (k limit : ℕ) (l : List (Entry ℕ)) (found : standings A k limit ≡ all l)
    (N : ℕ) (t : Table) (table : IsTable N k t) where
  numbering : Numbering A k (values l)
  numbering = standings-numbering A k limit l found

  moves-within : StaysWithin (link_machine A (values l)) t
  moves-within s x a y h m = (numbering.moves s a h (table-labels table m)).0

  -- The recording y is reached in the standing number i exactly when a path of that standing leads to it.
  pub reached-standings : (x y i : ℕ) → x < N → i < length (values l)
      → Member (length (values l) * y + i) (reached_nodes (link_machine A (values l)) N t x)
      ↔ ((p : Path) × Leads t p x y × (standing A p ≡ slice_index (values l) i))
  reached-standings x y i h f =
      Iff.trans
      (reached-exactly (link_machine A (values l)) t moves-within N (table-ends table) numbering.start.0 x y i h f)
      (λ q. (q.0, q.1, (number q.1).0 q.2), λ q. (q.0, q.1, (number q.1).1 q.2))
    where
      number : {p : Path} → Leads t p x y → (ends_at (link_machine A (values l)) 0 p ≡ i) ↔ (standing A p ≡ slice_index (values l) i)
      number m = state-number A k (values l) numbering (table-path table m) i f

  accepting-exactly : {p : Path} {x y : ℕ} → Leads t p x y
      → Member (ends_at (link_machine A (values l)) 0 p) (accepting_standings A (values l)) ↔ (accepts A (standing A p) ≡ true)
  unfolding accepting_standings
  accepting-exactly {p} m =
      let (h, e) = state-exactly A k (values l) numbering (table-path table m) in
      let exact = member-collect (λ i. accepts A (slice_index (values l) i)) (length (values l)) (ends_at (link_machine A (values l)) 0 p) in
      (λ q. ap (accepts A) (sym e) ∙ (exact.0 q).1, λ q. exact.1 (h, ap (accepts A) e ∙ q))

  -- A recording is marked exactly when a path leads to it whose standing accepts.
  pub standings-marked : (x y : ℕ) → x < N → y < N
      → (slice_index (marks (link_machine A (values l)) N t x) y ≡ 1) ↔ ((p : Path) × Leads t p x y × (accepts A (standing A p) ≡ true))
  standings-marked x y h f =
      Iff.trans
      (mark-exactly (link_machine A (values l)) t moves-within N (table-ends table) numbering.start.0 x y h f)
      (λ q. (q.0, q.1, (accepting-exactly q.1).0 q.2), λ q. (q.0, q.1, (accepting-exactly q.1).1 q.2))

-- Marks from links: 1 exactly where a path of the expression leads from the start.
pub links-marked : (e : Expression) (k limit : ℕ) (l : List (Entry ℕ)) → standings (glushkov e) k limit ≡ all l
    → (N : ℕ) (t : Table) → IsTable N k t → (x y : ℕ) → x < N → y < N
    → (slice_index (marks (link_machine (glushkov e) (values l)) N t x) y ≡ 1) ↔ ((p : Path) × IsPath e p × Leads t p x y)
links-marked e k limit l found N t table x y h f =
    Iff.trans (standings-marked (glushkov e) k limit l found N t table x y h f)
    (λ q. (q.0, (glushkov-accepts e q.0).1 q.2, q.1), λ q. (q.0, q.2, (glushkov-accepts e q.0).0 q.1))
