-- The steps of marking by the places of an automaton (LinksCore): what the search and the marks promise together, and the standings told.
use Rattle.std.specs.Prelude.{Some, None, ◌≡◌, ℕ, ◌*◌, ◌^◌, ◌<◌, List, [], ◌∷◌, ◌++◌, drop, replicate, ◌≢◌, slice_index}
use Rattle.std.specs.Prelude.{refl}
use Rattle.std.proofs.Common.{sym, ap, ap₂, ◌∙◌, subst, arith, take-append-drop}
use Rattle.theory.specs.Graph.{Table}
use Rattle.theory.specs.Automaton.{Automaton}
use Rattle.theory.specs.Exploration.{Entry, Exploration, all, over}
use Rattle.finding.specs.Standings.{standings, values}
use Rattle.finding.specs.Plain.{plain}
use Rattle.finding.specs.Cleared.{Cleared}
use Rattle.answering.specs.Table.{IsTable}
use Rattle.answering.specs.TableLaws.{is-table-exactly}
use Rattle.answering.specs.Answer.{link_machine}
use Rattle.answering.specs.Links.{table-sorted}
use Rattle.answering.specs.Marks.{Markable, MarksSet}
use Rattle.answering.specs.SetMarks.{marks-accepted}
use Rattle.answering.specs.PlaceSteps.{PlacesSearchable, PlacesSearched}
use Rattle.answering.specs.PlaceSearch.{accepted-marked}
use Rattle.answering.specs.LinksCore.{Lent, StandingsMarked, LinksGiven, LinksTold}

module _ (follow enter : List ℕ) (accepting labels : ℕ) where
  abbrev A : Automaton
  A = plain follow enter accepting

  module _ {N : ℕ} {table : Table} (g : LinksGiven enter labels table N) where
    is : IsTable N labels table
    is = (is-table-exactly N labels table).0 g.is-table

    searchable : {start : ℕ} {before workspace : List ℕ} → Lent N start before workspace → PlacesSearchable enter labels N start workspace
    searchable l = record { few-labels = g.few-labels; enters = g.enters; few = l.few; begins = l.begins; room = l.room }

    -- What the search and the marks promise together.
    pub places-marked : {start : ℕ} {before workspace reached after workspace' : List ℕ} {r : ℕ}
        → ((i : ℕ) → slice_index enter i < 2 ^ 64) → ((i : ℕ) → slice_index reached i < 2 ^ 64)
        → Lent N start before workspace → PlacesSearched follow enter accepting labels table N start workspace reached
        → MarksSet 1 reached (accepting ∷ (0 ∷ (0 ∷ (0 ∷ [])))) N before after r → Cleared N reached workspace'
        → StandingsMarked A labels N table start before workspace after workspace' r
    places-marked {start} {before} {workspace} {reached} {after} {workspace'} {r} enters bits l s m d found e =
        let fit = searchable l in
        let size = s.same_length in
        let room = l.room in
        let markable : Markable 1 N reached before = record {
          some = omega arith;
          few_words = omega arith;
          room = omega arith;
          marks-fit = l.marks-fit;
        } in
        let accepted = accepted-marked follow enter accepting labels enters s.count is reached fit (s.sound fit)
        (s.complete fit (table-sorted is)) 64 found e in
        let (t, b, n) =
        marks-accepted (link_machine A (values found)) N table start 1 reached (accepting ∷ (0 ∷ (0 ∷ (0 ∷ [])))) bits accepted markable m in
        let z : drop N reached ≡ drop N workspace = subst (λ k. drop k reached ≡ drop k workspace) one-row (s.beyond fit) in
        record {
          told = n;
          marked = sym (take-append-drop N after) ∙ ap₂ (λ a b. a ++ b) t b;
          cleared = d.enough (omega arith) ∙ ap (λ t. replicate N 0 ++ t) z;
        }
      where
        one-row : 1 * N ≡ N
        one-row = omega arith

    pub links-marked : {start : ℕ} {before workspace after workspace' : List ℕ} {r : ℕ} → ¬ (standings A labels 64 ≡ over)
        → StandingsMarked A labels N table start before workspace after workspace' r
        → LinksTold A labels N table start before workspace (Some r) after workspace'
    links-marked {workspace = workspace} {workspace' = workspace'} few m =
        record {
          told = λ l e. ap Some (m l e).told;
          marked = λ l e. (m l e).marked;
          is_over = λ e. absurd (few e);
          unmarked = λ e. absurd (few e);
          cleared = some-cleared (standings A labels 64) refl;
        }
      where
        some-cleared : (o : Exploration ℕ) → standings A labels 64 ≡ o → workspace' ≡ replicate N 0 ++ drop N workspace
        some-cleared (all l) e = (m l e).cleared
        some-cleared over e = absurd (few e)

    pub links-over : {start : ℕ} {before workspace after workspace' : List ℕ} → standings A labels 64 ≡ over
        → Lent N start before workspace → Cleared N before after → Cleared N workspace workspace'
        → LinksTold A labels N table start before workspace None after workspace'
    links-over o l c d =
        record {
          told = λ l e. absurd (not-all l e o);
          marked = λ l e. absurd (not-all l e o);
          is_over = λ e. refl;
          unmarked = λ e. c.enough l.marks-fit;
          cleared = d.enough l.room;
        }
      where
        not-all : (l : List (Entry ℕ)) → standings A labels 64 ≡ all l → standings A labels 64 ≢ over
        not-all l e o = let z : ◌≡◌ {A = ℕ} 0 1 = cc in omega arith
