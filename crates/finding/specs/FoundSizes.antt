-- How much Find gives: no more standings and states than the limits, for each state a flag and a row of the table, no number in the table
-- over the number of states, and a first word shorter than the limit of states.
use Rattle.std.specs.Prelude.{◌≡◌, ℕ, ◌*◌, ◌<◌, ◌≤◌, List, [], map, length, slice_index}
use Rattle.std.proofs.Math.Option.{some}
use Rattle.std.proofs.Common.{ap, arith}
use Rattle.std.proofs.Math.Path.{subst}
use Rattle.std.proofs.lemmas.List.{length-map}
use Rattle.theory.specs.Word.{Word}
use Rattle.theory.specs.Places.{one}
use Rattle.theory.specs.Job.{Job}
use Rattle.theory.specs.Automaton.{Automaton, glushkov}
use Rattle.theory.specs.Exploration.{Entry, all}
use Rattle.theory.proofs.ExplorationLaws.{explored}
use Rattle.theory.specs.WordLengths.{word-short}
use Rattle.theory.specs.Minimized.{minimized}
use Rattle.theory.proofs.MinimizedLaws.{minimized-fewer, minimized-next}
use Rattle.finding.specs.Standings.{standings, values}
use Rattle.finding.specs.StandingsLaws.{standing-tests}
use Rattle.finding.specs.ListImage.{image_table}
use Rattle.finding.specs.States.{states, first_accepted, accepting_standings}
use Rattle.finding.specs.StatesLaws.{state-tests, states-explored}
use Rattle.finding.specs.FirstAccepted.{first_accepted-some}
use Rattle.finding.specs.Find.{Rewriting, found, deterministic, merged, explore_automata, find_automata, find, most_standings, most_states}
use Rattle.finding.specs.FindStates.{rewriting}
use Rattle.finding.specs.FindLaws.{Course, course, standings-exceeded, states-exceeded, answered}
use Rattle.finding.specs.Numbers.{length-values}
use Rattle.finding.specs.TableOfLaws.{table-length, table-bounded, flags-length}

-- The sizes of a rewriting in terms of so many lists, within the limits.
pub record Sizes (lists most_a most_b : ℕ) (R : Rewriting) : Type 0 where
  pub few-standings : R.standings ≤ most_a
  pub few-states : R.states ≤ most_b
  pub table : lists ≤ 16 → length R.table ≡ 16 * R.states
  pub entries : (i : ℕ) → slice_index R.table i ≤ R.states
  pub flags : length R.flags ≡ R.states
  pub short : (w : Word) → R.first ≡ some w → length w < most_b

module _ (images : List (List ℕ)) (m limit accepting : ℕ) (l : List (Entry ℕ)) (e : states images m limit ≡ all l) where
  first_short : (w : Word) → first_accepted accepting l ≡ some w → length w < length l
  first_short w f =
      let (s, h, a, r, earlier) = first_accepted-some accepting l (record { value = one 0; trail = [] }) w f in
      omega (arith, word-short (states-explored images m limit l e) s h, ap length r)

  merged-sizes : (lists most_a : ℕ) → m ≤ most_a → Sizes lists most_a limit (merged lists (rewriting images m accepting l))
  unfolding states
  merged-sizes lists most_a few =
      let R = rewriting images m accepting l in
      let D = deterministic R.states lists R.table R.flags in
      let most = (explored (state-tests images m) l e).1 in
      record {
        few-standings = few;
        few-states = omega (arith, minimized-fewer D, most);
        table = λ wide. table-length (minimized D);
        entries = table-bounded (minimized D) (minimized-next D);
        flags = flags-length (minimized D);
        short = λ w f. omega (arith, first_short w f, most);
      }

module _ (A : Automaton) (k : ℕ) (lists : List Automaton) (most_a most_b : ℕ) (R : Rewriting) (h : find_automata A k lists most_a most_b ≡ found R)
  where
    found-sizes : Sizes (length lists) most_a most_b R
    unfolding standings
    found-sizes = side (course A k lists most_a most_b)
      where
        side : Course A k lists most_a most_b → Sizes (length lists) most_a most_b R
        side (standings-exceeded e u f) = absurd (let z : ◌≡◌ {A = ℕ} 0 1 = cc in omega arith)
        side (states-exceeded l e g u f) = absurd (let z : ◌≡◌ {A = ℕ} 0 1 = cc in omega arith)
        side (answered l r e g u f) =
            let images = image_table A (values l) k lists in
            let same : merged (length lists) (rewriting images (length (values l)) (accepting_standings A (values l)) r) ≡ R = cc in
            let few : length (values l) ≤ most_a = omega (arith, length-values l, (explored (standing-tests A k) l e).1) in
            subst (Sizes (length lists) most_a most_b) same
            (merged-sizes images (length (values l)) most_b (accepting_standings A (values l)) r g (length lists) most_a few)

-- Before states are merged there are no more than the limit either.
pub explored-few : (A : Automaton) (k : ℕ) (lists : List Automaton) (most_a most_b : ℕ) (R : Rewriting)
    → explore_automata A k lists most_a most_b ≡ found R → R.states ≤ most_b
unfolding states
explored-few A k lists most_a most_b R h = side (course A k lists most_a most_b)
  where
    side : Course A k lists most_a most_b → R.states ≤ most_b
    side (standings-exceeded e u f) = absurd (let z : ◌≡◌ {A = ℕ} 0 1 = cc in omega arith)
    side (states-exceeded l e g u f) = absurd (let z : ◌≡◌ {A = ℕ} 0 1 = cc in omega arith)
    side (answered l r e g u f) =
        let images = image_table A (values l) k lists in
        let same : rewriting images (length (values l)) (accepting_standings A (values l)) r ≡ R = cc in
        subst (λ S. S.states ≤ most_b) same (explored (state-tests images (length (values l))) r g).1

-- The same of a job.
pub job-sizes : (J : Job) (R : Rewriting) → find J ≡ found R → Sizes (length J.lists) most_standings most_states R
unfolding find
job-sizes J R h =
    subst (λ n. Sizes n most_standings most_states R) (length-map J.lists glushkov)
    (found-sizes (glushkov J.query) J.labels (map glushkov J.lists) most_standings most_states R h)
