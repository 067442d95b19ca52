-- What Find gives (document 01, "Find"): where Find answers, its answer is the greatest rewriting of the job's query; it refuses with 9 exactly
-- when there are more than 64 standings, with 10 exactly when there are not and there are more than 256 states, and with nothing else.
-- States are counted before they are merged. First for any limits, then for those of document 01.
use Rattle.std.specs.Prelude.{◌≡◌, ℕ, suc, ◌≤◌, ◌⊎◌, ◌↔◌, List, map, length, slice_index}
use Rattle.std.proofs.Common.{inl, inr, sym, ap, ◌∙◌, subst, arith}
use Rattle.std.proofs.Math.Logic.Iff
use Rattle.std.specs.Prelude.{refl}
use Rattle.std.proofs.lemmas.List.{length-map}
use Rattle.theory.specs.Word.{Word}
use Rattle.theory.specs.Job.{Job, WellFormed, IsWord}
use Rattle.theory.specs.Rewriting.{Sound}
use Rattle.theory.proofs.GreatestRewriting.{accepted-exactly-sound}
use Rattle.theory.specs.Expression.{Expression}
use Rattle.theory.specs.Automaton.{Automaton, glushkov}
use Rattle.theory.specs.Exploration.{Entry, Exploration, all, over}
use Rattle.syntax.specs.declared.refusal.Refusal.{Refusal}
use Rattle.syntax.specs.declared.refusal.Refusal.TheVariants.{TooManyStandings, TooManyStates}
use Rattle.finding.specs.Standings.{standings, values}
use Rattle.finding.specs.ListImage.{image_table}
use Rattle.finding.specs.States.{states, accepting_standings}
use Rattle.finding.specs.Find.{Rewriting, Found, found, refused, find_states, explore_automata, merged, merged_found, find_automata, find}
use Rattle.finding.specs.Find.{row_width, most_standings, most_states}
use Rattle.finding.specs.Finds.{DistinctStandings, DistinctStates, CountsStandings, followed, Finds}
use Rattle.finding.specs.Numbers.{length-values}
use Rattle.finding.specs.StandingsLaws.{standings-over, standings-all}
use Rattle.finding.specs.Numbering.{standings-numbering}
use Rattle.finding.specs.ImageTable.{job_images}
use Rattle.finding.specs.StatesLaws.{states-over, states-explored}
use Rattle.finding.specs.FindStates.{rewriting, states-finds}
use Rattle.finding.specs.MergedLaws.{merged-finds}

-- How Find goes: too many standings, too many states, or an answer.
pub data Course (A : Automaton) (k : ℕ) (lists : List Automaton) (most_a most_b : ℕ) : Type 0 where
  standings-exceeded : standings A k most_a ≡ over → explore_automata A k lists most_a most_b ≡ refused TooManyStandings
      → find_automata A k lists most_a most_b ≡ refused TooManyStandings → Course A k lists most_a most_b
  states-exceeded : (l : List (Entry ℕ)) → standings A k most_a ≡ all l
      → states (image_table A (values l) k lists) (length (values l)) most_b ≡ over
      → explore_automata A k lists most_a most_b ≡ refused TooManyStates
      → find_automata A k lists most_a most_b ≡ refused TooManyStates → Course A k lists most_a most_b
  answered : (l r : List (Entry ℕ)) → standings A k most_a ≡ all l
      → states (image_table A (values l) k lists) (length (values l)) most_b ≡ all r
      → explore_automata A k lists most_a most_b
      ≡ found (rewriting (image_table A (values l) k lists) (length (values l)) (accepting_standings A (values l)) r)
      → find_automata A k lists most_a most_b
      ≡ found (merged (length lists)
      (rewriting (image_table A (values l) k lists) (length (values l)) (accepting_standings A (values l)) r))
      → Course A k lists most_a most_b

pub course : (A : Automaton) (k : ℕ) (lists : List Automaton) (most_a most_b : ℕ) → Course A k lists most_a most_b
unfolding explore_automata find_automata merged_found find_states
course A k lists most_a most_b = first (standings A k most_a) refl
  where
    -- Merging goes on from what is explored.
    whole : {f : Found} → explore_automata A k lists most_a most_b ≡ f → find_automata A k lists most_a most_b ≡ merged_found (length lists) f
    whole e = ap (merged_found (length lists)) e

    second : (l : List (Entry ℕ)) → standings A k most_a ≡ all l
        → explore_automata A k lists most_a most_b
        ≡ find_states (image_table A (values l) k lists) (length (values l)) (accepting_standings A (values l)) most_b
        → (t : Exploration ℕ) → states (image_table A (values l) k lists) (length (values l)) most_b ≡ t → Course A k lists most_a most_b
    second l e f over g =
        let h : explore_automata A k lists most_a most_b ≡ refused TooManyStates = f ∙ rw (find_states, g) in
        states-exceeded l e g h (whole h)
    second l e f (all r) g =
        let h : explore_automata A k lists most_a most_b
        ≡ found (rewriting (image_table A (values l) k lists) (length (values l)) (accepting_standings A (values l)) r) =
        f ∙ rw (find_states, g) in
        answered l r e g h (whole h)

    first : (t : Exploration ℕ) → standings A k most_a ≡ t → Course A k lists most_a most_b
    first over e =
        let h : explore_automata A k lists most_a most_b ≡ refused TooManyStandings = rw (explore_automata, e) in
        standings-exceeded e h (whole h)
    first (all l) e =
        second l e (rw (explore_automata, e, length-values l)) (states (image_table A (values l) k lists) (length (values l)) most_b) refl

-- The two refusals and an answer are three things.
clash : {A : Type 0} → ◌≡◌ {A = ℕ} 0 1 → A
clash z = absurd (omega arith)

answer-refusal : {A : Type 0} {r : Refusal} {R : Rewriting} {f : Found} → f ≡ found R → f ≡ refused r → A
answer-refusal p q = clash (cc)

standings-states : {A : Type 0} {f : Found} → f ≡ refused TooManyStandings → f ≡ refused TooManyStates → A
standings-states p q = clash (cc)

all-over : {A : Type 0} {r : Exploration ℕ} {l : List (Entry ℕ)} → r ≡ all l → r ≡ over → A
all-over p q = clash (cc)

same_answer : {f : Found} {Q R : Rewriting} → f ≡ found Q → f ≡ found R → Q ≡ R
same_answer p q = cc

-- Any limits. The lists count only where there are not too many standings.
pub automata-standings : (q : Expression) (k : ℕ) (lists : List Automaton) (most_a most_b : ℕ)
    → (find_automata (glushkov q) k lists most_a most_b ≡ refused TooManyStandings) ↔ DistinctStandings q k (suc most_a)
automata-standings q k lists most_a most_b =
    let c = course (glushkov q) k lists most_a most_b in
    (there c, λ d. back ((standings-over q k most_a).1 d) c)
  where
    there : Course (glushkov q) k lists most_a most_b → find_automata (glushkov q) k lists most_a most_b ≡ refused TooManyStandings
        → DistinctStandings q k (suc most_a)
    there (standings-exceeded e u f) h = (standings-over q k most_a).0 e
    there (states-exceeded l e g u f) h = standings-states h f
    there (answered l r e g u f) h = answer-refusal f h

    back : standings (glushkov q) k most_a ≡ over → Course (glushkov q) k lists most_a most_b
        → find_automata (glushkov q) k lists most_a most_b ≡ refused TooManyStandings
    back d (standings-exceeded e u f) = f
    back d (states-exceeded l e g u f) = all-over e d
    back d (answered l r e g u f) = all-over e d

pub automata-refusals : (A : Automaton) (k : ℕ) (lists : List Automaton) (most_a most_b : ℕ) (r : Refusal)
    → find_automata A k lists most_a most_b ≡ refused r → (r ≡ TooManyStandings) ⊎ (r ≡ TooManyStates)
automata-refusals A k lists most_a most_b r h = side (course A k lists most_a most_b)
  where
    side : Course A k lists most_a most_b → (r ≡ TooManyStandings) ⊎ (r ≡ TooManyStates)
    side (standings-exceeded e u f) = inl (cc)
    side (states-exceeded l e g u f) = inr (cc)
    side (answered l s e g u f) = answer-refusal f h

-- Find with any limits.
abbrev pub find_within : Job → ℕ → ℕ → Found
find_within J most_a most_b = find_automata (glushkov J.query) J.labels (map glushkov J.lists) most_a most_b

module _ (J : Job) (formed : WellFormed J) (most_a most_b : ℕ) where
  abbrev JobCourse : Type 0
  JobCourse = Course (glushkov J.query) J.labels (map glushkov J.lists) most_a most_b

  -- There are more states than the limit exactly where there are words that show it.
  job-states : (l : List (Entry ℕ)) → standings (glushkov J.query) J.labels most_a ≡ all l
      → (states (job_images J (values l)) (length (values l)) most_b ≡ over) ↔ DistinctStates J (suc most_b)
  job-states l e = states-over J formed (values l) (standings-numbering (glushkov J.query) J.labels most_a l e) most_b

  pub automata-states : (find_within J most_a most_b ≡ refused TooManyStates)
      ↔ ((¬ DistinctStandings J.query J.labels (suc most_a)) × DistinctStates J (suc most_b))
  automata-states = (there (course _ _ _ most_a most_b), λ (n, d). back n d (course _ _ _ most_a most_b))
    where
      within : (l : List (Entry ℕ)) → standings (glushkov J.query) J.labels most_a ≡ all l
          → ¬ DistinctStandings J.query J.labels (suc most_a)
      within l e d = all-over e ((standings-over J.query J.labels most_a).1 d)

      there : JobCourse → find_within J most_a most_b ≡ refused TooManyStates
          → (¬ DistinctStandings J.query J.labels (suc most_a)) × DistinctStates J (suc most_b)
      there (standings-exceeded e u f) h = standings-states f h
      there (states-exceeded l e g u f) h = (within l e, (job-states l e).0 g)
      there (answered l r e g u f) h = answer-refusal f h

      back : ¬ DistinctStandings J.query J.labels (suc most_a) → DistinctStates J (suc most_b) → JobCourse
          → find_within J most_a most_b ≡ refused TooManyStates
      back n d (standings-exceeded e u f) = absurd (n ((standings-over J.query J.labels most_a).0 e))
      back n d (states-exceeded l e g u f) = f
      back n d (answered l r e g u f) = all-over g ((job-states l e).1 d)

  pub automata-finds : length J.lists ≤ row_width → (R : Rewriting)
      → find_within J most_a most_b ≡ found R → Finds J R
  automata-finds fits R h = side (course (glushkov J.query) J.labels (map glushkov J.lists) most_a most_b)
    where
      side : JobCourse → Finds J R
      side (standings-exceeded e u f) = answer-refusal h f
      side (states-exceeded l e g u f) = answer-refusal h f
      side (answered l r e g u f) =
          subst (Finds J) (same_answer f h)
          (subst (λ n. Finds J (merged n (rewriting (job_images J (values l)) (length (values l))
          (accepting_standings (glushkov J.query) (values l)) r))) (sym (length-map J.lists glushkov))
          (merged-finds J _ fits (states-finds J formed fits (values l) (standings-numbering (glushkov J.query) J.labels most_a l e) r
          (states-explored (job_images J (values l)) (length (values l)) most_b r g)
          (subst (CountsStandings J.query J.labels) (sym (length-values l)) (standings-all J.query J.labels most_a l e)))))

  -- Where neither limit is exceeded, Find answers.
  pub automata-answers : ¬ DistinctStandings J.query J.labels (suc most_a) → ¬ DistinctStates J (suc most_b)
      → (R : Rewriting) × (find_within J most_a most_b ≡ found R)
  automata-answers n m = side (course (glushkov J.query) J.labels (map glushkov J.lists) most_a most_b)
    where
      side : JobCourse → (R : Rewriting) × (find_within J most_a most_b ≡ found R)
      side (standings-exceeded e u f) = absurd (n ((standings-over J.query J.labels most_a).0 e))
      side (states-exceeded l e g u f) = absurd (m ((job-states l e).0 g))
      side (answered l r e g u f) = (
        merged (length (map glushkov J.lists))
            (rewriting (job_images J (values l)) (length (values l)) (accepting_standings (glushkov J.query) (values l)) r),
        f,
      )

-- Document 01's limits. The table has room for 16 lists.
pub find-finds : (J : Job) → WellFormed J → length J.lists ≤ 16 → (R : Rewriting) → find J ≡ found R → Finds J R
unfolding find
find-finds J formed fits R h = automata-finds J formed most_standings most_states fits R h

pub find-standings : (J : Job) → (find J ≡ refused TooManyStandings) ↔ DistinctStandings J.query J.labels 65
unfolding find
find-standings J = automata-standings J.query J.labels (map glushkov J.lists) most_standings most_states

pub find-states : (J : Job) → WellFormed J
    → (find J ≡ refused TooManyStates) ↔ ((¬ DistinctStandings J.query J.labels 65) × DistinctStates J 257)
unfolding find
find-states J formed = automata-states J formed most_standings most_states

pub find-refusals : (J : Job) (r : Refusal) → find J ≡ refused r → (r ≡ TooManyStandings) ⊎ (r ≡ TooManyStates)
unfolding find
find-refusals J r h = automata-refusals (glushkov J.query) J.labels (map glushkov J.lists) most_standings most_states r h

pub find-answers : (J : Job) → WellFormed J → ¬ DistinctStandings J.query J.labels 65 → ¬ DistinctStates J 257
    → (R : Rewriting) × (find J ≡ found R)
unfolding find
find-answers J formed n m = automata-answers J formed most_standings most_states n m

-- The table, followed from state 0 by list numbers, ends at flag 1 exactly for the sound words.
pub flag-exactly-sound : (J : Job) (R : Rewriting) → Finds J R → (w : Word) → IsWord J w
    → (slice_index R.flags (followed R.table 0 w) ≡ 1) ↔ Sound J w
flag-exactly-sound J R f w b = Iff.trans (f.accepted w b) (accepted-exactly-sound J w)
