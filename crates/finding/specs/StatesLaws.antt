-- The states of list words (States): the run over a word gives exactly the numbers of the standings after the paths that the word spells.
-- So two words run to one set exactly when they have one state, and a set accepts exactly when the word is accepted.
use Rattle.std.specs.Prelude.{◌≡◌, ℕ, suc, ◌^◌, ◌<◌, Bool, true, ◌↔◌, List, [], ◌∷◌, ◌++◌, length, slice_index, slice_index_or}
use Rattle.std.proofs.Math.Logic.Iff
use Rattle.std.proofs.Math.Option.{some}
use Rattle.std.specs.Prelude.{refl}
use Rattle.std.proofs.Common.{sym, ◌∙◌, ap, eqb-true, eq-eqb}
use Rattle.std.proofs.Math.Path.{subst}
use Rattle.theory.specs.Path.{Path, Below}
use Rattle.theory.specs.Word as W
use Rattle.theory.specs.Word.{Word}
use Rattle.theory.specs.Job.{Job, WellFormed, ListPath, SpelledBy}
use Rattle.theory.specs.PathsBelow.{list-path-below, spelled-below}
use Rattle.theory.specs.Rewriting.{StateWithin, SameState, Accepted}
use Rattle.theory.specs.Places.{Member, one, intersection, collect}
use Rattle.theory.specs.PlacesLaws.{member-one, member_below, one_below, member-intersection, equal-members, same-members, member-collect}
use Rattle.theory.specs.PlacesLaws.{member-union_over, union_over-below}
use Rattle.theory.specs.Automaton.{Automaton, glushkov, standing_from, standing, accepts}
use Rattle.theory.specs.StandingLaws.{standing_from-append}
use Rattle.theory.proofs.Glushkov.{glushkov-accepts, glushkov-same}
use Rattle.theory.proofs.GlushkovRelations.{accepts-exactly-path}
use Rattle.theory.specs.Exploration.{System, Entry, all, over, run}
use Rattle.theory.specs.Explored.{Tests, Explored}
use Rattle.theory.proofs.ExplorationLaws.{explored, over-exactly}
use Rattle.theory.specs.DistinctWords.{DistinctWords, exceeds-exactly}
use Rattle.finding.specs.States.{state_step, state_system, states, accepting_standings, state_accepts}
use Rattle.finding.specs.Finds.{DistinctStates}
use Rattle.finding.specs.Numbering.{Numbering, standing-onward, standing-number}
use Rattle.finding.specs.ImageTable.{job_images, length-job_images, job_images-below, member-job_images}

pub state-tests : (images : List (List ℕ)) (m : ℕ) → Tests (state_system images m)
state-tests images m = record { sound = eqb-true; complete = λ s. eq-eqb s s refl }

-- The set that a word leads to from the set X.
unfoldable pub state_from : List (List ℕ) → ℕ → ℕ → Word → ℕ
state_from images m X [] = X
state_from images m X (v ∷ w) = state_from images m (state_step images m X v) w

pub state-run : (images : List (List ℕ)) (m X : ℕ) (w : Word) → run (state_system images m) X w ≡ some (state_from images m X w)
unfolding run state_from
state-run images m X [] = refl
state-run images m X (v ∷ w) = state-run images m (state_step images m X v) w

-- The states of a job's list words as a system, over numbered standings of its query ..
abbrev pub job_states : Job → List ℕ → System ℕ
job_states J found = state_system (job_images J found) (length found)

-- .. and the set of a word, over numbered standings.
abbrev pub state_of : Job → List ℕ → Word → ℕ
state_of J found w = state_from (job_images J found) (length found) (one 0) w

-- A set accepts when all its members are among the accepting ones.
pub state_accepts-exactly : (accepting X : ℕ) → (state_accepts accepting X ≡ true) ↔ ((i : ℕ) → Member i X → Member i accepting)
unfolding state_accepts
state_accepts-exactly accepting X = (
  λ t i m. ((member-intersection i X accepting).0 (subst (Member i) (sym (eqb-true (intersection X accepting) X t)) m)).1,
  λ every. eq-eqb (intersection X accepting) X
      (equal-members (intersection X accepting) X (λ i. (
        λ m. ((member-intersection i X accepting).0 m).0,
        λ m. (member-intersection i X accepting).1 (m, every i m),
      ))),
)

pub states-explored : (images : List (List ℕ)) (m limit : ℕ) (l : List (Entry ℕ)) → states images m limit ≡ all l
    → Explored (state_system images m) l
unfolding states
states-explored images m limit l e = (explored (state-tests images m) l e).0

module _ (J : Job) (formed : WellFormed J) (found : List ℕ) (N : Numbering (glushkov J.query) J.labels found) where
  state_step-below : (X v : ℕ) → state_step (job_images J found) (length found) X v < 2 ^ length found
  unfolding state_step
  state_step-below X v =
      union_over-below (λ i. slice_index (slice_index_or (job_images J found) v []) i) (length found) (length found) X (job_images-below J found v)

  state_from-below : (X : ℕ) (w : Word) → X < 2 ^ length found → state_from (job_images J found) (length found) X w < 2 ^ length found
  unfolding state_from
  state_from-below X [] h = h
  state_from-below X (v ∷ w) h = state_from-below (state_step (job_images J found) (length found) X v) w (state_step-below X v)

  -- One list: the standings after its paths.
  member-state_step : (X v j : ℕ) → j < length found
      → Member j (state_step (job_images J found) (length found) X v)
      ↔ ((i : ℕ) × (u : Path) × (i < length found) × Member i X × ListPath J v u
      × (standing_from (glushkov J.query) (slice_index found i) u ≡ slice_index found j))
  unfolding state_step
  member-state_step X v j b = (
    λ m.
        let (i, h, a, c) = (member-union_over (λ i. slice_index (slice_index_or (job_images J found) v []) i) (length found) X j).0 m in
        let (u, l, e) = (member-job_images J found formed N v i j h b).0 c in
        (i, u, h, a, l, e),
    λ (i, u, h, a, l, e).
        (member-union_over (λ i. slice_index (slice_index_or (job_images J found) v []) i) (length found) X j).1
        (i, h, a, (member-job_images J found formed N v i j h b).1 (u, l, e)),
  )

  -- The standings after the paths that a word spells, from the standings of X.
  abbrev Ends : ℕ → Word → ℕ → Type 0
  Ends X w j =
      (i : ℕ) × (p : Path) × Member i X × SpelledBy J w p × (standing_from (glushkov J.query) (slice_index found i) p ≡ slice_index found j)

  ends-nothing : (X j : ℕ) → X < 2 ^ length found → j < length found → Ends X [] j → Member j X
  unfolding standing_from
  ends-nothing X j h b (i, p, m, W.nothing, e) =
      subst (λ n. Member n X) (N.distinct i j (member_below (length found) X i h m) b e) m

  ends-step : (X v : ℕ) (w : Word) (j : ℕ) → X < 2 ^ length found
      → Ends (state_step (job_images J found) (length found) X v) w j ↔ Ends X (v ∷ w) j
  ends-step X v w j h = (there, back)
    where
      A : Automaton
      A = glushkov J.query

      there : Ends (state_step (job_images J found) (length found) X v) w j → Ends X (v ∷ w) j
      there (n, r, m, s, e) =
          let (i, u, _, a, l, d) = (member-state_step X v n (member_below (length found) _ n (state_step-below X v) m)).0 m in (
            i,
            u ++ r,
            a,
            W.name u r refl l s,
            standing_from-append A (slice_index found i) u r ∙ ap (λ t. standing_from A t r) d ∙ e,
          )

      back : Ends X (v ∷ w) j → Ends (state_step (job_images J found) (length found) X v) w j
      back (i, p, a, W.name u r q l s, e) =
          let b = member_below (length found) X i h a in
          let (n, f, g) = standing-onward N i u b (list-path-below J formed v u l) in (
            n,
            r,
            (member-state_step X v n f).1 (i, u, b, a, l, sym g),
            s,
            ap (λ t. standing_from A t r) g ∙ sym (standing_from-append A (slice_index found i) u r)
                ∙ ap (standing_from A (slice_index found i)) (sym q) ∙ e,
          )

  member-state_from : (X : ℕ) (w : Word) (j : ℕ) → X < 2 ^ length found → j < length found
      → Member j (state_from (job_images J found) (length found) X w) ↔ Ends X w j
  unfolding state_from standing_from
  member-state_from X [] j h b = (λ m. (j, [], m, W.nothing, refl), ends-nothing X j h b)
  member-state_from X (v ∷ w) j h b =
      Iff.trans (member-state_from (state_step (job_images J found) (length found) X v) w j (state_step-below X v) b) (ends-step X v w j h)

  -- The set of a word is a set of standing numbers ..
  pub state_of-below : (w : Word) → state_of J found w < 2 ^ length found
  state_of-below w = state_from-below (one 0) w (one_below (length found) 0 N.start.0)

  -- .. and holds exactly those of the standings after the paths that the word spells.
  pub member-state_of : (w : Word) (j : ℕ) → j < length found
      → Member j (state_of J found w) ↔ ((p : Path) × SpelledBy J w p × (standing (glushkov J.query) p ≡ slice_index found j))
  unfolding standing
  member-state_of w j b = Iff.trans (member-state_from (one 0) w j (one_below (length found) 0 N.start.0) b) (there, back)
    where
      A : Automaton
      A = glushkov J.query

      there : Ends (one 0) w j → (p : Path) × SpelledBy J w p × (standing_from A (one 0) p ≡ slice_index found j)
      there (i, p, m, s, e) =
          (p, s, ap (λ t. standing_from A t p) (sym (ap (λ n. slice_index found n) ((member-one i 0).0 m) ∙ N.start.1)) ∙ e)

      back : ((p : Path) × SpelledBy J w p × (standing_from A (one 0) p ≡ slice_index found j)) → Ends (one 0) w j
      back (p, s, e) = (0, p, (member-one 0 0).1 refl, s, ap (λ t. standing_from A t p) N.start.1 ∙ e)

  -- The standing after a path that the word spells has its number in the word's set.
  spelled-number : (w : Word) (p : Path) → SpelledBy J w p
      → (j : ℕ) × (j < length found) × (slice_index found j ≡ standing (glushkov J.query) p) × Member j (state_of J found w)
  spelled-number w p s =
      let (j, b, e) = standing-number N p (spelled-below J formed s) in
      (j, b, e, (member-state_of w j b).1 (p, s, sym e))

  within-members : (v w : Word) → ((j : ℕ) → Member j (state_of J found v) → Member j (state_of J found w)) → StateWithin J v w
  within-members v w h p s =
      let (j, b, e, m) = spelled-number v p s in
      let (q, t, d) = (member-state_of w j b).0 (h j m) in
      (q, t, (glushkov-same J.query p q).1 (sym e ∙ sym d))

  members-within : (v w : Word) → StateWithin J v w → (j : ℕ) → j < length found
      → Member j (state_of J found v) → Member j (state_of J found w)
  members-within v w h j b m =
      let (p, s, e) = (member-state_of v j b).0 m in
      let (q, t, d) = h p s in
      (member-state_of w j b).1 (q, t, sym ((glushkov-same J.query p q).0 d) ∙ e)

  -- Two words have one set exactly when they have one state.
  pub same-state : (v w : Word) → (state_of J found v ≡ state_of J found w) ↔ SameState J v w
  same-state v w = (
    λ e. (within-members v w (λ j m. subst (Member j) e m), within-members w v (λ j m. subst (Member j) (sym e) m)),
    λ (f, g).
        same-members (length found) (state_of J found v) (state_of J found w) (state_of-below v) (state_of-below w)
        (λ j b. (members-within v w f j b, members-within w v g j b)),
  )

  -- A word's set accepts exactly when the word is accepted.
  pub state-accepts : (w : Word)
      → (state_accepts (accepting_standings (glushkov J.query) found) (state_of J found w) ≡ true) ↔ Accepted J w
  unfolding accepting_standings
  state-accepts w = Iff.trans (state_accepts-exactly (collect test (length found)) (state_of J found w)) (there, back)
    where
      A : Automaton
      A = glushkov J.query

      test : ℕ → Bool
      test i = accepts A (slice_index found i)

      there : ((i : ℕ) → Member i (state_of J found w) → Member i (collect test (length found))) → Accepted J w
      there every p s =
          let (j, b, e, m) = spelled-number w p s in
          let t = ((member-collect test (length found) j).0 (every j m)).1 in
          (accepts-exactly-path J.query p).1 ((glushkov-accepts J.query p).1 (ap (accepts A) (sym e) ∙ t))

      back : Accepted J w → (i : ℕ) → Member i (state_of J found w) → Member i (collect test (length found))
      back every j m =
          let b = member_below (length found) (state_of J found w) j (state_of-below w) m in
          let (p, s, e) = (member-state_of w j b).0 m in
          let t = (glushkov-accepts J.query p).0 ((accepts-exactly-path J.query p).0 (every p s)) in
          (member-collect test (length found) j).1 (b, ap (accepts A) (sym e) ∙ t)

  distinct-states : (n : ℕ)
      → DistinctWords (λ v w. state_of J found v ≡ state_of J found w) (length (job_images J found)) n ↔ DistinctStates J n
  distinct-states n = (
    λ d. record {
      words = d.words;
      count = d.count;
      below = λ i h. subst (λ k. Below k (slice_index_or d.words i [])) (length-job_images J found) (d.below i h);
      distinct = λ i j h l s. d.distinct i j h l ((same-state (slice_index_or d.words i []) (slice_index_or d.words j [])).1 s);
    },
    λ d. record {
      words = d.words;
      count = d.count;
      below = λ i h. subst (λ k. Below k (slice_index_or d.words i [])) (sym (length-job_images J found)) (d.below i h);
      distinct = λ i j h l s. d.distinct i j h l ((same-state (slice_index_or d.words i []) (slice_index_or d.words j [])).0 s);
    },
  )

  -- There are more states than the limit exactly where there are words that show it.
  pub states-over : (limit : ℕ) → (states (job_images J found) (length found) limit ≡ over) ↔ DistinctStates J (suc limit)
  unfolding states
  states-over limit =
      Iff.trans (over-exactly (state-tests (job_images J found) (length found)))
      (Iff.trans (exceeds-exactly (job_states J found) (state_of J found)
      (state-run (job_images J found) (length found) (one 0)) limit) (distinct-states (suc limit)))
