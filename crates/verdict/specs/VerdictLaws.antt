-- The verdict of a job (T6): it is complete exactly when every query path is yielded, and else it tells the first missed path; the count is
-- the number of distinct pairs over all paths; refusals 12 and 13 exactly under their conditions. For every rewriting that decides the
-- accepted words of the job, wherever it comes from, and for any limits.
use Rattle.std.specs.Prelude.{◌≡◌, ℕ, suc, ◌*◌, ◌<◌, ◌≤◌, ◌↔◌, List, length}
use Rattle.std.proofs.Math.Option.{Option, some, none}
use Rattle.std.specs.Prelude.{refl}
use Rattle.std.proofs.Common.{ap, subst, arith, le-leb}
use Rattle.std.proofs.Math.Decide.{dec_le}
use Rattle.std.proofs.lemmas.Bool.{lt-leb}
use Rattle.theory.specs.Path.{Path, Below}
use Rattle.theory.specs.PathOrder.{first-both}
use Rattle.theory.specs.PathsBelow.{query-below}
use Rattle.theory.specs.WordLengths.{word-short}
use Rattle.theory.specs.Job.{Job, WellFormed}
use Rattle.theory.specs.Rewriting.{Missed, FirstMissed, Complete}
use Rattle.theory.specs.Automaton.{Automaton, glushkov}
use Rattle.theory.specs.Exploration.{Entry, Exploration, all, over}
use Rattle.syntax.specs.declared.refusal.Refusal.TheVariants.{TooManyPlaces, TooManyPairs}
use Rattle.finding.specs.Rewritten.{Rewritten, Decides}
use Rattle.verdict.specs.Cover.{places}
use Rattle.verdict.specs.Pairs.{Pair, pairs, first_missed}
use Rattle.verdict.specs.Verdict.{Verdict, complete, missed, refused, verdict}
use Rattle.verdict.specs.Verdicts.{DistinctPairs, CountsPairs, cover_places}
use Rattle.verdict.specs.CoverPlaces.{offsets-exactly}
use Rattle.verdict.specs.CoverReached.{automata}
use Rattle.verdict.specs.PairCounts.{pairs-over, pairs-explored, pairs-count}
use Rattle.verdict.specs.FirstMisses.{none-misses, some-misses}

-- The number of places is document 01's count.
pub places-exactly : (J : Job) (R : Rewritten) → places R (automata J) ≡ cover_places J R
unfolding places
places-exactly J R = ap (λ n. R.states * n) (offsets-exactly J.lists)

-- There is one first missed path.
pub first-unique : (J : Job) (p q : Path) → FirstMissed J p → FirstMissed J q → p ≡ q
first-unique J p q f g = first-both (f.1 q g.0) (g.1 p f.0)

-- The four ways through the definition.

module _ (A : Automaton) (k : ℕ) (R : Rewritten) (lists : List Automaton) (most allowance : ℕ) where
  too-many-places : most < places R lists → verdict A k R lists most allowance ≡ refused TooManyPlaces
  unfolding verdict
  too-many-places h = rw (lt-leb (places R lists) most h, verdict)

  too-many-pairs : places R lists ≤ most → pairs A k R lists allowance ≡ over → verdict A k R lists most allowance ≡ refused TooManyPairs
  unfolding verdict
  too-many-pairs h e = rw (le-leb (places R lists) most h, verdict, e)

  told-complete : {l : List (Entry Pair)} → places R lists ≤ most → pairs A k R lists allowance ≡ all l → first_missed A R lists l ≡ none
      → verdict A k R lists most allowance ≡ complete (length l)
  unfolding verdict
  told-complete h e n = rw (le-leb (places R lists) most h, verdict, e, n)

  told-missed : {l : List (Entry Pair)} {p : Path} → places R lists ≤ most → pairs A k R lists allowance ≡ all l
      → first_missed A R lists l ≡ some p → verdict A k R lists most allowance ≡ missed p (length l)
  unfolding verdict
  told-missed h e n = rw (le-leb (places R lists) most h, verdict, e, n)

-- What each answer tells of the job.
pub data Told (J : Job) (R : Rewritten) (most allowance : ℕ) : Verdict → Type 0 where
  over-places : most < cover_places J R → Told J R most allowance (refused TooManyPlaces)
  over-pairs : cover_places J R ≤ most → DistinctPairs J R (suc allowance) → Told J R most allowance (refused TooManyPairs)
  all-yielded : {n : ℕ} → Complete J → CountsPairs J R n → n ≤ allowance → Told J R most allowance (complete n)
  first-missed : {p : Path} {n : ℕ} → FirstMissed J p → CountsPairs J R n → n ≤ allowance → length p < n
      → Told J R most allowance (missed p n)

-- The verdict of a job with a rewriting.
abbrev pub job_verdict : Job → Rewritten → ℕ → ℕ → Verdict
job_verdict J R most allowance = verdict (glushkov J.query) J.labels R (automata J) most allowance

module _ (J : Job) (R : Rewritten) (formed : WellFormed J) (decides : Decides J R) (most allowance : ℕ) where
  -- The verdict tells what holds of the job, in each case.
  pub verdict-told : Told J R most allowance (job_verdict J R most allowance)
  verdict-told = sized (dec_le (places R (automata J)) most)
    where
      explored : places R (automata J) ≤ most → (l : List (Entry Pair))
          → pairs (glushkov J.query) J.labels R (automata J) allowance ≡ all l
          → (o : Option Path) → first_missed (glushkov J.query) R (automata J) l ≡ o → Told J R most allowance (job_verdict J R most allowance)
      explored h l e none n =
          let (x, few) = pairs-explored J R decides allowance l e in
          rw (told-complete (glushkov J.query) J.labels R (automata J) most allowance h e n)
          (all-yielded (none-misses J R formed decides l x n) (pairs-count J R decides allowance l e) few)
      explored h l e (some p) n =
          let (x, few) = pairs-explored J R decides allowance l e in
          let (f, i, k, g) = some-misses J R formed decides l x p n in
          rw (told-missed (glushkov J.query) J.labels R (automata J) most allowance h e n)
          (first-missed f (pairs-count J R decides allowance l e) few (omega (arith, ap length g, word-short x i k)))

      paired : places R (automata J) ≤ most → (r : Exploration Pair)
          → pairs (glushkov J.query) J.labels R (automata J) allowance ≡ r → Told J R most allowance (job_verdict J R most allowance)
      paired h over e =
          rw (too-many-pairs (glushkov J.query) J.labels R (automata J) most allowance h e)
          (over-pairs (omega (arith, places-exactly J R)) ((pairs-over J R decides allowance).0 e))
      paired h (all l) e = explored h l e (first_missed (glushkov J.query) R (automata J) l) refl

      sized : Dec (places R (automata J) ≤ most) → Told J R most allowance (job_verdict J R most allowance)
      sized (yes h) = paired h (pairs (glushkov J.query) J.labels R (automata J) allowance) refl
      sized (no h) =
          rw (too-many-places (glushkov J.query) J.labels R (automata J) most allowance (omega arith))
          (over-places (omega (arith, places-exactly J R)))

  -- Complete: every query path is yielded, and the count is that of the distinct pairs.
  pub verdict-complete : (n : ℕ) → job_verdict J R most allowance ≡ complete n → Complete J × CountsPairs J R n × (n ≤ allowance)
  verdict-complete n e = told (subst (Told J R most allowance) e verdict-told)
    where
      told : Told J R most allowance (complete n) → Complete J × CountsPairs J R n × (n ≤ allowance)
      told (all-yielded c k h) = (c, k, h)

  -- Missed: the path is the first missed one. It is a path over the job's labels, and shorter than the count.
  pub verdict-missed : (p : Path) (n : ℕ) → job_verdict J R most allowance ≡ missed p n
      → FirstMissed J p × CountsPairs J R n × Below J.labels p × (length p < n) × (n ≤ allowance)
  verdict-missed p n e = told (subst (Told J R most allowance) e verdict-told)
    where
      told : Told J R most allowance (missed p n) → FirstMissed J p × CountsPairs J R n × Below J.labels p × (length p < n) × (n ≤ allowance)
      told (first-missed f k h s) = (f, k, query-below J formed p f.0.0, s, h)

  -- Refusal 12 exactly where there are more cover places than the most.
  pub verdict-places : (job_verdict J R most allowance ≡ refused TooManyPlaces) ↔ (most < cover_places J R)
  verdict-places = (
    λ e. told (subst (Told J R most allowance) e verdict-told),
    λ h. too-many-places (glushkov J.query) J.labels R (automata J) most allowance (omega (arith, places-exactly J R)),
  )
    where
      told : Told J R most allowance (refused TooManyPlaces) → most < cover_places J R
      told (over-places h) = h

  -- Refusal 13 exactly where there are not, and there are more distinct pairs than the allowance.
  pub verdict-pairs : (job_verdict J R most allowance ≡ refused TooManyPairs) ↔ ((cover_places J R ≤ most) × DistinctPairs J R (suc allowance))
  verdict-pairs = (
    λ e. told (subst (Told J R most allowance) e verdict-told),
    λ (h, x). too-many-pairs (glushkov J.query) J.labels R (automata J) most allowance (omega (arith, places-exactly J R))
        ((pairs-over J R decides allowance).1 x),
  )
    where
      told : Told J R most allowance (refused TooManyPairs) → (cover_places J R ≤ most) × DistinctPairs J R (suc allowance)
      told (over-pairs h x) = (h, x)

  -- Complete and a missed path exclude each other.

  pub missed-not-complete : (p : Path) (n : ℕ) → job_verdict J R most allowance ≡ missed p n → ¬ Complete J
  missed-not-complete p n e c = let m = (verdict-missed p n e).0.0 in m.1 (c p m.0)

  pub complete-not-missed : (n : ℕ) → job_verdict J R most allowance ≡ complete n → (p : Path) → ¬ Missed J p
  complete-not-missed n e p m = m.1 ((verdict-complete n e).0 p m.0)

  -- Within the limits, complete is told exactly when no path is missed, and a path is told exactly when it is the first missed one.
  module _ (fits : cover_places J R ≤ most) (few : ¬ DistinctPairs J R (suc allowance)) where
    pub complete-exactly : ((n : ℕ) × (job_verdict J R most allowance ≡ complete n)) ↔ ((p : Path) → ¬ Missed J p)
    complete-exactly = (λ (n, e). complete-not-missed n e, λ c. told c (job_verdict J R most allowance) verdict-told)
      where
        told : ((p : Path) → ¬ Missed J p) → (v : Verdict) → Told J R most allowance v → (n : ℕ) × (v ≡ complete n)
        told c v (over-places h) = absurd (omega arith)
        told c v (over-pairs h x) = absurd (few x)
        told c v (all-yielded {n} d k h) = (n, refl)
        told c v (first-missed {p} f k h s) = absurd (c p f.0)

    pub missed-exactly : (p : Path) → ((n : ℕ) × (job_verdict J R most allowance ≡ missed p n)) ↔ FirstMissed J p
    missed-exactly p = (λ (n, e). (verdict-missed p n e).0, λ f. told f (job_verdict J R most allowance) verdict-told)
      where
        told : FirstMissed J p → (v : Verdict) → Told J R most allowance v → (n : ℕ) × (v ≡ missed p n)
        told f v (over-places h) = absurd (omega arith)
        told f v (over-pairs h x) = absurd (few x)
        told f v (all-yielded c k h) = absurd (f.0.1 (c p f.0.0))
        told f v (first-missed {p = q} {n = n} g k h s) = (n, ap (λ r. missed r n) (first-unique J q p g f))
