-- How Find goes, and what a caller then holds (document 01, "Find"): it refuses where there are too many standings, then where there are
-- too many states, and otherwise gives the greatest rewriting of the job's query. Its table and flags are read off the lent buffers as they
-- are left, whatever stood in them.
use Rattle.std.specs.Prelude.{◌≡◌, ℕ, ◌+◌, ◌*◌, ◌<◌, ◌≤◌, ◌⊎◌, List, [], ◌∷◌, length, slice_index}
use Rattle.std.proofs.Common.{inl, inr, sym, subst, ◌∙◌, arith}
use Rattle.std.proofs.Math.Path.{refl, ap}
use Rattle.std.proofs.Math.ListN.{get_or-eq_default}
use Rattle.theory.specs.Path.{next}
use Rattle.theory.specs.Word.{Word}
use Rattle.theory.specs.Job.{Job, WellFormed, IsWord}
use Rattle.syntax.specs.declared.refusal.Refusal.{Refusal}
use Rattle.syntax.specs.declared.refusal.Refusal.TheVariants.{TooManyStandings, TooManyStates}
use Rattle.finding.specs.Find.{Rewriting, Found, found, refused, find}
use Rattle.finding.specs.Finds.{DistinctStandings, DistinctStates, followed, Finds}
use Rattle.finding.specs.RewrittenLaws.{finds-decides}
use Rattle.finding.specs.FindLaws.{find-finds, find-standings, find-states, find-refusals}
use Rattle.finding.specs.Named.{written, table_part, flags_part}
use Rattle.finding.specs.WrittenLaws.{written-within}

pub data FindCourse (J : Job) : Found → Type 0 where
  many-standings : DistinctStandings J.query J.labels 65 → FindCourse J (refused TooManyStandings)
  many-states : ¬ DistinctStandings J.query J.labels 65 → DistinctStates J 257 → FindCourse J (refused TooManyStates)
  answered : {R : Rewriting} → ¬ DistinctStandings J.query J.labels 65 → ¬ DistinctStates J 257 → Finds J R → FindCourse J (found R)

pub find-course : (J : Job) → WellFormed J → length J.lists ≤ 16 → FindCourse J (find J)
find-course J formed fits = side (find J) refl
  where
    clash : {f : Found} {R : Rewriting} {r : Refusal} {A : Type 0} → f ≡ found R → f ≡ refused r → A
    clash e d = absurd (let z : ◌≡◌ {A = ℕ} 0 1 = cc in omega arith)

    refuses : (r : Refusal) → find J ≡ refused r → (r ≡ TooManyStandings) ⊎ (r ≡ TooManyStates) → FindCourse J (refused r)
    refuses r e (inl i) = subst (λ s. FindCourse J (refused s)) (sym i) (many-standings ((find-standings J).0 (rw i at e)))
    refuses r e (inr i) =
        let (n, d) = (find-states J formed).0 (rw i at e) in
        subst (λ s. FindCourse J (refused s)) (sym i) (many-states n d)

    side : (f : Found) → find J ≡ f → FindCourse J f
    side (refused r) e = refuses r e (find-refusals J r e)
    side (found R) e =
        let no_more : ¬ DistinctStandings J.query J.labels 65 = λ d. clash e ((find-standings J).1 d) in
        answered no_more (λ d. clash e ((find-states J formed).1 (no_more, d))) (find-finds J formed fits R e)

-- What a caller reads within the named parts of the lent buffers.
module _ (J : Job) {R : Rewriting} (F : Finds J R) (few : R.states ≤ 256) (table flags : List ℕ) where
  -- The flag of a state, and zeros behind the flags.
  pub flag-written : (s : ℕ) → s < R.states → slice_index (written flags_part R.flags flags) s ≡ slice_index R.flags s
  flag-written s h = written-within flags_part R.flags flags s (omega arith)

  pub flag-behind : (s : ℕ) → R.states ≤ s → s < 256 → slice_index (written flags_part R.flags flags) s ≡ 0
  flag-behind s h k =
      written-within flags_part R.flags flags s k ∙ get_or-eq_default R.flags 0 (omega (arith, F.flag-count))

  -- The next state for a list, zeros for what is no list, and zeros behind the states.
  pub next-written : (s v : ℕ) → s < R.states → v < 16
      → slice_index (written table_part R.table table) (16 * s + v) ≡ slice_index R.table (16 * s + v)
  next-written s v h k = written-within table_part R.table table (16 * s + v) (omega arith)

  pub next-unused : (s v : ℕ) → s < R.states → length J.lists ≤ v → v < 16
      → slice_index (written table_part R.table table) (16 * s + v) ≡ 0
  next-unused s v h k l = next-written s v h l ∙ F.unused s v h k l

  pub next-behind : (s v : ℕ) → R.states ≤ s → s < 256 → v < 16 → slice_index (written table_part R.table table) (16 * s + v) ≡ 0
  next-behind s v h k l =
      written-within table_part R.table table (16 * s + v) (omega arith)
      ∙ get_or-eq_default R.table 0 (omega (arith, F.rows))

  -- The state at which a word ends.
  module _ (fits : length J.lists ≤ 16) where
    followed-from : (s : ℕ) (w : Word) → s < R.states → IsWord J w
        → followed (written table_part R.table table) s w ≡ followed R.table s w
    unfolding followed
    followed-from s [] h b = refl
    followed-from s (v ∷ w) h (next k b) =
        ap (λ t. followed (written table_part R.table table) t w) (next-written s v h (omega arith))
        ∙ followed-from (slice_index R.table (16 * s + v)) w ((finds-decides J R F).next s v h k) b

    pub followed-written : (w : Word) → IsWord J w → followed (written table_part R.table table) 0 w ≡ followed R.table 0 w
    followed-written w b = followed-from 0 w (finds-decides J R F).some-state b
