-- The table that Find gives decides the accepted words of its job.
use Rattle.std.specs.Prelude.{◌≡◌, ℕ, ◌+◌, ◌*◌, ◌<◌, List, [], ◌∷◌, ◌++◌, length, slice_index}
use Rattle.std.specs.Prelude.{refl}
use Rattle.std.proofs.Common.{◌∙◌, ap, subst}
use Rattle.theory.specs.Path.{nothing, next}
use Rattle.theory.specs.Word.{Word}
use Rattle.theory.specs.Job.{Job}
use Rattle.theory.specs.PathsBelow.{below-append}
use Rattle.finding.specs.Find.{Rewriting}
use Rattle.finding.specs.Finds.{followed, FindsBy}
use Rattle.finding.specs.Rewritten.{rewritten, Decides}

pub followed-append : (table : List ℕ) (s : ℕ) (w v : Word) → followed table s (w ++ v) ≡ followed table (followed table s w) v
unfolding followed
followed-append table s [] v = refl
followed-append table s (a ∷ w) v = followed-append table (slice_index table (16 * s + a)) w v

-- The table that Find gives is complete, and its accepted words are the job's.
pub finds-decides : {Same : Word → Word → Type 0} (J : Job) (R : Rewriting) → FindsBy Same J R → Decides J (rewritten R)
unfolding followed
finds-decides J R F =
    record {
      some-state = F.within [] nothing;
      next = onward;
      accepted = F.accepted;
    }
  where
    onward : (q v : ℕ) → q < R.states → v < length J.lists → slice_index R.table (16 * q + v) < R.states
    onward q v h k =
        let (b, e) = F.reached q h in
        let one : followed R.table 0 (F.word q ++ (v ∷ [])) ≡ slice_index R.table (16 * q + v)
        = followed-append R.table 0 (F.word q) (v ∷ []) ∙ ap (λ s. slice_index R.table (16 * s + v)) e in
        subst (λ n. n < R.states) one (F.within (F.word q ++ (v ∷ [])) (below-append b (next k nothing)))
