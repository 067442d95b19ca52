-- The paths of a marked expression are its runs: Glushkov's theorem inside an expression, at any offset of the numbers.
use Rattle.std.specs.Prelude.{ℕ, ◌+◌, List, [], ◌∷◌, ◌↔◌, ◌≡◌, refl}
use Rattle.std.proofs.Common.{inl, inr, sym, ap, subst}
use Rattle.std.proofs.Math.Logic.{⊎_map}
use Rattle.theory.specs.Path.{Language}
use Rattle.theory.specs.Expression.{Expression, empty, label, alternative, sequence, star, optional, Star, none, more, IsPath}
use Rattle.theory.specs.Standing.{size, mark}
use Rattle.theory.specs.Runs.{
  Run,
  pass,
  start,
  stop,
  step,
  run-left,
  run-right,
  run-optional,
  run-sequence,
  run-star,
  run-cases,
  run-split,
  run-rounds,
  run-of-optional,
}

-- Joined runs are a run of the star.
star-run : (k : ℕ) (e : Expression) (L : Language) {m : List ℕ} → ((u : List ℕ) → L u → Run k e u) → Star L m → Run k (star e) m
star-run k e L f (none h) = subst (Run k (star e)) (sym h) (pass tt)
star-run k e L f (more u v h i s) = subst (Run k (star e)) (sym h) (run-star (f u i) (star-run k e L f s))

pub path-run : (k : ℕ) (e : Expression) (m : List ℕ) → IsPath (mark k e) m → Run k e m
path-run k empty m h = subst (Run k empty) (sym h) (pass tt)
path-run k (label a) m h = subst (Run k (label a)) (sym h) (start refl (stop refl))
path-run k (alternative l r) m (inl h) = run-left (path-run k l m h)
path-run k (alternative l r) m (inr h) = run-right (path-run (k + size l) r m h)
path-run k (sequence l r) m (u, v, h, i, j) =
    subst (Run k (sequence l r)) (sym h) (run-sequence (path-run k l u i) (path-run (k + size l) r v j))
path-run k (star e) m h = star-run k e (IsPath (mark k e)) (path-run k e) h
path-run k (optional e) m (inl h) = subst (Run k (optional e)) (sym h) (pass tt)
path-run k (optional e) m (inr h) = run-optional (path-run k e m h)

-- Joining paths of a language joins paths of a larger one.
star-into : {L M : Language} {m : List ℕ} → ((u : List ℕ) → L u → M u) → Star L m → Star M m
star-into f (none h) = none h
star-into f (more u v h i s) = more u v h (f u i) (star-into f s)

-- The only run of a label.
label-run : {k a : ℕ} {m : List ℕ} → Run k (label a) m → m ≡ k ∷ []
label-run (pass h) = absurd h
label-run (start h (stop i)) = ap (λ (x : ℕ). x ∷ []) h
label-run (start h (step i t)) = absurd i

pub run-path : (k : ℕ) (e : Expression) (m : List ℕ) → Run k e m → IsPath (mark k e) m
run-path k empty m (pass h) = refl
run-path k empty m (start h t) = absurd h
run-path k (label a) m h = label-run h
run-path k (alternative l r) m h = ⊎_map (run-path k l m) (run-path (k + size l) r m) (run-cases k l r h)
run-path k (sequence l r) m h = let (u, v, e, i, j) = run-split k l r h in (u, v, e, run-path k l u i, run-path (k + size l) r v j)
run-path k (star e) m h = star-into (run-path k e) (run-rounds k e h)
run-path k (optional e) m h = ⊎_map (λ i. i) (run-path k e m) (run-of-optional k e h)

pub marked-path-run : (k : ℕ) (e : Expression) (m : List ℕ) → IsPath (mark k e) m ↔ Run k e m
marked-path-run k e m = (path-run k e m, run-path k e m)
