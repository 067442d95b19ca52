-- The paths of a marked expression are the chains from the start to a final place.
use Rattle.std.specs.Prelude.{ℕ, zero, suc, ◌≤◌, List, [], ◌∷◌, ◌++◌, ◌↔◌, refl}
use Rattle.std.proofs.Common.{inl, inr, arith}
use Rattle.theory.specs.Expression.{Expression, IsPath}
use Rattle.theory.specs.Standing.{mark}
use Rattle.theory.specs.Positions.{Nullable, Last, Follow}
use Rattle.theory.specs.Occurrences.{Within, first-within, last_within, follow-to-within}
use Rattle.theory.specs.Runs.{Run, pass, start, Rest, stop, step}
use Rattle.theory.specs.MarkedRuns.{path-run, run-path}
use Rattle.theory.specs.Chain.{FollowFrom, Chain, done, next, Final}

-- From an occurrence, what follows is what Follow says.
follow-on : (e : Expression) (x y : ℕ) → Follow 1 e x y → Within 1 e x → FollowFrom e x y
follow-on e zero y h (low, _) = let no_place : ⊥ = omega arith in absurd no_place
follow-on e (suc x) y h w = h

followed : (e : Expression) (x y : ℕ) → FollowFrom e x y → 1 ≤ x → Follow 1 e x y
followed e zero y h low = let no_place : ⊥ = omega arith in absurd no_place
followed e (suc x) y h w = h

-- The place come to is an occurrence.
pub followed-within : (e : Expression) (x y : ℕ) → FollowFrom e x y → Within 1 e y
followed-within e zero y h = first-within 1 e y h
followed-within e (suc x) y h = follow-to-within 1 e (suc x) y h

-- A chain from the place x to a final place.
abbrev pub Ends : Expression → ℕ → List ℕ → Type 0
Ends e x m = (y : ℕ) × Chain e x m y × Final e y

ends-after : {e : Expression} {x z : ℕ} {m : List ℕ} → FollowFrom e x z → Ends e z m → Ends e x (z ∷ m)
ends-after h (y, c, f) = (y, next h c, f)

pub rest-chain : (e : Expression) {x : ℕ} {m : List ℕ} → Within 1 e x → Rest 1 e x m → Ends e x m
rest-chain e w (stop {x} h) = (x, done, inr h)
rest-chain e w (step {x} {y} h t) = ends-after (follow-on e x y h w) (rest-chain e (follow-to-within 1 e x y h) t)

run-chain : (e : Expression) {m : List ℕ} → Run 1 e m → Ends e 0 m
run-chain e (pass h) = (0, done, inl (refl, h))
run-chain e (start {x} h t) = ends-after h (rest-chain e (first-within 1 e x h) t)

final-last : (e : Expression) (x : ℕ) → 1 ≤ x → Final e x → Last 1 e x
final-last e x low (inl (h, _)) = let no_place : ⊥ = omega arith in absurd no_place
final-last e x low (inr h) = h

final-start : (e : Expression) → Final e 0 → Nullable e
final-start e (inl (_, h)) = h
final-start e (inr h) = let (low, _) = last_within 1 e 0 h in let no_place : ⊥ = omega arith in absurd no_place

chain-rest : (e : Expression) {x y : ℕ} {m : List ℕ} → 1 ≤ x → Chain e x m y → Final e y → Rest 1 e x m
chain-rest e low (done {x}) f = stop (final-last e x low f)
chain-rest e low (next {x} {z} h c) f = step (followed e x z h low) (chain-rest e (followed-within e x z h).0 c f)

chain_run : (e : Expression) {y : ℕ} {m : List ℕ} → Chain e 0 m y → Final e y → Run 1 e m
chain_run e done f = pass (final-start e f)
chain_run e (next {z} h c) f = start h (chain-rest e (first-within 1 e z h).0 c f)

pub marked-path-chain : (e : Expression) (m : List ℕ) → IsPath (mark 1 e) m ↔ ((y : ℕ) × Chain e 0 m y × Final e y)
marked-path-chain e m = (λ h. run-chain e (path-run 1 e m h), λ (y, c, f). run-path 1 e m (chain_run e c f))

-- A chain, broken off after x.
chain-prefix : {e : Expression} {y z : ℕ} (m : List ℕ) (x : ℕ) (n : List ℕ) → Chain e z (m ++ (x ∷ n)) y → Chain e z (m ++ (x ∷ [])) x
chain-prefix [] x n (next h c) = next h done
chain-prefix (u ∷ m) x n (next h c) = next h (chain-prefix m x n c)

-- What begins a path of the marked expression is a chain from the start.
pub prefix-chain : (e : Expression) (m : List ℕ) (x : ℕ) (n : List ℕ) → IsPath (mark 1 e) (m ++ (x ∷ n)) → Chain e 0 (m ++ (x ∷ [])) x
prefix-chain e m x n h = let (y, c, f) = (marked-path-chain e (m ++ (x ∷ n))).0 h in chain-prefix m x n c
