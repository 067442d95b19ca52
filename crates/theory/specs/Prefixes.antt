-- Every chain from the start can be completed, because every expression has a path: so the beginnings of the paths of a marked
-- expression are all the chains from the start.
use Rattle.std.specs.Prelude.{ℕ, ◌+◌, List, [], ◌∷◌, ◌++◌, ◌↔◌, refl}
use Rattle.std.proofs.Common.{inl, inr, ⊎_elim, arith}
use Rattle.theory.specs.Path.{Path}
use Rattle.theory.specs.Expression.{Expression, empty, label, alternative, sequence, star, optional, none, IsPath}
use Rattle.theory.specs.Standing.{size, mark}
use Rattle.theory.specs.Occurrences.{Within, within-cases}
use Rattle.theory.specs.Runs.{Rest, stop, rest-into, sequence-on, sequence-right}
use Rattle.theory.specs.MarkedRuns.{path-run}
use Rattle.theory.specs.Chain.{Chain, next}
use Rattle.theory.specs.Chains.{followed-within, rest-chain, marked-path-chain, prefix-chain}

-- Every expression has a path.
pub has-path : (e : Expression) → (p : Path) × IsPath e p
has-path empty = ([], refl)
has-path (label a) = (a ∷ [], refl)
has-path (alternative l r) = let (p, h) = has-path l in (p, inl h)
has-path (sequence l r) = let (p, h) = has-path l in let (q, i) = has-path r in (p ++ q, (p, q, refl, h, i))
has-path (star e) = ([], none refl)
has-path (optional e) = ([], inl refl)

-- After the occurrence x the expression can come to an end.
abbrev Finishes : ℕ → Expression → ℕ → Type 0
Finishes k e x = (n : List ℕ) × Rest k e x n

finishes-into : {k k' : ℕ} {e e' : Expression} {x : ℕ} → ((n : List ℕ) → Rest k e x n → Rest k' e' x n) → Finishes k e x → Finishes k' e' x
finishes-into f (n, t) = (n, f n t)

finishes-sequence : (k : ℕ) (l r : Expression) (x : ℕ) → Finishes k l x → Finishes k (sequence l r) x
finishes-sequence k l r x (n, t) =
    let (m, h) = has-path (mark (k + size l) r) in
    (n ++ m, sequence-on t (path-run (k + size l) r m h))

pub can-finish : (k : ℕ) (e : Expression) (x : ℕ) → Within k e x → (n : List ℕ) × Rest k e x n
can-finish k empty x (low, high) = let no_place : ⊥ = omega arith in absurd no_place
can-finish k (label a) x (low, high) = ([], stop {x = x} (omega arith))
can-finish k (alternative l r) x (low, high) =
    ⊎_elim
    (λ w. finishes-into (λ n. rest-into (λ y i. inl i) (λ y z i. inl i)) (can-finish k l x w))
    (λ w. finishes-into (λ n. rest-into (λ y i. inr i) (λ y z i. inr i)) (can-finish (k + size l) r x w))
    (within-cases k l r x low high)
can-finish k (sequence l r) x (low, high) =
    ⊎_elim
    (λ w. finishes-sequence k l r x (can-finish k l x w))
    (λ w. finishes-into (λ n. sequence-right) (can-finish (k + size l) r x w))
    (within-cases k l r x low high)
can-finish k (star e) x w = finishes-into (λ n. rest-into (λ y i. i) (λ y z i. inl i)) (can-finish k e x w)
can-finish k (optional e) x w = finishes-into (λ n. rest-into (λ y i. i) (λ y z i. i)) (can-finish k e x w)

-- A chain that ends with x, continued by a chain from x.
chain-onward : {e : Expression} {y z v : ℕ} (m : List ℕ) (x : ℕ) (n : List ℕ) → Chain e z (m ++ (x ∷ [])) v → Chain e x n y →
    Chain e z (m ++ (x ∷ n)) y
chain-onward [] x n (next h c) d = next h d
chain-onward (u ∷ m) x n (next h c) d = next h (chain-onward m x n c d)

-- The last of a chain's places is an occurrence.
chain-within : {e : Expression} {z v : ℕ} (m : List ℕ) (x : ℕ) → Chain e z (m ++ (x ∷ [])) v → Within 1 e x
chain-within {e} [] x (next {x = z} h c) = followed-within e z x h
chain-within (u ∷ m) x (next h c) = chain-within m x c

-- Every chain from the start begins a path of the marked expression, and no other list of places does.
pub marked-prefix-chain : (e : Expression) (m : List ℕ) (x : ℕ) →
    ((n : List ℕ) × IsPath (mark 1 e) (m ++ (x ∷ n))) ↔ Chain e 0 (m ++ (x ∷ [])) x
marked-prefix-chain e m x = (λ (n, h). prefix-chain e m x n h, from)
  where
    from : Chain e 0 (m ++ (x ∷ [])) x → (n : List ℕ) × IsPath (mark 1 e) (m ++ (x ∷ n))
    from c =
        let (n, t) = can-finish 1 e x (chain-within m x c) in
        let (y, d, f) = rest-chain e (chain-within m x c) t in
        (n, (marked-path-chain e (m ++ (x ∷ n))).1 (y, chain-onward m x n c d, f))
