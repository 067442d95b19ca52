-- Glushkov's theorem, said with relations: the standing after a path is where reading it place by place can end, a path of the
-- expression is one whose reading can end at a final place, and the standing after it tells whether it is one.
use Rattle.std.specs.Prelude.{ℕ, List, [], ◌∷◌, ◌++◌, ◌↔◌, ◌≡◌, refl}
use Rattle.std.proofs.Common.{ap, subst}
use Rattle.theory.specs.Path.{Path}
use Rattle.theory.specs.Expression.{Expression, IsPath}
use Rattle.theory.specs.Standing.{mark, Reads, InStanding, start, after, Accepts}
use Rattle.theory.specs.Marking.{mark-path, unmark-path}
use Rattle.theory.specs.Chain.{Chain, Final}
use Rattle.theory.specs.Chains.{marked-path-chain, prefix-chain}
use Rattle.theory.specs.Prefixes.{marked-prefix-chain}
use Rattle.theory.specs.StandsAt.{StandsAt}

-- Reading place by place is a chain whose places read the path.
chain-stands : {e : Expression} {x y : ℕ} {m : List ℕ} {p : Path} → Chain e x m y → Reads 1 e m p → StandsAt e x p y
chain-stands Chain.done Reads.nothing = StandsAt.done
chain-stands (Chain.next h c) (Reads.next l r) = StandsAt.next h l (chain-stands c r)

stands-chain : {e : Expression} {x y : ℕ} {p : Path} → StandsAt e x p y → (m : List ℕ) × Chain e x m y × Reads 1 e m p
stands-chain StandsAt.done = ([], Chain.done, Reads.nothing)
stands-chain (StandsAt.next {z} h l s) = let (m, c, r) = stands-chain s in (z ∷ m, Chain.next h c, Reads.next l r)

-- A chain that is not empty ends with the place that it leads to.
chain-ends : {e : Expression} {x y z : ℕ} (m : List ℕ) → Chain e z (x ∷ m) y → (n : List ℕ) × (x ∷ m ≡ n ++ (y ∷ []))
chain-ends [] (Chain.next h Chain.done) = ([], refl)
chain-ends {x} (u ∷ m) (Chain.next h c) = let (n, e) = chain-ends m c in (x ∷ n, ap (λ (l : List ℕ). x ∷ l) e)

-- The place that a chain from the start leads to is in the standing after the path read, if the chain begins a path of the marked
-- expression.
chain-standing : (e : Expression) (p : Path) (x : ℕ) (m : List ℕ) → Chain e 0 m x → Reads 1 e m p →
    ((u : List ℕ) → m ≡ u ++ (x ∷ []) → (n : List ℕ) × IsPath (mark 1 e) (u ++ (x ∷ n))) → InStanding e p x
chain-standing e p x [] Chain.done Reads.nothing begins = start
chain-standing e p x (y ∷ m) c r begins =
    let (u, f) = chain-ends m c in
    let (n, h) = begins u f in
    after u n (subst (λ (l : List ℕ). Reads 1 e l p) f r) h

stands-standing : (e : Expression) (p : Path) (x : ℕ) → StandsAt e 0 p x → InStanding e p x
stands-standing e p x s =
    let (m, c, r) = stands-chain s in
    chain-standing e p x m c r (λ u f. (marked-prefix-chain e u x).1 (subst (λ (l : List ℕ). Chain e 0 l x) f c))

standing-stands : {e : Expression} {p : Path} {x : ℕ} → InStanding e p x → StandsAt e 0 p x
standing-stands start = StandsAt.done
standing-stands {e} (after {x} m n r h) = chain-stands (prefix-chain e m x n h) r

-- The standing after p holds exactly the places at which reading p from the start can end.
pub standing-exactly : (e : Expression) (p : Path) (x : ℕ) → InStanding e p x ↔ StandsAt e 0 p x
standing-exactly e p x = (standing-stands, stands-standing e p x)

-- The standing after a path of the expression has a final place. Nothing is left to read there, so this does not rest on every
-- expression having a path.
path-standing : (e : Expression) (p : Path) → IsPath e p → (y : ℕ) × InStanding e p y × Final e y
path-standing e p h =
    let (m, r, i) = mark-path 1 e p h in
    let (y, c, f) = (marked-path-chain e m).0 i in
    (y, chain-standing e p y m c r (λ u g. ([], subst (IsPath (mark 1 e)) g i)), f)

stands-path : (e : Expression) (p : Path) (y : ℕ) → StandsAt e 0 p y → Final e y → IsPath e p
stands-path e p y s f = let (m, c, r) = stands-chain s in unmark-path 1 e m p r ((marked-path-chain e m).1 (y, c, f))

-- The paths of an expression are exactly those whose reading from the start can end at a final place.
pub path-exactly : (e : Expression) (p : Path) → IsPath e p ↔ ((y : ℕ) × StandsAt e 0 p y × Final e y)
path-exactly e p = (λ h. let (y, s, f) = path-standing e p h in (y, standing-stands s, f), λ (y, s, f). stands-path e p y s f)

-- The standing after p accepts exactly if p is a path of the expression.
pub accepts-exactly-path : (e : Expression) (p : Path) → Accepts e p ↔ IsPath e p
accepts-exactly-path e p = (λ h. h p (λ x. (λ i. i, λ i. i)), from)
  where
    from : IsPath e p → Accepts e p
    from h q same = let (y, s, f) = path-standing e p h in stands-path e q y (standing-stands ((same y).0 s)) f
