-- The paths of an expression whose labels are below k have labels below k alone, and so have the paths that the list words of a
-- well-formed job spell.
use Rattle.std.specs.Prelude.{ℕ, ◌++◌, ◌≡◌, get_or}
use Rattle.std.proofs.Common.{inl, inr, sym, subst}
use Rattle.theory.specs.Path.{Path, Language, Below, nothing, next}
use Rattle.theory.specs.Expression.{Expression, empty, label, alternative, sequence, star, optional, Star, none, more, IsPath}
use Rattle.theory.specs.Word as W
use Rattle.theory.specs.Word.{Word}
use Rattle.theory.specs.Job.{Job, LabelsBelow, WellFormed, QueryPath, ListPath, SpelledBy}

pub below-append : {k : ℕ} {p q : Path} → Below k p → Below k q → Below k (p ++ q)
below-append nothing b = b
below-append (next h a) b = next h (below-append a b)

joined : {k : ℕ} {p u v : Path} → p ≡ u ++ v → Below k u → Below k v → Below k p
joined {k} e a b = subst (Below k) (sym e) (below-append a b)

star-below : {k : ℕ} {L : Language} → ((u : Path) → L u → Below k u) → {p : Path} → Star L p → Below k p
star-below {k} each (none e) = subst (Below k) (sym e) nothing
star-below each (more u v e l s) = joined e (each u l) (star-below each s)

-- A path of an expression with labels below k.
pub path-below : (k : ℕ) (e : Expression) → LabelsBelow k e → (p : Path) → IsPath e p → Below k p
path-below k empty b p e = subst (Below k) (sym e) nothing
path-below k (label a) b p e = subst (Below k) (sym e) (next b nothing)
path-below k (alternative l r) b p (inl h) = path-below k l b.0 p h
path-below k (alternative l r) b p (inr h) = path-below k r b.1 p h
path-below k (sequence l r) b p (u, v, e, h, i) = joined e (path-below k l b.0 u h) (path-below k r b.1 v i)
path-below k (star e) b p s = star-below (path-below k e b) s
path-below k (optional e) b p (inl i) = subst (Below k) (sym i) nothing
path-below k (optional e) b p (inr h) = path-below k e b p h

-- A query path of a well-formed job.
pub query-below : (J : Job) → WellFormed J → (p : Path) → QueryPath J p → Below J.labels p
query-below J f = path-below J.labels J.query f.query

-- A path of a list of a well-formed job.
pub list-path-below : (J : Job) → WellFormed J → (v : ℕ) (p : Path) → ListPath J v p → Below J.labels p
list-path-below J f v p (h, l) = path-below J.labels (get_or J.lists v empty) (f.lists v h) p l

-- A path that a list word of a well-formed job spells.
pub spelled-below : (J : Job) → WellFormed J → {w : Word} {p : Path} → SpelledBy J w p → Below J.labels p
spelled-below J f W.nothing = nothing
spelled-below J f (W.name u r e l s) = joined e (list-path-below J f _ u l) (spelled-below J f s)
