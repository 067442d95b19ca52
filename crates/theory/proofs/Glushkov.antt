-- Glushkov's theorem (T2), both readings, for the executable automaton: a path is a path of the expression exactly when its standing
-- accepts; and the standing after a path is the set that document 01 defines. So two paths have one standing exactly when the numbers are
-- equal.
use Rattle.std.specs.Prelude.{ℕ, true, [], ◌∷◌, ◌↔◌, ◌≡◌, refl}
use Rattle.std.proofs.Math.Logic.Iff
use Rattle.std.proofs.Common.{subst}
use Rattle.theory.specs.Path.{Label, Path}
use Rattle.theory.specs.Expression.{Expression, IsPath}
use Rattle.theory.specs.Standing.{InStanding, SameStanding}
use Rattle.theory.specs.Places.{Member, one}
use Rattle.theory.specs.PlacesLaws.{member-one, equal-members}
use Rattle.theory.specs.Automaton.{glushkov, step, standing_from, standing, accepts}
use Rattle.theory.proofs.AutomatonLaws.{member-step, member-accepting, accepts-exactly}
use Rattle.theory.specs.Chain.{Final}
use Rattle.theory.specs.StandsAt.{StandsAt, done, next}
use Rattle.theory.proofs.GlushkovRelations.{standing-exactly, path-exactly}

-- The places that reading p from some place of s can end at.
abbrev Ends : Expression → ℕ → Path → ℕ → Type 0
Ends e s p y = (x : ℕ) × Member x s × StandsAt e x p y

ends-nothing : (e : Expression) (s y : ℕ) → Ends e s [] y → Member y s
ends-nothing e s y (x, m, done) = m

ends-step : (e : Expression) (s : ℕ) (a : Label) (p : Path) (y : ℕ) → Ends e (step (glushkov e) s a) p y ↔ Ends e s (a ∷ p) y
ends-step e s a p y = (to, from)
  where
    to : Ends e (step (glushkov e) s a) p y → Ends e s (a ∷ p) y
    to (z, m, r) = let (x, h, f, l) = (member-step e s a z).0 m in (x, h, next f l r)

    from : Ends e s (a ∷ p) y → Ends e (step (glushkov e) s a) p y
    from (x, h, next {z = z} f l r) = (z, (member-step e s a z).1 (x, h, f, l), r)

-- A place is in the standing that p leads to from s exactly when reading p from a place of s can end there.
pub member-standing_from : (e : Expression) (s : ℕ) (p : Path) (y : ℕ)
    → Member y (standing_from (glushkov e) s p) ↔ ((x : ℕ) × Member x s × StandsAt e x p y)
unfolding standing_from
member-standing_from e s [] y = (λ m. (y, m, done), ends-nothing e s y)
member-standing_from e s (a ∷ p) y = Iff.trans (member-standing_from e (step (glushkov e) s a) p y) (ends-step e s a p y)

pub member-standing : (e : Expression) (p : Path) (y : ℕ) → Member y (standing (glushkov e) p) ↔ StandsAt e 0 p y
unfolding standing
member-standing e p y = (to, λ r. (member-standing_from e (one 0) p y).1 (0, refl, r))
  where
    to : Member y (standing_from (glushkov e) (one 0) p) → StandsAt e 0 p y
    to m =
        let (x, h, r) = (member-standing_from e (one 0) p y).0 m in
        subst (λ z. StandsAt e z p y) ((member-one x 0).0 h) r

-- The standing after p, as a number, holds exactly the places of document 01's standing.
pub glushkov-standing : (e : Expression) (p : Path) (x : ℕ) → Member x (standing (glushkov e) p) ↔ InStanding e p x
glushkov-standing e p x = Iff.trans (member-standing e p x) (Iff.symm (standing-exactly e p x))

-- A path is a path of the expression exactly when its standing accepts.
pub glushkov-accepts : (e : Expression) (p : Path) → IsPath e p ↔ (accepts (glushkov e) (standing (glushkov e) p) ≡ true)
glushkov-accepts e p = Iff.trans (path-exactly e p) (Iff.trans (to, from) (Iff.symm (accepts-exactly (glushkov e) (standing (glushkov e) p))))
  where
    to : ((y : ℕ) × StandsAt e 0 p y × Final e y) → (y : ℕ) × Member y (standing (glushkov e) p) × Member y (glushkov e).accepting
    to (y, r, f) = (y, (member-standing e p y).1 r, (member-accepting e y).1 f)

    from : ((y : ℕ) × Member y (standing (glushkov e) p) × Member y (glushkov e).accepting) → (y : ℕ) × StandsAt e 0 p y × Final e y
    from (y, m, k) = (y, (member-standing e p y).0 m, (member-accepting e y).0 k)

-- Two paths have one standing exactly when the numbers are equal.
pub glushkov-same : (e : Expression) (p q : Path) → SameStanding e p q ↔ (standing (glushkov e) p ≡ standing (glushkov e) q)
glushkov-same e p q = (
  λ h.
      equal-members (standing (glushkov e) p) (standing (glushkov e) q)
      (λ x. Iff.trans (glushkov-standing e p x) (Iff.trans (h x) (Iff.symm (glushkov-standing e q x)))),
  λ n x.
      Iff.trans (Iff.symm (glushkov-standing e p x))
      (Iff.trans (subst (λ s. Member x (standing (glushkov e) p) ↔ Member x s) n (λ m. m, λ m. m)) (glushkov-standing e q x)),
)
