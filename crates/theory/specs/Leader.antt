-- Classes of numbers with the same key, each named by its first member.
use Rattle.std.specs.Prelude.{ℕ, ◌≤◌, ◌<◌, List, ◌≡◌}
use Rattle.std.proofs.Common.{sym, ap, ◌∙◌, arith}
use Rattle.std.proofs.Math.Decide.{dec_lt}
use Rattle.theory.specs.FirstBelow.{first_below, first-at-most, first_passes, first-least}
use Rattle.theory.specs.NumberLists.{equal, equal-same, same-equal}

-- The first number with the key of q.
unfoldable pub leader : (ℕ → List ℕ) → ℕ → ℕ
leader key q = first_below (λ r. equal (key r) (key q)) q

pub leader-at-most : (key : ℕ → List ℕ) (q : ℕ) → leader key q ≤ q
unfolding leader
leader-at-most key q = first-at-most (λ r. equal (key r) (key q)) q

pub leader-least : (key : ℕ → List ℕ) (r q : ℕ) → key r ≡ key q → leader key q ≤ r
unfolding leader
leader-least key r q e = first-least (λ r. equal (key r) (key q)) q r (same-equal (key r) (key q) e)

pub leader-key : (key : ℕ → List ℕ) (q : ℕ) → key (leader key q) ≡ key q
unfolding leader
leader-key key q = go (dec_lt (leader key q) q)
  where
    go : Dec (leader key q < q) → key (leader key q) ≡ key q
    go (yes h) = equal-same _ _ (first_passes (λ r. equal (key r) (key q)) q h)
    go (no h) = let same : leader key q ≡ q = omega (arith, leader-at-most key q) in ap key same

-- Numbers have one leader exactly when they have one key.
pub leader-same : (key : ℕ → List ℕ) (q r : ℕ) → key q ≡ key r → leader key q ≡ leader key r
leader-same key q r e =
    omega (arith, leader-least key (leader key q) r (leader-key key q ∙ e), leader-least key (leader key r) q (leader-key key r ∙ sym e))

pub same-leader : (key : ℕ → List ℕ) (q r : ℕ) → leader key q ≡ leader key r → key q ≡ key r
same-leader key q r e = sym (leader-key key q) ∙ ap key e ∙ leader-key key r
