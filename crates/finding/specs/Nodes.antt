-- Nodes of a list's image (ListImage): the number width × standing + place, and the steps between nodes over one label.
use Rattle.std.specs.Prelude.{◌≡◌, ℕ, zero, suc, ◌+◌, ◌*◌, ◌/◌, ◌%◌, ◌^◌, ◌<◌, ◌⊎◌, ◌↔◌, List, slice_index}
use Rattle.std.proofs.Common.{inl, inr, sym, ◌∙◌, ap, subst, mul_comm, div-lt_iff_lt-mul, arith}
use Rattle.std.proofs.Math.Decide.{ℕ_discrete}
use Rattle.std.proofs.Math.Arith.{digits_lt, digits_div, digits_mod}
use Rattle.theory.specs.Expression.{Expression}
use Rattle.theory.specs.Standing.{size}
use Rattle.theory.specs.Occurrences.{labelled-within}
use Rattle.theory.specs.Places.{Member, intersection}
use Rattle.theory.specs.PlacesLaws.{member-none, member_union, member-intersection, members-below}
use Rattle.theory.specs.PlacesShift.{member-moved}
use Rattle.theory.specs.Automaton.{Automaton, glushkov}
use Rattle.theory.proofs.AutomatonLaws.{length-follows, member-enter}
use Rattle.finding.specs.Standings.{move}
use Rattle.finding.specs.ListImage.{width, onwards, next_nodes}

-- The node of the standing i and the list place x, where the width is w.
abbrev pub node : ℕ → ℕ → ℕ → ℕ
node w i x = w * i + x

pub node-div : {w x : ℕ} (i : ℕ) → x < w → node w i x / w ≡ i
node-div {w} i h = rw (mul_comm w i) (digits_div i h)

pub node-mod : {w x : ℕ} (i : ℕ) → x < w → node w i x % w ≡ x
node-mod {w} i h = rw (mul_comm w i) (digits_mod i h)

pub node-below : {w x i m : ℕ} → x < w → i < m → node w i x < w * m
node-below {w} {x} {i} {m} h l = rw (mul_comm w i, mul_comm w m) (digits_lt l h)

-- A node is known by its standing and its place.
pub node-unique : {w x y i j : ℕ} → x < w → y < w → node w i x ≡ node w j y → (i ≡ j) × (x ≡ y)
node-unique {w} {x} {y} {i} {j} h l e = (
  sym (node-div i h) ∙ ap (λ n. n / w) e ∙ node-div j l,
  sym (node-mod i h) ∙ ap (λ n. n % w) e ∙ node-mod j l,
)

pub width-glushkov : (e : Expression) → width (glushkov e) ≡ suc (size e)
unfolding glushkov
width-glushkov e = ap suc (length-follows 1 e)

-- `Onward A found B k i x n`: a label below k leads from the standing i with the list place x to the node n.
abbrev pub Onward : Automaton → List ℕ → Automaton → ℕ → ℕ → ℕ → ℕ → Type 0
Onward A found B k i x n =
    (a : ℕ) × (z : ℕ) × (a < k) × (n ≡ node (width B) (move A found i a) z) × Member z (slice_index B.follow x) × Member z (B.enter a)

pub member-onwards : (A : Automaton) (found : List ℕ) (B : Automaton) (i x k n : ℕ)
    → Member n (onwards A found B i x k) ↔ Onward A found B k i x n
unfolding onwards
member-onwards A found B i x zero n = (λ m. absurd (member-none n m), λ (a, z, h, _, _, _). absurd (omega arith))
member-onwards A found B i x (suc k) n = (
  λ m. there (member-onwards A found B i x k n).0 ((member_union n (onwards A found B i x k) here).0 m),
  λ o. (member_union n (onwards A found B i x k) here).1 (back (member-onwards A found B i x k n).1 o),
)
  where
    here : ℕ
    here = intersection (slice_index B.follow x) (B.enter k) * 2 ^ (width B * move A found i k)

    there : (Member n (onwards A found B i x k) → Onward A found B k i x n) → Member n (onwards A found B i x k) ⊎ Member n here
        → Onward A found B (suc k) i x n
    there ih (inl m) = let (a, z, h, e, f, g) = ih m in (a, z, omega arith, e, f, g)
    there ih (inr m) =
        let (z, e, b) = (member-moved (width B * move A found i k) n (intersection (slice_index B.follow x) (B.enter k))).0 m in
        let (f, g) = (member-intersection z (slice_index B.follow x) (B.enter k)).0 b in
        (k, z, omega arith, e, f, g)

    back : (Onward A found B k i x n → Member n (onwards A found B i x k)) → Onward A found B (suc k) i x n
        → Member n (onwards A found B i x k) ⊎ Member n here
    back ih (a, z, h, e, f, g) = side (ℕ_discrete a k)
      where
        side : Dec (a ≡ k) → Member n (onwards A found B i x k) ⊎ Member n here
        side (yes same) =
            inr ((member-moved (width B * move A found i k) n (intersection (slice_index B.follow x) (B.enter k))).1 (
              z,
              subst (λ c. n ≡ node (width B) (move A found i c) z) same e,
              (member-intersection z (slice_index B.follow x) (B.enter k)).1 (f, subst (λ c. Member z (B.enter c)) same g),
            ))
        side (no other) = inl (ih (a, z, omega arith, e, f, g))

-- The nodes one step from a node.
pub member-next : (A : Automaton) (found : List ℕ) (k : ℕ) (B : Automaton) (i x n : ℕ) → x < width B
    → Member n (next_nodes A found k B (node (width B) i x)) ↔ Onward A found B k i x n
unfolding next_nodes
member-next A found k B i x n h = rw (node-div i h, node-mod i h) (member-onwards A found B i x k n)

-- A place entered over a label is a place of the list.
pub entered-within : (e : Expression) (a z : ℕ) → Member z ((glushkov e).enter a) → z < width (glushkov e)
entered-within e a z m = omega (arith, width-glushkov e, labelled-within 1 e z a ((member-enter e a z).0 m))

-- Where every label moves from a number below m to a number below m, the steps stay among the nodes of m standings.
pub next-below : (A : Automaton) (found : List ℕ) (k : ℕ) (e : Expression) (m : ℕ)
    → ((i a : ℕ) → i < m → a < k → move A found i a < m)
    → (n : ℕ) → n < width (glushkov e) * m → next_nodes A found k (glushkov e) n < 2 ^ (width (glushkov e) * m)
unfolding next_nodes
next-below A found k e m moves n h =
    members-below (width (glushkov e) * m) (onwards A found (glushkov e) (n / width (glushkov e)) (n % width (glushkov e)) k) (λ y b.
    let (a, z, c, d, f, g) = (member-onwards A found (glushkov e) (n / width (glushkov e)) (n % width (glushkov e)) k y).0 b in
    rw d (node-below (entered-within e a z g) (moves (n / width (glushkov e)) a inside c)))
  where
    inside : n / width (glushkov e) < m
    inside =
        (div-lt_iff_lt-mul {k = width (glushkov e)} {y = m} (omega (arith, width-glushkov e))).1 (rw (mul_comm (width (glushkov e)) m) at h)
