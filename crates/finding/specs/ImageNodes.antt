-- The search for an image on plain data (ImageSearch) finds the image that the closure over nodes gives (ListImage): a node is the number
-- width × standing + place, and the nodes reached are the pairs reached.
use Rattle.std.specs.Prelude.{◌≡◌, ℕ, zero, suc, ◌+◌, ◌-◌, ◌*◌, ◌/◌, ◌%◌, ◌^◌, ◌<◌, ◌≤◌, Bool, ◌⊎◌, ◌↔◌, List, ◌∷◌, length, take, drop, slice_index}
use Rattle.std.proofs.Common.{inl, inr, ap₂, ◌∙◌, add-zero, mul_comm, mul-suc, mul-le-mul_left, div-lt_iff_lt-mul, lt_of_le_of_lt, arith, drop-cons}
use Rattle.std.proofs.Math.Path.{refl, sym, ap, subst}
use Rattle.std.proofs.Math.Decide.{ℕ_discrete}
use Rattle.std.proofs.Math.Arith.{digits_div, digits_mod}
use Rattle.std.proofs.lemmas.Nat.{and_le_r}
use Rattle.theory.specs.Places.{Member, one, intersection, collect}
use Rattle.theory.specs.PlacesLaws.{member-none, member-one, member_union, member_below, members-below, one_below, equal-members}
use Rattle.theory.specs.PlacesLaws.{member-collect}
use Rattle.theory.specs.Automaton.{Automaton, accepts}
use Rattle.theory.proofs.AutomatonLaws.{accepts-exactly}
use Rattle.theory.specs.Closure.{Reaches, here, closure}
use Rattle.theory.specs.ClosureLaws.{reaches_step, closed-under, closure-exactly}
use Rattle.finding.specs.Standings.{move}
use Rattle.finding.specs.ListImage.{onwards, next_nodes, reached_nodes, places_at, image, images_from}
use Rattle.finding.specs.Plain.{plain}
use Rattle.theory.specs.PlacesShift.{member-up, member-up-from}
use Rattle.finding.specs.ImageLaws.{member-places_at}
use Rattle.finding.specs.MoveTable.{same_place}
use Rattle.finding.specs.ImageSearch.{Tables, move_to, Onward, ImageOf}

-- The tables hold the moves of the standings `found` of A, which stay among them, and a list whose labels enter only its own places.
pub record Holds (A : Automaton) (found : List ℕ) (D : Tables) : Type 0 where
  pub size : length found ≡ D.count
  pub moved : (j a : ℕ) → j < D.count → a < D.labels → move_to D j a ≡ move A found j a
  pub inside : (j a : ℕ) → j < D.count → a < D.labels → move A found j a < D.count
  pub start : 0 < length D.follow
  pub within : (a : ℕ) → a < D.labels → slice_index D.enter a < 2 ^ length D.follow

-- The nodes that the labels below k lead to.
member-onwards : (A : Automaton) (found follow enter : List ℕ) (accepting i x k y : ℕ)
    → Member y (onwards A found (plain follow enter accepting) i x k)
    ↔ ((a : ℕ) × (a < k) × (z : ℕ) × (y ≡ length follow * move A found i a + z) × Member z (intersection (slice_index follow x) (slice_index enter a)))
unfolding onwards
member-onwards A found follow enter accepting i x zero y = (λ m. absurd (member-none y m), λ m. absurd (omega arith))
member-onwards A found follow enter accepting i x (suc k) y = (
  λ m. there (member-onwards A found follow enter accepting i x k y).0
      ((member_union y (onwards A found (plain follow enter accepting) i x k) (new * 2 ^ up)).0 m),
  λ m. (member_union y (onwards A found (plain follow enter accepting) i x k) (new * 2 ^ up)).1
      (back (member-onwards A found follow enter accepting i x k y).1 m.0 m.1 m.2 m.3 m.4 (ℕ_discrete m.0 k)),
)
  where
    new : ℕ
    new = intersection (slice_index follow x) (slice_index enter k)

    up : ℕ
    up = length follow * move A found i k

    there : (Member y (onwards A found (plain follow enter accepting) i x k)
        → (a : ℕ) × (a < k) × (z : ℕ) × (y ≡ length follow * move A found i a + z) × Member z (intersection (slice_index follow x) (slice_index enter a)))
        → Member y (onwards A found (plain follow enter accepting) i x k) ⊎ Member y (new * 2 ^ up)
        → (a : ℕ) × (a < suc k) × (z : ℕ) × (y ≡ length follow * move A found i a + z) × Member z (intersection (slice_index follow x) (slice_index enter a))
    there ih (inl m) = let r = ih m in (r.0, omega (arith, r.1), r.2, r.3, r.4)
    there ih (inr m) =
        let h = member-up-from up y new m in
        let e : y ≡ up + (y - up) = omega arith in
        (k, omega arith, y - up, e, (member-up up (y - up) new).0 (subst (λ v. Member v (new * 2 ^ up)) e m))

    back : (((a : ℕ) × (a < k) × (z : ℕ) × (y ≡ length follow * move A found i a + z) × Member z (intersection (slice_index follow x) (slice_index enter a)))
        → Member y (onwards A found (plain follow enter accepting) i x k))
        → (a : ℕ) → a < suc k → (z : ℕ) → y ≡ length follow * move A found i a + z → Member z (intersection (slice_index follow x) (slice_index enter a))
        → Dec (a ≡ k) → Member y (onwards A found (plain follow enter accepting) i x k) ⊎ Member y (new * 2 ^ up)
    back ih a l z e m (yes q) =
        inr (subst (λ v. Member v (new * 2 ^ up)) (sym (e ∙ ap (λ b. length follow * move A found i b + z) q))
        ((member-up up z new).1 (subst (λ b. Member z (intersection (slice_index follow x) (slice_index enter b))) q m)))
    back ih a l z e m (no q) = inl (ih (a, omega arith, z, e, m))

-- A node below w * n is a place below w at a standing below n.
node-below : (w n j x : ℕ) → j < n → x < w → w * j + x < w * n
node-below w n j x h l = omega (arith, mul-le-mul_left w h, mul-suc w j)

node-standing : (w j x : ℕ) → x < w → (w * j + x) / w ≡ j
node-standing w j x h = ap (λ z. (z + x) / w) (mul_comm w j) ∙ digits_div j h

node-place : (w j x : ℕ) → x < w → (w * j + x) % w ≡ x
node-place w j x h = ap (λ z. (z + x) % w) (mul_comm w j) ∙ digits_mod j h

module _ (A : Automaton) (found : List ℕ) (D : Tables) (h : Holds A found D) (accepting : ℕ) where
  pub entered_below : (a z : ℕ) (s : ℕ) → a < D.labels → Member z (intersection s (slice_index D.enter a)) → z < length D.follow
  entered_below a z s l m =
      member_below (length D.follow) (intersection s (slice_index D.enter a)) z
      (lt_of_le_of_lt (and_le_r s (slice_index D.enter a)) (h.within a l)) m

  -- One step, from pairs to nodes and back.

  Step : ℕ → ℕ → Type 0
  Step u v = Member v (next_nodes A found D.labels (plain D.follow D.enter accepting) u)

  step_in : (j x : ℕ) (v : ℕ × ℕ) → j < D.count → x < length D.follow → Onward D (j, x) v
      → Step (length D.follow * j + x) (length D.follow * v.0 + v.1) × (v.1 < length D.follow)
  unfolding Step next_nodes
  step_in j x v l k o = (
    rw (node-standing (length D.follow) j x k, node-place (length D.follow) j x k)
        ((member-onwards A found D.follow D.enter accepting j x D.labels (length D.follow * v.0 + v.1)).1
        (o.label, o.below, v.1, ap (λ t. length D.follow * t + v.1) (o.moved ∙ h.moved j o.label l o.below), o.enters)),
    entered_below o.label v.1 (slice_index D.follow x) o.below o.enters,
  )

  step-out : (u v : ℕ) → u < length D.follow * D.count → Step u v
      → (t : ℕ × ℕ) × (v ≡ length D.follow * t.0 + t.1) × (t.1 < length D.follow)
      × Onward D (u / length D.follow, u % length D.follow) t
  unfolding Step next_nodes
  step-out u v l m =
      let j = u / length D.follow in
      let k : j < D.count = (div-lt_iff_lt-mul h.start).1 (subst (λ z. u < z) (mul_comm (length D.follow) D.count) l) in
      let r = (member-onwards A found D.follow D.enter accepting j (u % length D.follow) D.labels v).0 m in (
        (move A found j r.0, r.2),
        r.3,
        entered_below r.0 r.2 (slice_index D.follow (u % length D.follow)) r.1 r.4,
        record {
          label = r.0;
          below = r.1;
          moved = sym (h.moved j r.0 k r.1);
          inside = h.inside j r.0 k r.1;
          enters = r.4;
        },
      )

  nodes-within : (u : ℕ) → u < length D.follow * length found
      → next_nodes A found D.labels (plain D.follow D.enter accepting) u < 2 ^ (length D.follow * length found)
  unfolding Step
  nodes-within u l =
      members-below (length D.follow * length found) (next_nodes A found D.labels (plain D.follow D.enter accepting) u)
      (λ v m. below v (step-out u v (subst (λ z. u < length D.follow * z) h.size l) m))
    where
      below : (v : ℕ)
          → (t : ℕ × ℕ) × (v ≡ length D.follow * t.0 + t.1) × (t.1 < length D.follow)
          × Onward D (u / length D.follow, u % length D.follow) t
          → v < length D.follow * length found
      below v (t, e, k, o) =
          subst (λ z. z < length D.follow * length found) (sym e)
          (node-below (length D.follow) (length found) t.0 t.1 (subst (λ z. t.0 < z) (sym h.size) o.inside) k)

  module _ (i : ℕ) (l : i < D.count) where
    -- Finitely many steps, from pairs to nodes and back.

    reaches-in : (j x : ℕ) → Reaches (Onward D) (i, 0) (j, x)
        → (j < D.count) × (x < length D.follow) × Reaches Step (length D.follow * i) (length D.follow * j + x)
    reaches-in j x r = closed-under X keep {x = (i, 0)} {y = (j, x)} begin r
      where
        X : ℕ × ℕ → Type 0
        X u = (u.0 < D.count) × (u.1 < length D.follow) × Reaches Step (length D.follow * i) (length D.follow * u.0 + u.1)

        begin : X (i, 0)
        begin = (l, h.start, rw (add-zero (length D.follow * i)) here)

        keep : (u v : ℕ × ℕ) → X u → Onward D u v → X v
        keep u v p o =
            let s = step_in u.0 u.1 v p.0 p.1 o in
            (o.inside, s.1, reaches_step p.2 s.0)

    reaches-out : (v : ℕ) → Reaches Step (length D.follow * i) v
        → (t : ℕ × ℕ) × (v ≡ length D.follow * t.0 + t.1) × (t.0 < D.count) × (t.1 < length D.follow) × Reaches (Onward D) (i, 0) t
    reaches-out v r = closed-under X keep begin r
      where
        X : ℕ → Type 0
        X v = (t : ℕ × ℕ) × (v ≡ length D.follow * t.0 + t.1) × (t.0 < D.count) × (t.1 < length D.follow) × Reaches (Onward D) (i, 0) t

        begin : X (length D.follow * i)
        begin = ((i, 0), sym (add-zero (length D.follow * i)), l, h.start, here)

        keep : (u v : ℕ) → X u → Step u v → X v
        keep u v (t, e, k, q, p) m =
            let low = node-below (length D.follow) D.count t.0 t.1 k q in
            let s = step-out u v (subst (λ z. z < length D.follow * D.count) (sym e) low) m in
            let j : u / length D.follow ≡ t.0 = ap (λ z. z / length D.follow) e ∙ node-standing (length D.follow) t.0 t.1 q in
            let x : u % length D.follow ≡ t.1 = ap (λ z. z % length D.follow) e ∙ node-place (length D.follow) t.0 t.1 q in
            let o : Onward D t s.0 = subst (λ (w : ℕ × ℕ). Onward D w s.0) (λ k. (j k, x k)) s.3 in
            (s.0, s.1, o.inside, s.2, reaches_step p o)

    -- The nodes of the closure are the pairs reached.
    node-reached : (j x : ℕ)
        → ((x < length D.follow)
        × Member (length D.follow * j + x) (reached_nodes A found D.labels (plain D.follow D.enter accepting) i))
        ↔ Reaches (Onward D) (i, 0) (j, x)
    unfolding reached_nodes Step
    node-reached j x = (back, there)
      where
        exactly : (y : ℕ)
            → Member y (closure (next_nodes A found D.labels (plain D.follow D.enter accepting)) (length D.follow * length found)
            (length D.follow * length found) (one (length D.follow * i)))
            ↔ ((z : ℕ) × Member z (one (length D.follow * i)) × Reaches Step z y)
        exactly =
            closure-exactly (next_nodes A found D.labels (plain D.follow D.enter accepting)) (length D.follow * length found)
            (one (length D.follow * i))
            (one_below (length D.follow * length found) (length D.follow * i)
            (subst (λ z. z < length D.follow * length found) (add-zero (length D.follow * i))
            (node-below (length D.follow) (length found) i 0 (subst (λ z. i < z) (sym h.size) l) h.start)))
            nodes-within

        there : Reaches (Onward D) (i, 0) (j, x) → (x < length D.follow)
            × Member (length D.follow * j + x) (closure (next_nodes A found D.labels (plain D.follow D.enter accepting))
            (length D.follow * length found) (length D.follow * length found) (one (length D.follow * i)))
        there m =
            let r = reaches-in j x m in (
              r.1,
              (exactly (length D.follow * j + x)).1
                  (length D.follow * i, (member-one (length D.follow * i) (length D.follow * i)).1 refl, r.2),
            )

        back : (x < length D.follow)
            × Member (length D.follow * j + x) (closure (next_nodes A found D.labels (plain D.follow D.enter accepting))
            (length D.follow * length found) (length D.follow * length found) (one (length D.follow * i)))
            → Reaches (Onward D) (i, 0) (j, x)
        back (q, m) =
            let r = (exactly (length D.follow * j + x)).0 m in
            let e : r.0 ≡ length D.follow * i = (member-one r.0 (length D.follow * i)).0 r.1 in
            let s = reaches-out (length D.follow * j + x) (subst (λ z. Reaches Step z (length D.follow * j + x)) e r.2) in
            let p = same_place (length D.follow) j x s.0.0 s.0.1 q s.3 s.1 in
            subst (λ (t : ℕ × ℕ). Reaches (Onward D) (i, 0) t) (λ w. (sym p.0 w, sym p.1 w)) s.4

    -- What the search gives is the image.
    pub image-of : (r : ℕ) → ImageOf D accepting i r → r ≡ image A found D.labels (plain D.follow D.enter accepting) i
    unfolding image accepts
    image-of r s = equal-members r (collect test (length found)) λ j. (
      λ m.
          let (k, y, a, o) = (s.exactly j).0 m in
          (member-collect test (length found) j).1
          (subst (λ z. j < z) (sym h.size) k, (accepts-exactly B (places_at B nodes j)).1 (y, (at j y).1 o, a)),
      λ m.
          let (k, t) = (member-collect test (length found) j).0 m in
          let (y, o, a) = (accepts-exactly B (places_at B nodes j)).0 t in
          (s.exactly j).1 (subst (λ z. j < z) h.size k, y, a, (at j y).0 o),
    )
      where
        B : Automaton
        B = plain D.follow D.enter accepting

        nodes : ℕ
        nodes = reached_nodes A found D.labels (plain D.follow D.enter accepting) i

        test : ℕ → Bool
        test j = accepts B (places_at B nodes j)

        at : (j y : ℕ) → Member y (places_at B nodes j) ↔ Reaches (Onward D) (i, 0) (j, y)
        at j y = (
          λ m. (node-reached j y).0 ((member-places_at B nodes j y).0 m),
          λ o. (member-places_at B nodes j y).1 ((node-reached j y).1 o),
        )

  images-of : (out : List ℕ) (n i : ℕ) → n + i ≤ D.count → n + i ≤ length out
      → ((j : ℕ) → j < n + i → ImageOf D accepting j (slice_index out j))
      → take n (drop i out) ≡ images_from A found D.labels (plain D.follow D.enter accepting) n i
  unfolding images_from
  images-of out zero i k room f = refl
  images-of out (suc n) i k room f =
      rw (drop-cons out i 0 (omega arith))
      (ap₂ (λ (x : ℕ) (l : List ℕ). x ∷ l) (image-of i (omega arith) (slice_index out i) (f i (omega arith)))
      (images-of out n (suc i) (omega arith) (omega arith) (λ j q. f j (omega arith))))

  -- The images of all standings, in their order.
  pub images-found : (out : List ℕ) → D.count ≤ length out → ((j : ℕ) → j < D.count → ImageOf D accepting j (slice_index out j))
      → take D.count out ≡ images_from A found D.labels (plain D.follow D.enter accepting) D.count 0
  images-found out room f = images-of out D.count 0 (omega arith) (omega arith) (λ j q. f j (omega arith))
