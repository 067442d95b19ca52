-- The image of a query standing under a list (ListImage) holds exactly the standings after the list's paths from it.
use Rattle.std.specs.Prelude.{◌≡◌, ℕ, ◌+◌, ◌*◌, ◌/◌, ◌^◌, ◌<◌, true, ◌↔◌, List, [], ◌∷◌, length, slice_index}
use Rattle.std.proofs.Math.Path.{refl, ap}
use Rattle.std.proofs.Common.{sym, ◌∙◌, subst, add-zero, arith}
use Rattle.theory.specs.Path.{Path, Below, nothing, next}
use Rattle.theory.specs.Expression.{Expression, IsPath}
use Rattle.theory.specs.Job.{LabelsBelow}
use Rattle.theory.specs.PathsBelow.{path-below}
use Rattle.theory.specs.Places.{Member, one}
use Rattle.theory.specs.PlacesLaws.{member-one, one_below, member-collect}
use Rattle.theory.specs.PlacesShift.{member-down, member-cut}
use Rattle.theory.specs.Automaton.{Automaton, glushkov, standing_from, accepts}
use Rattle.theory.proofs.AutomatonLaws.{member-entry, member-enter, member-accepting, accepts-exactly}
use Rattle.theory.specs.StandsAt.{StandsAt, done}
use Rattle.theory.specs.StandsAt as S
use Rattle.theory.proofs.GlushkovRelations.{path-exactly}
use Rattle.theory.specs.Closure.{Reaches, here, onward, closure}
use Rattle.theory.specs.ClosureLaws.{closure-exactly}
use Rattle.finding.specs.Standings.{move}
use Rattle.finding.specs.ListImage.{width, next_nodes, reached_nodes, places_at, image}
use Rattle.finding.specs.Numbering.{Numbering}
use Rattle.finding.specs.Nodes.{node, node-below, node-unique, width-glushkov, member-next, entered-within, next-below}

-- The places reached together with the standing j.
pub member-places_at : (B : Automaton) (nodes j y : ℕ) → Member y (places_at B nodes j) ↔ ((y < width B) × Member (width B * j + y) nodes)
unfolding places_at
member-places_at B nodes j y = (
  λ m. let (h, b) = (member-cut (width B) y (nodes / 2 ^ (width B * j))).0 m in (h, (member-down (width B * j) y nodes).0 b),
  λ (h, b). (member-cut (width B) y (nodes / 2 ^ (width B * j))).1 (h, (member-down (width B * j) y nodes).1 b),
)

module _ {A : Automaton} {k : ℕ} {found : List ℕ} (N : Numbering A k found) (e : Expression) where
  -- The list's automaton, the number of its places, and a step between nodes.
  abbrev B : Automaton
  B = glushkov e

  abbrev w : ℕ
  w = width B

  abbrev NodeStep : ℕ → ℕ → Type 0
  NodeStep u v = Member v (next_nodes A found k B u)

  -- A path over k labels that leads from the standing i to the standing j and whose reading from the list place x can end at y.
  abbrev Between : ℕ → ℕ → ℕ → ℕ → Path → Type 0
  Between i x j y p = Below k p × (j < length found) × (slice_index found j ≡ standing_from A (slice_index found i) p) × (y < w) × StandsAt e x p y

  between_step : (i x a z j y : ℕ) (p : Path) → i < length found → a < k → Member z (slice_index B.follow x) → Member z (B.enter a)
      → Between (move A found i a) z j y p → Between i x j y (a ∷ p)
  unfolding standing_from
  between_step i x a z j y p h c f g (below, inside, leads, place, reads) = (
    next c below,
    inside,
    leads ∙ ap (λ t. standing_from A t p) (N.moves i a h c).1,
    place,
    S.next ((member-entry e x z).0 f) ((member-enter e a z).0 g) reads,
  )

  -- Steps between nodes read a path.
  reaches-path : (i x u n : ℕ) → i < length found → x < w → u ≡ node w i x → Reaches NodeStep u n
      → (j : ℕ) × (y : ℕ) × (p : Path) × (n ≡ node w j y) × Between i x j y p
  unfolding standing_from
  reaches-path i x u n h b q here = (i, x, [], q, (nothing, h, refl, b, done))
  reaches-path i x u n h b q (onward {y = v} r rest) =
      let (a, z, c, d, f, g) = (member-next A found k B i x v b).0 (subst (λ m. NodeStep m v) q r) in
      let (j, y, p, o, t) = reaches-path (move A found i a) z v n (N.moves i a h c).0 (entered-within e a z g) d rest in
      (j, y, a ∷ p, o, between_step i x a z j y p h c f g t)

  -- A path read is steps between nodes.
  path-reaches : (i x y : ℕ) (p : Path) → i < length found → x < w → Below k p → StandsAt e x p y
      → (j : ℕ) × (j < length found) × (slice_index found j ≡ standing_from A (slice_index found i) p) × (y < w)
      × Reaches NodeStep (node w i x) (node w j y)
  unfolding standing_from
  path-reaches i x y p h b nothing done = (i, h, refl, b, here)
  path-reaches i x y p h b (next {a = a} {p = r} c d) (S.next {z = z} f g t) =
      let m = (member-enter e a z).1 g in
      let (inside, leads) = N.moves i a h c in
      let (j, o, s, place, rest) = path-reaches (move A found i a) z y r inside (entered-within e a z m) d t in (
        j,
        o,
        s ∙ ap (λ v. standing_from A v r) leads,
        place,
        onward ((member-next A found k B i x (node w (move A found i a) z) b).1 (a, z, c, refl, (member-entry e x z).1 f, m)) rest,
      )

  start-below : 0 < w
  start-below = omega (arith, width-glushkov e)

  -- The nodes reached from the standing i and the start of the list.
  member-reached_nodes : (i n : ℕ) → i < length found → Member n (reached_nodes A found k B i) ↔ Reaches NodeStep (node w i 0) n
  unfolding reached_nodes
  member-reached_nodes i n h = (there, λ r. closed.1 (node w i 0, (member-one (node w i 0) (w * i)).1 (add-zero (w * i)), r))
    where
      inside : w * i < w * length found
      inside = omega (arith, node-below {i = i} start-below h)

      closed : Member n (closure (next_nodes A found k B) (w * length found) (w * length found) (one (w * i)))
          ↔ ((u : ℕ) × Member u (one (w * i)) × Reaches NodeStep u n)
      closed =
          closure-exactly (next_nodes A found k B) (w * length found) (one (w * i)) (one_below (w * length found) (w * i) inside)
          (next-below A found k e (length found) (λ i a b c. (N.moves i a b c).0)) n

      there : Member n (reached_nodes A found k B i) → Reaches NodeStep (node w i 0) n
      there m =
          let (u, b, r) = closed.0 m in
          subst (λ v. Reaches NodeStep v n) ((member-one u (w * i)).0 b ∙ sym (add-zero (w * i))) r

  -- The standing j is reached with an accepting place exactly when a path of the list leads from i to j.
  accepts-path : (i j : ℕ) → i < length found → j < length found → accepts B (places_at B (reached_nodes A found k B i) j) ≡ true
      → (p : Path) × IsPath e p × (standing_from A (slice_index found i) p ≡ slice_index found j)
  accepts-path i j h b t =
      let (y, m, final) = (accepts-exactly B (places_at B (reached_nodes A found k B i) j)).0 t in
      let (inside, reached) = (member-places_at B (reached_nodes A found k B i) j y).0 m in
      let r = (member-reached_nodes i (node w j y) h).0 reached in
      let (n, z, p, q, (_, _, leads, place, reads)) = reaches-path i 0 (node w i 0) (node w j y) h start-below refl r in
      let (same, ends) = node-unique inside place q in (
        p,
        (path-exactly e p).1 (y, subst (StandsAt e 0 p) (sym ends) reads, (member-accepting e y).0 final),
        sym leads ∙ ap (λ m. slice_index found m) (sym same),
      )

  path-accepts : LabelsBelow k e → (i j : ℕ) → i < length found → j < length found → (p : Path) → IsPath e p
      → standing_from A (slice_index found i) p ≡ slice_index found j → accepts B (places_at B (reached_nodes A found k B i) j) ≡ true
  path-accepts labels i j h b p o q =
      let (y, reads, final) = (path-exactly e p).0 o in
      let (n, c, leads, place, r) = path-reaches i 0 y p h start-below (path-below k e labels p o) reads in
      let same : n ≡ j = N.distinct n j c b (leads ∙ q) in
      let reached = (member-reached_nodes i (node w j y) h).1 (subst (λ m. Reaches NodeStep (node w i 0) (node w m y)) same r) in
      (accepts-exactly B (places_at B (reached_nodes A found k B i) j)).1
      (y, (member-places_at B (reached_nodes A found k B i) j y).1 (place, reached), (member-accepting e y).1 final)

  -- The image of the standing i holds j exactly when a path of the list leads from i to j.
  pub image-exactly : LabelsBelow k e → (i j : ℕ) → i < length found → j < length found
      → Member j (image A found k (glushkov e) i) ↔ ((p : Path) × IsPath e p × (standing_from A (slice_index found i) p ≡ slice_index found j))
  unfolding image
  image-exactly labels i j h b =
      let c = member-collect (λ n. accepts B (places_at B (reached_nodes A found k B i) n)) (length found) j in
      (λ m. accepts-path i j h b (c.0 m).1, λ (p, o, q). c.1 (b, path-accepts labels i j h b p o q))
