-- The laws of exploration: what it tells is true, and it tells `over` exactly where the limit is exceeded.
use Rattle.std.specs.Prelude.{ℕ, ◌≤◌, ◌<◌, List, [], reverse, ◌⊎◌, ◌↔◌, ◌≡◌, refl, length}
use Rattle.std.proofs.lemmas.List.{reverse-reverse}
use Rattle.std.proofs.Common.{inl, inr, ◌∙◌, ap, subst, arith}
use Rattle.theory.specs.Path.{Path, Before}
use Rattle.theory.specs.Exploration.{System, Entry, Exploration, all, over, explore}
use Rattle.theory.specs.Explored.{Tests, Reached, entry_at, value_at, word_at, Explored, Exceeds}
use Rattle.theory.specs.ExploredLaws.{explored-start, explored-not-exceeds, explored-unique}
use Rattle.theory.specs.Trails.{NotLater, not-later-front, not-later-transitive, earlier-before, trail_at}
use Rattle.theory.specs.Trails.{Leads, started, stepped, leads-reached, reached-leads}
use Rattle.theory.specs.Progress.{FoundBy}
use Rattle.theory.proofs.Outcome.{Complete, Outcome, explore-outcome}

not-later-before : {t : List ℕ} {w : Path} → NotLater t (reverse w) → (reverse t ≡ w) ⊎ Before (reverse t) w
not-later-before {w = w} (inl e) = inl (ap reverse e ∙ reverse-reverse w)
not-later-before {t} {w} (inr h) = inr (subst (Before (reverse t)) (reverse-reverse w) (earlier-before h))

module _ {A : Type 0} {S : System A} where
  -- Where all steps have been tried, whatever a trail leads to is found, by a trail that is not later.
  complete-found : {limit : ℕ} {found : List (Entry A)} {t : List ℕ} {v : A} → Complete S limit found → Leads S t v → FoundBy S found v t
  complete-found {found = found} c (started e) = subst (λ x. FoundBy S found x []) e c.progress.first
  complete-found {found = found} {v = v} c (stepped {a = a} {u = u} h l s) =
      let f = complete-found c h in
      let tried : f.place < c.next = omega (arith, f.inside, c.ended) in
      let g = c.progress.closed f.place a v (inl tried) f.inside l (ap (λ x. S.step x a) f.value ∙ s) in
      record {
        place = g.place;
        inside = g.inside;
        value = g.value;
        trail = not-later-transitive g.trail (not-later-front f.trail);
      }

  complete-explored : {limit : ℕ} {found : List (Entry A)} → Complete S limit found → Explored S found
  complete-explored {found = found} c =
      record {
        words = λ i h. leads-reached S (c.progress.sound.leads i h);
        reached = λ v w r. let f = complete-found c (reached-leads S r) in (f.place, f.inside, f.value);
        distinct = c.progress.sound.distinct;
        least = least;
        ordered = λ i j h k. earlier-before (c.progress.ordered i j h k);
      }
    where
      least : (i : ℕ) (w : List ℕ) → i < length found → Reached S (value_at S found i) w
          → (word_at S found i ≡ w) ⊎ Before (word_at S found i) w
      least i w h r =
          let f = complete-found c (reached-leads S r) in
          let same = c.progress.sound.distinct f.place i f.inside h f.value in
          not-later-before (subst (λ k. NotLater (trail_at S found k) (reverse w)) same f.trail)

  -- What an exploration tells is true.
  pub explored : Tests S → {limit : ℕ} (found : List (Entry A)) → explore S limit ≡ all found → Explored S found × (length found ≤ limit)
  explored tests {limit} found e =
      let c : Complete S limit found = subst (Outcome S limit (Complete S limit)) e (explore-outcome S tests limit) in
      (complete-explored c, c.progress.within)

  pub exceeded : Tests S → {limit : ℕ} → explore S limit ≡ over → Exceeds S limit
  exceeded tests {limit} e = subst (Outcome S limit (Complete S limit)) e (explore-outcome S tests limit)

  -- The first value told is the start, with the empty trail.
  pub explored-first : Tests S → (limit : ℕ) (found : List (Entry A)) → explore S limit ≡ all found
      → (0 < length found) × (value_at S found 0 ≡ S.start) × ((entry_at S found 0).trail ≡ [])
  explored-first tests limit found e = explored-start (explored tests found e).0

  -- An exploration tells `over` exactly where the limit is exceeded, and otherwise all that is reached.
  pub over-exactly : Tests S → {limit : ℕ} → (explore S limit ≡ over) ↔ Exceeds S limit
  over-exactly tests {limit} = (exceeded tests, λ y. side y (explore S limit) refl)
    where
      side : Exceeds S limit → (r : Exploration A) → explore S limit ≡ r → r ≡ over
      side y (all found) e = let x = explored tests found e in absurd (explored-not-exceeds x.0 x.1 y)
      side y over e = refl

  pub all-exactly : Tests S → {limit : ℕ} {found : List (Entry A)} → (explore S limit ≡ all found) ↔ (Explored S found × (length found ≤ limit))
  all-exactly tests {limit} {found} = (explored tests found, λ x. side x (explore S limit) refl)
    where
      side : Explored S found × (length found ≤ limit) → (r : Exploration A) → explore S limit ≡ r → r ≡ all found
      side x (all other) e = ap all (explored-unique (explored tests other e).0 x.0)
      side x over e = absurd (explored-not-exceeds x.0 x.1 (exceeded tests e))

  pub larger-limit : Tests S → {limit larger : ℕ} {found : List (Entry A)} → limit ≤ larger → explore S limit ≡ all found
      → explore S larger ≡ all found
  larger-limit tests {found = found} h e =
      let x = explored tests found e in
      (all-exactly tests).1 (x.0, omega (arith, x.1))
