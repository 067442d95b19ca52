-- The loops of an exploration keep its invariant: they end with all steps tried, or having found more than the limit allows.
use Prim.Native.Nat.{ℕ, zero, suc, ◌+◌, ◌≤◌, ◌<◌}
use Rattle.std.specs.Prelude.{Bool, true, false, not, ◌≡◌, T, ltb}
use mathlib.Core.List.{List, [], ◌∷◌, ◌++◌}
use Rattle.std.proofs.Common.{inl, inr, sym, ◌∙◌, arith, ltb→lt, nltb→le}
use Rattle.std.proofs.Math.Option.{Option, some, none, some-injective, none-ne-some}
use Rattle.std.proofs.Math.Path.{refl, subst}
use Rattle.std.proofs.Math.ListN.{length}
use Rattle.theory.specs.Exploration.{System, Entry, Exploration, all, over, known, grow, extend, row, sweep, explore}
use Rattle.theory.specs.Explored.{Tests, entry_at, value_at, Exceeds}
use Rattle.theory.specs.Trails.{Earlier, shorter, front, last, earlier-transitive, trail_at, Leads, started, stepped}
use Rattle.theory.specs.Progress.{Sound, FoundBy, AllEarlier, Tried, Progress, length_more, entry_old, entry_more, found-new, exceeds}
use Rattle.theory.specs.Progress.{progress-symbol, progress-entry, known_at, sound_more, progress-more}

-- While the steps from the entry e, the i-th, are tried, with the symbol a next: all trails found are earlier than the one to come.
pub record Stage {A : Type 0} (S : System A) (limit : ℕ) (e : Entry A) (i a : ℕ) (found : List (Entry A)) : Type 0 where
  pub progress : Progress S limit found i a
  pub inside : i < length found
  pub entry : entry_at S found i ≡ e
  pub later : AllEarlier S found (a ∷ e.trail)

-- All steps from all entries have been tried.
pub record Complete {A : Type 0} (S : System A) (limit : ℕ) (found : List (Entry A)) : Type 0 where
  pub next : ℕ
  pub progress : Progress S limit found next 0
  pub ended : length found ≤ next

-- What is told is true: P of what is found, or that the limit is exceeded.
abbrev pub Outcome : {A : Type 0} → System A → ℕ → (List (Entry A) → Type 0) → Exploration A → Type 0
Outcome S limit P (all found) = P found
Outcome S limit P over = Exceeds S limit

-- The tests of the loops.
less : (m n : ℕ) → ltb m n ≡ true → m < n
less m n e = ltb→lt m n (subst T (sym e) tt)

not-less : (m n : ℕ) → ltb m n ≡ false → n ≤ m
not-less m n e = nltb→le m n (subst (λ b. T (not b)) (sym e) tt)

-- The entry that an exploration begins with.
abbrev pub start_entry : {A : Type 0} → System A → Entry A
start_entry S = record { value = S.start; trail = [] }

module _ {A : Type 0} (S : System A) (tests : Tests S) where
  stage-next : {limit : ℕ} {e : Entry A} {i a : ℕ} {found : List (Entry A)} → Progress S limit found i a → i < length found
      → entry_at S found i ≡ e → AllEarlier S found (suc a ∷ e.trail)
      → ((v : A) → S.step e.value a ≡ some v → FoundBy S found v (a ∷ e.trail)) → Stage S limit e i (suc a) found
  stage-next {limit} {e} {i} {a} {found} p inside same later h =
      record {
        progress = progress-symbol S p
            (subst (λ x. (v : A) → S.step x.value a ≡ some v → FoundBy S found v (a ∷ x.trail)) (sym same) h);
        inside = inside;
        entry = same;
        later = later;
      }

  extend-outcome : {limit : ℕ} {e : Entry A} {i a : ℕ} {found : List (Entry A)} → Stage S limit e i a found → a < S.symbols
      → Outcome S limit (Stage S limit e i (suc a)) (extend S limit e a found)
  unfolding extend grow
  extend-outcome {limit} {e} {i} {a} {found} g l = tried (S.step e.value a) refl
    where
      up : AllEarlier S found (suc a ∷ e.trail)
      up j h = earlier-transitive (g.later j h) (last (omega arith))

      same : (u v : A) → S.step e.value a ≡ some u → S.step e.value a ≡ some v → u ≡ v
      same u v p q = some-injective u v (sym p ∙ q)

      again : (v : A) → S.step e.value a ≡ some v → (k : ℕ) × (k < length found) × (value_at S found k ≡ v)
          → (u : A) → S.step e.value a ≡ some u → FoundBy S found u (a ∷ e.trail)
      again v s (k, h, q) u r = record { place = k; inside = h; value = q ∙ same v u s r; trail = inr (g.later k h) }

      lead : (v : A) → S.step e.value a ≡ some v → Leads S (a ∷ e.trail) v
      lead v s = stepped (subst (λ x. Leads S x.trail x.value) g.entry (g.progress.sound.leads i g.inside)) l s

      room : (v : A) → S.step e.value a ≡ some v → known S v found ≡ false → (c : Bool) → ltb (length found) limit ≡ c
          → Outcome S limit (Stage S limit e i (suc a))
          (elim c [ true ↦ all (found ++ (record { value = v; trail = a ∷ e.trail } ∷ [])) | false ↦ over ])
      room v s k true c =
          let x : Entry A = record { value = v; trail = a ∷ e.trail } in
          stage-next
          (progress-more S tests x g.progress g.inside (lead v s) k g.later (less (length found) limit c))
          (omega (arith, length_more S found x, g.inside))
          (entry_old S found x i g.inside ∙ g.entry)
          (entry_more S (λ j y. Earlier y.trail (suc a ∷ e.trail)) found x up (last (omega arith)))
          (λ u r. subst (λ w. FoundBy S (found ++ (x ∷ [])) w (a ∷ e.trail)) (same v u s r) (found-new S found x))
      room v s k false c =
          let x : Entry A = record { value = v; trail = a ∷ e.trail } in
          exceeds S (sound_more S tests x g.progress.sound (lead v s) k)
          (omega (arith, length_more S found x, not-less (length found) limit c, g.progress.within))

      fresh : (v : A) → S.step e.value a ≡ some v → (b : Bool) → known S v found ≡ b
          → Outcome S limit (Stage S limit e i (suc a)) (
          elim b [
            | true ↦ all found
            | false ↦ elim (ltb (length found) limit) [ true ↦ all (found ++ (record { value = v; trail = a ∷ e.trail } ∷ [])) | false ↦ over ]
          ])
      fresh v s true k = stage-next g.progress g.inside g.entry up (again v s (known_at S tests v found k))
      fresh v s false k = room v s k (ltb (length found) limit) refl

      tried : (o : Option A) → S.step e.value a ≡ o
          → Outcome S limit (Stage S limit e i (suc a))
          (elim o [ none ↦ all found | some v ↦ grow S limit (record { value = v; trail = a ∷ e.trail }) found ])
      tried none s =
          stage-next g.progress g.inside g.entry up (λ v r. absurd (none-ne-some v (sym s ∙ r)))
      tried (some v) s = fresh v s (known S v found) refl

  row-outcome : {limit : ℕ} {e : Entry A} {i : ℕ} (n a : ℕ) {found : List (Entry A)} → n + a ≡ S.symbols → Stage S limit e i a found
      → Outcome S limit (Stage S limit e i S.symbols) (row S limit e n a found)
  unfolding row
  row-outcome {limit} {e} {i} zero a {found} h g = subst (λ k. Stage S limit e i k found) (omega arith) g
  row-outcome {limit} {e} {i} (suc n) a {found} h g =
      onward (extend S limit e a found) (extend-outcome g (omega arith)) (λ more. row-outcome n (suc a) {found = more} (omega arith))
    where
      onward : (r : Exploration A) → Outcome S limit (Stage S limit e i (suc a)) r
          → ((more : List (Entry A)) → Stage S limit e i (suc a) more
          → Outcome S limit (Stage S limit e i S.symbols) (row S limit e n (suc a) more))
          → Outcome S limit (Stage S limit e i S.symbols) (elim r [ all more ↦ row S limit e n (suc a) more | over ↦ over ])
      onward (all more) o k = k more o
      onward over o k = o

  -- All trails found are earlier than those to come from the next entry.
  next-later : {limit : ℕ} {e : Entry A} {i : ℕ} {found : List (Entry A)} → Stage S limit e i S.symbols found → suc i < length found
      → AllEarlier S found (0 ∷ trail_at S found (suc i))
  next-later {limit} {e} {i} {found} g h j l =
      earlier-transitive (g.later j l)
      (subst (λ x. Earlier (S.symbols ∷ x.trail) (0 ∷ trail_at S found (suc i))) g.entry
      (front (g.progress.ordered i (suc i) (omega arith) h)))

  sweep-outcome : {limit : ℕ} (n i : ℕ) {found : List (Entry A)} → limit ≤ n + i → Progress S limit found i 0
      → (i < length found → AllEarlier S found (0 ∷ trail_at S found i)) → Outcome S limit (Complete S limit) (sweep S limit n i found)
  unfolding sweep
  sweep-outcome {limit} zero i {found} h p b = record { next = i; progress = p; ended = omega (arith, p.within) }
  sweep-outcome {limit} (suc n) i {found} h p b =
      side (ltb i (length found)) refl (λ more. sweep-outcome n (suc i) {found = more} (omega arith))
    where
      onward : (r : Exploration A) → Outcome S limit (Stage S limit (entry_at S found i) i S.symbols) r
          → ((more : List (Entry A)) → Progress S limit more (suc i) 0
          → (suc i < length more → AllEarlier S more (0 ∷ trail_at S more (suc i)))
          → Outcome S limit (Complete S limit) (sweep S limit n (suc i) more))
          → Outcome S limit (Complete S limit) (elim r [ all more ↦ sweep S limit n (suc i) more | over ↦ over ])
      onward (all more) o k = k more (progress-entry S o.progress) (next-later o)
      onward over o k = o

      side : (c : Bool) → ltb i (length found) ≡ c
          → ((more : List (Entry A)) → Progress S limit more (suc i) 0
          → (suc i < length more → AllEarlier S more (0 ∷ trail_at S more (suc i)))
          → Outcome S limit (Complete S limit) (sweep S limit n (suc i) more))
          → Outcome S limit (Complete S limit) (
          elim c [
            | true ↦ elim (row S limit (entry_at S found i) S.symbols 0 found) [
              | all more ↦ sweep S limit n (suc i) more
              | over ↦ over
            ]
            | false ↦ all found
          ])
      side true c k =
          let inside = less i (length found) c in
          onward (row S limit (entry_at S found i) S.symbols 0 found)
          (row-outcome S.symbols 0 (omega arith)
          (record { progress = p; inside = inside; entry = refl; later = b inside }))
          k
      side false c k = record { next = i; progress = p; ended = not-less i (length found) c }

  started-sound : Sound S (start_entry S ∷ [])
  unfolding known
  started-sound =
      sound_more S tests {found = []} (start_entry S)
      (record { leads = λ i h. absurd (omega arith); distinct = λ i j h k e. absurd (omega arith) }) (started refl) refl

  started-progress : {limit : ℕ} → 0 < limit → Progress S limit (start_entry S ∷ []) 0 0
  started-progress h =
      record {
        sound = started-sound;
        ordered = λ j k l m. absurd (omega arith);
        within = h;
        first = record { place = 0; inside = omega arith; value = refl; trail = inl refl };
        closed = closed;
      }
    where
      closed : (j b : ℕ) (v : A) → Tried 0 0 j b → j < 1 → b < S.symbols
          → S.step (value_at S (start_entry S ∷ []) j) b ≡ some v
          → FoundBy S (start_entry S ∷ []) v (b ∷ trail_at S (start_entry S ∷ []) j)
      closed j b v (inl t) = absurd (omega arith)
      closed j b v (inr t) = absurd (omega arith)

  -- The exploration ends with all steps tried, or more than the limit is reached.
  pub explore-outcome : (limit : ℕ) → Outcome S limit (Complete S limit) (explore S limit)
  unfolding explore grow known
  explore-outcome limit = side (ltb 0 limit) refl
    where
      later : (j : ℕ) → j < 1 → Earlier (trail_at S (start_entry S ∷ []) j) (0 ∷ [])
      later zero h = shorter
      later (suc j) h = absurd (omega arith)

      side : (c : Bool) → ltb 0 limit ≡ c → Outcome S limit (Complete S limit) (
          elim (elim c as (λ b. Exploration A) [ true ↦ all (start_entry S ∷ []) | false ↦ over ]) [
            | all found ↦ sweep S limit limit 0 found
            | over ↦ over
          ])
      side true c = sweep-outcome limit 0 (omega arith) (started-progress (less 0 limit c)) (λ h. later)
      side false c = exceeds S started-sound (omega (arith, not-less 0 limit c))
