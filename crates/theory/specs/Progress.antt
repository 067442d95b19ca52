-- What holds while an exploration is under way: the invariant of its loops, and how it grows with each step tried and each entry found.
use Prim.Native.Nat.{ℕ, zero, suc, ◌≤◌, ◌<◌}
use Rattle.std.specs.Prelude.{Bool, ◌||◌, ◌⊎◌, ◌≡◌}
use Rattle.std.proofs.Math.Bool.{true, false, true≢false, false≢true}
use mathlib.Core.List.{List, [], ◌∷◌, ◌++◌}
use Rattle.std.proofs.Common.{inl, inr, ◌∙◌, subst, length-append}
use Rattle.std.proofs.Math.Option.{some}
use Rattle.std.proofs.Math.Path.{refl, sym, ap}
use Rattle.std.proofs.Math.Decide.{dec_lt}
use native.Mathlib.Omega.{arith}
use Rattle.std.proofs.Math.ListN.{length, get_or-append}
use Rattle.std.proofs.lemmas.List.{get_or_at}
use Rattle.theory.specs.Exploration.{System, Entry, known}
use Rattle.theory.specs.Explored.{Tests, entry_at, value_at, Exceeds}
use Rattle.theory.specs.Trails.{Earlier, NotLater, trail_at, Leads, leads-reached}

-- What is found is reached, and no value is found twice.
pub record Sound {A : Type 0} (S : System A) (found : List (Entry A)) : Type 0 where
  pub leads : (i : ℕ) → i < length found → Leads S (trail_at S found i) (value_at S found i)
  pub distinct : (i j : ℕ) → i < length found → j < length found → value_at S found i ≡ value_at S found j → i ≡ j

-- The value v is found, by a trail that is not later than t.
pub record FoundBy {A : Type 0} (S : System A) (found : List (Entry A)) (v : A) (t : List ℕ) : Type 0 where
  pub place : ℕ
  pub inside : place < length found
  pub value : value_at S found place ≡ v
  pub trail : NotLater (trail_at S found place) t

-- Every trail found is earlier than t.
abbrev pub AllEarlier : {A : Type 0} → System A → List (Entry A) → List ℕ → Type 0
AllEarlier S found t = (j : ℕ) → j < length found → Earlier (trail_at S found j) t

-- The step from the entry j over the symbol b comes before the step from the entry i over the symbol a.
abbrev pub Tried : ℕ → ℕ → ℕ → ℕ → Type 0
Tried i a j b = (j < i) ⊎ ((j ≡ i) × (b < a))

-- The steps before the one from the entry i over the symbol a have been tried.
pub record Progress {A : Type 0} (S : System A) (limit : ℕ) (found : List (Entry A)) (i a : ℕ) : Type 0 where
  pub sound : Sound S found
  pub ordered : (j k : ℕ) → j < k → k < length found → Earlier (trail_at S found j) (trail_at S found k)
  pub within : length found ≤ limit
  pub first : FoundBy S found S.start []
  pub closed : (j b : ℕ) (v : A) → Tried i a j b → j < length found → b < S.symbols → S.step (value_at S found j) b ≡ some v
      → FoundBy S found v (b ∷ trail_at S found j)

module _ {A : Type 0} (S : System A) where
  pub length_more : (found : List (Entry A)) (e : Entry A) → length (found ++ (e ∷ [])) ≡ suc (length found)
  length_more found e = omega (arith, length-append found (e ∷ []))

  pub entry_old : (found : List (Entry A)) (e : Entry A) (j : ℕ) → j < length found → entry_at S (found ++ (e ∷ [])) j ≡ entry_at S found j
  entry_old found e j h = get_or-append found (e ∷ []) _ j h

  -- What holds of the entries of a list and of one more entry holds of the entries with that one behind them.
  pub entry_more : (P : ℕ → Entry A → Type 0) (found : List (Entry A)) (e : Entry A)
      → ((j : ℕ) → j < length found → P j (entry_at S found j)) → P (length found) e
      → (j : ℕ) → j < length (found ++ (e ∷ [])) → P j (entry_at S (found ++ (e ∷ [])) j)
  entry_more P found e old new j h = side (dec_lt j (length found))
    where
      side : Dec (j < length found) → P j (entry_at S (found ++ (e ∷ [])) j)
      side (yes l) = subst (P j) (sym (entry_old found e j l)) (old j l)
      side (no l) =
          let end : length found ≡ j = omega (arith, length_more found e) in
          subst (P j) (sym (get_or_at found e [] _ j end)) (subst (λ k. P k e) end new)

  pub found-old : {found : List (Entry A)} {v : A} {t : List ℕ} (e : Entry A) → FoundBy S found v t → FoundBy S (found ++ (e ∷ [])) v t
  found-old {found} {v} {t} e f =
      let same = entry_old found e f.place f.inside in
      record {
        place = f.place;
        inside = omega (arith, length_more found e, f.inside);
        value = ap (λ x. x.value) same ∙ f.value;
        trail = subst (λ x. NotLater x.trail t) (sym same) f.trail;
      }

  pub found-new : (found : List (Entry A)) (e : Entry A) → FoundBy S (found ++ (e ∷ [])) e.value e.trail
  found-new found e =
      let same = get_or_at found e [] (record { value = S.start; trail = [] }) (length found) refl in
      record {
        place = length found;
        inside = omega (arith, length_more found e);
        value = ap (λ x. x.value) same;
        trail = inl (ap (λ x. x.trail) same);
      }

  pub ordered-more : (found : List (Entry A)) (e : Entry A)
      → ((j k : ℕ) → j < k → k < length found → Earlier (trail_at S found j) (trail_at S found k)) → AllEarlier S found e.trail
      → (j k : ℕ) → j < k → k < length (found ++ (e ∷ [])) → Earlier (trail_at S (found ++ (e ∷ [])) j) (trail_at S (found ++ (e ∷ [])) k)
  ordered-more found e h b j k l m =
      entry_more (λ k x. (j : ℕ) → j < k → Earlier (trail_at S (found ++ (e ∷ [])) j) x.trail) found e
      (λ k i j l. subst (λ x. Earlier x.trail (trail_at S found k)) (sym (entry_old found e j (omega arith))) (h j k l i))
      (λ j l. subst (λ x. Earlier x.trail e.trail) (sym (entry_old found e j l)) (b j l))
      k m j l

  -- More than the limit allows.
  pub exceeds : {found : List (Entry A)} {limit : ℕ} → Sound S found → length found ≡ suc limit → Exceeds S limit
  exceeds {found} s e =
      record { found = found; count = e; words = λ i h. leads-reached S (s.leads i h); distinct = s.distinct }

  -- A step tried finds its value: then the next symbol is up.
  pub progress-symbol : {limit : ℕ} {found : List (Entry A)} {i a : ℕ} → Progress S limit found i a
      → ((v : A) → S.step (value_at S found i) a ≡ some v → FoundBy S found v (a ∷ trail_at S found i)) → Progress S limit found i (suc a)
  progress-symbol {limit} {found} {i} {a} p h =
      record { sound = p.sound; ordered = p.ordered; within = p.within; first = p.first; closed = closed }
    where
      now : (j b : ℕ) (v : A) → j ≡ i → b ≡ a → S.step (value_at S found j) b ≡ some v → FoundBy S found v (b ∷ trail_at S found j)
      now j b v d e s =
          subst (λ k. FoundBy S found v (b ∷ trail_at S found k)) (sym d)
          (subst (λ c. FoundBy S found v (c ∷ trail_at S found i)) (sym e)
          (h v (ap (λ k. S.step (value_at S found k) a) (sym d) ∙ ap (λ c. S.step (value_at S found j) c) (sym e) ∙ s)))

      side : (j b : ℕ) (v : A) → Dec (b < a) → j ≡ i → b < suc a → j < length found → b < S.symbols
          → S.step (value_at S found j) b ≡ some v → FoundBy S found v (b ∷ trail_at S found j)
      side j b v (yes l) d m inside k s = p.closed j b v (inr (d, l)) inside k s
      side j b v (no l) d m inside k s = now j b v d (omega arith) s

      closed : (j b : ℕ) (v : A) → Tried i (suc a) j b → j < length found → b < S.symbols → S.step (value_at S found j) b ≡ some v
          → FoundBy S found v (b ∷ trail_at S found j)
      closed j b v (inl l) = p.closed j b v (inl l)
      closed j b v (inr l) = side j b v (dec_lt b a) l.0 l.1

  -- All symbols are tried: then the next entry is up.
  pub progress-entry : {limit : ℕ} {found : List (Entry A)} {i : ℕ} → Progress S limit found i S.symbols → Progress S limit found (suc i) 0
  progress-entry {limit} {found} {i} p =
      record { sound = p.sound; ordered = p.ordered; within = p.within; first = p.first; closed = closed }
    where
      side : (j b : ℕ) → Dec (j < i) → j < suc i → b < S.symbols → Tried i S.symbols j b
      side j b (yes l) m k = inl l
      side j b (no l) m k = inr (omega arith, k)

      closed : (j b : ℕ) (v : A) → Tried (suc i) 0 j b → j < length found → b < S.symbols → S.step (value_at S found j) b ≡ some v
          → FoundBy S found v (b ∷ trail_at S found j)
      closed j b v (inl l) inside k = p.closed j b v (side j b (dec_lt j i) l k) inside k
      closed j b v (inr l) inside k = absurd (omega arith)

  module _ (tests : Tests S) where
    pub known_at : (v : A) (found : List (Entry A)) → known S v found ≡ true → (k : ℕ) × (k < length found) × (value_at S found k ≡ v)
    unfolding known
    known_at v [] h = absurd (false≢true h)
    known_at v (e ∷ found) h = side (S.same v e.value) refl h (known_at v found)
      where
        side : (b : Bool) → S.same v e.value ≡ b → (b || known S v found) ≡ true
            → (known S v found ≡ true → (k : ℕ) × (k < length found) × (value_at S found k ≡ v))
            → (k : ℕ) × (k < length (e ∷ found)) × (value_at S (e ∷ found) k ≡ v)
        side true s g r = (0, omega arith, sym (tests.sound v e.value s))
        side false s g r = let (k, l, q) = r g in (suc k, omega arith, q)

    pub known-not : (v : A) (found : List (Entry A)) → known S v found ≡ false → (k : ℕ) → k < length found → ¬ (value_at S found k ≡ v)
    unfolding known
    known-not v [] h k l q = omega arith
    known-not v (e ∷ found) h k l q = side (S.same v e.value) refl h k l q (known-not v found)
      where
        side : (b : Bool) → S.same v e.value ≡ b → (b || known S v found) ≡ false
            → (k : ℕ) → k < length (e ∷ found) → value_at S (e ∷ found) k ≡ v
            → (known S v found ≡ false → (k : ℕ) → k < length found → ¬ (value_at S found k ≡ v)) → ⊥
        side true s g k l q r = true≢false g
        side false s g zero l q r = false≢true (sym s ∙ ap (S.same v) q ∙ tests.complete v)
        side false s g (suc k) l q r = r g k (omega arith) q

    pub sound_more : {found : List (Entry A)} (e : Entry A) → Sound S found → Leads S e.trail e.value → known S e.value found ≡ false
        → Sound S (found ++ (e ∷ []))
    sound_more {found} e s l h =
        record {
          leads = entry_more (λ j x. Leads S x.trail x.value) found e s.leads l;
          distinct = λ i j m n.
              entry_more (λ i x. x.value ≡ value_at S (found ++ (e ∷ [])) j → i ≡ j) found e
              (λ i m. entry_more (λ j y. value_at S found i ≡ y.value → i ≡ j) found e
              (λ j. s.distinct i j m) (λ q. absurd (known-not e.value found h i m q)) j n)
              (entry_more (λ j y. e.value ≡ y.value → length found ≡ j) found e
              (λ j n q. absurd (known-not e.value found h j n (sym q))) (λ q. refl) j n)
              i m;
        }

    -- One more entry is found, later than all so far, from an entry that is there.
    pub progress-more : {limit : ℕ} {found : List (Entry A)} {i a : ℕ} (e : Entry A) → Progress S limit found i a → i < length found
        → Leads S e.trail e.value → known S e.value found ≡ false → AllEarlier S found e.trail → length found < limit
        → Progress S limit (found ++ (e ∷ [])) i a
    progress-more {limit} {found} {i} {a} e p inside l h b room =
        record {
          sound = sound_more e p.sound l h;
          ordered = ordered-more found e p.ordered b;
          within = omega (arith, length_more found e);
          first = found-old e p.first;
          closed = closed;
        }
      where
        old : (j b : ℕ) → Tried i a j b → j < length found
        old j b (inl t) = omega arith
        old j b (inr t) = omega arith

        closed : (j b : ℕ) (v : A) → Tried i a j b → j < length (found ++ (e ∷ [])) → b < S.symbols
            → S.step (value_at S (found ++ (e ∷ [])) j) b ≡ some v → FoundBy S (found ++ (e ∷ [])) v (b ∷ trail_at S (found ++ (e ∷ [])) j)
        closed j b v t m k s =
            let same = entry_old found e j (old j b t) in
            subst (λ x. FoundBy S (found ++ (e ∷ [])) v (b ∷ x.trail)) (sym same)
            (found-old e (p.closed j b v t (old j b t) k (ap (λ x. S.step x.value b) (sym same) ∙ s)))
