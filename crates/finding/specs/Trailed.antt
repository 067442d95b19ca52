-- The trails of an exploration's entries, held as numbers: for each entry after the first the entry that it was first reached from, its
-- parent, and the symbol that led there.
use Rattle.std.specs.Prelude.{◌≡◌, ℕ, zero, suc, ◌<◌, List, [], ◌∷◌, ◌++◌, length, get_or, slice_index, slice_index_or, slice_set}
use Rattle.std.specs.Prelude.{refl}
use Rattle.std.proofs.Common.{ap, ap₂, sym, ◌∙◌, subst, arith, length-append, get_or-set_same, get_or-set_other}
use Rattle.std.proofs.Math.Decide.{ℕ_discrete}
use Rattle.std.proofs.Math.ListN.{get_or-append}
use Rattle.std.proofs.Math.Seq.{get_or-append_seam}
use Rattle.theory.specs.Exploration.{Entry}

-- The trails of entries, in their order.
unfoldable pub trails : {A : Type 0} → List (Entry A) → List (List ℕ)
trails [] = []
trails (e ∷ l) = e.trail ∷ trails l

-- `parents` and `symbols` hold the trails.
pub record Trailed (parents symbols : List ℕ) (found : List (List ℕ)) : Type 0 where
  pub first : get_or found 0 [] ≡ []
  pub parent : (j : ℕ) → 0 < j → j < length found → slice_index parents j < j
  pub trail : (j : ℕ) → 0 < j → j < length found → slice_index_or found j [] ≡ slice_index symbols j ∷ slice_index_or found (slice_index parents j) []

pub length-trails : {A : Type 0} (l : List (Entry A)) → length (trails l) ≡ length l
unfolding trails
length-trails [] = refl
length-trails (e ∷ l) = ap suc (length-trails l)

trails-append : {A : Type 0} (l m : List (Entry A)) → trails (l ++ m) ≡ trails l ++ trails m
unfolding trails
trails-append [] m = refl
trails-append (e ∷ l) m = ap (λ t. e.trail ∷ t) (trails-append l m)

trail-at : {A : Type 0} (l : List (Entry A)) (i : ℕ) (e : Entry A) → i < length l → slice_index_or (trails l) i [] ≡ (get_or l i e).trail
unfolding trails
trail-at [] i e h = absurd (omega arith)
trail-at (x ∷ l) zero e h = refl
trail-at (x ∷ l) (suc i) e h = trail-at l i e (omega arith)

-- The start alone.
pub trailed-start : (parents symbols : List ℕ) → Trailed parents symbols ([] ∷ [])
trailed-start parents symbols =
    record {
      first = refl;
      parent = λ j h l. absurd (omega arith);
      trail = λ j h l. absurd (omega arith);
    }

-- One more, over the symbol a from entry i.
trailed-more : {parents symbols : List ℕ} {found : List (List ℕ)} (i a : ℕ) → Trailed parents symbols found → i < length found
    → length found < length parents → length found < length symbols
    → Trailed (slice_set parents (length found) i) (slice_set symbols (length found) a) (found ++ ((a ∷ slice_index_or found i []) ∷ []))
trailed-more {parents} {symbols} {found} i a t h room room' =
    record {
      first = kept 0 (omega arith) ∙ t.first;
      parent = λ j m n. parent j m (bound j n) (ℕ_discrete j (length found));
      trail = λ j m n. trail j m (bound j n) (ℕ_discrete j (length found));
    }
  where
    new : List ℕ
    new = a ∷ slice_index_or found i []

    bound : (j : ℕ) → j < length (found ++ (new ∷ [])) → j < suc (length found)
    bound j n = omega (arith, length-append found (new ∷ []))

    kept : (j : ℕ) → j < length found → slice_index_or (found ++ (new ∷ [])) j [] ≡ slice_index_or found j []
    kept j m = get_or-append found (new ∷ []) [] j m

    here : (l : List ℕ) (v : ℕ) → length found < length l → (j : ℕ) → j ≡ length found → slice_index (slice_set l (length found) v) j ≡ v
    here l v r j e = ap (λ n. slice_index (slice_set l (length found) v) n) e ∙ get_or-set_same l (length found) v 0 r

    parent : (j : ℕ) → 0 < j → j < suc (length found) → Dec (j ≡ length found) → slice_index (slice_set parents (length found) i) j < j
    parent j m n (yes e) = omega (arith, here parents i room j e)
    parent j m n (no d) = omega (arith, get_or-set_other parents (length found) j i 0 d, t.parent j m (omega arith))

    trail : (j : ℕ) → 0 < j → j < suc (length found) → Dec (j ≡ length found)
        → slice_index_or (found ++ (new ∷ [])) j []
        ≡ slice_index (slice_set symbols (length found) a) j ∷ slice_index_or (found ++ (new ∷ [])) (slice_index (slice_set parents (length found) i) j) []
    trail j m n (yes e) =
        ap (λ x. get_or (found ++ (new ∷ [])) x []) e ∙ (get_or-append_seam found new [] []
        ∙ ap₂ (λ x y. x ∷ y) (sym (here symbols a room' j e))
        (sym (kept i h) ∙ ap (λ p. get_or (found ++ (new ∷ [])) p []) (sym (here parents i room j e))))
    trail j m n (no d) =
        let p = t.parent j m (omega arith) in
        kept j (omega arith) ∙ (t.trail j m (omega arith)
        ∙ ap₂ (λ x y. x ∷ y) (sym (get_or-set_other symbols (length found) j a 0 d))
        (sym (kept (slice_index parents j) (omega arith))
        ∙ ap (λ q. get_or (found ++ (new ∷ [])) q []) (sym (get_or-set_other parents (length found) j i 0 d))))

-- The same for entries: x is the value that the symbol a leads to, n their number.
pub trailed-entry : {A : Type 0} {parents symbols : List ℕ} (l : List (Entry A)) (i a n : ℕ) (x : A) (e : Entry A) → length l ≡ n → i < n
    → n < length parents → n < length symbols → Trailed parents symbols (trails l)
    → Trailed (slice_set parents n i) (slice_set symbols n a) (trails (l ++ (record { value = x; trail = a ∷ (get_or l i e).trail } ∷ [])))
unfolding trails
trailed-entry {A} {parents} {symbols} l i a n x e size h room room' t =
    let count : length (trails l) ≡ n = length-trails l ∙ size in
    subst (Trailed (slice_set parents n i) (slice_set symbols n a)) (sym (trails-append l (record { value = x; trail = a ∷ (get_or l i e).trail } ∷ [])))
    (subst (λ m. Trailed (slice_set parents m i) (slice_set symbols m a) (trails l ++ ((a ∷ (get_or l i e).trail) ∷ []))) count
    (subst (λ r. Trailed (slice_set parents (length (trails l)) i) (slice_set symbols (length (trails l)) a) (trails l ++ ((a ∷ r) ∷ [])))
    (trail-at l i e (omega arith)) (trailed-more i a t (omega (arith, count)) (omega (arith, count)) (omega (arith, count)))))
