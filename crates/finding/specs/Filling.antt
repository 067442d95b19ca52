-- A list that is filled from the front, one store a turn.
use Rattle.std.specs.Prelude.{◌≡◌, ℕ, zero, suc, ◌+◌, ◌-◌, ◌<◌, List, [], ◌∷◌, ◌++◌, map, length, take, drop, set, replicate, slice_index, slice_set}
use Rattle.std.specs.Prelude.{refl}
use Rattle.std.proofs.Common.{ap, ◌∙◌, sym, subst, add-one, arith, drop-cons, take-suc, length-take-le, get_or-set_same, get_or-set_other}
use Rattle.std.proofs.Math.Nat.{sub-zero, zero-sub}
use Rattle.std.proofs.Math.Decide.{ℕ_discrete}
use Rattle.std.proofs.lemmas.List.{length-map, set_at}
use Rattle.std.proofs.Math.Seq.{append_snoc}

-- A store behind what was filled in.
pub fill-next : (xs d : List ℕ) (i v : ℕ) → length xs ≡ i → i < length d → slice_set (xs ++ drop i d) i v ≡ (xs ++ (v ∷ [])) ++ drop (i + 1) d
fill-next xs d i v e h =
    ap (λ l. set (xs ++ l) i v) (drop-cons d i 0 h)
    ∙ (set_at xs (slice_index d i) (drop (suc i) d) v i e
    ∙ (sym (append_snoc xs v (drop (suc i) d)) ∙ ap (λ k. (xs ++ (v ∷ [])) ++ drop k d) (sym (add-one i))))

map_snoc : (f : ℕ → ℕ) (l : List ℕ) (x : ℕ) → map f (l ++ (x ∷ [])) ≡ map f l ++ (f x ∷ [])
map_snoc f [] x = refl
map_snoc f (y ∷ l) x = ap (λ t. f y ∷ t) (map_snoc f l x)

map_next : (f : ℕ → ℕ) (l : List ℕ) (i : ℕ) → i < length l → map f (take (i + 1) l) ≡ map f (take i l) ++ (f (slice_index l i) ∷ [])
map_next f l i h = ap (λ k. map f (take k l)) (add-one i) ∙ (ap (map f) (take-suc l i 0 h) ∙ map_snoc f (take i l) (slice_index l i))

-- A list that is filled with the values of a function.
pub map_more : (f : ℕ → ℕ) (l d : List ℕ) (i : ℕ) → i < length l → i < length d
    → slice_set (map f (take i l) ++ drop i d) i (f (slice_index l i)) ≡ map f (take (i + 1) l) ++ drop (i + 1) d
map_more f l d i h k =
    fill-next (map f (take i l)) d i (f (slice_index l i)) (length-map (take i l) f ∙ length-take-le i l (omega arith)) k
    ∙ ap (λ t. t ++ drop (i + 1) d) (sym (map_next f l i h))

pub drop-replicate : (n m x : ℕ) → drop n (replicate m x) ≡ replicate (m - n) x
drop-replicate zero m x = rw sub-zero
drop-replicate (suc n) zero x = rw zero-sub
drop-replicate (suc n) (suc m) x =
    let e : suc m - suc n ≡ m - n = omega arith in
    drop-replicate n m x ∙ ap (λ k. replicate k x) (sym e)

-- What holds of each number filled in, and of the one stored next, holds of each filled in then.
pub filled_more : (P : ℕ → ℕ → Type 0) (l : List ℕ) (i a : ℕ) → i < length l → ((k : ℕ) → k < i → P k (slice_index l k)) → P i a
    → (k : ℕ) → k < i + 1 → P k (slice_index (slice_set l i a) k)
filled_more P l i a h all here k below = side (ℕ_discrete k i)
  where
    side : Dec (k ≡ i) → P k (slice_index (slice_set l i a) k)
    side (yes e) = rw e (subst (P i) (sym (get_or-set_same l i a 0 h)) here)
    side (no e) = subst (P k) (sym (get_or-set_other l i k a 0 e)) (all k (omega arith))
