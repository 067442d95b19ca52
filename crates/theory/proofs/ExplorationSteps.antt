-- Exploration, one step at a time: what each of its functions gives in each case. A loop that explores keeps "what is left gives what the
-- whole gives", and its proof cites these.
use Prim.Native.Nat.{ℕ, zero, suc, ◌≤◌, ◌<◌}
use Rattle.std.specs.Prelude.{true, false, ◌≡◌, length}
use mathlib.Core.List.{List, [], ◌∷◌, ◌++◌}
use Rattle.std.proofs.Math.Option.{some}
use Rattle.std.proofs.Math.Path.{refl}
use borrow.Author.Tests.{lt-ltb, le-ltb}
use Rattle.theory.specs.Exploration.{System, Entry, all, over, known, grow, extend, row, sweep, explore}
use Rattle.theory.specs.Explored.{entry_at}

module _ {A : Type 0} (S : System A) (limit : ℕ) where
  pub grow-known : (e : Entry A) (found : List (Entry A)) → known S e.value found ≡ true → grow S limit e found ≡ all found
  unfolding grow
  grow-known e found h = rw (h, grow)

  pub grow-new : (e : Entry A) (found : List (Entry A)) → known S e.value found ≡ false → length found < limit
      → grow S limit e found ≡ all (found ++ (e ∷ []))
  unfolding grow
  grow-new e found h l = rw (h, grow, lt-ltb (length found) limit l)

  pub grow-over : (e : Entry A) (found : List (Entry A)) → known S e.value found ≡ false → limit ≤ length found → grow S limit e found ≡ over
  unfolding grow
  grow-over e found h l = rw (h, grow, le-ltb (length found) limit l)

  pub extend-some : (e : Entry A) (a : ℕ) (found : List (Entry A)) (v : A) → S.step e.value a ≡ some v
      → extend S limit e a found ≡ grow S limit (record { value = v; trail = a ∷ e.trail }) found
  unfolding extend
  extend-some e a found v h = rw (h, extend)

  pub row-end : (e : Entry A) (a : ℕ) (found : List (Entry A)) → row S limit e zero a found ≡ all found
  unfolding row
  row-end e a found = refl

  pub row_on : (e : Entry A) (n a : ℕ) (found more : List (Entry A)) → extend S limit e a found ≡ all more
      → row S limit e (suc n) a found ≡ row S limit e n (suc a) more
  unfolding row
  row_on e n a found more h = rw (h, row)

  pub row-over : (e : Entry A) (n a : ℕ) (found : List (Entry A)) → extend S limit e a found ≡ over → row S limit e (suc n) a found ≡ over
  unfolding row
  row-over e n a found h = rw (h, row)

  pub sweep-end : (n i : ℕ) (found : List (Entry A)) → length found ≤ i → sweep S limit n i found ≡ all found
  unfolding sweep
  sweep-end zero i found h = refl
  sweep-end (suc n) i found h = rw (le-ltb i (length found) h, sweep)

  pub sweep-on : (n i : ℕ) (found more : List (Entry A)) → i < length found
      → row S limit (entry_at S found i) S.symbols 0 found ≡ all more → sweep S limit (suc n) i found ≡ sweep S limit n (suc i) more
  unfolding sweep
  sweep-on n i found more l h = rw (lt-ltb i (length found) l, sweep, h)

  pub sweep-over : (n i : ℕ) (found : List (Entry A)) → i < length found
      → row S limit (entry_at S found i) S.symbols 0 found ≡ over → sweep S limit (suc n) i found ≡ over
  unfolding sweep
  sweep-over n i found l h = rw (lt-ltb i (length found) l, sweep, h)

  pub explore-none : limit ≡ 0 → explore S limit ≡ over
  unfolding explore grow known
  explore-none h = rw (h, explore)

  pub explore-some : 0 < limit → explore S limit ≡ sweep S limit limit 0 (record { value = S.start; trail = [] } ∷ [])
  unfolding explore known
  explore-some h = rw (grow-new (record { value = S.start; trail = [] }) [] refl h, explore)
