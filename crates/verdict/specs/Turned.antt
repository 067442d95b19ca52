-- Cover sets turned: the columns of a set stand one after the other, n places each, so that a step never takes a set apart place by place.
-- The offset o has the column number f o, of k columns: each offset its own, or one with all offsets that the same paths reach (Classes). The
-- place of the state q with the offset o is n × f o + q there, and w × q + o in the set itself.
use Rattle.std.specs.Prelude.{◌≡◌, ℕ, ◌+◌, ◌*◌, ◌^◌, ◌<◌, ◌↔◌, List, slice_index}
use Rattle.theory.specs.Places.{Member}

-- Each of k columns is that of some offset, of w offsets.
abbrev pub Onto : ℕ → ℕ → (ℕ → ℕ) → Type 0
Onto w k f = (c : ℕ) → c < k → (o : ℕ) × (o < w) × (f o ≡ c)

-- The set D is the set C turned, for n states. The states alone, at the offset 0, stand first.
pub record Turned (w k : ℕ) (f : ℕ → ℕ) (n C D : ℕ) : Type 0 where
  pub exact : (q o : ℕ) → q < n → o < w → Member (w * q + o) C ↔ Member (n * f o + q) D
  pub below : C < 2 ^ (n * w)
  pub turned-below : D < 2 ^ (n * k)
  pub onto : Onto w k f
  pub alone : f 0 ≡ 0

-- The columns of a turned set.
pub record Stacked (k n : ℕ) (columns : List ℕ) (D : ℕ) : Type 0 where
  pub exact : (q o : ℕ) → q < n → o < k → Member q (slice_index columns o) ↔ Member (n * o + q) D
  pub within : (q o : ℕ) → o < k → Member q (slice_index columns o) → q < n
