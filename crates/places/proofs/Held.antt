-- What a function is told of an array of words that it takes by value: how many words there are, and that each has 64 bits.
use Prim.Native.Nat.{ℕ, zero, suc}
use mathlib.Core.List.{List, [], ◌∷◌}
use mathlib.Core.Path.{◌≡◌}
use lib.ListN.{length}
use lib.Pow.{pow_pos}
use mir.Syntax.{w64}
use mir.Val.{Val}
use denote.Array.{Array, each}
use denote.Laws.{Is}
use denote.Plain.{UInt}
use denote.Shadow.{shadow}
use Rattle.places.specs.Words.{Words}

each-words : (xs : List ℕ) (us : List Val) → shadow (each ℕ (UInt w64).own_val xs us) → Words xs
each-words [] [] s i = pow_pos 64
each-words [] (u ∷ us) s i = absurd s
each-words (x ∷ xs) [] s i = absurd s
each-words (x ∷ xs) (u ∷ us) s zero = s.0.1
each-words (x ∷ xs) (u ∷ us) s (suc i) = each-words xs us s.1 i

pub array_count : (n : ℕ) (xs : List ℕ) (vs : List Val) → Is (Array (UInt w64) n) xs vs → length xs ≡ n
array_count n xs vs p = p.1.0.1

pub array-words : (n : ℕ) (xs : List ℕ) (vs : List Val) → Is (Array (UInt w64) n) xs vs → Words xs
array-words n xs vs p = each-words xs p.0 p.1.1
