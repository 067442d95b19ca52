-- The loop's invariant: the first i words are without those of the other set, the rest are as they were.
use Prim.Native.Nat.{ℕ}
use lib.Bits.{bit_and, bit_xor}
use Rattle.places.specs.WordsLaws.{Joined}
use Rattle.places.proofs.wide.Wide.without.Given as goal

abbrev pub less : ℕ → ℕ → ℕ
less x y = bit_xor x (bit_and x y)

abbrev pub invariant-loop-i : goal.invariant-loop-i
invariant-loop-i l = Joined less l.initial.words l.others l.words l.i
