use Rattle.std.specs.Prelude.{◌≡◌, ℕ, ◌+◌, ◌-◌, ◌*◌, ◌^◌, ◌<◌, ◌≤◌, ◌⊎◌, List, ◌++◌, length, drop, replicate, get_or}
use Rattle.std.proofs.Common.{inl, inr, sym, ◌∙◌, subst, pow_pos, arith}
use Rattle.std.proofs.Common.{get_or-drop}
use Rattle.std.proofs.lemmas.List.{get_or-append_right}
use Rattle.verdict.specs.Searches.{zero-words}
use Rattle.std.proofs.lemmas.Grind.{common_steps}
use Rattle.std.proofs.Math.Decide.{dec_lt}
use Rattle.std.proofs.Math.ListN.{get_or-eq_default}
use Rattle.places.specs.Words.{number_of, Words}
use Rattle.verdict.specs.WordBits.{number_short, number-within}
use Rattle.verdict.proofs.next_cover.reached_words.Goals as goal

zeros-behind : (front : List ℕ) (n count k : ℕ) → length front ≡ count → count ≤ k → get_or (front ++ drop count (replicate n 0)) k 0 ≡ 0
zeros-behind front n count k e h =
    get_or-append_right front (drop count (replicate n 0)) count k 0 e h
    ∙ get_or-drop count (replicate n 0) (k - count) 0
    ∙ zero-words n (count + (k - count))

-- What is promised of r, which has as many of the four words as stand in the first `used` words, and zeros behind them.
module _ (first r : List ℕ) (used : ℕ) (four : length first ≡ 4) (fits : Words first)
    (given : (k : ℕ) → k < used → k < 4 → get_or r k 0 ≡ get_or first k 0) (zeros : (k : ℕ) → (used ≤ k) ⊎ (4 ≤ k) → get_or r k 0 ≡ 0) where
  same : (k : ℕ) → k < used → Dec (k < 4) → get_or r k 0 ≡ get_or first k 0
  same k b (yes l) = given k b l
  same k b (no l) = zeros k (inr (omega arith)) ∙ sym (get_or-eq_default first 0 (omega arith))

  words : Words r
  words k = side (dec_lt k used)
    where
      side : Dec (k < used) → get_or r k 0 < 2 ^ 64
      side (yes b) = subst (λ z. z < 2 ^ 64) (sym (same k b (dec_lt k 4))) (fits k)
      side (no b) = subst (λ z. z < 2 ^ 64) (sym (zeros k (inl (omega arith)))) (pow_pos 64)

  below : number_of r < 2 ^ (64 * used)
  below = number-within used r words (λ k b. zeros k (inl b))

  first-told : (number_of r < 2 ^ (64 * used)) × (number_of first < 2 ^ (64 * used) → number_of r ≡ number_of first)
  first-told = (below, λ small. number_short used r first below small (λ k b. same k b (dec_lt k 4)))

pub returns : goal.returns
returns c =
    let a = c.args in
    first-told a.first.now _ a.used c.told-first c.fits-first (λ k b l. grind (arith, common_steps)) (λ k d. zeros-behind c.copy_from_slice.new.self 16 c.min-count.result k (grind (arith, common_steps)) (omega (arith, d)))
