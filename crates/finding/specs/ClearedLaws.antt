-- A part of a list is cleared: k numbers from n on.
use Rattle.std.specs.Prelude.{◌≡◌, ℕ, ◌+◌, ◌-◌, ◌<◌, ◌≤◌, List, [], ◌++◌, length, take, drop, replicate, slice_index}
use Rattle.std.proofs.Common.{append-nil, ◌∙◌, length-take-le, drop-drop, get_or-drop}
use Rattle.std.proofs.Math.Path.{ap, ap₂}
use native.Mathlib.Omega.{arith}
use Rattle.std.proofs.Math.ListN.{length-append, length-drop, get_or-append, drop_of_length-le}
use Rattle.std.proofs.lemmas.List.{length-replicate, get_or-replicate}
use Rattle.std.proofs.Math.Seq.{take_all, get_or-take, get_or-append-add}
use Rattle.finding.specs.Cleared.{Cleared}

unfoldable pub cleared_part : ℕ → ℕ → List ℕ → List ℕ
cleared_part n k l = take n l ++ (replicate k 0 ++ drop (n + k) l)

module _ (n k : ℕ) (l : List ℕ) (room : n + k ≤ length l) where
  front : length (take n l) ≡ n
  front = length-take-le n l (omega arith)

  zeros : length {A = ℕ} (replicate k 0) ≡ k
  zeros = length-replicate {A = ℕ} k 0

  pub part_length : length (cleared_part n k l) ≡ length l
  unfolding cleared_part
  part_length =
      omega (
        arith,
        length-append (take n l) (replicate k 0 ++ drop (n + k) l),
        length-append (replicate k 0) (drop (n + k) l),
        length-drop (n + k) l,
        front,
        zeros,
      )

  pub part-before : (i : ℕ) → i < n → slice_index (cleared_part n k l) i ≡ slice_index l i
  unfolding cleared_part
  part-before i h = get_or-append (take n l) (replicate k 0 ++ drop (n + k) l) 0 i (omega (arith, front)) ∙ get_or-take n l i 0 h

  from : (i : ℕ) → n ≤ i → slice_index (cleared_part n k l) i ≡ slice_index (replicate k 0 ++ drop (n + k) l) (i - n)
  unfolding cleared_part
  from i h =
      let e : i ≡ length (take n l) + (i - n) = omega (arith, front) in
      ap (λ j. slice_index (cleared_part n k l) j) e ∙ get_or-append-add (take n l) (replicate k 0 ++ drop (n + k) l) (i - n) 0

  pub part-cleared : (i : ℕ) → n ≤ i → i < n + k → slice_index (cleared_part n k l) i ≡ 0
  part-cleared i h b =
      from i h
      ∙ get_or-append (replicate k 0) (drop (n + k) l) 0 (i - n) (omega (arith, zeros))
      ∙ get_or-replicate k (i - n) 0 0 (omega arith)

  pub part-behind : (i : ℕ) → n + k ≤ i → slice_index (cleared_part n k l) i ≡ slice_index l i
  part-behind i h =
      let j : ℕ = i - (n + k) in
      let e : i - n ≡ length {A = ℕ} (replicate k 0) + j = omega (arith, zeros) in
      let f : n + k + j ≡ i = omega arith in
      from i (omega arith)
      ∙ ap (λ m. slice_index (replicate k 0 ++ drop (n + k) l) m) e
      ∙ get_or-append-add (replicate k 0) (drop (n + k) l) j 0
      ∙ get_or-drop (n + k) l j 0
      ∙ ap (λ m. slice_index l m) f

  -- All from n on is lent to be cleared.
  pub rest-cleared : (rest : List ℕ) → Cleared k (take (length l - n) (drop n l)) rest
      → take n l ++ (rest ++ drop (length l - n) (drop n l)) ≡ cleared_part n k l
  unfolding cleared_part
  rest-cleared rest C =
      let all : take (length l - n) (drop n l) ≡ drop n l = take_all (length l - n) (drop n l) (omega (arith, length-drop n l)) in
      let none : drop (length l - n) (drop n l) ≡ [] = drop_of_length-le (drop n l) {i = length l - n} (omega (arith, length-drop n l)) in
      let cleared : rest ≡ replicate k 0 ++ drop (n + k) l =
      C.enough (omega (arith, ap length all, length-drop n l))
      ∙ ap (λ t. replicate k 0 ++ drop k t) all
      ∙ ap (λ t. replicate k 0 ++ t) (drop-drop k n l) in
      ap₂ (λ s t. take n l ++ (s ++ t)) cleared none ∙ ap (λ t. take n l ++ t) (append-nil (replicate k 0 ++ drop (n + k) l))
