-- Rows of a flat table: a row put in place of another is that row, and changes no entry outside it.
use Rattle.std.specs.Prelude.{ℕ, ◌+◌, ◌-◌, ◌≤◌, ◌<◌, List, ◌++◌, ◌⊎◌, ◌≡◌, refl, length, get_or, take, drop}
use Rattle.std.proofs.Common.{inl, inr, sym, ap, ◌∙◌, arith, length-append, length-take, length-drop, length-take-le, drop-drop, get_or-append-add, get_or-take, get_or-drop, ext_get_or, take_at, drop_at}
use Rattle.std.proofs.Math.ListN.{get_or-append}

-- The table t with the row r put in from the entry a on.
abbrev pub put : ℕ → List ℕ → List ℕ → List ℕ
put a r t = take a t ++ (r ++ drop (a + length r) t)

module _ (a : ℕ) (r t : List ℕ) (room : a + length r ≤ length t) where
  length_front : length (take a t) ≡ a
  length_front = length-take-le a t (omega arith)

  pub length-put : length (put a r t) ≡ length t
  length-put = simp (length-append, length-drop) (omega (arith, length_front))

  pub drop-put : drop a (put a r t) ≡ r ++ drop (a + length r) t
  drop-put = drop_at (take a t) (r ++ drop (a + length r) t) a length_front

  -- The row is there.
  pub row_put : take (length r) (drop a (put a r t)) ≡ r
  row_put = ap (take (length r)) drop-put ∙ take_at r (drop (a + length r) t) (length r) refl

  -- The entries before it, and those after it.
  before-put : (i : ℕ) → i < a → get_or (put a r t) i 0 ≡ get_or t i 0
  before-put i h =
      get_or-append (take a t) (r ++ drop (a + length r) t) 0 i (omega (arith, length_front)) ∙ get_or-take a t i 0 h

  after-put : (i : ℕ) → a + length r ≤ i → get_or (put a r t) i 0 ≡ get_or t i 0
  after-put i h =
      let e : length (take a t) + (length r + (i - (a + length r))) ≡ i = omega (arith, length_front) in
      let f : a + length r + (i - (a + length r)) ≡ i = omega arith in
      ap (λ k. get_or (put a r t) k 0) (sym e)
      ∙ get_or-append-add (take a t) (r ++ drop (a + length r) t) (length r + (i - (a + length r))) 0
      ∙ get_or-append-add r (drop (a + length r) t) (i - (a + length r)) 0
      ∙ get_or-drop (a + length r) t (i - (a + length r)) 0
      ∙ ap (λ k. get_or t k 0) f

  pub other-put : (i : ℕ) → (i < a) ⊎ (a + length r ≤ i) → get_or (put a r t) i 0 ≡ get_or t i 0
  other-put i (inl h) = before-put i h
  other-put i (inr h) = after-put i h

-- The row as it comes back from being lent.
pub put_back : (a k : ℕ) (r t : List ℕ) → length r ≡ k → take a t ++ (r ++ drop k (drop a t)) ≡ put a r t
put_back a k r t e = ap (λ l. take a t ++ (r ++ l)) (drop-drop k a t ∙ ap (λ n. drop (a + n) t) (sym e))

-- Two tables that agree on some entries in a row.
pub take-agree : (n k : ℕ) (s t : List ℕ) → length s ≡ length t → ((i : ℕ) → i < n → get_or s (k + i) 0 ≡ get_or t (k + i) 0)
    → take n (drop k s) ≡ take n (drop k t)
take-agree n k s t e h =
    let d : length (drop k s) ≡ length (drop k t) = simp length-drop (omega arith) in
    let l : length (take n (drop k s)) ≡ length (take n (drop k t)) = simp length-take (omega arith) in
    ext_get_or 0 (take n (drop k s)) (take n (drop k t)) l
    (λ i b.
    let m : i < n = omega (arith, length-take n (drop k s)) in
    get_or-take n (drop k s) i 0 m ∙ get_or-drop k s i 0 ∙ h i m ∙ sym (get_or-drop k t i 0) ∙ sym (get_or-take n (drop k t) i 0 m))
