-- Parts of a text: a part of a part is a part, and how its cuts and its opening word look.
use Rattle.std.specs.Prelude.{ℕ, zero, suc, ◌+◌, ◌-◌, ◌<◌, ◌≤◌, true, false, Option, Some, None, [], ◌∷◌, ◌≡◌, length, take, drop, MatchOption}
use Rattle.std.proofs.Math.Option.{some, none}
use Rattle.std.proofs.Common.{sym, ap, ap₂, ◌∙◌, arith, length-append, length-take, length-drop, take-take, drop-drop}
use Rattle.std.proofs.Math.Seq.{take-nil}
use Rattle.syntax.specs.declared.table.Span.{Span}
use Rattle.syntax.specs.Byte.{Bytes}
use Rattle.reading.specs.Read.{cut, cut_at, after}
use Rattle.reading.specs.CutLaws.{after-exactly}
use Rattle.reading.specs.Scan.{first, cut-first, begins, after-begins, after-not}

drop-take : (n m : ℕ) (l : Bytes) → drop n (take m l) ≡ take (m - n) (drop n l)
drop-take zero m l = let e : m ≡ m - 0 = omega arith in ap (λ k. take k l) e
drop-take (suc n) m [] = ap (drop (suc n)) (take-nil m) ∙ sym (take-nil (m - suc n))
drop-take (suc n) zero (b ∷ l) = let e : 0 ≡ 0 - suc n = omega arith in ap (λ k. take k (drop n l)) e
drop-take (suc n) (suc m) (b ∷ l) = let e : m - n ≡ suc m - suc n = omega arith in drop-take n m l ∙ ap (λ k. take k (drop n l)) e

-- The part of the text that stands at a span.
abbrev pub part : Bytes → Span → Bytes
part text s = take s.size (drop s.start text)

abbrev pub span : ℕ → ℕ → Span
span start size = record { start = start; size = size }

-- What comes after an opening word of a line, if the line has it; it ends within the text.
abbrev pub IsBehind : Bytes → Span → Bytes → Option Span → Type 0
IsBehind text line word r =
    MatchOption r (after word (part text line) ≡ none)
    (λ rest. (after word (part text line) ≡ some (part text rest)) × (rest.start + rest.size ≤ length text))

module _ (text : Bytes) (s : Span) where
  pub length_part : s.start + s.size ≤ length text → length (part text s) ≡ s.size
  length_part h = simp (length-take, length-drop) (omega arith)

  drop-part : (n : ℕ) → drop n (part text s) ≡ part text (span (s.start + n) (s.size - n))
  drop-part n = drop-take n s.size (drop s.start text) ∙ ap (take (s.size - n)) (drop-drop n s.start text)

  take_part : (n : ℕ) → n ≤ s.size → take n (part text s) ≡ part text (span s.start n)
  take_part n h = take-take n s.size (drop s.start text) h

  -- The part cut at the first byte b.
  pub first-within : s.start + s.size ≤ length text → (b n : ℕ) → first b (part text s) ≡ Some n → n < s.size
  first-within h b n e = omega (arith, length_part h, (cut-first b (part text s) n e).0)

  pub cut-part : s.start + s.size ≤ length text → (b n : ℕ) → first b (part text s) ≡ Some n
      → cut_at b (part text s) ≡ cut (part text (span s.start n)) (part text (span (s.start + n + 1) (s.size - n - 1)))
  cut-part h b n e =
      let l : n < s.size = first-within h b n e in
      let i : s.start + suc n ≡ s.start + n + 1 = omega arith in
      let j : s.size - suc n ≡ s.size - n - 1 = omega arith in
      (cut-first b (part text s) n e).1
      ∙ ap₂ cut (take_part n (omega arith)) (drop-part (suc n) ∙ ap₂ (λ a k. part text (span a k)) i j)

  -- By whether the part begins with the word.
  module _ (word : Bytes) where
    pub word-within : s.start + s.size ≤ length text → begins word (part text s) ≡ true → length word ≤ s.size
    word-within h e =
        let r = (after-exactly word (part text s) _).0 (after-begins word (part text s) e) in
        omega (arith, ap length r ∙ length-append word _, length_part h)

    pub is-behind : s.start + s.size ≤ length text → begins word (part text s) ≡ true
        → IsBehind text s word (Some (span (s.start + length word) (s.size - length word)))
    is-behind h e =
        (after-begins word (part text s) e ∙ ap some (drop-part (length word)), omega (arith, word-within h e))

    pub is-other : begins word (part text s) ≡ false → IsBehind text s word None
    is-other e = after-not word (part text s) e

-- What `IsBehind` says of either answer.
pub behind-none : (text : Bytes) (line : Span) (word : Bytes) (r : Option Span) → IsBehind text line word r → r ≡ None → after word (part text line) ≡ none
behind-none text line word r b e = rw e at b

pub behind-some : (text : Bytes) (line : Span) (word : Bytes) (r : Option Span) (rest : Span) → IsBehind text line word r → r ≡ Some rest
    → (after word (part text line) ≡ some (part text rest)) × (rest.start + rest.size ≤ length text)
behind-some text line word r rest b e = rw e at b
