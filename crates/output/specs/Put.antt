-- Bytes put one after another into a lent buffer, as far as it has room, and their laws: what is put stands where it was put, and the other
-- bytes stay.
use Rattle.std.specs.Prelude.{ℕ, zero, suc, ◌+◌, ◌-◌, ◌≤◌, ◌<◌, min, max, List, [], ◌∷◌, ◌++◌, ◌≡◌, refl, length, get_or, set, take, drop, replicate}
use Rattle.std.proofs.Common.{append_assoc, sym, ap, ◌∙◌, add-zero, zero-add, add-one, arith, length-append, length-set, drop-cons}
use Rattle.std.proofs.Math.Nat.{zero-min, min-zero, suc-min-suc}
use Rattle.std.proofs.lemmas.List.{length-replicate}
use Rattle.std.proofs.lemmas.List.Edits.{sets, sets-eq}

-- A buffer and the place in it where the next byte goes.
pub record Writing : Type 0 where
  pub out : List ℕ
  pub at : ℕ

abbrev pub writing : List ℕ → ℕ → Writing
writing out at = record { out = out; at = at }

-- One byte: the place moves on by one, but not past the buffer's end.
unfoldable pub put : Writing → ℕ → Writing
put w b = writing (set w.out w.at b) (min (suc w.at) (max w.at (length w.out)))

unfoldable pub puts : Writing → List ℕ → Writing
puts w [] = w
puts w (b ∷ t) = puts (put w b) t

pub same-writing : {out out' : List ℕ} {at at' : ℕ} → out ≡ out' → at ≡ at' → writing out at ≡ writing out' at'
same-writing o a = λ i. writing (o i) (a i)

pub puts-append : (w : Writing) (a b : List ℕ) → puts w (a ++ b) ≡ puts (puts w a) b
unfolding puts
puts-append w [] b = refl
puts-append w (x ∷ a) b = puts-append (put w x) a b

-- Two writings, one after the other.
pub puts_then : (w : Writing) {v u : Writing} (a b : List ℕ) → v ≡ puts w a → u ≡ puts v b → u ≡ puts w (a ++ b)
puts_then w a b e f = f ∙ ap (λ (v : Writing). puts v b) e ∙ sym (puts-append w a b)

-- No write changes the buffer's length.
pub length-puts : (w : Writing) (bytes : List ℕ) → length (puts w bytes).out ≡ length w.out
unfolding puts put
length-puts w [] = refl
length-puts w (b ∷ t) = length-puts (put w b) t ∙ length-set w.out w.at b

-- No write moves the place past the buffer's end.
pub puts-within : (w : Writing) (bytes : List ℕ) → w.at ≤ length w.out → (puts w bytes).at ≤ length (puts w bytes).out
unfolding puts put
puts-within w [] h = h
puts-within w (b ∷ t) h = puts-within (put w b) t (omega (arith, length-set w.out w.at b))

pub ends-within : (w : Writing) (bytes : List ℕ) {out : List ℕ} {at : ℕ} → w.at ≤ length w.out → writing out at ≡ puts w bytes
    → at ≤ length out
ends-within w bytes h e =
    omega (arith, puts-within w bytes h, ap (λ (u : Writing). u.at) e, ap (λ (u : Writing). length u.out) e)

-- Where there is room, all bytes are stored, one by one.
puts-sets : (out : List ℕ) (at : ℕ) (bytes : List ℕ) → at + length bytes ≤ length out
    → puts (writing out at) bytes ≡ writing (sets out at bytes) (at + length bytes)
unfolding puts put
puts-sets out at [] h = same-writing refl (sym (add-zero at))
puts-sets out at (b ∷ t) h =
    let moved : min (suc at) (max at (length out)) ≡ suc at = omega arith in
    let l : length (set out at b) ≡ length out = length-set out at b in
    ap (λ (k : ℕ). puts (writing (set out at b) k) t) moved ∙ puts-sets (set out at b) (suc at) t (omega arith)
    ∙ same-writing refl (omega arith)

-- Where there is room, the bytes stand at the place, those before and beyond are unchanged, and the place is the one after them.
pub puts-room : (out : List ℕ) (at : ℕ) (bytes : List ℕ) → at + length bytes ≤ length out
    → puts (writing out at) bytes ≡ writing (take at out ++ (bytes ++ drop (at + length bytes) out)) (at + length bytes)
puts-room out at bytes h =
    puts-sets out at bytes h
    ∙ same-writing (sets-eq bytes out at h ∙ append_assoc (take at out) bytes (drop (at + length bytes) out)) refl

-- The same at the buffer's front.
pub puts-front : (out bytes : List ℕ) → length bytes ≤ length out
    → puts (writing out 0) bytes ≡ writing (bytes ++ drop (length bytes) out) (length bytes)
puts-front out bytes h = rw zero-add at (puts-room out 0 bytes (omega arith))

-- Bytes put are the first of those that are left.
pub puts_first : (w : Writing) {v : Writing} {l : List ℕ} (a t : List ℕ) → l ≡ a ++ t → v ≡ puts w a → puts v t ≡ puts w l
puts_first w a t f e = ap (λ (v : Writing). puts v t) e ∙ sym (puts-append w a t) ∙ ap (puts w) (sym f)

pub puts_one : (w : Writing) {v : Writing} (b : ℕ) (t : List ℕ) → v ≡ put w b → puts v t ≡ puts w (b ∷ t)
unfolding puts
puts_one w b t e = ap (λ (v : Writing). puts v t) e

-- A byte put behind others.
pub puts-last : (w : Writing) {v u : Writing} (a : List ℕ) (b : ℕ) → v ≡ puts w a → u ≡ put v b → u ≡ puts w (a ++ (b ∷ []))
unfolding puts
puts-last w a b e f = puts_then w a (b ∷ []) e f

-- With no byte left to put, all is put.
pub puts_none : (w : Writing) {v : Writing} {t : List ℕ} → t ≡ [] → puts w t ≡ v → w ≡ v
unfolding puts
puts_none w e f = ap (λ (t : List ℕ). puts w t) (sym e) ∙ f

-- Writings that come to the same have buffers of one length.
pub puts-length : (w v : Writing) (a b : List ℕ) → puts w a ≡ puts v b → length w.out ≡ length v.out
puts-length w v a b e = sym (length-puts w a) ∙ ap (λ (u : Writing). length u.out) e ∙ length-puts v b

-- A byte of a part, and a zero of several.
pub puts-part : (w : Writing) {v : Writing} (l : List ℕ) (i : ℕ) → i < length l → v ≡ put w (get_or l i 0)
    → puts v (drop (i + 1) l) ≡ puts w (drop i l)
puts-part w l i h e = rw (add-one, drop-cons l i 0) (puts_one w (get_or l i 0) (drop (suc i) l) e)

pub puts-zeros : (w : Writing) {v : Writing} (n : ℕ) → 0 < n → v ≡ put w 0 → puts v (replicate (n - 1) 0) ≡ puts w (replicate n 0)
puts-zeros w zero h e = absurd (omega arith)
puts-zeros w {v} (suc n) h e =
    let f : suc n - 1 ≡ n = omega arith in
    ap (λ (k : ℕ). puts v (replicate k 0)) f ∙ puts_one w 0 (replicate n 0) e

-- Zeros up to a place, as far as the buffer goes.
drop_min : (n : ℕ) (l : List ℕ) → drop (min n (length l)) l ≡ drop n l
drop_min zero l = ap (λ (k : ℕ). drop k l) (zero-min (length l))
drop_min (suc n) [] = ap (λ (k : ℕ). drop {A = ℕ} k []) (min-zero (suc n))
drop_min (suc n) (x ∷ l) = ap (λ (k : ℕ). drop k (x ∷ l)) (suc-min-suc n (length l)) ∙ drop_min n l

pub zeros-front : {out' : List ℕ} {at : ℕ} (out : List ℕ) (n : ℕ) {k : ℕ} → k ≡ min n (length out)
    → writing out' at ≡ puts (writing out 0) (replicate k 0) → out' ≡ replicate (min n (length out)) 0 ++ drop n out
zeros-front out n {k} e wrote =
    let zeros : List ℕ = replicate k 0 in
    let h : length zeros ≡ k = length-replicate k 0 in
    ap (λ (w : Writing). w.out) (wrote ∙ puts-front out zeros (omega arith))
    ∙ ap (λ (j : ℕ). zeros ++ drop j out) h
    ∙ ap (λ (j : ℕ). replicate j 0 ++ drop j out) e
    ∙ ap (λ (r : List ℕ). replicate (min n (length out)) 0 ++ r) (drop_min n out)

-- Bytes at the front, and then zeros up to a place n within the buffer.
module _ (out bytes : List ℕ) (n : ℕ) (fits : length bytes ≤ n) (room : n ≤ length out) {w v : Writing}
    (wrote : w ≡ puts (writing out 0) bytes) (padded : v ≡ puts w (replicate (n - w.at) 0)) where
  pub padded-at : w.at ≡ length bytes
  padded-at = ap (λ (u : Writing). u.at) (wrote ∙ puts-front out bytes (omega arith))

  pub padded-out : v.out ≡ bytes ++ (replicate (n - length bytes) 0 ++ drop n out)
  padded-out =
      let zeros : List ℕ = replicate (n - length bytes) 0 in
      let size : length (bytes ++ zeros) ≡ n = simp (length-append, length-replicate) (omega arith) in
      let whole = puts_then (writing out 0) bytes zeros wrote (padded ∙ ap (λ (k : ℕ). puts w (replicate (n - k) 0)) padded-at) in
      ap (λ (u : Writing). u.out) (whole ∙ puts-front out (bytes ++ zeros) (omega arith))
      ∙ ap (λ (k : ℕ). (bytes ++ zeros) ++ drop k out) size ∙ append_assoc bytes zeros (drop n out)
