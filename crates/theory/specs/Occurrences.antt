-- The numbers of an expression's occurrences: numbered from k on, they are k to k + size e - 1, and Glushkov's relations hold of no
-- others. So a number tells the part of an alternative or a sequence in which it stands.
use Rattle.std.specs.Prelude.{ℕ, ◌+◌, ◌≤◌, ◌<◌, ◌⊎◌, ◌≡◌}
use Rattle.std.proofs.Common.{inl, inr, arith}
use Rattle.std.proofs.Math.Decide.{dec_lt}
use Rattle.theory.specs.Path.{Label}
use Rattle.theory.specs.Expression.{Expression, empty, label, alternative, sequence, star, optional}
use Rattle.theory.specs.Standing.{size, Labelled}
use Rattle.theory.specs.Positions.{First, Last, Follow}

-- x is the number of an occurrence of e, numbered from k on.
abbrev pub Within : ℕ → Expression → ℕ → Type 0
Within k e x = (k ≤ x) × (x < k + size e)

-- An occurrence of two parts is one of the left or one of the right.
pub within-cases : (k : ℕ) (l r : Expression) (x : ℕ) → k ≤ x → x < k + (size l + size r) → Within k l x ⊎ Within (k + size l) r x
within-cases k l r x low high = go (dec_lt x (k + size l))
  where
    go : Dec (x < k + size l) → Within k l x ⊎ Within (k + size l) r x
    go (yes h) = inl (low, h)
    go (no h) = inr (omega arith, omega arith)

-- The occurrences of the left part, and those of the right part, are occurrences of the two together.
pub left-within : (k : ℕ) (l r : Expression) (x : ℕ) → Within k l x → (k ≤ x) × (x < k + (size l + size r))
left-within k l r x (low, high) = (low, omega arith)

pub right-within : (k : ℕ) (l r : Expression) (x : ℕ) → Within (k + size l) r x → (k ≤ x) × (x < k + (size l + size r))
right-within k l r x (low, high) = (omega arith, omega arith)

-- No number is an occurrence of both parts.
pub apart : {A : Type 0} (k : ℕ) (l r : Expression) (x : ℕ) → Within k l x → Within (k + size l) r x → A
apart k l r x (_, high) (low, _) = let none : ⊥ = omega arith in absurd none

pub labelled-within : (k : ℕ) (e : Expression) (x : ℕ) (a : Label) → Labelled k e x a → Within k e x
labelled-within k empty x a h = absurd h
labelled-within k (label b) x a (e, _) = (omega arith, omega arith)
labelled-within k (alternative l r) x a (inl h) = left-within k l r x (labelled-within k l x a h)
labelled-within k (alternative l r) x a (inr h) = right-within k l r x (labelled-within (k + size l) r x a h)
labelled-within k (sequence l r) x a (inl h) = left-within k l r x (labelled-within k l x a h)
labelled-within k (sequence l r) x a (inr h) = right-within k l r x (labelled-within (k + size l) r x a h)
labelled-within k (star e) x a h = labelled-within k e x a h
labelled-within k (optional e) x a h = labelled-within k e x a h

pub first-within : (k : ℕ) (e : Expression) (x : ℕ) → First k e x → Within k e x
first-within k empty x h = absurd h
first-within k (label b) x h = (omega arith, omega arith)
first-within k (alternative l r) x (inl h) = left-within k l r x (first-within k l x h)
first-within k (alternative l r) x (inr h) = right-within k l r x (first-within (k + size l) r x h)
first-within k (sequence l r) x (inl h) = left-within k l r x (first-within k l x h)
first-within k (sequence l r) x (inr (_, h)) = right-within k l r x (first-within (k + size l) r x h)
first-within k (star e) x h = first-within k e x h
first-within k (optional e) x h = first-within k e x h

pub last_within : (k : ℕ) (e : Expression) (x : ℕ) → Last k e x → Within k e x
last_within k empty x h = absurd h
last_within k (label b) x h = (omega arith, omega arith)
last_within k (alternative l r) x (inl h) = left-within k l r x (last_within k l x h)
last_within k (alternative l r) x (inr h) = right-within k l r x (last_within (k + size l) r x h)
last_within k (sequence l r) x (inl (h, _)) = left-within k l r x (last_within k l x h)
last_within k (sequence l r) x (inr h) = right-within k l r x (last_within (k + size l) r x h)
last_within k (star e) x h = last_within k e x h
last_within k (optional e) x h = last_within k e x h

-- Both ends of a step are occurrences: the one left, and the one come to.
pub follow-from-within : (k : ℕ) (e : Expression) (x y : ℕ) → Follow k e x y → Within k e x
follow-from-within k empty x y h = absurd h
follow-from-within k (label b) x y h = absurd h
follow-from-within k (alternative l r) x y (inl h) = left-within k l r x (follow-from-within k l x y h)
follow-from-within k (alternative l r) x y (inr h) = right-within k l r x (follow-from-within (k + size l) r x y h)
follow-from-within k (sequence l r) x y (inl h) = left-within k l r x (follow-from-within k l x y h)
follow-from-within k (sequence l r) x y (inr (inl h)) = right-within k l r x (follow-from-within (k + size l) r x y h)
follow-from-within k (sequence l r) x y (inr (inr (h, _))) = left-within k l r x (last_within k l x h)
follow-from-within k (star e) x y (inl h) = follow-from-within k e x y h
follow-from-within k (star e) x y (inr (h, _)) = last_within k e x h
follow-from-within k (optional e) x y h = follow-from-within k e x y h

pub follow-to-within : (k : ℕ) (e : Expression) (x y : ℕ) → Follow k e x y → Within k e y
follow-to-within k empty x y h = absurd h
follow-to-within k (label b) x y h = absurd h
follow-to-within k (alternative l r) x y (inl h) = left-within k l r y (follow-to-within k l x y h)
follow-to-within k (alternative l r) x y (inr h) = right-within k l r y (follow-to-within (k + size l) r x y h)
follow-to-within k (sequence l r) x y (inl h) = left-within k l r y (follow-to-within k l x y h)
follow-to-within k (sequence l r) x y (inr (inl h)) = right-within k l r y (follow-to-within (k + size l) r x y h)
follow-to-within k (sequence l r) x y (inr (inr (_, h))) = right-within k l r y (first-within (k + size l) r y h)
follow-to-within k (star e) x y (inl h) = follow-to-within k e x y h
follow-to-within k (star e) x y (inr (_, h)) = first-within k e y h
follow-to-within k (optional e) x y h = follow-to-within k e x y h

-- An occurrence reads one label only.
pub label-unique : (k : ℕ) (e : Expression) (x : ℕ) (a b : Label) → Labelled k e x a → Labelled k e x b → a ≡ b
label-unique k empty x a b h i = absurd h
label-unique k (label c) x a b (_, h) (_, i) = cc
label-unique k (alternative l r) x a b (inl h) (inl i) = label-unique k l x a b h i
label-unique k (alternative l r) x a b (inl h) (inr i) = apart k l r x (labelled-within k l x a h) (labelled-within (k + size l) r x b i)
label-unique k (alternative l r) x a b (inr h) (inl i) = apart k l r x (labelled-within k l x b i) (labelled-within (k + size l) r x a h)
label-unique k (alternative l r) x a b (inr h) (inr i) = label-unique (k + size l) r x a b h i
label-unique k (sequence l r) x a b (inl h) (inl i) = label-unique k l x a b h i
label-unique k (sequence l r) x a b (inl h) (inr i) = apart k l r x (labelled-within k l x a h) (labelled-within (k + size l) r x b i)
label-unique k (sequence l r) x a b (inr h) (inl i) = apart k l r x (labelled-within k l x b i) (labelled-within (k + size l) r x a h)
label-unique k (sequence l r) x a b (inr h) (inr i) = label-unique (k + size l) r x a b h i
label-unique k (star e) x a b h i = label-unique k e x a b h i
label-unique k (optional e) x a b h i = label-unique k e x a b h i
