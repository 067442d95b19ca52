-- Runs over the occurrences of an expression, numbered from k on: an occurrence that can be read first, then each time one that can
-- follow, up to one that can be read last. Joining runs, and taking them apart, goes as with paths.
use Rattle.std.specs.Prelude.{ℕ, ◌+◌, List, [], ◌∷◌, ◌++◌, ◌⊎◌, ◌≡◌, refl}
use Rattle.std.proofs.Common.{inl, inr, ap}
use Rattle.theory.specs.Expression.{Expression, alternative, sequence, star, optional, Star, none, more}
use Rattle.theory.specs.Standing.{size}
use Rattle.theory.specs.Positions.{Nullable, First, Last, Follow}
use Rattle.theory.specs.Occurrences.{Within, apart, first-within, last_within, follow-from-within, follow-to-within}

-- `Rest k e x m`: after the occurrence x, those of m may be read, and then the expression is at an end.
pub data Rest (k : ℕ) (e : Expression) : ℕ → List ℕ → Type 0 where
  stop : {x : ℕ} → Last k e x → Rest k e x []
  step : {x y : ℕ} {m : List ℕ} → Follow k e x y → Rest k e y m → Rest k e x (y ∷ m)

-- `Run k e m`: the occurrences of m may be read, from the expression's beginning to its end.
pub data Run (k : ℕ) (e : Expression) : List ℕ → Type 0 where
  pass : Nullable e → Run k e []
  start : {x : ℕ} {m : List ℕ} → First k e x → Rest k e x m → Run k e (x ∷ m)

-- From a part to the whole.
pub rest-into : {k k' : ℕ} {e e' : Expression} {x : ℕ} {m : List ℕ} → ((y : ℕ) → Last k e y → Last k' e' y) →
    ((y z : ℕ) → Follow k e y z → Follow k' e' y z) → Rest k e x m → Rest k' e' x m
rest-into f g (stop {x} h) = stop (f x h)
rest-into f g (step {x} {y} h r) = step (g x y h) (rest-into f g r)

pub run-left : {k : ℕ} {l r : Expression} {m : List ℕ} → Run k l m → Run k (alternative l r) m
run-left (pass h) = pass (inl h)
run-left (start h r) = start (inl h) (rest-into (λ y i. inl i) (λ y z i. inl i) r)

pub run-right : {k : ℕ} {l r : Expression} {m : List ℕ} → Run (k + size l) r m → Run k (alternative l r) m
run-right (pass h) = pass (inr h)
run-right (start h r) = start (inr h) (rest-into (λ y i. inr i) (λ y z i. inr i) r)

pub run-optional : {k : ℕ} {e : Expression} {m : List ℕ} → Run k e m → Run k (optional e) m
run-optional (pass h) = pass tt
run-optional (start h r) = start h (rest-into (λ y i. i) (λ y z i. i) r)

-- In a sequence, the right part goes on where the left part ends.
pub sequence-right : {k : ℕ} {l r : Expression} {x : ℕ} {m : List ℕ} → Rest (k + size l) r x m → Rest k (sequence l r) x m
sequence-right h = rest-into (λ y i. inr i) (λ y z i. inr (inl i)) h

pub sequence-on : {k : ℕ} {l r : Expression} {x : ℕ} {m n : List ℕ} → Rest k l x m → Run (k + size l) r n → Rest k (sequence l r) x (m ++ n)
sequence-on (stop h) (pass i) = stop (inl (h, i))
sequence-on (stop h) (start i s) = step (inr (inr (h, i))) (sequence-right s)
sequence-on (step h t) s = step (inl h) (sequence-on t s)

pub run-sequence : {k : ℕ} {l r : Expression} {m n : List ℕ} → Run k l m → Run (k + size l) r n → Run k (sequence l r) (m ++ n)
run-sequence (pass h) (pass i) = pass (h, i)
run-sequence (pass h) (start i s) = start (inr (h, i)) (sequence-right s)
run-sequence (start h t) s = start (inl h) (sequence-on t s)

-- Under a star, another round begins where one ends.
star-on : {k : ℕ} {e : Expression} {x : ℕ} {m n : List ℕ} → Rest k e x m → Run k (star e) n → Rest k (star e) x (m ++ n)
star-on (stop h) (pass i) = stop h
star-on (stop h) (start i s) = step (inr (h, i)) s
star-on (step h t) s = step (inl h) (star-on t s)

pub run-star : {k : ℕ} {e : Expression} {m n : List ℕ} → Run k e m → Run k (star e) n → Run k (star e) (m ++ n)
run-star (pass h) s = s
run-star (start h t) s = start h (star-on t s)

-- Taking apart. Of two parts, what begins in one stays there, but that a sequence may go over from the left to the right.
alternative-left : (k : ℕ) (l r : Expression) {x : ℕ} {m : List ℕ} → Within k l x → Rest k (alternative l r) x m → Rest k l x m
alternative-left k l r w (stop (inl h)) = stop h
alternative-left k l r w (stop {x} (inr h)) = apart k l r x w (last_within (k + size l) r x h)
alternative-left k l r w (step {x} {y} (inl h) t) = step h (alternative-left k l r (follow-to-within k l x y h) t)
alternative-left k l r w (step {x} {y} (inr h) t) = apart k l r x w (follow-from-within (k + size l) r x y h)

alternative-right : (k : ℕ) (l r : Expression) {x : ℕ} {m : List ℕ} → Within (k + size l) r x → Rest k (alternative l r) x m →
    Rest (k + size l) r x m
alternative-right k l r w (stop {x} (inl h)) = apart k l r x (last_within k l x h) w
alternative-right k l r w (stop (inr h)) = stop h
alternative-right k l r w (step {x} {y} (inl h) t) = apart k l r x (follow-from-within k l x y h) w
alternative-right k l r w (step {x} {y} (inr h) t) = step h (alternative-right k l r (follow-to-within (k + size l) r x y h) t)

pub run-cases : (k : ℕ) (l r : Expression) {m : List ℕ} → Run k (alternative l r) m → Run k l m ⊎ Run (k + size l) r m
run-cases k l r (pass (inl h)) = inl (pass h)
run-cases k l r (pass (inr h)) = inr (pass h)
run-cases k l r (start {x} (inl h) t) = inl (start h (alternative-left k l r (first-within k l x h) t))
run-cases k l r (start {x} (inr h) t) = inr (start h (alternative-right k l r (first-within (k + size l) r x h) t))

sequence-stays : (k : ℕ) (l r : Expression) {x : ℕ} {m : List ℕ} → Within (k + size l) r x → Rest k (sequence l r) x m →
    Rest (k + size l) r x m
sequence-stays k l r w (stop {x} (inl (h, _))) = apart k l r x (last_within k l x h) w
sequence-stays k l r w (stop (inr h)) = stop h
sequence-stays k l r w (step {x} {y} (inl h) t) = apart k l r x (follow-from-within k l x y h) w
sequence-stays k l r w (step {x} {y} (inr (inl h)) t) = step h (sequence-stays k l r (follow-to-within (k + size l) r x y h) t)
sequence-stays k l r w (step {x} {y} (inr (inr (h, _))) t) = apart k l r x (last_within k l x h) w

-- The list m is joined of what may come after x in the left part, and a run of the right part.
abbrev Crosses : ℕ → Expression → Expression → ℕ → List ℕ → Type 0
Crosses k l r x m = (u : List ℕ) × (v : List ℕ) × (m ≡ u ++ v) × Rest k l x u × Run (k + size l) r v

crosses-after : {k : ℕ} {l r : Expression} {x y : ℕ} {m : List ℕ} → Follow k l x y → Crosses k l r y m → Crosses k l r x (y ∷ m)
crosses-after {y} h (u, v, e, i, j) = (y ∷ u, v, ap (λ (w : List ℕ). y ∷ w) e, step h i, j)

sequence-crosses : (k : ℕ) (l r : Expression) {x : ℕ} {m : List ℕ} → Within k l x → Rest k (sequence l r) x m → Crosses k l r x m
sequence-crosses k l r w (stop (inl (h, i))) = ([], [], refl, stop h, pass i)
sequence-crosses k l r w (stop {x} (inr h)) = apart k l r x w (last_within (k + size l) r x h)
sequence-crosses k l r w (step {x} {y} (inl h) t) = crosses-after h (sequence-crosses k l r (follow-to-within k l x y h) t)
sequence-crosses k l r w (step {x} {y} (inr (inl h)) t) = apart k l r x w (follow-from-within (k + size l) r x y h)
sequence-crosses k l r w (step {y} {m} (inr (inr (h, i))) t) =
    ([], y ∷ m, refl, stop h, start i (sequence-stays k l r (first-within (k + size l) r y i) t))

abbrev Joined : ℕ → Expression → Expression → List ℕ → Type 0
Joined k l r m = (u : List ℕ) × (v : List ℕ) × (m ≡ u ++ v) × Run k l u × Run (k + size l) r v

pub run-split : (k : ℕ) (l r : Expression) {m : List ℕ} → Run k (sequence l r) m → Joined k l r m
run-split k l r (pass (h, i)) = ([], [], refl, pass h, pass i)
run-split k l r (start {x} {m} (inl h) t) = go (sequence-crosses k l r (first-within k l x h) t)
  where
    go : Crosses k l r x m → Joined k l r (x ∷ m)
    go (u, v, e, i, j) = (x ∷ u, v, ap (λ (w : List ℕ). x ∷ w) e, start h i, j)
run-split k l r (start {x} {m} (inr (h, i)) t) =
    ([], x ∷ m, refl, pass h, start i (sequence-stays k l r (first-within (k + size l) r x i) t))

-- The list m is joined of what may come after x in a round of e, and more rounds.
abbrev Rounds : ℕ → Expression → ℕ → List ℕ → Type 0
Rounds k e x m = (u : List ℕ) × (v : List ℕ) × (m ≡ u ++ v) × Rest k e x u × Star (Run k e) v

rounds-after : {k : ℕ} {e : Expression} {x y : ℕ} {m : List ℕ} → Follow k e x y → Rounds k e y m → Rounds k e x (y ∷ m)
rounds-after {y} h (u, v, f, i, j) = (y ∷ u, v, ap (λ (w : List ℕ). y ∷ w) f, step h i, j)

rounds-begin : {k : ℕ} {e : Expression} {x : ℕ} {m : List ℕ} → First k e x → Rounds k e x m → Star (Run k e) (x ∷ m)
rounds-begin {x} h (u, v, f, i, j) = more (x ∷ u) v (ap (λ (w : List ℕ). x ∷ w) f) (start h i) j

star-rounds : (k : ℕ) (e : Expression) {x : ℕ} {m : List ℕ} → Rest k (star e) x m → Rounds k e x m
star-rounds k e (stop h) = ([], [], refl, stop h, none refl)
star-rounds k e (step (inl h) t) = rounds-after h (star-rounds k e t)
star-rounds k e (step {y} {m} (inr (h, i)) t) = ([], y ∷ m, refl, stop h, rounds-begin i (star-rounds k e t))

pub run-rounds : (k : ℕ) (e : Expression) {m : List ℕ} → Run k (star e) m → Star (Run k e) m
run-rounds k e (pass h) = none refl
run-rounds k e (start h t) = rounds-begin h (star-rounds k e t)

pub run-of-optional : (k : ℕ) (e : Expression) {m : List ℕ} → Run k (optional e) m → (m ≡ []) ⊎ Run k e m
run-of-optional k e (pass h) = inl refl
run-of-optional k e (start h t) = inr (start h (rest-into (λ y i. i) (λ y z i. i) t))
