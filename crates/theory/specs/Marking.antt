-- Marked paths: every path of an expression has a marking that is a path of the marked expression, and what a path of the marked
-- expression reads is a path of the expression.
use Rattle.std.specs.Prelude.{ℕ, ◌+◌, List, [], ◌∷◌, ◌++◌, ◌⊎◌, ◌≡◌, refl}
use Rattle.std.proofs.Common.{inl, inr, sym, ap, subst}
use Rattle.theory.specs.Path.{Label, Path, Language}
use Rattle.theory.specs.Expression.{Expression, empty, label, alternative, sequence, star, optional, Star, none, more, IsPath}
use Rattle.theory.specs.Standing.{size, mark, Labelled, Reads, nothing, next}
use Rattle.theory.specs.Occurrences.{Within, left-within, right-within, apart, labelled-within}

-- P holds of every number of the list.
data Each (P : ℕ → Type 0) : List ℕ → Type 0 where
  nil : Each P []
  cons : {x : ℕ} {m : List ℕ} → P x → Each P m → Each P (x ∷ m)

each-into : {P Q : ℕ → Type 0} {m : List ℕ} → ((x : ℕ) → P x → Q x) → Each P m → Each Q m
each-into f nil = nil
each-into f (cons {x} w h) = cons (f x w) (each-into f h)

each_append : {P : ℕ → Type 0} {m n : List ℕ} → Each P m → Each P n → Each P (m ++ n)
each_append nil i = i
each_append (cons w h) i = cons w (each_append h i)

each-star : {P : ℕ → Type 0} {L : Language} {m : List ℕ} → ((u : List ℕ) → L u → Each P u) → Star L m → Each P m
each-star {P} f (none e) = subst (Each P) (sym e) nil
each-star {P} f (more u v e h s) = subst (Each P) (sym e) (each_append (f u h) (each-star f s))

-- A path of the marked expression has only its occurrences.
path-within : (k : ℕ) (e : Expression) (m : List ℕ) → IsPath (mark k e) m → Each (Within k e) m
path-within k empty m h = subst (Each (Within k empty)) (sym h) nil
path-within k (label a) m h = subst (Each (Within k (label a))) (sym h) (cons (labelled-within k (label a) k a (refl, refl)) nil)
path-within k (alternative l r) m (inl h) = each-into (left-within k l r) (path-within k l m h)
path-within k (alternative l r) m (inr h) = each-into (right-within k l r) (path-within (k + size l) r m h)
path-within k (sequence l r) m (u, v, e, h, i) =
    subst
    (Each (Within k (sequence l r)))
    (sym e)
    (each_append (each-into (left-within k l r) (path-within k l u h)) (each-into (right-within k l r) (path-within (k + size l) r v i)))
path-within k (star e) m h = each-star (path-within k e) h
path-within k (optional e) m (inl h) = subst (Each (Within k e)) (sym h) nil
path-within k (optional e) m (inr h) = path-within k e m h

-- Reading in a larger expression.
reads-into : {k k' : ℕ} {e e' : Expression} {m : List ℕ} {p : Path} → ((x : ℕ) (a : Label) → Labelled k e x a → Labelled k' e' x a) →
    Reads k e m p → Reads k' e' m p
reads-into f nothing = nothing
reads-into f (next {x} {a} h r) = next (f x a h) (reads-into f r)

reads-append : {k : ℕ} {e : Expression} {m n : List ℕ} {p q : Path} → Reads k e m p → Reads k e n q → Reads k e (m ++ n) (p ++ q)
reads-append nothing s = s
reads-append (next h r) s = next h (reads-append r s)

-- Reading by occurrences that all lie in a part is reading in that part.
reads-part : {k k' : ℕ} {e e' : Expression} {P : ℕ → Type 0} {m : List ℕ} {p : Path} →
    ((x : ℕ) (a : Label) → P x → Labelled k e x a → Labelled k' e' x a) → Each P m → Reads k e m p → Reads k' e' m p
reads-part f nil nothing = nothing
reads-part f (cons w h) (next {x} {a} l r) = next (f x a w l) (reads-part f h r)

-- What a joined list of occurrences reads is joined of what its parts read.
abbrev ReadsJoined : ℕ → Expression → List ℕ → List ℕ → Path → Type 0
ReadsJoined k e m n p = (q : Path) × (s : Path) × (p ≡ q ++ s) × Reads k e m q × Reads k e n s

reads-split : (k : ℕ) (e : Expression) (m n : List ℕ) (p : Path) → Reads k e (m ++ n) p → ReadsJoined k e m n p
reads-split k e [] n p r = ([], p, refl, nothing, r)
reads-split k e (x ∷ m) n p (next {a} h r) = go (reads-split k e m n _ r)
  where
    go : {p : Path} → ReadsJoined k e m n p → ReadsJoined k e (x ∷ m) n (a ∷ p)
    go (q, s, f, i, j) = (a ∷ q, s, ap (λ (t : Path). a ∷ t) f, next h i, j)

-- A marking of the path p that is a path of the marked expression.
abbrev Marked : ℕ → Expression → Path → Type 0
Marked k e p = (m : List ℕ) × Reads k e m p × IsPath (mark k e) m

marked_empty : (k : ℕ) (e : Expression) (p : Path) → p ≡ [] → IsPath (mark k e) [] → Marked k e p
marked_empty k e p h i = ([], subst (Reads k e []) (sym h) nothing, i)

marked-join : (k : ℕ) (e : Expression) (p u v : Path) (m n : List ℕ) → p ≡ u ++ v → Reads k e m u → Reads k e n v →
    IsPath (mark k e) (m ++ n) → Marked k e p
marked-join k e p u v m n h r s i = (m ++ n, subst (Reads k e (m ++ n)) (sym h) (reads-append r s), i)

marked-sequence : (k : ℕ) (l r : Expression) (p u v : Path) → p ≡ u ++ v → Marked k l u → Marked (k + size l) r v →
    Marked k (sequence l r) p
marked-sequence k l r p u v h (m, i, a) (n, j, b) =
    marked-join k (sequence l r) p u v m n h (reads-into (λ x c o. inl o) i) (reads-into (λ x c o. inr o) j) (m, n, refl, a, b)

marked-star : (k : ℕ) (e : Expression) {p : Path} → ((u : Path) → IsPath e u → Marked k e u) → Star (IsPath e) p → Marked k (star e) p
marked-star k e {p} f (none h) = marked_empty k (star e) p h (none refl)
marked-star k e {p} f (more u v h i s) = go (f u i) (marked-star k e f s)
  where
    go : Marked k e u → Marked k (star e) v → Marked k (star e) p
    go (m, r, a) (n, t, b) = marked-join k (star e) p u v m n h (reads-into (λ x c o. o) r) t (more m n refl a b)

-- Every path of an expression has a marking that is a path of the marked expression.
pub mark-path : (k : ℕ) (e : Expression) (p : Path) → IsPath e p → (m : List ℕ) × Reads k e m p × IsPath (mark k e) m
mark-path k empty p h = marked_empty k empty p h refl
mark-path k (label a) p h = (k ∷ [], subst (Reads k (label a) (k ∷ [])) (sym h) (next (refl, refl) nothing), refl)
mark-path k (alternative l r) p (inl h) = go (mark-path k l p h)
  where
    go : Marked k l p → Marked k (alternative l r) p
    go (m, i, j) = (m, reads-into (λ x a o. inl o) i, inl j)
mark-path k (alternative l r) p (inr h) = go (mark-path (k + size l) r p h)
  where
    go : Marked (k + size l) r p → Marked k (alternative l r) p
    go (m, i, j) = (m, reads-into (λ x a o. inr o) i, inr j)
mark-path k (sequence l r) p (u, v, h, i, j) = marked-sequence k l r p u v h (mark-path k l u i) (mark-path (k + size l) r v j)
mark-path k (star e) p h = marked-star k e (mark-path k e) h
mark-path k (optional e) p (inl h) = marked_empty k (optional e) p h (inl refl)
mark-path k (optional e) p (inr h) = go (mark-path k e p h)
  where
    go : Marked k e p → Marked k (optional e) p
    go (m, i, j) = (m, reads-into (λ x a o. o) i, inr j)

-- Of an alternative or a sequence, an occurrence of the left part reads what it reads there; likewise of the right part.
left-label : (k : ℕ) (l r : Expression) (x : ℕ) (a : Label) → Within k l x → Labelled k l x a ⊎ Labelled (k + size l) r x a →
    Labelled k l x a
left-label k l r x a w (inl h) = h
left-label k l r x a w (inr h) = apart k l r x w (labelled-within (k + size l) r x a h)

right-label : (k : ℕ) (l r : Expression) (x : ℕ) (a : Label) → Within (k + size l) r x →
    Labelled k l x a ⊎ Labelled (k + size l) r x a → Labelled (k + size l) r x a
right-label k l r x a w (inl h) = apart k l r x (labelled-within k l x a h) w
right-label k l r x a w (inr h) = h

-- No occurrences read the empty path, and the one occurrence of a label reads that label.
reads_nothing : {k : ℕ} {e : Expression} {p : Path} → Reads k e [] p → p ≡ []
reads_nothing nothing = refl

reads-label : {k x : ℕ} {a : Label} {p : Path} → Reads k (label a) (x ∷ []) p → p ≡ a ∷ []
reads-label (next (_, h) nothing) = ap (λ (b : Label). b ∷ []) h

unmark-empty : (k : ℕ) (e : Expression) (m : List ℕ) (p : Path) → Reads k e m p → m ≡ [] → p ≡ []
unmark-empty k e m p r h = reads_nothing (subst (λ (n : List ℕ). Reads k e n p) h r)

unmark-star : (k : ℕ) (e : Expression) (m : List ℕ) (p : Path) →
    ((n : List ℕ) (q : Path) → Reads k e n q → IsPath (mark k e) n → IsPath e q) → Reads k (star e) m p →
    Star (IsPath (mark k e)) m → Star (IsPath e) p
unmark-star k e m p f r (none h) = none (unmark-empty k (star e) m p r h)
unmark-star k e m p f r (more u v h i s) =
    let (q, t, g, a, b) = reads-split k (star e) u v p (subst (λ (n : List ℕ). Reads k (star e) n p) h r) in
    more q t g (f u q (reads-into (λ x c o. o) a) i) (unmark-star k e v t f b s)

-- What a path of the marked expression reads is a path of the expression.
pub unmark-path : (k : ℕ) (e : Expression) (m : List ℕ) (p : Path) → Reads k e m p → IsPath (mark k e) m → IsPath e p
unmark-path k empty m p r h = unmark-empty k empty m p r h
unmark-path k (label a) m p r h = reads-label (subst (λ (n : List ℕ). Reads k (label a) n p) h r)
unmark-path k (alternative l r) m p i (inl h) = inl (unmark-path k l m p (reads-part (left-label k l r) (path-within k l m h) i) h)
unmark-path k (alternative l r) m p i (inr h) =
    inr (unmark-path (k + size l) r m p (reads-part (right-label k l r) (path-within (k + size l) r m h) i) h)
unmark-path k (sequence l r) m p i (u, v, h, a, b) =
    let (q, t, g, c, d) = reads-split k (sequence l r) u v p (subst (λ (n : List ℕ). Reads k (sequence l r) n p) h i) in (
      q,
      t,
      g,
      unmark-path k l u q (reads-part (left-label k l r) (path-within k l u a) c) a,
      unmark-path (k + size l) r v t (reads-part (right-label k l r) (path-within (k + size l) r v b) d) b,
    )
unmark-path k (star e) m p r h = unmark-star k e m p (unmark-path k e) r h
unmark-path k (optional e) m p r (inl h) = inl (unmark-empty k (optional e) m p r h)
unmark-path k (optional e) m p r (inr h) = inr (unmark-path k e m p (reads-into (λ x a o. o) r) h)
