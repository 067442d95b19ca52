-- A table with the entries from a place on replaced by given ones.
use Rattle.std.specs.Prelude.{ℕ, suc, ◌+◌, ◌≤◌, ◌<◌, List, [], ◌∷◌, ◌++◌, ◌≡◌, length, take, drop, set}
use Rattle.std.proofs.Common.{append_assoc, sym, ap, ap₂, ◌∙◌, add-zero, zero-add, add-one, one-add, arith, length-append, take-append-drop, take_at, drop_at, drop-drop, length-take-le}
use Rattle.std.proofs.lemmas.List.{set_split}
use Rattle.theory.specs.Places.{Member}
use Rattle.theory.specs.Automaton.{link}
use Rattle.theory.proofs.AutomatonLaws.{length-link}
use Rattle.syntax.specs.Link.{link-append, link-none}

-- The table t with the entries of s in its places from k on.
unfoldable pub splice : ℕ → List ℕ → List ℕ → List ℕ
splice k s t = take k t ++ (s ++ drop (k + length s) t)

pub splice-none : (k : ℕ) (t : List ℕ) → splice k [] t ≡ t
unfolding splice
splice-none k t = rw (add-zero k) (take-append-drop k t)

pub splice-one : (k x : ℕ) (t : List ℕ) → k < length t → splice k (x ∷ []) t ≡ set t k x
unfolding splice
splice-one k x t h = rw (add-one k) (sym (set_split t k x h))

-- Two pieces, one behind the other.
pub splice-splice : (k : ℕ) (a b t : List ℕ) → k + length a ≤ length t → splice (k + length a) b (splice k a t) ≡ splice k (a ++ b) t
unfolding splice
splice-splice k a b t h =
    let front : length (take k t ++ a) ≡ k + length a = length-append (take k t) a ∙ ap (λ n. n + length a) (length-take-le k t (omega arith)) in
    let whole : take k t ++ (a ++ drop (k + length a) t) ≡ (take k t ++ a) ++ drop (k + length a) t =
    sym (append_assoc (take k t) a (drop (k + length a) t)) in
    let before : take (k + length a) (take k t ++ (a ++ drop (k + length a) t)) ≡ take k t ++ a =
    ap (λ l. take (k + length a) l) whole ∙ take_at (take k t ++ a) (drop (k + length a) t) (k + length a) front in
    let rest : drop (k + length a) (take k t ++ (a ++ drop (k + length a) t)) ≡ drop (k + length a) t =
    ap (λ l. drop (k + length a) l) whole ∙ drop_at (take k t ++ a) (drop (k + length a) t) (k + length a) front in
    let after : drop (k + length a + length b) (take k t ++ (a ++ drop (k + length a) t)) ≡ drop (k + length a + length b) t =
    sym (drop-drop (length b) (k + length a) (take k t ++ (a ++ drop (k + length a) t)))
    ∙ ap (λ l. drop (length b) l) rest ∙ drop-drop (length b) (k + length a) t in
    let places : k + length a + length b ≡ k + length (a ++ b) = omega (arith, length-append a b) in
    ap₂ (λ x y. x ++ (b ++ y)) before after
    ∙ append_assoc (take k t) a (b ++ drop (k + length a + length b) t)
    ∙ ap (λ l. take k t ++ l) (sym (append_assoc a b (drop (k + length a + length b) t)))
    ∙ ap (λ n. take k t ++ ((a ++ b) ++ drop n t)) places

-- Links from places of the first piece.
pub splice-link : (ends more k : ℕ) (a b t : List ℕ) → k ≤ length t → ((x : ℕ) → Member x ends → (k ≤ x) × (x < k + length a))
    → link ends more 0 (splice k (a ++ b) t) ≡ splice k (link ends more k a ++ b) t
unfolding splice
splice-link ends more k a b t h within =
    let long : length (take k t) ≡ k = length-take-le k t h in
    let rest : List ℕ = drop (k + length (a ++ b)) t in
    link-append ends more 0 (take k t) ((a ++ b) ++ rest)
    ∙ ap₂ ◌++◌ (link-none ends more 0 (take k t) (λ x l u m. omega (arith, within x m)))
    (ap₂ (λ n l. link ends more n l) (zero-add (length (take k t)) ∙ long) (append_assoc a b rest)
    ∙ link-append ends more k a (b ++ rest)
    ∙ ap (λ l. link ends more k a ++ l) (link-none ends more (k + length a) (b ++ rest) (λ x l u m. omega (arith, within x m)))
    ∙ sym (append_assoc (link ends more k a) b rest)
    ∙ ap (λ n. (link ends more k a ++ b) ++ drop (k + n) t)
    (length-append a b ∙ ap (λ n. n + length b) (sym (length-link ends more k a)) ∙ sym (length-append (link ends more k a) b)))

-- An entry in front of a piece that begins at place 1.
pub splice_front : (x : ℕ) (a t : List ℕ) → 0 < length t → set (splice 1 a t) 0 x ≡ (x ∷ a) ++ drop (suc (length a)) t
unfolding splice
splice_front x a [] h = absurd (omega arith)
splice_front x a (y ∷ t) h = ap (λ n. x ∷ (a ++ drop n (y ∷ t))) (one-add (length a))
