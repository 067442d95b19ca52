-- Glushkov's construction, part by part: what is built of an expression from what is built of its parts.
use Rattle.std.specs.Prelude.{ℕ, ◌+◌, ◌≤◌, ◌<◌, Bool, true, false, ◌≡◌, refl, eqb, length, get_or, set}
use Rattle.std.proofs.Math.Bool.{◌||◌, ◌&&◌}
use mathlib.Core.List.{List, [], ◌∷◌, ◌++◌, append-nil}
use Rattle.std.proofs.Common.{sym, ◌∙◌, add-zero, zero-add, arith}
use Rattle.std.proofs.Math.Path.{ap, ap₂}
use Rattle.theory.specs.Expression.{Expression, empty, label, alternative, sequence, star, optional}
use Rattle.theory.specs.Standing.{size}
use Rattle.theory.specs.Places.{Member, one, union, when}
use Rattle.theory.specs.Occurrences.{last_within}
use Rattle.theory.specs.Automaton.{nullable, first, last, link, follows, labelled}
use Rattle.theory.proofs.AutomatonLaws.{length-follows, member-last}
use Rattle.places.specs.declared.Places.{Places}
use Rattle.syntax.specs.declared.parts.Part.{Part}
use Rattle.syntax.specs.Part.{unit, single, either, both, ended}
use Rattle.syntax.specs.Byte.{Bytes, asterisk, question}
use Rattle.syntax.specs.Grammar.{Tree}
use Rattle.syntax.specs.Parser.{Parsed, parsed, suffixes}
use Rattle.syntax.specs.Resolve.{numbered}
use Rattle.syntax.specs.Splice.{splice, splice-none, splice-one, splice-splice, splice-link}
use Rattle.syntax.specs.Entered.{entered, entered-nothing, entered-same, entered-label, entered-both}
use Rattle.syntax.specs.Build.{Built, Marked, marked}

pub built-empty : (k at : ℕ) (follow enter : List ℕ) → Built k empty follow enter (unit at k) follow enter
unfolding nullable first last follows labelled
built-empty k at follow enter =
    record {
      next = sym (add-zero k);
      empty-path = refl;
      firsts = refl;
      lasts = refl;
      follow-sets = sym (splice-none k follow);
      enter-sets = sym (entered-nothing k empty 0 enter (λ b. refl));
    }

pub built-label : (k a at : ℕ) (p : Places) (follow enter : List ℕ) → p.0 ≡ one k → k < length follow
    → Built k (label a) follow enter (single at (k + 1) p) (set follow k 0) (set enter a (union (get_or enter a 0) (one k)))
unfolding nullable first last follows
built-label k a at p follow enter e h =
    record {
      next = refl;
      empty-path = refl;
      firsts = e;
      lasts = e;
      follow-sets = sym (splice-one k 0 follow h);
      enter-sets = sym (ap (λ b. entered k (label b) 0 enter) (sym (zero-add a)) ∙ entered-label k 0 a enter);
    }

module _ (k : ℕ) (l r : Expression) (follow enter : List ℕ) (p q : Part) (f₁ e₁ f₂ e₂ : List ℕ) (room : k + size l ≤ length follow)
    (left : Built k l follow enter p f₁ e₁) (right : Built p.next r f₁ e₁ q f₂ e₂) where
  right-next : q.next ≡ k + (size l + size r)
  right-next = right.next ∙ ap (λ n. n + size r) left.next ∙ omega arith

  right-first : q.first.0 ≡ first (k + size l) r
  right-first = right.firsts ∙ ap (λ n. first n r) left.next

  right-last : q.last.0 ≡ last (k + size l) r
  right-last = right.lasts ∙ ap (λ n. last n r) left.next

  both-follow : f₂ ≡ splice k (follows k l ++ follows (k + size l) r) follow
  both-follow =
      let long : k + length (follows k l) ≡ k + size l = ap (λ n. k + n) (length-follows k l) in
      right.follow-sets
      ∙ ap₂ (λ n t. splice n (follows n r) t) left.next left.follow-sets
      ∙ ap (λ n. splice n (follows (k + size l) r) (splice k (follows k l) follow)) (sym long)
      ∙ splice-splice k (follows k l) (follows (k + size l) r) follow (omega (arith, length-follows k l))

  both-enter : (e : Expression) → ((b : ℕ) → labelled k e b ≡ union (labelled k l b) (labelled (k + size l) r b)) → e₂ ≡ entered k e 0 enter
  both-enter e h =
      right.enter-sets ∙ ap₂ (λ n t. entered n r 0 t) left.next left.enter-sets ∙ entered-both k (k + size l) l r e 0 enter h

  pub built-alternative : Built k (alternative l r) follow enter (either p q) f₂ e₂
  unfolding nullable first last follows labelled
  built-alternative =
      record {
        next = right-next;
        empty-path = ap₂ ◌||◌ left.empty-path right.empty-path;
        firsts = ap₂ union left.firsts right-first;
        lasts = ap₂ union left.lasts right-last;
        follow-sets = both-follow;
        enter-sets = both-enter (alternative l r) (λ b. refl);
      }

  last-range : (x : ℕ) → Member x (last k l) → (k ≤ x) × (x < k + length (follows k l))
  last-range x m = let w = last_within k l x ((member-last k l x).0 m) in (w.0, omega (arith, length-follows k l))

  pub built-sequence : Built k (sequence l r) follow enter (both p q) (link p.last.0 q.first.0 0 f₂) e₂
  unfolding nullable first last follows labelled
  built-sequence =
      record {
        next = right-next;
        empty-path = ap₂ ◌&&◌ left.empty-path right.empty-path;
        firsts = ap₂ union left.firsts (ap₂ when left.empty-path right-first);
        lasts = ap₂ union (ap₂ when right.empty-path left.lasts) right-last;
        follow-sets =
            ap₂ (λ x y. link x y 0 f₂) left.lasts right-first ∙ ap (λ t. link (last k l) (first (k + size l) r) 0 t) both-follow
            ∙ splice-link (last k l) (first (k + size l) r) k (follows k l) (follows (k + size l) r) follow (omega arith) last-range;
        enter-sets = both-enter (sequence l r) (λ b. refl);
      }

-- Where a part ends in the text is no part of what is built.
pub built-ended : (k : ℕ) (e : Expression) (at : ℕ) (follow enter : List ℕ) (p : Part) (f₁ e₁ : List ℕ) → Built k e follow enter p f₁ e₁
    → Built k e follow enter (ended at p.nullable p) f₁ e₁
built-ended k e at follow enter p f₁ e₁ built =
    record {
      next = built.next;
      empty-path = built.empty-path;
      firsts = built.firsts;
      lasts = built.lasts;
      follow-sets = built.follow-sets;
      enter-sets = built.enter-sets;
    }

-- The marks after a part: `*` links the last places to the first.

module _ (k : ℕ) (e : Expression) (at : ℕ) (follow enter : List ℕ) (p : Part) (f₁ e₁ : List ℕ) (room : k ≤ length follow)
    (built : Built k e follow enter p f₁ e₁) where
  pub built-star : Built k (star e) follow enter (ended at true p) (link p.last.0 p.first.0 0 f₁) e₁
  unfolding nullable first last follows labelled
  built-star =
      record {
        next = built.next;
        empty-path = refl;
        firsts = built.firsts;
        lasts = built.lasts;
        follow-sets =
            ap₂ (λ x y. link x y 0 f₁) built.lasts built.firsts ∙ ap (λ t. link (last k e) (first k e) 0 t) linked
            ∙ splice-link (last k e) (first k e) k (follows k e) [] follow room range
            ∙ ap (λ t. splice k t follow) (append-nil (link (last k e) (first k e) k (follows k e)));
        enter-sets = built.enter-sets ∙ entered-same k e (star e) 0 enter (λ b. refl);
      }
    where
      linked : f₁ ≡ splice k (follows k e ++ []) follow
      linked = built.follow-sets ∙ ap (λ t. splice k t follow) (sym (append-nil (follows k e)))

      range : (x : ℕ) → Member x (last k e) → (k ≤ x) × (x < k + length (follows k e))
      range x m = let w = last_within k e x ((member-last k e x).0 m) in (w.0, omega (arith, length-follows k e))

  pub built-optional : Built k (optional e) follow enter (ended at true p) f₁ e₁
  unfolding nullable first last follows labelled
  built-optional =
      record {
        next = built.next;
        empty-path = refl;
        firsts = built.firsts;
        lasts = built.lasts;
        follow-sets = built.follow-sets;
        enter-sets = built.enter-sets ∙ entered-same k e (optional e) 0 enter (λ b. refl);
      }

same-tree : (t u : Tree) (r s : Bytes) → parsed t r ≡ parsed u s → t ≡ u
same-tree t u r s e = cc

same_rest : (t u : Tree) (r s : Bytes) → parsed t r ≡ parsed u s → r ≡ s
same_rest t u r s e = cc

-- What holds of the outcome of two tests in turn.
chosen : {A B : Type 0} (Q : A → Type 0) (R : B → Type 0) (x y : Bool) (a₁ a₂ a₃ : A) (b₁ b₂ b₃ : B)
    → R (elim x [ true ↦ b₁ | false ↦ elim y [ true ↦ b₂ | false ↦ b₃ ] ]) → (R b₁ → Q a₁) → (R b₂ → Q a₂) → (R b₃ → Q a₃)
    → Q (elim x [ true ↦ a₁ | false ↦ elim y [ true ↦ a₂ | false ↦ a₃ ] ])
chosen Q R true y a₁ a₂ a₃ b₁ b₂ b₃ r f g h = f r
chosen Q R false true a₁ a₂ a₃ b₁ b₂ b₃ r f g h = g r
chosen Q R false false a₁ a₂ a₃ b₁ b₂ b₃ r f g h = h r

pub built-suffixes : (labels : List Bytes) (k at : ℕ) (s : Bytes) (u t : Tree) (rest : Bytes) (follow enter : List ℕ) (p : Part) (f₁ e₁ : List ℕ)
    → k ≤ length follow → Built k (numbered labels u) follow enter p f₁ e₁ → suffixes u s ≡ parsed t rest
    → ((marked p.last.0 p.first.0 s p.nullable f₁).rest ≡ rest)
    × Built k (numbered labels t) follow enter (ended at (marked p.last.0 p.first.0 s p.nullable f₁).nullable p)
    (marked p.last.0 p.first.0 s p.nullable f₁).follow e₁
unfolding suffixes marked numbered
built-suffixes labels k at [] u t rest follow enter p f₁ e₁ room built e = (
  same_rest u t [] rest e,
  rw (same-tree u t [] rest e) at (built-ended k (numbered labels u) at follow enter p f₁ e₁ built),
)
built-suffixes labels k at (b ∷ s) u t rest follow enter p f₁ e₁ room built e =
    chosen
    (λ (m : Marked). (m.rest ≡ rest) × Built k (numbered labels t) follow enter (ended at m.nullable p) m.follow e₁)
    (λ (q : Parsed). q ≡ parsed t rest) (eqb b asterisk) (eqb b question)
    (marked p.last.0 p.first.0 s true (link p.last.0 p.first.0 0 f₁))
    (marked p.last.0 p.first.0 s true f₁)
    (record { nullable = p.nullable; follow = f₁; rest = b ∷ s })
    (suffixes (star u) s)
    (suffixes (optional u) s)
    (parsed u (b ∷ s))
    e
    (λ d. built-suffixes labels k at s (star u) t rest follow enter (ended at true p) (link p.last.0 p.first.0 0 f₁) e₁ room
    (built-star k (numbered labels u) at follow enter p f₁ e₁ room built) d)
    (λ d. built-suffixes labels k at s (optional u) t rest follow enter (ended at true p) f₁ e₁ room
    (built-optional k (numbered labels u) at follow enter p f₁ e₁ room built) d)
    (λ d. (
      same_rest u t (b ∷ s) rest d,
      rw (same-tree u t (b ∷ s) rest d) at (built-ended k (numbered labels u) at follow enter p f₁ e₁ built),
    ))
