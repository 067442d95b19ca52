-- Parts joined from the left, one after the other, are what they are joined from the right; so are the links between them.
use Rattle.std.specs.Prelude.{ℕ, zero, suc, ◌<◌, Bool, true, false, ◌&&◌, ◌⊎◌, ◌≡◌, length, take, drop}
use Rattle.std.proofs.Math.Bool.{or_assoc}
use mathlib.Core.List.{List, [], ◌∷◌, ◌++◌}
use Rattle.std.proofs.Common.{inl, inr, ⊎_elim, sym, ap, ◌∙◌, arith, take-append-drop}
use Rattle.std.proofs.Math.Path.{refl, ap₂}
use Rattle.std.specs.Int.Bits.{or_zero_r}
use Rattle.theory.specs.Places.{Member, member, none, union, when}
use Rattle.theory.specs.PlacesLaws.{member-test, member_union, member-when, equal-members}
use Rattle.theory.specs.Automaton.{link}
use Rattle.syntax.specs.declared.parts.Part.{Part}
use Rattle.syntax.specs.Part.{unit, nothing, either, both, same-part}
use Rattle.syntax.specs.Link.{drop-link, link-take}
use Rattle.syntax.specs.Entered.{union_assoc}

pub either-nothing : (at next : ℕ) (p : Part) → either (nothing at next) p ≡ p
either-nothing at next p = same-part (either (nothing at next) p) p refl refl refl refl refl

pub either-either : (p q r : Part) → either (either p q) r ≡ either p (either q r)
either-either p q r =
    same-part (either (either p q) r) (either p (either q r)) refl refl (or_assoc p.nullable q.nullable r.nullable)
    (union_assoc p.first.0 q.first.0 r.first.0) (union_assoc p.last.0 q.last.0 r.last.0)

pub both-unit : (at next : ℕ) (p : Part) → both (unit at next) p ≡ p
both-unit at next p = same-part (both (unit at next) p) p refl refl refl refl (ends p.nullable)
  where
    ends : (n : Bool) → union (when n none) p.last.0 ≡ p.last.0
    ends true = refl
    ends false = refl

pub both-both : (p q r : Part) → both (both p q) r ≡ both p (both q r)
both-both p q r =
    same-part (both (both p q) r) (both p (both q r)) refl refl (empty-path p.nullable q.nullable r.nullable)
    (firsts p.nullable p.first.0 q.nullable q.first.0 r.first.0)
    (lasts p.last.0 q.nullable q.last.0 r.nullable r.last.0)
  where
    empty-path : (l m n : Bool) → ((l && m) && n) ≡ (l && (m && n))
    empty-path true m n = refl
    empty-path false m n = refl

    firsts : (l : Bool) (a : ℕ) (m : Bool) (b c : ℕ) → union (union a (when l b)) (when (l && m) c) ≡ union a (when l (union b (when m c)))
    firsts true a m b c = union_assoc a b (when m c)
    firsts false a m b c = or_zero_r (union a none)

    lasts : (a : ℕ) (m : Bool) (b : ℕ) (n : Bool) (c : ℕ)
        → union (when n (union (when m a) b)) c ≡ union (when (m && n) a) (union (when n b) c)
    lasts a true b true c = union_assoc a b c
    lasts a true b false c = refl
    lasts a false b true c = refl
    lasts a false b false c = refl

-- The links out of two parts, joined from the left and from the right.
module _ (n : Bool) (a b more-a more-b : ℕ) where
  joined-entry : (k s : ℕ) → union (union s (when (member k a) more-a)) (when (member k (union (when n a) b)) more-b)
      ≡ union (union s (when (member k b) more-b)) (when (member k a) (union more-a (when n more-b)))
  joined-entry k s =
      equal-members (union (union s (when (member k a) more-a)) (when (member k (union (when n a) b)) more-b))
      (union (union s (when (member k b) more-b)) (when (member k a) (union more-a (when n more-b)))) (λ y. (there y, back y))
    where
      left_in : (y : ℕ) → Member y (union s (when (member k a) more-a)) ⊎ Member y (when (member k (union (when n a) b)) more-b)
          → Member y (union (union s (when (member k a) more-a)) (when (member k (union (when n a) b)) more-b))
      left_in y =
          (member_union y (union s (when (member k a) more-a)) (when (member k (union (when n a) b)) more-b)).1

      right-in : (y : ℕ) → Member y (union s (when (member k b) more-b)) ⊎ Member y (when (member k a) (union more-a (when n more-b)))
          → Member y (union (union s (when (member k b) more-b)) (when (member k a) (union more-a (when n more-b))))
      right-in y =
          (member_union y (union s (when (member k b) more-b)) (when (member k a) (union more-a (when n more-b)))).1

      there : (y : ℕ) → Member y (union (union s (when (member k a) more-a)) (when (member k (union (when n a) b)) more-b))
          → Member y (union (union s (when (member k b) more-b)) (when (member k a) (union more-a (when n more-b))))
      there y h =
          ⊎_elim
          (λ h₁. ⊎_elim (λ m. right-in y (inl ((member_union y s (when (member k b) more-b)).1 (inl m))))
          (λ m.
          let w = (member-when (member k a) y more-a).0 m in
          right-in y (inr ((member-when (member k a) y (union more-a (when n more-b))).1
          (w.0, (member_union y more-a (when n more-b)).1 (inl w.1)))))
          ((member_union y s (when (member k a) more-a)).0 h₁))
          (λ h₂.
          let w = (member-when (member k (union (when n a) b)) y more-b).0 h₂ in
          ⊎_elim
          (λ m.
          let v = (member-when n k a).0 m in
          right-in y (inr ((member-when (member k a) y (union more-a (when n more-b))).1
          ((member-test k a).1 v.1, (member_union y more-a (when n more-b)).1 (inr ((member-when n y more-b).1 (v.0, w.1)))))))
          (λ m. right-in y (inl ((member_union y s (when (member k b) more-b)).1
          (inr ((member-when (member k b) y more-b).1 ((member-test k b).1 m, w.1))))))
          ((member_union k (when n a) b).0 ((member-test k (union (when n a) b)).0 w.0)))
          ((member_union y (union s (when (member k a) more-a)) (when (member k (union (when n a) b)) more-b)).0 h)

      back : (y : ℕ) → Member y (union (union s (when (member k b) more-b)) (when (member k a) (union more-a (when n more-b))))
          → Member y (union (union s (when (member k a) more-a)) (when (member k (union (when n a) b)) more-b))
      back y h =
          ⊎_elim
          (λ h₁. ⊎_elim (λ m. left_in y (inl ((member_union y s (when (member k a) more-a)).1 (inl m))))
          (λ m.
          let w = (member-when (member k b) y more-b).0 m in
          left_in y (inr ((member-when (member k (union (when n a) b)) y more-b).1
          ((member-test k (union (when n a) b)).1 ((member_union k (when n a) b).1 (inr ((member-test k b).0 w.0))), w.1))))
          ((member_union y s (when (member k b) more-b)).0 h₁))
          (λ h₂.
          let w = (member-when (member k a) y (union more-a (when n more-b))).0 h₂ in
          ⊎_elim
          (λ m. left_in y (inl ((member_union y s (when (member k a) more-a)).1 (inr ((member-when (member k a) y more-a).1 (w.0, m))))))
          (λ m.
          let v = (member-when n y more-b).0 m in
          left_in y (inr ((member-when (member k (union (when n a) b)) y more-b).1 (
            (member-test k (union (when n a) b)).1
                ((member_union k (when n a) b).1 (inl ((member-when n k a).1 (v.0, (member-test k a).0 w.0)))),
            v.1,
          ))))
          ((member_union y more-a (when n more-b)).0 w.1))
          ((member_union y (union s (when (member k b) more-b)) (when (member k a) (union more-a (when n more-b)))).0 h)

  pub link-link : (k : ℕ) (t : List ℕ)
      → link (union (when n a) b) more-b k (link a more-a k t) ≡ link a (union more-a (when n more-b)) k (link b more-b k t)
  unfolding link
  link-link k [] = refl
  link-link k (s ∷ t) = ap₂ ◌∷◌ (joined-entry k s) (link-link (suc k) t)

-- The first j entries of the table a, and the others of the table b.
abbrev pub up_to : ℕ → List ℕ → List ℕ → List ℕ
up_to j a b = take j a ++ drop j b

pub length-up_to : (j : ℕ) (a b : List ℕ) → length a ≡ length b → length (up_to j a b) ≡ length a
length-up_to zero a b h = sym h
length-up_to (suc j) [] [] h = refl
length-up_to (suc j) [] (y ∷ b) h = absurd (omega arith)
length-up_to (suc j) (x ∷ a) [] h = absurd (omega arith)
length-up_to (suc j) (x ∷ a) (y ∷ b) h = ap suc (length-up_to j a b (omega arith))

pub take-up_to : (j : ℕ) (a b : List ℕ) → length a ≡ length b → take j (up_to j a b) ≡ take j a
take-up_to zero a b h = refl
take-up_to (suc j) [] [] h = refl
take-up_to (suc j) [] (y ∷ b) h = absurd (omega arith)
take-up_to (suc j) (x ∷ a) [] h = absurd (omega arith)
take-up_to (suc j) (x ∷ a) (y ∷ b) h = ap₂ ◌∷◌ refl (take-up_to j a b (omega arith))

pub drop-up_to : (j : ℕ) (a b : List ℕ) → length a ≡ length b → drop j (up_to j a b) ≡ drop j b
drop-up_to zero a b h = refl
drop-up_to (suc j) [] [] h = refl
drop-up_to (suc j) [] (y ∷ b) h = absurd (omega arith)
drop-up_to (suc j) (x ∷ a) [] h = absurd (omega arith)
drop-up_to (suc j) (x ∷ a) (y ∷ b) h = drop-up_to j a b (omega arith)

-- Links among the first j entries, in a table that has them there: they can be added after all else.
pub link-up_to : (ends more j : ℕ) (a b : List ℕ) → length a ≡ length b → take j b ≡ take j (link ends more 0 a)
    → ((x : ℕ) → Member x ends → x < j) → link ends more 0 (up_to j a b) ≡ b
link-up_to ends more j a b long same within =
    sym (take-append-drop j (link ends more 0 (up_to j a b)))
    ∙ ap₂ ◌++◌
    (link-take ends more 0 j (up_to j a b) ∙ ap (link ends more 0) (take-up_to j a b long) ∙ sym (link-take ends more 0 j a) ∙ sym same)
    (drop-link ends more j (up_to j a b) within ∙ drop-up_to j a b long)
    ∙ take-append-drop j b
