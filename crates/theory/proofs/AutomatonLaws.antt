-- Glushkov's executable sets and tables (Automaton) hold exactly what the relations between occurrences (Positions, Standing) say.
use Rattle.std.specs.Prelude.{ℕ, zero, suc, ◌+◌, ◌-◌, ◌/◌, ◌^◌, ◌≤◌, ◌<◌, Bool, true, false, ◌||◌, ◌&&◌, not, List, [], ◌∷◌, ◌++◌, ◌↔◌, ◌⊎◌, ◌≡◌, refl, eqb, length, get_or}
use Rattle.std.proofs.lemmas.Bool.{false≢true, eqb-false}
use Rattle.std.proofs.Common.{inl, inr, sym, ap, ◌∙◌, subst, add-zero, one-add, arith, length-append, get_or-append-add, eqb-true, eq-eqb, ne_eqb}
use Rattle.std.proofs.Math.Logic.Iff
use Rattle.std.proofs.Math.Decide.{dec_lt}
use Rattle.std.proofs.Math.ListN.{get_or-append}
use Rattle.theory.specs.Path.{Label, Path}
use Rattle.theory.specs.Expression.{Expression, empty, label, alternative, sequence, star, optional}
use Rattle.theory.specs.Standing.{size, Labelled}
use Rattle.theory.specs.Positions.{Nullable, First, Last, Follow}
use Rattle.theory.specs.Occurrences.{first-within, last_within, labelled-within, follow-from-within, follow-to-within}
use Rattle.theory.specs.Chain.{FollowFrom, Final}
use Rattle.theory.specs.Places.{Member, member, one, intersection, when}
use Rattle.theory.specs.PlacesLaws.{member-suc, member-none, member-one, member-test, member_union, member-intersection, member-when}
use Rattle.theory.specs.PlacesLaws.{members-below, one_below, equal-members, not_none}
use Rattle.theory.specs.Automaton.{nullable, first, last, link, follows, labelled, Automaton, glushkov, nexts, step, standing_from}
use Rattle.theory.specs.Automaton.{standing, accepts}

-- The connectives of the sets' tests, and of statements that are equivalent part by part.

either : {A B C D : Type 0} → A ↔ C → B ↔ D → (A ⊎ B) ↔ (C ⊎ D)
either {A} {B} {C} {D} f g = (there, back)
  where
    there : A ⊎ B → C ⊎ D
    there (inl a) = inl (f.0 a)
    there (inr b) = inr (g.0 b)

    back : C ⊎ D → A ⊎ B
    back (inl c) = inl (f.1 c)
    back (inr d) = inr (g.1 d)

swap : {A B : Type 0} → (A × B) ↔ (B × A)
swap = (λ p. (p.1, p.0), λ p. (p.1, p.0))

or-true : (a b : Bool) → ((a || b) ≡ true) ↔ ((a ≡ true) ⊎ (b ≡ true))
or-true true b = (λ e. inl refl, λ e. refl)
or-true false b = (λ e. inr e, back)
  where
    back : (false ≡ true) ⊎ (b ≡ true) → b ≡ true
    back (inl e) = absurd (false≢true e)
    back (inr e) = e

and-true : (a b : Bool) → ((a && b) ≡ true) ↔ ((a ≡ true) × (b ≡ true))
and-true true b = (λ e. (refl, e), λ e. e.1)
and-true false b = (λ e. absurd (false≢true e), λ e. e.0)

-- The sets of an expression.

pub nullable-exactly : (e : Expression) → (nullable e ≡ true) ↔ Nullable e
unfolding nullable
nullable-exactly empty = (λ e. tt, λ e. refl)
nullable-exactly (label a) = (λ e. absurd (false≢true e), λ e. absurd e)
nullable-exactly (alternative l r) = Iff.trans (or-true (nullable l) (nullable r)) (either (nullable-exactly l) (nullable-exactly r))
nullable-exactly (sequence l r) = Iff.trans (and-true (nullable l) (nullable r)) (Iff.and (nullable-exactly l) (nullable-exactly r))
nullable-exactly (star e) = (λ e. tt, λ e. refl)
nullable-exactly (optional e) = (λ e. tt, λ e. refl)

pub member-first : (k : ℕ) (e : Expression) (x : ℕ) → Member x (first k e) ↔ First k e x
unfolding first
member-first k empty x = (λ m. absurd (member-none x m), λ f. absurd f)
member-first k (label a) x = member-one x k
member-first k (alternative l r) x =
    Iff.trans (member_union x (first k l) (first (k + size l) r)) (either (member-first k l x) (member-first (k + size l) r x))
member-first k (sequence l r) x =
    Iff.trans (member_union x (first k l) (when (nullable l) (first (k + size l) r)))
    (either (member-first k l x)
    (Iff.trans (member-when (nullable l) x (first (k + size l) r)) (Iff.and (nullable-exactly l) (member-first (k + size l) r x))))
member-first k (star e) x = member-first k e x
member-first k (optional e) x = member-first k e x

pub member-last : (k : ℕ) (e : Expression) (x : ℕ) → Member x (last k e) ↔ Last k e x
unfolding last
member-last k empty x = (λ m. absurd (member-none x m), λ f. absurd f)
member-last k (label a) x = member-one x k
member-last k (alternative l r) x =
    Iff.trans (member_union x (last k l) (last (k + size l) r)) (either (member-last k l x) (member-last (k + size l) r x))
member-last k (sequence l r) x =
    Iff.trans (member_union x (when (nullable r) (last k l)) (last (k + size l) r))
    (either (Iff.trans (member-when (nullable r) x (last k l)) (Iff.trans (Iff.and (nullable-exactly r) (member-last k l x)) swap))
    (member-last (k + size l) r x))
member-last k (star e) x = member-last k e x
member-last k (optional e) x = member-last k e x

pub member-labelled : (k : ℕ) (e : Expression) (a : Label) (x : ℕ) → Member x (labelled k e a) ↔ Labelled k e x a
unfolding labelled
member-labelled k empty a x = (λ m. absurd (member-none x m), λ f. absurd f)
member-labelled k (label b) a x =
    Iff.trans (member-when (eqb a b) x (one k)) (Iff.trans (Iff.and (eqb-true a b, eq-eqb a b) (member-one x k)) swap)
member-labelled k (alternative l r) a x =
    Iff.trans (member_union x (labelled k l a) (labelled (k + size l) r a)) (either (member-labelled k l a x) (member-labelled (k + size l) r a x))
member-labelled k (sequence l r) a x =
    Iff.trans (member_union x (labelled k l a) (labelled (k + size l) r a)) (either (member-labelled k l a x) (member-labelled (k + size l) r a x))
member-labelled k (star e) a x = member-labelled k e a x
member-labelled k (optional e) a x = member-labelled k e a x

-- The follow sets: a table with links added, and two tables behind one another.

pub length-link : (ends more k : ℕ) (t : List ℕ) → length (link ends more k t) ≡ length t
unfolding link
length-link ends more k [] = refl
length-link ends more k (s ∷ t) = ap suc (length-link ends more (suc k) t)

pub length-follows : (k : ℕ) (e : Expression) → length (follows k e) ≡ size e
unfolding follows
length-follows k empty = refl
length-follows k (label a) = refl
length-follows k (alternative l r) =
    omega (arith, length-append (follows k l) (follows (k + size l) r), length-follows k l, length-follows (k + size l) r)
length-follows k (sequence l r) =
    omega (
      arith,
      length-append (link (last k l) (first (k + size l) r) k (follows k l)) (follows (k + size l) r),
      length-link (last k l) (first (k + size l) r) k (follows k l),
      length-follows k l,
      length-follows (k + size l) r,
    )
length-follows k (star e) = length-link (last k e) (first k e) k (follows k e) ∙ length-follows k e
length-follows k (optional e) = length-follows k e

pub member-link : (ends more k : ℕ) (t : List ℕ) (i y : ℕ) → i < length t
    → Member y (get_or (link ends more k t) i 0) ↔ (Member y (get_or t i 0) ⊎ (Member (k + i) ends × Member y more))
unfolding link
member-link ends more k [] i y h = absurd (omega arith)
member-link ends more k (s ∷ t) zero y h =
    rw (add-zero k)
    (Iff.trans (member_union y s (when (member k ends) more))
    (either Iff.rfl (Iff.trans (member-when (member k ends) y more) (Iff.and (member-test k ends) Iff.rfl))))
member-link ends more k (s ∷ t) (suc i) y h =
    let e : k + suc i ≡ suc k + i = omega arith in
    rw e (member-link ends more (suc k) t i y (omega arith))

member-append : (s t : List ℕ) (n i y : ℕ) (L R : Type 0) → length s ≡ n → (L → i < n) → (R → n ≤ i)
    → (i < n → Member y (get_or s i 0) ↔ L) → ((j : ℕ) → i ≡ n + j → Member y (get_or t j 0) ↔ R)
    → Member y (get_or (s ++ t) i 0) ↔ (L ⊎ R)
member-append s t n i y L R e low high left right = go (dec_lt i n)
  where
    go : Dec (i < n) → Member y (get_or (s ++ t) i 0) ↔ (L ⊎ R)
    go (yes h) = (λ m. inl ((left h).0 (rw same at m)), back)
      where
        same : get_or (s ++ t) i 0 ≡ get_or s i 0
        same = get_or-append s t 0 i (omega arith)

        back : L ⊎ R → Member y (get_or (s ++ t) i 0)
        back (inl a) = rw same ((left h).1 a)
        back (inr b) = absurd (omega (arith, high b))
    go (no h) = (λ m. inr ((right (i - n) split).0 (rw same at m)), back)
      where
        split : i ≡ n + (i - n)
        split = omega arith

        same : get_or (s ++ t) i 0 ≡ get_or t (i - n) 0
        same =
            let at-end : i ≡ length s + (i - n) = omega arith in
            ap (λ (z : ℕ). get_or (s ++ t) z 0) at-end ∙ get_or-append-add s t (i - n) 0

        back : L ⊎ R → Member y (get_or (s ++ t) i 0)
        back (inl a) = absurd (omega (arith, low a))
        back (inr b) = rw same ((right (i - n) split).1 b)

regroup : {A B C : Type 0} → ((A ⊎ C) ⊎ B) ↔ (A ⊎ (B ⊎ C))
regroup {A} {B} {C} = (there, back)
  where
    there : (A ⊎ C) ⊎ B → A ⊎ (B ⊎ C)
    there (inl (inl a)) = inl a
    there (inl (inr c)) = inr (inr c)
    there (inr b) = inr (inl b)

    back : A ⊎ (B ⊎ C) → (A ⊎ C) ⊎ B
    back (inl a) = inl (inl a)
    back (inr (inl b)) = inr b
    back (inr (inr c)) = inl (inr c)

-- The occurrences of e, with links from its last ones to the set `more` of the places where M holds.

linked-range : (k : ℕ) (e : Expression) (i y : ℕ) (M : Type 0) → Follow k e (k + i) y ⊎ (Last k e (k + i) × M) → i < size e
linked-range k e i y M (inl f) = omega (arith, follow-from-within k e (k + i) y f)
linked-range k e i y M (inr f) = omega (arith, last_within k e (k + i) f.0)

linked : (k : ℕ) (e : Expression) (i y more : ℕ) (M : Type 0) → Member y more ↔ M → i < size e
    → Member y (get_or (follows k e) i 0) ↔ Follow k e (k + i) y
    → Member y (get_or (link (last k e) more k (follows k e)) i 0) ↔ (Follow k e (k + i) y ⊎ (Last k e (k + i) × M))
linked k e i y more M exactly h ih =
    Iff.trans (member-link (last k e) more k (follows k e) i y (omega (arith, length-follows k e)))
    (either ih (Iff.and (member-last k e (k + i)) exactly))

-- The entry j of the table of r, which stands behind n entries, is the entry i of the whole table.
behind : (k n : ℕ) (r : Expression) (i j y : ℕ) → i ≡ n + j → Member y (get_or (follows (k + n) r) j 0) ↔ Follow (k + n) r (k + n + j) y
    → Member y (get_or (follows (k + n) r) j 0) ↔ Follow (k + n) r (k + i) y
behind k n r i j y e m = subst (λ (z : ℕ). Member y (get_or (follows (k + n) r) j 0) ↔ Follow (k + n) r z y) (omega arith) m

pub member-follows : (k : ℕ) (e : Expression) (i y : ℕ) → i < size e → Member y (get_or (follows k e) i 0) ↔ Follow k e (k + i) y
unfolding follows
member-follows k empty i y h = absurd (omega arith)
member-follows k (label a) zero y h = (λ m. absurd (member-none y m), λ f. absurd f)
member-follows k (label a) (suc i) y h = absurd (omega arith)
member-follows k (alternative l r) i y h =
    member-append (follows k l) (follows (k + size l) r) (size l) i y (Follow k l (k + i) y) (Follow (k + size l) r (k + i) y)
    (length-follows k l)
    (λ f. omega (arith, follow-from-within k l (k + i) y f))
    (λ f. omega (arith, follow-from-within (k + size l) r (k + i) y f))
    (member-follows k l i y)
    (λ j e. behind k (size l) r i j y e (member-follows (k + size l) r j y (omega arith)))
member-follows k (sequence l r) i y h =
    Iff.trans
    (member-append (link (last k l) (first (k + size l) r) k (follows k l)) (follows (k + size l) r) (size l) i y
    (Follow k l (k + i) y ⊎ (Last k l (k + i) × First (k + size l) r y)) (Follow (k + size l) r (k + i) y)
    (length-link (last k l) (first (k + size l) r) k (follows k l) ∙ length-follows k l)
    (λ f. linked-range k l i y (First (k + size l) r y) f)
    (λ f. omega (arith, follow-from-within (k + size l) r (k + i) y f))
    (λ c. linked k l i y (first (k + size l) r) (First (k + size l) r y) (member-first (k + size l) r y) c (member-follows k l i y c))
    (λ j e. behind k (size l) r i j y e (member-follows (k + size l) r j y (omega arith))))
    regroup
member-follows k (star e) i y h = linked k e i y (first k e) (First k e y) (member-first k e y) h (member-follows k e i y h)
member-follows k (optional e) i y h = member-follows k e i y h

-- Every set is below 2 ^ (k + size e).

pub first_below : (k : ℕ) (e : Expression) → first k e < 2 ^ (k + size e)
first_below k e = members-below (k + size e) (first k e) (λ x m. (first-within k e x ((member-first k e x).0 m)).1)

-- A table's entry that has a member is in the table.
pub entry-within : (t : List ℕ) (x y : ℕ) → Member y (get_or t x 0) → x < length t
entry-within [] x y m = absurd (member-none y m)
entry-within (s ∷ t) zero y m = omega arith
entry-within (s ∷ t) (suc x) y m = omega (arith, entry-within t x y m)

pub follows-below : (k : ℕ) (e : Expression) (i : ℕ) → get_or (follows k e) i 0 < 2 ^ (k + size e)
follows-below k e i =
    members-below (k + size e) (get_or (follows k e) i 0) (λ y m.
    let h : i < size e = omega (arith, length-follows k e, entry-within (follows k e) i y m) in
    (follow-to-within k e (k + i) y ((member-follows k e i y h).0 m)).1)

-- The union of a table's entries at the places of a set.

pub member-nexts : (s : ℕ) (t : List ℕ) (y : ℕ) → Member y (nexts s t) ↔ ((x : ℕ) × (x < length t) × Member x s × Member y (get_or t x 0))
unfolding nexts
member-nexts s [] y = (λ m. absurd (member-none y m), λ m. absurd (omega arith))
member-nexts s (f ∷ t) y = (
  λ m. there (member-nexts (s / 2) t y).0 ((member_union y (when (member 0 s) f) (nexts (s / 2) t)).0 m),
  λ m. (member_union y (when (member 0 s) f) (nexts (s / 2) t)).1 (back (member-nexts (s / 2) t y).1 m.0 m.1 m.2 m.3),
)
  where
    there : (Member y (nexts (s / 2) t) → (x : ℕ) × (x < length t) × Member x (s / 2) × Member y (get_or t x 0))
        → Member y (when (member 0 s) f) ⊎ Member y (nexts (s / 2) t)
        → (x : ℕ) × (x < suc (length t)) × Member x s × Member y (get_or (f ∷ t) x 0)
    there ih (inl m) = let r = (member-when (member 0 s) y f).0 m in (0, omega arith, (member-test 0 s).0 r.0, r.1)
    there ih (inr m) = let r = ih m in (suc r.0, omega arith, (member-suc r.0 s).1 r.2, r.3)

    back : (((x : ℕ) × (x < length t) × Member x (s / 2) × Member y (get_or t x 0)) → Member y (nexts (s / 2) t))
        → (x : ℕ) → x < suc (length t) → Member x s → Member y (get_or (f ∷ t) x 0)
        → Member y (when (member 0 s) f) ⊎ Member y (nexts (s / 2) t)
    back ih zero h a b = inl ((member-when (member 0 s) y f).1 ((member-test 0 s).1 a, b))
    back ih (suc x) h a b = inr (ih (x, omega arith, (member-suc x s).0 a, b))

-- Only the entries at the places of the set count, and a missing entry counts as the empty set.
pub nexts-agree : (s : ℕ) (t u : List ℕ) → ((x : ℕ) → Member x s → get_or t x 0 ≡ get_or u x 0) → nexts s t ≡ nexts s u
nexts-agree s t u same = equal-members (nexts s t) (nexts s u) (λ y. (among t u same y, among u t (λ x m. sym (same x m)) y))
  where
    among : (t u : List ℕ) → ((x : ℕ) → Member x s → get_or t x 0 ≡ get_or u x 0) → (y : ℕ) → Member y (nexts s t) → Member y (nexts s u)
    among t u same y m =
        let r = (member-nexts s t y).0 m in
        let k : Member y (get_or u r.0 0) = subst (Member y) (same r.0 r.2) r.3 in
        (member-nexts s u y).1 (r.0, entry-within u r.0 y k, r.2, k)

-- The automaton. Place 0 is the start, which the first occurrences follow.

pub member-entry : (e : Expression) (x y : ℕ) → Member y (get_or (glushkov e).follow x 0) ↔ FollowFrom e x y
unfolding glushkov
member-entry e zero y = member-first 1 e y
member-entry e (suc i) y = (
  λ m. rw (one-add i) at ((member-follows 1 e i y (omega (arith, length-follows 1 e, entry-within (follows 1 e) i y m))).0 m),
  λ f. (member-follows 1 e i y (omega (arith, follow-from-within 1 e (suc i) y f))).1 (rw (one-add i) f),
)

pub member-enter : (e : Expression) (a : Label) (y : ℕ) → Member y ((glushkov e).enter a) ↔ Labelled 1 e y a
unfolding glushkov
member-enter e a y = member-labelled 1 e a y

pub member-step : (e : Expression) (s : ℕ) (a : Label) (y : ℕ)
    → Member y (step (glushkov e) s a) ↔ ((x : ℕ) × Member x s × FollowFrom e x y × Labelled 1 e y a)
unfolding step
member-step e s a y = (
  λ m.
      let p = (member-intersection y (nexts s (glushkov e).follow) ((glushkov e).enter a)).0 m in
      let r = (member-nexts s (glushkov e).follow y).0 p.0 in
      (r.0, r.2, (member-entry e r.0 y).0 r.3, (member-enter e a y).0 p.1),
  λ r.
      let k = (member-entry e r.0 y).1 r.2 in
      (member-intersection y (nexts s (glushkov e).follow) ((glushkov e).enter a)).1
      ((member-nexts s (glushkov e).follow y).1 (r.0, entry-within (glushkov e).follow r.0 y k, r.1, k), (member-enter e a y).1 r.3),
)

pub member-accepting : (e : Expression) (x : ℕ) → Member x (glushkov e).accepting ↔ Final e x
unfolding glushkov
member-accepting e x =
    Iff.trans (member_union x (when (nullable e) (one 0)) (last 1 e))
    (either (Iff.trans (member-when (nullable e) x (one 0)) (Iff.trans (Iff.and (nullable-exactly e) (member-one x 0)) swap)) (member-last 1 e x))

pub accepts-exactly : (A : Automaton) (s : ℕ) → (accepts A s ≡ true) ↔ ((x : ℕ) × Member x s × Member x A.accepting)
unfolding accepts
accepts-exactly A s = (λ e. there (eqb (intersection s A.accepting) 0) refl e, back)
  where
    there : (b : Bool) → eqb (intersection s A.accepting) 0 ≡ b → not b ≡ true → (x : ℕ) × Member x s × Member x A.accepting
    there true p e = absurd (false≢true e)
    there false p e =
        let r = not_none (intersection s A.accepting) (eqb-false (intersection s A.accepting) 0 p) in
        let m = (member-intersection r.0 s A.accepting).0 r.1 in
        (r.0, m.0, m.1)

    back : ((x : ℕ) × Member x s × Member x A.accepting) → not (eqb (intersection s A.accepting) 0) ≡ true
    back r =
        ap not (ne_eqb (intersection s A.accepting) 0 (λ z.
        member-none r.0 (subst (Member r.0) z ((member-intersection r.0 s A.accepting).1 (r.1, r.2)))))

-- Every standing is below 2 ^ suc (size e).

pub step-below : (e : Expression) (s : ℕ) (a : Label) → step (glushkov e) s a < 2 ^ suc (size e)
step-below e s a =
    members-below (suc (size e)) (step (glushkov e) s a)
    (λ y m. omega (arith, labelled-within 1 e y a ((member-step e s a y).0 m).3))

pub standing_from-below : (e : Expression) (s : ℕ) (p : Path) → s < 2 ^ suc (size e) → standing_from (glushkov e) s p < 2 ^ suc (size e)
unfolding standing_from
standing_from-below e s [] h = h
standing_from-below e s (a ∷ p) h = standing_from-below e (step (glushkov e) s a) p (step-below e s a)

pub standing-below : (e : Expression) (p : Path) → standing (glushkov e) p < 2 ^ suc (size e)
unfolding standing
standing-below e p = standing_from-below e (one 0) p (one_below (suc (size e)) 0 (omega arith))
