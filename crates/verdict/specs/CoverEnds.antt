-- What is reached from one cover place without reading a label (`ends` of Cover), said with Glushkov's relations: a list ends at an
-- occurrence that can be read last, or a list with the empty path is passed over.
use Rattle.std.specs.Prelude.{◌≡◌, ℕ, zero, suc, ◌+◌, ◌-◌, ◌*◌, ◌/◌, ◌%◌, ◌<◌, ◌≤◌, ◌⊎◌, ◌↔◌, List, [], ◌∷◌, map, length}
use Rattle.std.proofs.Common.{inl, inr, sym, ap, ◌∙◌, subst, add-zero, arith, le-leb, ne_eqb}
use Rattle.std.specs.Prelude.{refl}
use Rattle.std.proofs.Math.Nat.{mul-mod_right, mul-div_right}
use Rattle.std.proofs.lemmas.Bool.{lt-leb}
use Rattle.theory.specs.Expression.{Expression}
use Rattle.theory.specs.Standing.{size}
use Rattle.theory.specs.Places.{Member, member, one, when}
use Rattle.theory.specs.PlacesLaws.{member-none, member-one, member-test, member_union, member-when}
use Rattle.theory.specs.Occurrences.{last_within}
use Rattle.theory.specs.Chain.{Final}
use Rattle.theory.specs.Automaton.{Automaton, glushkov}
use Rattle.theory.proofs.AutomatonLaws.{member-accepting}
use Rattle.finding.specs.Rewritten.{Rewritten, next_state}
use Rattle.verdict.specs.Cover.{occurrences, width, passed, finished, ends}
use Rattle.verdict.specs.CoverPlaces.{list_at, base, offsets, numbered, size-exactly, offsets-exactly, offset-below, state-of}
use Rattle.verdict.specs.CoverPlaces.{offset-of, placed}

-- The set of the place n where the test of an accepting place holds.

ending_there : (e : Expression) (x n m : ℕ) → Member m (when (member x (glushkov e).accepting) (one n)) → Final e x × (m ≡ n)
ending_there e x n m h =
    let (t, k) = (member-when (member x (glushkov e).accepting) m (one n)).0 h in
    ((member-accepting e x).0 ((member-test x (glushkov e).accepting).0 t), (member-one m n).0 k)

ending-back : (e : Expression) (x n : ℕ) → Final e x → Member n (when (member x (glushkov e).accepting) (one n))
ending-back e x n f =
    (member-when (member x (glushkov e).accepting) n (one n)).1
    ((member-test x (glushkov e).accepting).1 ((member-accepting e x).1 f), (member-one n n).1 refl)

-- The lists that are passed over.

passed-there : (R : Rewritten) (w : ℕ) (es : List Expression) (u q m : ℕ) → Member m (passed R w (map glushkov es) u q)
    → (v : ℕ) × (v < length es) × (m ≡ w * next_state R q (u + v)) × Final (list_at es v) 0
unfolding passed
passed-there R w [] u q m h = absurd (member-none m h)
passed-there R w (e ∷ l) u q m h =
    side (passed-there R w l (suc u) q m)
    ((member_union m (when (member 0 (glushkov e).accepting) (one (w * next_state R q u))) (passed R w (map glushkov l) (suc u) q)).0 h)
  where
    side : (Member m (passed R w (map glushkov l) (suc u) q)
        → (v : ℕ) × (v < length l) × (m ≡ w * next_state R q (suc u + v)) × Final (list_at l v) 0)
        → Member m (when (member 0 (glushkov e).accepting) (one (w * next_state R q u))) ⊎ Member m (passed R w (map glushkov l) (suc u) q)
        → (v : ℕ) × (v < length (e ∷ l)) × (m ≡ w * next_state R q (u + v)) × Final (list_at (e ∷ l) v) 0
    side later (inl k) =
        let (f, g) = ending_there e 0 (w * next_state R q u) m k in
        (0, omega arith, g ∙ ap (λ (n : ℕ). w * next_state R q n) (sym (add-zero u)), f)
    side later (inr k) =
        let (v, i, g, f) = later k in
        (suc v, omega arith, g ∙ ap (λ (n : ℕ). w * next_state R q n) (omega arith), f)

passed-back : (R : Rewritten) (w : ℕ) (es : List Expression) (u q v : ℕ) → v < length es → Final (list_at es v) 0
    → Member (w * next_state R q (u + v)) (passed R w (map glushkov es) u q)
unfolding passed
passed-back R w [] u q v h f = absurd (omega arith)
passed-back R w (e ∷ l) u q zero h f =
    rw (add-zero u)
    ((member_union (w * next_state R q u) (when (member 0 (glushkov e).accepting) (one (w * next_state R q u)))
    (passed R w (map glushkov l) (suc u) q)).1 (inl (ending-back e 0 (w * next_state R q u) f)))
passed-back R w (e ∷ l) u q (suc v) h f =
    let same : u + suc v ≡ suc u + v = omega arith in
    rw same
    ((member_union (w * next_state R q (suc u + v)) (when (member 0 (glushkov e).accepting) (one (w * next_state R q u)))
    (passed R w (map glushkov l) (suc u) q)).1 (inr (passed-back R w l (suc u) q v (omega arith) f)))

-- The list that ends.

finished-here : (R : Rewritten) (w : ℕ) (B : Automaton) (l : List Automaton) (u o q : ℕ) → o ≤ occurrences B
    → finished R w (B ∷ l) u o q ≡ when (member o B.accepting) (one (w * next_state R q u))
unfolding finished
finished-here R w B l u o q h = rw (le-leb o (occurrences B) h, finished)

finished-later : (R : Rewritten) (w : ℕ) (B : Automaton) (l : List Automaton) (u o q : ℕ) → occurrences B < o
    → finished R w (B ∷ l) u o q ≡ finished R w l (suc u) (o - occurrences B) q
unfolding finished
finished-later R w B l u o q h = rw (lt-leb o (occurrences B) h, finished)

finished-at : (R : Rewritten) (w : ℕ) (es : List Expression) (u q v x : ℕ) → v < length es → x < size (list_at es v)
    → finished R w (map glushkov es) u (base es v + suc x) q
    ≡ when (member (suc x) (glushkov (list_at es v)).accepting) (one (w * next_state R q (u + v)))
finished-at R w [] u q v x h k = absurd (omega arith)
finished-at R w (e ∷ l) u q zero x h k =
    let here : 0 + suc x ≡ suc x = omega arith in
    let level : u + 0 ≡ u = omega arith in
    rw (here, level) (finished-here R w (glushkov e) (map glushkov l) u (suc x) q (omega (arith, size-exactly e)))
finished-at R w (e ∷ l) u q (suc v) x h k =
    let rest : size e + base l v + suc x - occurrences (glushkov e) ≡ base l v + suc x = omega (arith, size-exactly e) in
    let level : suc u + v ≡ u + suc v = omega arith in
    finished-later R w (glushkov e) (map glushkov l) u (size e + base l v + suc x) q (omega (arith, size-exactly e))
    ∙ ap (λ (o : ℕ). finished R w (map glushkov l) (suc u) o q) rest
    ∙ finished-at R w l (suc u) q v x (omega arith) k
    ∙ ap (λ (n : ℕ). when (member (suc x) (glushkov (list_at l v)).accepting) (one (w * next_state R q n))) level

-- From a state alone and from a state with an occurrence.

ends-alone : (R : Rewritten) (lists : List Automaton) (q : ℕ) → 0 < width lists
    → ends R lists (width lists * q) ≡ passed R (width lists) lists 0 q
unfolding ends
ends-alone R lists q h =
    let none : width lists * q % width lists ≡ 0 = mul-mod_right (width lists) q in
    let same : width lists * q / width lists ≡ q = mul-div_right q h in
    rw (none, same, ends)

ends-within : (R : Rewritten) (lists : List Automaton) (q o : ℕ) → 0 < o → o < width lists
    → ends R lists (width lists * q + o) ≡ finished R (width lists) lists 0 o q
unfolding ends
ends-within R lists q o h k =
    let some = offset-of (width lists) q o k in
    rw (ne_eqb ((width lists * q + o) % width lists) 0 (λ e. omega arith), ends) (rw (some, state-of (width lists) q o k))

-- `Ended es R n m`: a path of a list may end at the place n, and m is the state alone that the list leads to.
pub record Ended (es : List Expression) (R : Rewritten) (n m : ℕ) : Type 0 where
  pub state : ℕ
  pub list : ℕ
  pub place : ℕ
  pub inside : list < length es
  pub starts : n ≡ numbered es state list place
  pub stops : m ≡ offsets es * next_state R state list
  pub final : Final (list_at es list) place

module _ (es : List Expression) (R : Rewritten) where
  some-offset : 0 < offsets es
  some-offset = omega (arith, offsets-exactly es)

  alone-there : (q m : ℕ) → Member m (ends R (map glushkov es) (offsets es * q)) → Ended es R (offsets es * q) m
  alone-there q m h =
      let (v, l, e, f) = passed-there R (offsets es) es 0 q m (subst (Member m) (ends-alone R (map glushkov es) q some-offset) h) in
      record {
        state = q;
        list = v;
        place = 0;
        inside = l;
        starts = sym (add-zero (offsets es * q));
        stops = e ∙ ap (λ (n : ℕ). offsets es * next_state R q n) (omega arith);
        final = f;
      }

  within-there : (q v x m : ℕ) → v < length es → x < size (list_at es v) → Member m (ends R (map glushkov es) (numbered es q v (suc x)))
      → Ended es R (numbered es q v (suc x)) m
  within-there q v x m l k h =
      let same = ends-within R (map glushkov es) q (base es v + suc x) (omega arith) (offset-below es v (suc x) l k) in
      let (f, e) = ending_there (list_at es v) (suc x) (offsets es * next_state R q (0 + v)) m
      (subst (Member m) (same ∙ finished-at R (offsets es) es 0 q v x l k) h) in
      record {
        state = q;
        list = v;
        place = suc x;
        inside = l;
        starts = refl;
        stops = e ∙ ap (λ (n : ℕ). offsets es * next_state R q n) (omega arith);
        final = f;
      }

  pub ends-back : (q v x : ℕ) → v < length es → Final (list_at es v) x
      → Member (offsets es * next_state R q v) (ends R (map glushkov es) (numbered es q v x))
  ends-back q v zero l f =
      let same : ends R (map glushkov es) (offsets es * q + 0) ≡ passed R (offsets es) (map glushkov es) 0 q =
      ap (ends R (map glushkov es)) (add-zero (offsets es * q)) ∙ ends-alone R (map glushkov es) q some-offset in
      let list : 0 + v ≡ v = omega arith in
      subst (Member (offsets es * next_state R q v)) (sym same)
      (subst (λ (n : ℕ). Member (offsets es * next_state R q n) (passed R (offsets es) (map glushkov es) 0 q)) list
      (passed-back R (offsets es) es 0 q v l f))
  ends-back q v (suc x) l f =
      let k : x < size (list_at es v) = last f in
      let same = ends-within R (map glushkov es) q (base es v + suc x) (omega arith) (offset-below es v (suc x) l k) in
      let list : 0 + v ≡ v = omega arith in
      subst (Member (offsets es * next_state R q v)) (sym (same ∙ finished-at R (offsets es) es 0 q v x l k))
      (rw list (ending-back (list_at es v) (suc x) (offsets es * next_state R q v) f))
    where
      last : Final (list_at es v) (suc x) → x < size (list_at es v)
      last (inl g) = absurd (omega (arith, g.0))
      last (inr g) = omega (arith, last_within 1 (list_at es v) (suc x) g)

  pub ends-exactly : (n m : ℕ) → Member m (ends R (map glushkov es) n) ↔ Ended es R n m
  ends-exactly n m = (λ h. side (placed es n) h, back)
    where
      side : ((q : ℕ) × (n ≡ offsets es * q))
          ⊎ ((q : ℕ) × (v : ℕ) × (x : ℕ) × (v < length es) × (x < size (list_at es v)) × (n ≡ numbered es q v (suc x)))
          → Member m (ends R (map glushkov es) n) → Ended es R n m
      side (inl (q, e)) h =
          subst (λ (y : ℕ). Ended es R y m) (sym e) (alone-there q m (subst (λ (y : ℕ). Member m (ends R (map glushkov es) y)) e h))
      side (inr (q, v, x, l, k, e)) h =
          subst (λ (y : ℕ). Ended es R y m) (sym e) (within-there q v x m l k (subst (λ (y : ℕ). Member m (ends R (map glushkov es) y)) e h))

      back : Ended es R n m → Member m (ends R (map glushkov es) n)
      back r = rw (r.starts, r.stops) (ends-back r.state r.list r.place r.inside r.final)
