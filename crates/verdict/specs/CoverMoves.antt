-- What the step over a label does to one cover place (`moves` of Cover), said with Glushkov's relations: it enters a list at an occurrence
-- that can be read first, or moves within a list to an occurrence that can follow.
use Rattle.std.specs.Prelude.{◌≡◌, ℕ, zero, suc, ◌+◌, ◌-◌, ◌*◌, ◌/◌, ◌%◌, ◌^◌, ◌<◌, ◌≤◌, ◌⊎◌, ◌↔◌, List, [], ◌∷◌, map, length, slice_index}
use Rattle.std.proofs.Common.{inl, inr, sym, ap, ◌∙◌, subst, add-zero, arith, le-leb, ne_eqb}
use Rattle.std.proofs.Math.Logic.Iff
use Rattle.std.specs.Prelude.{refl}
use Rattle.std.proofs.Math.Nat.{mul-mod_right, mul-div_right}
use Rattle.std.proofs.lemmas.Bool.{lt-leb}
use Rattle.theory.specs.Path.{Label}
use Rattle.theory.specs.Expression.{Expression}
use Rattle.theory.specs.Standing.{size, Labelled}
use Rattle.theory.specs.Places.{Member, intersection}
use Rattle.theory.specs.PlacesLaws.{member-none, member_union, member-intersection}
use Rattle.theory.specs.Occurrences.{labelled-within, follow-from-within}
use Rattle.theory.specs.Chain.{FollowFrom}
use Rattle.theory.specs.Automaton.{Automaton, glushkov}
use Rattle.theory.proofs.AutomatonLaws.{member-entry, member-enter}
use Rattle.verdict.specs.Cover.{occurrences, width, entered, moved_within, moves}
use Rattle.theory.specs.PlacesShift.{member-moved}
use Rattle.verdict.specs.CoverPlaces.{list_at, base, offset, offsets, numbered, size-exactly, offsets-exactly, offset-below, state-of}
use Rattle.verdict.specs.CoverPlaces.{offset-of, placed, offset-occurrence}

-- The places of a list that a label leads to from its place x.
abbrev step_from : Expression → ℕ → Label → ℕ
step_from e x a = intersection (slice_index (glushkov e).follow x) ((glushkov e).enter a)

member-step_from : (e : Expression) (x : ℕ) (a : Label) (z : ℕ) → Member z (step_from e x a) ↔ (FollowFrom e x z × Labelled 1 e z a)
member-step_from e x a z =
    Iff.trans (member-intersection z (slice_index (glushkov e).follow x) ((glushkov e).enter a)) (Iff.and (member-entry e x z) (member-enter e a z))

-- The lists that a label enters.

abbrev Enters : List Expression → Label → ℕ → ℕ → ℕ → Type 0
Enters es a y v z = (v < length es) × (y ≡ base es v + z) × FollowFrom (list_at es v) 0 z × Labelled 1 (list_at es v) z a

entered-there : (es : List Expression) (b : ℕ) (a : Label) (y : ℕ) → Member y (entered (map glushkov es) b a)
    → (n : ℕ) × (v : ℕ) × (z : ℕ) × (y ≡ b + n) × Enters es a n v z
unfolding entered
entered-there [] b a y m = absurd (member-none y m)
entered-there (e ∷ l) b a y m =
    side (entered-there l (b + occurrences (glushkov e)) a y)
    ((member_union y (step_from e 0 a * 2 ^ b) (entered (map glushkov l) (b + occurrences (glushkov e)) a)).0 m)
  where
    side : (Member y (entered (map glushkov l) (b + occurrences (glushkov e)) a)
        → (n : ℕ) × (v : ℕ) × (z : ℕ) × (y ≡ b + occurrences (glushkov e) + n) × Enters l a n v z)
        → Member y (step_from e 0 a * 2 ^ b) ⊎ Member y (entered (map glushkov l) (b + occurrences (glushkov e)) a)
        → (n : ℕ) × (v : ℕ) × (z : ℕ) × (y ≡ b + n) × Enters (e ∷ l) a n v z
    side later (inl h) =
        let (z, f, k) = (member-moved b y (step_from e 0 a)).0 h in
        (z, 0, z, f, (omega arith, omega arith, ((member-step_from e 0 a z).0 k).0, ((member-step_from e 0 a z).0 k).1))
    side later (inr h) =
        let (n, v, z, f, (i, g, c, d)) = later h in
        (size e + n, suc v, z, omega (arith, size-exactly e), (omega arith, omega arith, c, d))

entered-back : (es : List Expression) (b : ℕ) (a : Label) (v z : ℕ) → v < length es → FollowFrom (list_at es v) 0 z
    → Labelled 1 (list_at es v) z a → Member (b + (base es v + z)) (entered (map glushkov es) b a)
unfolding entered
entered-back [] b a v z h c d = absurd (omega arith)
entered-back (e ∷ l) b a zero z h c d =
    (member_union (b + (0 + z)) (step_from e 0 a * 2 ^ b) (entered (map glushkov l) (b + occurrences (glushkov e)) a)).1
    (inl ((member-moved b (b + (0 + z)) (step_from e 0 a)).1 (z, omega arith, (member-step_from e 0 a z).1 (c, d))))
entered-back (e ∷ l) b a (suc v) z h c d =
    let same : b + occurrences (glushkov e) + (base l v + z) ≡ b + (size e + base l v + z) = omega (arith, size-exactly e) in
    (member_union (b + (size e + base l v + z)) (step_from e 0 a * 2 ^ b) (entered (map glushkov l) (b + occurrences (glushkov e)) a)).1
    (inr (subst (λ (y : ℕ). Member y (entered (map glushkov l) (b + occurrences (glushkov e)) a)) same
    (entered-back l (b + occurrences (glushkov e)) a v z (omega arith) c d)))

-- The move within a list.

moved_here : (B : Automaton) (l : List Automaton) (b o : ℕ) (a : Label) → o ≤ occurrences B
    → moved_within (B ∷ l) b o a ≡ intersection (slice_index B.follow o) (B.enter a) * 2 ^ b
unfolding moved_within
moved_here B l b o a h = rw (le-leb o (occurrences B) h, moved_within)

moved_later : (B : Automaton) (l : List Automaton) (b o : ℕ) (a : Label) → occurrences B < o
    → moved_within (B ∷ l) b o a ≡ moved_within l (b + occurrences B) (o - occurrences B) a
unfolding moved_within
moved_later B l b o a h = rw (lt-leb o (occurrences B) h, moved_within)

moved_at : (es : List Expression) (b : ℕ) (a : Label) (v x : ℕ) → v < length es → x < size (list_at es v)
    → moved_within (map glushkov es) b (base es v + suc x) a ≡ step_from (list_at es v) (suc x) a * 2 ^ (b + base es v)
moved_at [] b a v x h k = absurd (omega arith)
moved_at (e ∷ l) b a zero x h k =
    let here : 0 + suc x ≡ suc x = omega arith in
    let level : b + 0 ≡ b = omega arith in
    rw (here, level) (moved_here (glushkov e) (map glushkov l) b (suc x) a (omega (arith, size-exactly e)))
moved_at (e ∷ l) b a (suc v) x h k =
    let rest : size e + base l v + suc x - occurrences (glushkov e) ≡ base l v + suc x = omega (arith, size-exactly e) in
    let level : b + occurrences (glushkov e) + base l v ≡ b + (size e + base l v) = omega (arith, size-exactly e) in
    moved_later (glushkov e) (map glushkov l) b (size e + base l v + suc x) a (omega (arith, size-exactly e))
    ∙ ap (λ (o : ℕ). moved_within (map glushkov l) (b + occurrences (glushkov e)) o a) rest
    ∙ moved_at l (b + occurrences (glushkov e)) a v x (omega arith) k
    ∙ ap (λ (n : ℕ). step_from (list_at l v) (suc x) a * 2 ^ n) level

-- The step over a label, from a state alone and from a state with an occurrence.

moves-alone : (lists : List Automaton) (a : Label) (q : ℕ) → 0 < width lists
    → moves lists a (width lists * q) ≡ entered lists 0 a * 2 ^ (width lists * q)
unfolding moves
moves-alone lists a q h =
    let none : width lists * q % width lists ≡ 0 = mul-mod_right (width lists) q in
    let same : width lists * q / width lists ≡ q = mul-div_right q h in
    rw (none, same, moves)

moves-within : (lists : List Automaton) (a : Label) (q o : ℕ) → 0 < o → o < width lists
    → moves lists a (width lists * q + o) ≡ moved_within lists 0 o a * 2 ^ (width lists * q)
unfolding moves
moves-within lists a q o h k =
    let some = offset-of (width lists) q o k in
    rw (ne_eqb ((width lists * q + o) % width lists) 0 (λ e. omega arith), moves) (rw (some, state-of (width lists) q o k))

-- `Moved es a n m`: the label a leads from the place n to the place m, which are two places of one list with one state.
pub record Moved (es : List Expression) (a : Label) (n m : ℕ) : Type 0 where
  pub state : ℕ
  pub list : ℕ
  pub from : ℕ
  pub to : ℕ
  pub inside : list < length es
  pub starts : n ≡ numbered es state list from
  pub stops : m ≡ numbered es state list to
  pub follows : FollowFrom (list_at es list) from to
  pub reads : Labelled 1 (list_at es list) to a

module _ (es : List Expression) (a : Label) where
  some-offset : 0 < offsets es
  some-offset = omega (arith, offsets-exactly es)

  stop-at : (q v z m : ℕ) → Labelled 1 (list_at es v) z a → m ≡ offsets es * q + (base es v + z) → m ≡ numbered es q v z
  stop-at q v z m d e =
      let (l, h) = labelled-within 1 (list_at es v) z a d in
      e ∙ ap (λ (o : ℕ). offsets es * q + o) (sym (offset-occurrence es v z l))

  alone-there : (q m : ℕ) → Member m (moves (map glushkov es) a (offsets es * q)) → Moved es a (offsets es * q) m
  alone-there q m h =
      let k : Member m (entered (map glushkov es) 0 a * 2 ^ (offsets es * q)) =
      subst (Member m) (moves-alone (map glushkov es) a q some-offset) h in
      let (y, e, i) = (member-moved (offsets es * q) m (entered (map glushkov es) 0 a)).0 k in
      let (n, v, z, f, (j, g, c, d)) = entered-there es 0 a y i in
      record {
        state = q;
        list = v;
        from = 0;
        to = z;
        inside = j;
        starts = sym (add-zero (offsets es * q));
        stops = stop-at q v z m d (omega arith);
        follows = c;
        reads = d;
      }

  within-there : (q v x m : ℕ) → v < length es → x < size (list_at es v) → Member m (moves (map glushkov es) a (numbered es q v (suc x)))
      → Moved es a (numbered es q v (suc x)) m
  within-there q v x m l k h =
      let same = moves-within (map glushkov es) a q (base es v + suc x) (omega arith) (offset-below es v (suc x) l k) in
      let (y, e, i) = (member-moved (offsets es * q) m (moved_within (map glushkov es) 0 (base es v + suc x) a)).0 (subst (Member m) same h) in
      let (z, f, j) = (member-moved (0 + base es v) y (step_from (list_at es v) (suc x) a)).0 (subst (Member y) (moved_at es 0 a v x l k) i) in
      let (c, d) = (member-step_from (list_at es v) (suc x) a z).0 j in
      record {
        state = q;
        list = v;
        from = suc x;
        to = z;
        inside = l;
        starts = refl;
        stops = stop-at q v z m d (omega arith);
        follows = c;
        reads = d;
      }

  pub moves-back : (q v x z : ℕ) → v < length es → FollowFrom (list_at es v) x z → Labelled 1 (list_at es v) z a
      → Member (numbered es q v z) (moves (map glushkov es) a (numbered es q v x))
  moves-back q v zero z l c d =
      let (some, h) = labelled-within 1 (list_at es v) z a d in
      let same : moves (map glushkov es) a (offsets es * q + 0) ≡ entered (map glushkov es) 0 a * 2 ^ (offsets es * q) =
      ap (moves (map glushkov es) a) (add-zero (offsets es * q)) ∙ moves-alone (map glushkov es) a q some-offset in
      let entry : Member (offset es v z) (entered (map glushkov es) 0 a) =
      subst (λ (y : ℕ). Member y (entered (map glushkov es) 0 a)) (omega (arith, offset-occurrence es v z some))
      (entered-back es 0 a v z l c d) in
      subst (Member (numbered es q v z)) (sym same)
      ((member-moved (offsets es * q) (numbered es q v z) (entered (map glushkov es) 0 a)).1 (offset es v z, refl, entry))
  moves-back q v (suc x) z l c d =
      let (some, h) = labelled-within 1 (list_at es v) z a d in
      let k : x < size (list_at es v) = omega (arith, follow-from-within 1 (list_at es v) (suc x) z c) in
      let same = moves-within (map glushkov es) a q (base es v + suc x) (omega arith) (offset-below es v (suc x) l k) in
      let move : Member (offset es v z) (moved_within (map glushkov es) 0 (base es v + suc x) a) =
      subst (Member (offset es v z)) (sym (moved_at es 0 a v x l k))
      ((member-moved (0 + base es v) (offset es v z) (step_from (list_at es v) (suc x) a)).1
      (z, omega (arith, offset-occurrence es v z some), (member-step_from (list_at es v) (suc x) a z).1 (c, d))) in
      subst (Member (numbered es q v z)) (sym same)
      ((member-moved (offsets es * q) (numbered es q v z) (moved_within (map glushkov es) 0 (base es v + suc x) a)).1
      (offset es v z, refl, move))

  pub moves-exactly : (n m : ℕ) → Member m (moves (map glushkov es) a n) ↔ Moved es a n m
  moves-exactly n m = (λ h. side (placed es n) h, back)
    where
      side : ((q : ℕ) × (n ≡ offsets es * q))
          ⊎ ((q : ℕ) × (v : ℕ) × (x : ℕ) × (v < length es) × (x < size (list_at es v)) × (n ≡ numbered es q v (suc x)))
          → Member m (moves (map glushkov es) a n) → Moved es a n m
      side (inl (q, e)) h =
          subst (λ (y : ℕ). Moved es a y m) (sym e) (alone-there q m (subst (λ (y : ℕ). Member m (moves (map glushkov es) a y)) e h))
      side (inr (q, v, x, l, k, e)) h =
          subst (λ (y : ℕ). Moved es a y m) (sym e) (within-there q v x m l k (subst (λ (y : ℕ). Member m (moves (map glushkov es) a y)) e h))

      back : Moved es a n m → Member m (moves (map glushkov es) a n)
      back r = rw (r.starts, r.stops) (moves-back r.state r.list r.from r.to r.inside r.follows r.reads)
