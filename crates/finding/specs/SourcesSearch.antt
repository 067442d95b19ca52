-- How a turn keeps what the search from all standings holds (Sources, Searching), and what it has found at the end.
use Rattle.std.specs.Prelude.{◌≡◌, ℕ, ◌+◌, ◌-◌, ◌*◌, ◌^◌, ◌<◌, ◌≢◌, ◌⊎◌, List, ◌++◌, length, drop, replicate, bit_and, slice_index, slice_set}
use Rattle.std.proofs.Common.{inl, inr, sym, ◌∙◌, subst, arith, get_or-set_same, ext_get_or}
use Rattle.std.proofs.Math.Decide.{ℕ_discrete, dec_lt}
use Rattle.std.specs.Int.Bits.{and_le_r}
use Rattle.std.specs.Int.Count.{count_trailing_zeros}
use Rattle.std.proofs.lemmas.List.{length-replicate, get_or-replicate}
use Rattle.std.proofs.Math.ListN.{get_or-eq_default}
use Rattle.theory.specs.Places.{Member, one, union, intersection}
use Rattle.theory.specs.PlacesLaws.{member-none, member-one, member_union, no-members}
use Rattle.theory.specs.Closure.{Reaches, here, onward}
use Rattle.theory.specs.ClosureLaws.{reaches-trans, closed-under}
use Rattle.places.specs.NextPlace.{trailing-here}
use Rattle.places.specs.Followed.{least-left}
use Rattle.finding.specs.ImageSearch.{Tables, Onward}
use Rattle.finding.specs.MoveTable.{same_place, row_within}
use Rattle.finding.specs.Padded.{cleared-zero}
use Rattle.finding.specs.Sources.{sources_of, Sources, sources, left, Followed, Labelled, OnwardBelow, Begun, Searching, Searched}
use Rattle.finding.specs.SourcesLaws.{Written, written, reaches-map}

-- The standings become sources of themselves one by one, where all words were cleared before.

pub begun-none : (w n : ℕ) (from : List ℕ) → Begun w 0 n (replicate (w * n) 0 ++ drop (w * n) from) 0
begun-none w n from =
    record {
      start = λ i h. absurd (omega arith);
      only = λ v i h l m.
          absurd (member-none i (subst (Member i) (cleared-zero (w * n) (w * v.1 + v.0) from (omega (arith, row_within w v.1 n l))) m));
      all = λ s. (λ m. absurd (member-none s m), λ h. absurd (omega arith));
    }

pub begun_more : (w i n : ℕ) (from : List ℕ) (first : ℕ) → i < w → i < length from → Begun w i n from first
    → Begun w (i + 1) n (slice_set from i (one i)) (union first (one i))
begun_more w i n from first small room b =
    record {
      start = λ j h. start j h (written from i (one i) (w * 0 + j) room);
      only = λ v j h l m. only v j h l m (written from i (one i) (w * v.1 + v.0) room);
      all = λ s. (λ m. within s ((member_union s first (one i)).0 m), λ h. (member_union s first (one i)).1 (all s h (ℕ_discrete s i)));
    }
  where
    start : (j : ℕ) → j < i + 1
        → Written from i (one i) (w * 0 + j)
        → Member j (slice_index (slice_set from i (one i)) (w * 0 + j))
    start j h (inl (e, f)) = subst (Member j) (sym f) ((member-one j i).1 (omega arith))
    start j h (inr (e, f)) = subst (Member j) (sym f) (b.start j (omega arith))

    only : (v : ℕ × ℕ) (j : ℕ) → v.0 < w → v.1 < n → Member j (slice_index (slice_set from i (one i)) (w * v.1 + v.0))
        → Written from i (one i) (w * v.1 + v.0)
        → (v.1 ≡ 0) × (v.0 ≡ j) × (j < i + 1)
    only v j h l m (inl (e, f)) =
        let q = (member-one j i).0 (subst (Member j) f m) in
        let c = same_place w v.1 v.0 0 i h small (omega arith) in
        (c.0, c.1 ∙ sym q, omega arith)
    only v j h l m (inr (e, f)) = let (p, q, r) = b.only v j h l (subst (Member j) f m) in (p, q, omega arith)

    all : (s : ℕ) → s < i + 1 → Dec (s ≡ i) → Member s first ⊎ Member s (one i)
    all s h (yes e) = inr ((member-one s i).1 e)
    all s h (no e) = inl ((b.all s).1 (omega arith))

    within : (s : ℕ) → Member s first ⊎ Member s (one i) → s < i + 1
    within s (inl m) = omega (arith, (b.all s).0 m)
    within s (inr m) = omega (arith, (member-one s i).0 m)

-- The search begins with the standings pending at the list's start.

zeros : (n j : ℕ) → ◌≡◌ {A = ℕ} (slice_index (replicate n 0) j) 0
zeros n j = go (dec_lt j n)
  where
    go : Dec (j < n) → ◌≡◌ {A = ℕ} (slice_index (replicate n 0) j) 0
    go (yes l) = get_or-replicate n j 0 0 l
    go (no l) = get_or-eq_default (replicate n 0) 0 (omega (arith, length-replicate {A = ℕ} n 0))

pub searching-first : (D : Tables) (n slots : ℕ) (from : List ℕ) (first : ℕ) → 0 < n → 0 < slots
    → Begun D.count D.count n from first → Searching D n (sources from (slice_set (replicate slots 0) 0 first) 1)
searching-first D n slots from first some room b =
    record {
      start = b.start;
      sound = λ v i h l m. sound v i (b.only v i h l m);
      closed = λ u h l. closed u h l (ℕ_discrete u.1 0);
      waits = λ q s m. waits q s m (written (replicate slots 0) 0 first q there);
      below = λ q m. subst (λ z. z < n) (sym ((member-one q 0).0 m)) some;
    }
  where
    there : 0 < length (replicate {A = ℕ} slots 0)
    there = omega (arith, length-replicate {A = ℕ} slots 0)

    sound : (v : ℕ × ℕ) (i : ℕ) → (v.1 ≡ 0) × (v.0 ≡ i) × (i < D.count) → (i < D.count) × Reaches (Onward D) (i, 0) v
    sound v i (e, f, l) = (l, subst (λ (u : ℕ × ℕ). Reaches (Onward D) (i, 0) u) (λ k. (sym f k, sym e k)) here)

    closed : (u : ℕ × ℕ) → u.0 < D.count → u.1 < n → Dec (u.1 ≡ 0)
        → Member u.0 (slice_index (slice_set (replicate slots 0) 0 first) u.1)
        ⊎ ((v : ℕ × ℕ) (i : ℕ) → OnwardBelow D n u v → Member i (sources_of D.count from u) → Member i (sources_of D.count from v))
    closed u h l (yes e) =
        inl (subst (λ z. Member u.0 (slice_index (slice_set (replicate slots 0) 0 first) z)) (sym e)
        (subst (Member u.0) (sym (get_or-set_same (replicate slots 0) 0 first 0 there)) ((b.all u.0).1 h)))
    closed u h l (no e) = inr (λ v i o m. absurd (e (b.only u i h l m).0))

    waits : (q s : ℕ) → Member s (slice_index (slice_set (replicate slots 0) 0 first) q)
        → Written (replicate slots 0) 0 first q
        → Member q 1 × (s < D.count)
    waits q s m (inl (e, f)) = ((member-one q 0).1 e, (b.all s).0 (subst (Member s) f m))
    waits q s m (inr (e, f)) = absurd (member-none s (subst (Member s) (f ∙ zeros slots q) m))

-- A turn: the least waiting place is taken, with the standings pending at it, and the labels are followed.

-- The steps of a turn are steps of the list with the standings.

labelled-onward : (D : Tables) (n p : ℕ) (Taken : ℕ → Type 0) (u v : ℕ × ℕ)
    → Labelled D.moves D.count D.follow D.enter n p Taken D.labels u v → (u.1 ≡ p) × OnwardBelow D n u v
labelled-onward D n p Taken u v (a, l, (e, t, (m, k), o, b)) = (
  e,
  (
    record {
      label = a;
      below = l;
      moved = o;
      inside = b;
      enters = subst (λ z. Member v.1 (intersection (slice_index D.follow z) (slice_index D.enter a))) (sym e) m;
    },
    k,
  ),
)

onward-labelled : (D : Tables) (n p : ℕ) (Taken : ℕ → Type 0) (u v : ℕ × ℕ) → u.1 ≡ p → Taken u.0 → OnwardBelow D n u v
    → Labelled D.moves D.count D.follow D.enter n p Taken D.labels u v
onward-labelled D n p Taken u v e t (o, k) = (
  o.label,
  o.below,
  (
    e,
    t,
    (subst (λ z. Member v.1 (intersection (slice_index D.follow z) (slice_index D.enter o.label))) e o.enters, k),
    o.moved,
    o.inside,
  ),
)

module _ (D : Tables) (n : ℕ) (X Y : Sources) (some : X.waiting ≢ 0) (word : X.waiting < 2 ^ 64)
    (slots : count_trailing_zeros 64 X.waiting < length X.pending) (s : Searching D n X)
    (f : Followed D.count
    (Labelled D.moves D.count D.follow D.enter n (count_trailing_zeros 64 X.waiting)
    (λ t. Member t (slice_index X.pending (count_trailing_zeros 64 X.waiting))) D.labels)
    (sources X.from (slice_set X.pending (count_trailing_zeros 64 X.waiting) 0) (bit_and X.waiting (X.waiting - 1))) Y) where
  abbrev p : ℕ
  p = count_trailing_zeros 64 X.waiting

  abbrev Taken : ℕ → Type 0
  Taken t = Member t (slice_index X.pending p)

  p-below : p < n
  p-below = s.below p (trailing-here 64 X.waiting some word)

  -- What is still pending is what was pending at another place.
  pending-left : (q t : ℕ) → Member t (slice_index (slice_set X.pending p 0) q) → (q ≢ p) × Member t (slice_index X.pending q)
  pending-left q t m = go (written X.pending p 0 q slots)
    where
      go : Written X.pending p 0 q
          → (q ≢ p) × Member t (slice_index X.pending q)
      go (inl (e, g)) = absurd (member-none t (subst (Member t) g m))
      go (inr (e, g)) = (e, subst (Member t) g m)

  sound : (v : ℕ × ℕ) (i : ℕ) → v.0 < D.count → v.1 < n → Member i (sources_of D.count Y.from v) → (i < D.count) × Reaches (Onward D) (i, 0) v
  sound v i h l m =
      let r = f.sound v i h m in
      let o = s.sound r.0 i r.1 (within r.0 r.3) r.2 in
      (o.0, reaches-trans o.1 (reaches-map (λ u w t. (labelled-onward D n p Taken u w t).1.0) r.3))
    where
      within : (u : ℕ × ℕ) → Reaches (Labelled D.moves D.count D.follow D.enter n p Taken D.labels) u v → u.1 < n
      within u here = l
      within u (onward {y = w} t r) = subst (λ z. z < n) (sym (labelled-onward D n p Taken u w t).0) p-below

  closed : (u : ℕ × ℕ) → u.0 < D.count → u.1 < n
      → (sources_of D.count Y.from u ≡ sources_of D.count X.from u) ⊎ Member u.0 (slice_index Y.pending u.1)
      → Member u.0 (slice_index Y.pending u.1)
      ⊎ ((v : ℕ × ℕ) (i : ℕ) → OnwardBelow D n u v → Member i (sources_of D.count Y.from u) → Member i (sources_of D.count Y.from v))
  closed u h l (inr m) = inl m
  closed u h l (inl e) = before (s.closed u h l)
    where
      taken : Member u.0 (slice_index X.pending u.1)
          → Written X.pending p 0 u.1
          → Member u.0 (slice_index Y.pending u.1)
          ⊎ ((v : ℕ × ℕ) (i : ℕ) → OnwardBelow D n u v → Member i (sources_of D.count Y.from u) → Member i (sources_of D.count Y.from v))
      taken m (inl (q, g)) =
          inr (λ v i o k. f.covers u v i
          (onward-labelled D n p Taken u v q (subst (λ z. Member u.0 (slice_index X.pending z)) q m) o) (subst (Member i) e k))
      taken m (inr (q, g)) = inl (f.grown.still u.1 u.0 (subst (Member u.0) (sym g) m))

      before : Member u.0 (slice_index X.pending u.1)
          ⊎ ((v : ℕ × ℕ) (i : ℕ) → OnwardBelow D n u v → Member i (sources_of D.count X.from u) → Member i (sources_of D.count X.from v))
          → Member u.0 (slice_index Y.pending u.1)
          ⊎ ((v : ℕ × ℕ) (i : ℕ) → OnwardBelow D n u v → Member i (sources_of D.count Y.from u) → Member i (sources_of D.count Y.from v))
      before (inr g) = inr (λ v i o m. f.grown.kept v i (g v i o (subst (Member i) e m)))
      before (inl m) = taken m (written X.pending p 0 u.1 slots)

  waits : (q t : ℕ) → Member t (slice_index (slice_set X.pending p 0) q) ⊎ (Member q Y.waiting × (t < D.count))
      → Member q Y.waiting × (t < D.count)
  waits q t (inr m) = m
  waits q t (inl m) =
      let (d, k) = pending-left q t m in
      let (w, h) = s.waits q t k in
      (f.grown.stays q ((least-left 64 X.waiting some word q).1 (w, d)), h)

  below : (q : ℕ)
      → Member q (bit_and X.waiting (X.waiting - 1))
      ⊎ ((u : ℕ × ℕ) × (v : ℕ × ℕ) × Labelled D.moves D.count D.follow D.enter n p Taken D.labels u v × (v.1 ≡ q))
      → q < n
  below q (inl m) = s.below q ((least-left 64 X.waiting some word q).0 m).0
  below q (inr (u, v, t, e)) = subst (λ z. z < n) e (labelled-onward D n p Taken u v t).1.1

  pub searching-turn : Searching D n Y
  searching-turn =
      record {
        start = λ i h. f.grown.kept (i, 0) i (s.start i h);
        sound = sound;
        closed = λ u h l. closed u h l (f.grown.new u h);
        waits = λ q t m. waits q t (f.grown.waits q t m);
        below = λ q m. below q (f.told q m);
      }

  pub searching-less : left Y.from Y.waiting < left X.from X.waiting
  unfolding left
  searching-less = omega (arith, f.grown.less, some, and_le_r X.waiting (X.waiting - 1))

-- The standings taken are standings.
pub taken-standings : (D : Tables) (n : ℕ) (X : Sources) → Searching D n X → (q s : ℕ) → Member s (slice_index X.pending q) → s < D.count
taken-standings D n X h q s m = (h.waits q s m).1

-- The place taken is below n.
pub taken-below : (D : Tables) (n : ℕ) (X : Sources) → X.waiting ≢ 0 → X.waiting < 2 ^ 64 → Searching D n X
    → count_trailing_zeros 64 X.waiting < n
taken-below D n X some word s = s.below (count_trailing_zeros 64 X.waiting) (trailing-here 64 X.waiting some word)

-- The end: no place waits, and so nothing is pending.

pub none-pending : (D : Tables) (n slots : ℕ) (X : Sources) → length X.pending ≡ slots → X.waiting ≡ 0 → Searching D n X
    → X.pending ≡ replicate slots 0
none-pending D n slots X size e s =
    ext_get_or 0 X.pending (replicate slots 0) (size ∙ sym (length-replicate {A = ℕ} slots 0))
    (λ q h. no-members (slice_index X.pending q) (λ t m. member-none q (subst (Member q) e (s.waits q t m).0)) ∙ sym (zeros slots q))

pub searched : (D : Tables) (n : ℕ) (X : Sources) → 0 < n → X.waiting ≡ 0 → Searching D n X → Searched D n X.from
searched D n X some e s =
    record {
      sound = s.sound;
      complete = λ i v h r. (closed-under (Held i) (keep i) {x = (i, 0)} {y = v} (h, some, s.start i h) r).2;
    }
  where
    Held : ℕ → ℕ × ℕ → Type 0
    Held i u = (u.0 < D.count) × (u.1 < n) × Member i (sources_of D.count X.from u)

    keep : (i : ℕ) (u v : ℕ × ℕ) → Held i u → OnwardBelow D n u v → Held i v
    keep i u v (h, l, m) o = (o.0.inside, o.1, go (s.closed u h l))
      where
        go : Member u.0 (slice_index X.pending u.1)
            ⊎ ((v : ℕ × ℕ) (i : ℕ) → OnwardBelow D n u v → Member i (sources_of D.count X.from u) → Member i (sources_of D.count X.from v))
            → Member i (sources_of D.count X.from v)
        go (inl k) = absurd (member-none u.1 (subst (Member u.1) e (s.waits u.1 u.0 k).0))
        go (inr g) = g v i o m
