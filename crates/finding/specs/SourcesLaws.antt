-- The laws of the search from all standings (Sources): how steps are passed on one after the other, and how a turn keeps what the search
-- holds.
use Rattle.std.specs.Prelude.{◌≡◌, ℕ, zero, suc, ◌+◌, ◌*◌, ◌^◌, ◌<◌, ◌≤◌, ◌≢◌, ◌⊎◌, ◌↔◌, List, [], ◌∷◌, length, slice_index, slice_index_or, slice_set}
use Rattle.std.proofs.Common.{inl, inr, ⊎_elim, sym, ap, ap₂, ◌∙◌, arith, get_or-set_same, get_or-set_other}
use Rattle.std.specs.Prelude.{refl}
use Rattle.std.proofs.Math.Path.{subst}
use Rattle.std.proofs.Math.Decide.{ℕ_discrete}
use Rattle.std.specs.Int.Bits.{or_zero_r}
use Rattle.std.proofs.Math.ListN.{length-set}
use Rattle.theory.specs.Places.{Member, one, union, intersection}
use Rattle.theory.specs.PlacesLaws.{member-one, member_union, not_none}
use Rattle.theory.specs.PlacesWithin.{within-at-most}
use Rattle.theory.specs.Closure.{Reaches, here, onward}
use Rattle.theory.specs.ClosureLaws.{reaches-trans}
use Rattle.finding.specs.MoveTable.{same_place}
use Rattle.finding.specs.Sources.{sources_of, Sources, sources, room, left, Grown, Gained, At, Followed, Only, Moved, Labelled}

-- A word that is read or written among others.

-- The word j where x was written at k.
abbrev pub Written : List ℕ → ℕ → ℕ → ℕ → Type 0
Written l k x j = ((j ≡ k) × (slice_index (slice_set l k x) j ≡ x)) ⊎ ((j ≢ k) × (slice_index (slice_set l k x) j ≡ slice_index l j))

pub written : (l : List ℕ) (k x j : ℕ) → k < length l → Written l k x j
written l k x j h = go (ℕ_discrete j k)
  where
    go : Dec (j ≡ k) → Written l k x j
    go (yes e) = inl (e, ap (λ z. slice_index (slice_set l k x) z) e ∙ get_or-set_same l k x 0 h)
    go (no d) = inr (d, get_or-set_other l k j x 0 d)

room-less : (l : List ℕ) (j more : ℕ) → j < length l → slice_index l j < more → slice_index l j < 2 ^ 64 → room (slice_set l j more) < room l
unfolding room
room-less [] j more h g k = absurd (omega arith)
room-less (x ∷ l) zero more h g k = omega arith
room-less (x ∷ l) (suc j) more h g k = omega (arith, room-less l j more (omega arith) g k)

-- Reachability under more steps.
pub reaches-map : {A : Type 0} {S T : A → A → Type 0} → ((u v : A) → S u v → T u v) → {x y : A} → Reaches S x y → Reaches T x y
reaches-map f here = here
reaches-map f (onward {x = x} {y = y} r p) = onward (f x y r) (reaches-map f p)

-- What was added, and then what was added after it.

grown-none : {w : ℕ} (X : Sources) → Grown w X X
grown-none X =
    record {
      words = refl;
      slots = refl;
      kept = λ v i m. m;
      new = λ v h. inl refl;
      still = λ q s m. m;
      stays = λ q m. m;
      waits = λ q s m. inl m;
      less = omega arith;
    }

grown-then : {w : ℕ} {X Y Z : Sources} → Grown w X Y → Grown w Y Z → Grown w X Z
grown-then {w} {X} {Y} {Z} f g =
    record {
      words = g.words ∙ f.words;
      slots = g.slots ∙ f.slots;
      kept = λ v i m. g.kept v i (f.kept v i m);
      new = λ v h. new v (f.new v h) (g.new v h);
      still = λ q s m. g.still q s (f.still q s m);
      stays = λ q m. g.stays q (f.stays q m);
      waits = λ q s m. waits q s (g.waits q s m);
      less = omega (arith, f.less, g.less);
    }
  where
    new : (v : ℕ × ℕ) → (sources_of w Y.from v ≡ sources_of w X.from v) ⊎ Member v.0 (slice_index Y.pending v.1)
        → (sources_of w Z.from v ≡ sources_of w Y.from v) ⊎ Member v.0 (slice_index Z.pending v.1)
        → (sources_of w Z.from v ≡ sources_of w X.from v) ⊎ Member v.0 (slice_index Z.pending v.1)
    new v p (inr m) = inr m
    new v (inr m) (inl q) = inr (g.still v.1 v.0 m)
    new v (inl p) (inl q) = inl (q ∙ p)

    waits : (q s : ℕ) → Member s (slice_index Y.pending q) ⊎ (Member q Z.waiting × (s < w))
        → Member s (slice_index X.pending q) ⊎ (Member q Z.waiting × (s < w))
    waits q s (inr m) = inr m
    waits q s (inl m) = earlier (f.waits q s m)
      where
        earlier : Member s (slice_index X.pending q) ⊎ (Member q Y.waiting × (s < w))
            → Member s (slice_index X.pending q) ⊎ (Member q Z.waiting × (s < w))
        earlier (inl n) = inl n
        earlier (inr (n, h)) = inr (g.stays q n, h)

pub gained-start : {w : ℕ} {B : ℕ × ℕ → ℕ → Type 0} (X : Sources) → ((v : ℕ × ℕ) (i : ℕ) → ¬ B v i) → Gained w B X X
gained-start X nothing =
    record {
      grown = grown-none X;
      covers = λ v i b. absurd (nothing v i b);
      sound = λ v i h m. inl m;
      told = λ q m. inl m;
    }

pub gained-same : {w : ℕ} {B C : ℕ × ℕ → ℕ → Type 0} {X Y : Sources} → Gained w B X Y → ((v : ℕ × ℕ) (i : ℕ) → C v i ↔ B v i) → Gained w C X Y
gained-same g e =
    record {
      grown = g.grown;
      covers = λ v i c. g.covers v i ((e v i).0 c);
      sound = λ v i h m. ⊎_elim inl (λ b. inr ((e v i).1 b)) (g.sound v i h m);
      told = λ q m. ⊎_elim inl (λ (v, i, b, h). inr (v, i, (e v i).1 b, h)) (g.told q m);
    }

pub gained-then : {w : ℕ} {B C D : ℕ × ℕ → ℕ → Type 0} {X Y Z : Sources} → Gained w B X Y → Gained w C Y Z
    → ((v : ℕ × ℕ) (i : ℕ) → D v i ↔ (B v i ⊎ C v i)) → Gained w D X Z
gained-then f g e =
    record {
      grown = grown-then f.grown g.grown;
      covers = λ v i d. ⊎_elim (λ b. g.grown.kept v i (f.covers v i b)) (g.covers v i) ((e v i).0 d);
      sound = λ v i h m.
          ⊎_elim (λ n. ⊎_elim inl (λ b. inr ((e v i).1 (inl b))) (f.sound v i h n)) (λ c. inr ((e v i).1 (inr c))) (g.sound v i h m);
      told = λ q m.
          ⊎_elim (λ n. ⊎_elim inl (λ (v, i, b, h). inr (v, i, (e v i).1 (inl b), h)) (f.told q n))
          (λ (v, i, c, h). inr (v, i, (e v i).1 (inr c), h)) (g.told q m);
    }

-- Steps of S, and then steps of T.

pub followed-none : {w : ℕ} {S : ℕ × ℕ → ℕ × ℕ → Type 0} (X : Sources) → ((u v : ℕ × ℕ) → ¬ S u v) → Followed w S X X
followed-none X nothing =
    record {
      grown = grown-none X;
      covers = λ u v i s m. absurd (nothing u v s);
      sound = λ v i h m. (v, h, m, here);
      told = λ q m. inl m;
    }

pub followed_same : {w : ℕ} {S T : ℕ × ℕ → ℕ × ℕ → Type 0} {X Y : Sources} → Followed w S X Y → ((u v : ℕ × ℕ) → T u v ↔ S u v) → Followed w T X Y
followed_same f e =
    record {
      grown = f.grown;
      covers = λ u v i s m. f.covers u v i ((e u v).0 s) m;
      sound = λ v i h m. let r = f.sound v i h m in (r.0, r.1, r.2, reaches-map (λ u v s. (e u v).1 s) r.3);
      told = λ q m. ⊎_elim inl (λ (u, v, s, h). inr (u, v, (e u v).1 s, h)) (f.told q m);
    }

pub followed_then : {w : ℕ} {S T U : ℕ × ℕ → ℕ × ℕ → Type 0} {X Y Z : Sources} → Followed w S X Y → Followed w T Y Z
    → ((u v : ℕ × ℕ) → U u v ↔ (S u v ⊎ T u v)) → Followed w U X Z
followed_then f g e =
    record {
      grown = grown-then f.grown g.grown;
      covers = λ u v i s m.
          ⊎_elim (λ s. g.grown.kept v i (f.covers u v i s m)) (λ t. g.covers u v i t (f.grown.kept u i m)) ((e u v).0 s);
      sound = λ v i h m.
          let r = g.sound v i h m in
          let q = f.sound r.0 i r.1 r.2 in (
            q.0,
            q.1,
            q.2,
            reaches-trans (reaches-map (λ u v s. (e u v).1 (inl s)) q.3) (reaches-map (λ u v s. (e u v).1 (inr s)) r.3),
          );
      told = λ q m.
          ⊎_elim (λ n. ⊎_elim inl (λ (u, v, s, h). inr (u, v, (e u v).1 (inl s), h)) (f.told q n))
          (λ (u, v, t, h). inr (u, v, (e u v).1 (inr t), h)) (g.told q m);
    }

-- What was added is what the steps bring.
pub followed-gained : {w : ℕ} {S : ℕ × ℕ → ℕ × ℕ → Type 0} {B : ℕ × ℕ → ℕ → Type 0} {X Y : Sources} → Gained w B X Y
    → ((u v : ℕ × ℕ) (i : ℕ) → S u v → Member i (sources_of w X.from u) → B v i)
    → ((v : ℕ × ℕ) (i : ℕ) → B v i → (u : ℕ × ℕ) × (u.0 < w) × Member i (sources_of w X.from u) × S u v)
    → Followed w S X Y
followed-gained g there back =
    record {
      grown = g.grown;
      covers = λ u v i s m. g.covers v i (there u v i s m);
      sound = λ v i h m.
          ⊎_elim (λ n. (v, h, n, here)) (λ b. let r = back v i b in (r.0, r.1, r.2, onward r.3 here)) (g.sound v i h m);
      told = λ q m. ⊎_elim inl (λ (v, i, b, h). let r = back v i b in inr (r.0, v, r.3, h)) (g.told q m);
    }

-- What a search holds may be named otherwise.
pub sources-as : (P : Sources → Type 0) {Y : Sources} {from pending : List ℕ} {waiting : ℕ} → from ≡ Y.from → pending ≡ Y.pending
    → waiting ≡ Y.waiting → P Y → P (sources from pending waiting)
sources-as P e f g r = subst P (λ k. sources (sym e k) (sym f k) (sym g k)) r

-- Sources come to one pair: nothing new comes, or the pair gains.

module _ (w next to x : ℕ) (X : Sources) (narrow : to < w) where
  pub gained-none : union (slice_index X.from (w * next + to)) x ≡ slice_index X.from (w * next + to) → Gained w (At next to x) X X
  gained-none e =
      record {
        grown = grown-none X;
        covers = λ v i (c, d, m).
            let here : w * v.1 + v.0 ≡ w * next + to = ap₂ (λ y x. w * y + x) c d in
            subst (λ z. Member i (slice_index X.from z)) (sym here)
            (subst (Member i) e ((member_union i (slice_index X.from (w * next + to)) x).1 (inr m)));
        sound = λ v i h m. inl m;
        told = λ q m. inl m;
      }

  module _ (word : slice_index_or X.from (w * next + to) 0 < 2 ^ 64) (room₁ : w * next + to < length X.from)
      (room₂ : next < length X.pending) (waiting' : ℕ) (few : waiting' < 2 ^ 64) (grows : waiting' ≡ union X.waiting (one next)) where
    abbrev k : ℕ
    k = w * next + to

    abbrev old : ℕ
    old = slice_index X.from k

    abbrev all : ℕ
    all = union old x

    abbrev more : ℕ
    more = union (slice_index X.pending next) (one to)

    same : (v : ℕ × ℕ) → v.0 < w → w * v.1 + v.0 ≡ k → (v.1 ≡ next) × (v.0 ≡ to)
    same v h e = same_place w v.1 v.0 next to h narrow e

    grown-more : all ≢ old → Grown w X (sources (slice_set X.from k all) (slice_set X.pending next more) waiting')
    unfolding left
    grown-more d =
        record {
          words = length-set X.from k all;
          slots = length-set X.pending next more;
          kept = λ v i m. kept (w * v.1 + v.0) i m;
          new = λ v h. new v h (written X.from k all (w * v.1 + v.0) room₁);
          still = λ q t m. still q t m (written X.pending next more q room₂);
          stays = λ q m. subst (Member q) (sym grows) ((member_union q X.waiting (one next)).1 (inl m));
          waits = λ q t m. waits q t m (written X.pending next more q room₂);
          less = omega (arith, few, less);
        }
      where
        bigger : old ≤ all
        bigger = within-at-most old all (λ y m. (member_union y old x).1 (inl m))

        less : room (slice_set X.from k all) < room X.from
        less = room-less X.from k all room₁ (omega (arith, bigger, d)) word

        kept : (j i : ℕ) → Member i (slice_index X.from j) → Member i (slice_index (slice_set X.from k all) j)
        kept j i m = go (written X.from k all j room₁)
          where
            go : Written X.from k all j
                → Member i (slice_index (slice_set X.from k all) j)
            go (inl (e, f)) =
                subst (Member i) (sym f)
                ((member_union i old x).1 (inl (subst (λ z. Member i (slice_index X.from z)) e m)))
            go (inr (e, f)) = subst (Member i) (sym f) m

        new : (v : ℕ × ℕ) → v.0 < w
            → Written X.from k all (w * v.1 + v.0)
            → (slice_index (slice_set X.from k all) (w * v.1 + v.0) ≡ slice_index X.from (w * v.1 + v.0))
            ⊎ Member v.0 (slice_index (slice_set X.pending next more) v.1)
        new v h (inr (e, f)) = inl f
        new v h (inl (e, f)) =
            let c = same v h e in
            inr (subst (λ z. Member v.0 (slice_index (slice_set X.pending next more) z)) (sym c.0)
            (subst (Member v.0) (sym (get_or-set_same X.pending next more 0 room₂))
            ((member_union v.0 (slice_index X.pending next) (one to)).1 (inr ((member-one v.0 to).1 c.1)))))

        still : (q t : ℕ) → Member t (slice_index X.pending q)
            → Written X.pending next more q
            → Member t (slice_index (slice_set X.pending next more) q)
        still q t m (inl (e, f)) =
            subst (Member t) (sym f)
            ((member_union t (slice_index X.pending next) (one to)).1 (inl (subst (λ z. Member t (slice_index X.pending z)) e m)))
        still q t m (inr (e, f)) = subst (Member t) (sym f) m

        waits : (q t : ℕ) → Member t (slice_index (slice_set X.pending next more) q)
            → Written X.pending next more q
            → Member t (slice_index X.pending q) ⊎ (Member q waiting' × (t < w))
        waits q t m (inl (e, f)) = either ((member_union t (slice_index X.pending next) (one to)).0 (subst (Member t) f m))
          where
            either : Member t (slice_index X.pending next) ⊎ Member t (one to) → Member t (slice_index X.pending q) ⊎ (Member q waiting' × (t < w))
            either (inl n) = inl (subst (λ z. Member t (slice_index X.pending z)) (sym e) n)
            either (inr n) =
                inr (
                  subst (Member q) (sym grows) ((member_union q X.waiting (one next)).1 (inr ((member-one q next).1 e))),
                  subst (λ z. z < w) (sym ((member-one t to).0 n)) narrow,
                )
        waits q t m (inr (e, f)) = inl (subst (Member t) f m)

    pub gained-more : union (slice_index X.from (w * next + to)) x ≢ slice_index X.from (w * next + to)
        → Gained w (At next to x) X
        (sources (slice_set X.from (w * next + to) (union (slice_index X.from (w * next + to)) x))
        (slice_set X.pending next (union (slice_index X.pending next) (one to))) waiting')
    gained-more d =
        record {
          grown = grown-more d;
          covers = λ v i (c, d, m).
              let there : w * v.1 + v.0 ≡ k = ap₂ (λ y x. w * y + x) c d in
              subst (λ z. Member i (slice_index (slice_set X.from k all) z)) (sym there)
              (subst (Member i) (sym (get_or-set_same X.from k all 0 room₁)) ((member_union i old x).1 (inr m)));
          sound = λ v i h m. sound v i h m (written X.from k all (w * v.1 + v.0) room₁);
          told = λ q m. told q ((member_union q X.waiting (one next)).0 (subst (Member q) grows m));
        }
      where
        sound : (v : ℕ × ℕ) (i : ℕ) → v.0 < w → Member i (slice_index (slice_set X.from k all) (w * v.1 + v.0))
            → Written X.from k all (w * v.1 + v.0) → Member i (sources_of w X.from v) ⊎ At next to x v i
        sound v i h m (inr (e, f)) = inl (subst (Member i) f m)
        sound v i h m (inl (e, f)) = either ((member_union i old x).0 (subst (Member i) f m))
          where
            either : Member i old ⊎ Member i x → Member i (sources_of w X.from v) ⊎ At next to x v i
            either (inl n) = inl (subst (λ z. Member i (slice_index X.from z)) (sym e) n)
            either (inr n) = let c = same v h e in inr (c.0, c.1, n)

        told : (q : ℕ) → Member q X.waiting ⊎ Member q (one next)
            → Member q X.waiting ⊎ ((v : ℕ × ℕ) × (i : ℕ) × At next to x v i × (v.1 ≡ q))
        told q (inl m) = inl m
        told q (inr m) =
            let r = not_none x (λ z. d (ap (union old) z ∙ or_zero_r old)) in
            inr ((to, next), r.0, (refl, refl, r.1), sym ((member-one q next).0 m))

-- The sources of (s, p) come to (to, next).
pub followed-only : {w p s next to : ℕ} {X Y : Sources} → s < w → Gained w (At next to (slice_index X.from (w * p + s))) X Y
    → Followed w (Only p s next to) X Y
followed-only {w} {p} {s} {X = X} small g =
    followed-gained g
    (λ u v i (a, b, c, d) m. (c, d, subst (Member i) (ap₂ (λ y x. slice_index X.from (w * y + x)) a b) m))
    (λ v i (c, d, m). ((s, p), small, m, (refl, refl, c, d)))

-- The steps from one standing more, and over one label more.

module _ (moves : List ℕ) (count a p next : ℕ) {Taken Taken' : ℕ → Type 0} (s : ℕ) (turn : (x : ℕ) → Taken' x ↔ (Taken x ⊎ (x ≡ s))) where
  -- The standing leads to another, below the count.
  pub standing-in : (to : ℕ) → to ≡ slice_index moves (32 * s + a) → to < count → (u v : ℕ × ℕ)
      → Moved moves count a p Taken' (λ y. y ≡ next) u v ↔ (Moved moves count a p Taken (λ y. y ≡ next) u v ⊎ Only p s next to u v)
  standing-in to f l u v = (λ (e, t, n, m, b). there e n m b ((turn u.0).0 t), back)
    where
      there : u.1 ≡ p → v.1 ≡ next → v.0 ≡ slice_index moves (32 * u.0 + a) → v.0 < count → Taken u.0 ⊎ (u.0 ≡ s)
          → Moved moves count a p Taken (λ y. y ≡ next) u v ⊎ Only p s next to u v
      there e n m b (inl t) = inl (e, t, n, m, b)
      there e n m b (inr q) = inr (e, q, n, m ∙ (ap (λ z. slice_index moves (32 * z + a)) q ∙ sym f))

      back : Moved moves count a p Taken (λ y. y ≡ next) u v ⊎ Only p s next to u v → Moved moves count a p Taken' (λ y. y ≡ next) u v
      back (inl (e, t, n, m, b)) = (e, (turn u.0).1 (inl t), n, m, b)
      back (inr (e, q, n, m)) = (
        e,
        (turn u.0).1 (inr q),
        n,
        m ∙ (f ∙ ap (λ z. slice_index moves (32 * z + a)) (sym q)),
        subst (λ z. z < count) (sym m) l,
      )

  -- The standing leads nowhere.
  pub standing-out : count ≤ slice_index moves (32 * s + a) → (u v : ℕ × ℕ)
      → Moved moves count a p Taken' (λ y. y ≡ next) u v ↔ Moved moves count a p Taken (λ y. y ≡ next) u v
  standing-out l u v = (
    λ (e, t, n, m, b). (e, there m b ((turn u.0).0 t), n, m, b),
    λ (e, t, n, m, b). (e, (turn u.0).1 (inl t), n, m, b),
  )
    where
      there : v.0 ≡ slice_index moves (32 * u.0 + a) → v.0 < count → Taken u.0 ⊎ (u.0 ≡ s) → Taken u.0
      there m b (inl t) = t
      there m b (inr q) = absurd (omega (arith, m, b, l, ap (λ z. slice_index moves (32 * z + a)) q))

pub label-next : (moves : List ℕ) (count : ℕ) (follow enter : List ℕ) (n p : ℕ) (Taken : ℕ → Type 0) (k : ℕ) (u v : ℕ × ℕ)
    → Labelled moves count follow enter n p Taken (k + 1) u v
    ↔ (Labelled moves count follow enter n p Taken k u v
    ⊎ Moved moves count k p Taken (λ y. Member y (intersection (slice_index follow p) (slice_index enter k)) × (y < n)) u v)
label-next moves count follow enter n p Taken k u v = (λ (a, l, m). there a l m (ℕ_discrete a k), back)
  where
    Over : ℕ → Type 0
    Over a = Moved moves count a p Taken (λ y. Member y (intersection (slice_index follow p) (slice_index enter a)) × (y < n)) u v

    there : (a : ℕ) → a < k + 1 → Over a → Dec (a ≡ k) → Labelled moves count follow enter n p Taken k u v ⊎ Over k
    there a l m (yes e) = inr (subst Over e m)
    there a l m (no e) = inl (a, omega arith, m)

    back : Labelled moves count follow enter n p Taken k u v ⊎ Over k → Labelled moves count follow enter n p Taken (k + 1) u v
    back (inl (a, l, m)) = (a, omega arith, m)
    back (inr m) = (k, omega arith, m)
