-- The loops that test whether classes of occurrences are stable (Classes): what they keep, turn by turn, and that it is what a step needs.
-- `known` has the classes known so far, `merged` the classes that lead to each of them, `kind` the labels that enter it.
use Rattle.std.specs.Prelude.{◌≡◌, ℕ, zero, suc, ◌+◌, ◌-◌, ◌*◌, ◌%◌, ◌^◌, ◌<◌, ◌≤◌, ◌≢◌, ◌⊎◌, ◌↔◌, List, ◌++◌, length, take, slice_index, slice_index_or, slice_set}
use Rattle.std.proofs.Common.{inl, inr, sym, ap, ◌∙◌, subst, arith, length-set, get_or-set_same, get_or-set_other}
use Rattle.std.specs.Prelude.{refl}
use Rattle.std.proofs.Math.Decide.{ℕ_discrete}
use Rattle.std.proofs.lemmas.List.{get_or-take, get_or_append_left, get_or-append_right, length-take-le}
use Rattle.std.proofs.lemmas.Nat.{and_mask}
use Rattle.theory.specs.Places.{Member, one, union}
use Rattle.theory.specs.PlacesLaws.{member-none, member-one, member_union, member-intersection}
use Rattle.theory.specs.PlacesShift.{member-cut}
use Rattle.verdict.specs.Tables.{Counted, occupied}
use Rattle.verdict.specs.Columns.{PlacesWithin}
use Rattle.verdict.specs.ColumnOffsets.{occupied-room}
use Rattle.verdict.specs.LeadingTurns.{LedFrom}
use Rattle.verdict.specs.WordBits.{one_bit}
use Rattle.verdict.specs.Classes.{class_at, ClassesOf, Numbered, Kinds, Classes}

-- The class c is led to from the classes of s and entered by the labels of a; what is known of others is kept, and of c where it was known.
pub record Liked (c s a known : ℕ) (merged kind merged' kind' : List ℕ) : Type 0 where
  pub led : slice_index_or merged' c 0 ≡ s
  pub entered : slice_index_or kind' c 0 ≡ a
  pub kept-led : (i : ℕ) → (i ≢ c) ⊎ Member i known → slice_index merged' i ≡ slice_index merged i
  pub kept-entered : (i : ℕ) → (i ≢ c) ⊎ Member i known → slice_index kind' i ≡ slice_index kind i
  pub size : length kind' ≡ length kind

pub liked-known : (c s a known : ℕ) (merged kind : List ℕ) → slice_index merged c ≡ s → slice_index kind c ≡ a
    → Liked c s a known merged kind merged kind
liked-known c s a known merged kind e f =
    record { led = e; entered = f; kept-led = λ i h. refl; kept-entered = λ i h. refl; size = refl }

pub liked-new : (c s a known : ℕ) (merged kind : List ℕ) → c < length merged → c < length kind → ¬ Member c known
    → Liked c s a known merged kind (slice_set merged c s) (slice_set kind c a)
liked-new c s a known merged kind room room' new =
    record {
      led = get_or-set_same merged c s 0 room;
      entered = get_or-set_same kind c a 0 room';
      kept-led = λ i h. get_or-set_other merged c i s 0 (other i h);
      kept-entered = λ i h. get_or-set_other kind c i a 0 (other i h);
      size = length-set kind c a;
    }
  where
    other : (i : ℕ) → (i ≢ c) ⊎ Member i known → i ≢ c
    other i (inl d) = d
    other i (inr m) = λ e. new (subst (λ (z : ℕ). Member z known) e m)

-- What is known of classes is known still.
pub record Kept (known : ℕ) (merged kind : List ℕ) (known' : ℕ) (merged' kind' : List ℕ) : Type 0 where
  pub still : (c : ℕ) → Member c known → Member c known'
  pub led : (c : ℕ) → Member c known → slice_index merged' c ≡ slice_index merged c
  pub entered : (c : ℕ) → Member c known → slice_index kind' c ≡ slice_index kind c

-- What is known of the class of the place p of the list v, whose occurrences come after the offset `base`, is what leads to p and enters it.
pub record LikeAt (v base p : ℕ) (before kinds classes : List ℕ) (known : ℕ) (merged kind : List ℕ) : Type 0 where
  pub found : Member (slice_index classes (base + p)) known
  pub led : ClassesOf classes base (slice_index before (64 * v + p)) (slice_index merged (slice_index classes (base + p)))
  pub entered : slice_index_or kind (slice_index classes (base + p)) 0 ≡ slice_index kinds (base + p)

like-still : (v base p : ℕ) (before kinds classes : List ℕ) (known : ℕ) (merged kind : List ℕ) (known' : ℕ) (merged' kind' : List ℕ)
    → Kept known merged kind known' merged' kind' → LikeAt v base p before kinds classes known merged kind
    → LikeAt v base p before kinds classes known' merged' kind'
like-still v base p before kinds classes known merged kind known' merged' kind' k l =
    record {
      found = k.still c l.found;
      led = subst (ClassesOf classes base (slice_index before (64 * v + p))) (sym (k.led c l.found)) l.led;
      entered = k.entered c l.found ∙ l.entered;
    }
  where
    c : ℕ
    c = slice_index classes (base + p)

-- The first q occurrences of the list v are like what is known of their classes; the classes known are those known before and theirs.
pub record ListLike (v base q : ℕ) (before kinds classes : List ℕ) (known₀ : ℕ) (merged₀ kind₀ : List ℕ) (known : ℕ) (merged kind : List ℕ) : Type 0 where
  pub kept : Kept known₀ merged₀ kind₀ known merged kind
  pub like : (p : ℕ) → 0 < p → p ≤ q → LikeAt v base p before kinds classes known merged kind
  pub from : (c : ℕ) → Member c known → Member c known₀ ⊎ ((p : ℕ) × (0 < p) × (p ≤ q) × (slice_index classes (base + p) ≡ c))
  pub size : length kind ≡ length kind₀

pub list-start : (v base : ℕ) (before kinds classes : List ℕ) (known : ℕ) (merged kind : List ℕ)
    → ListLike v base 0 before kinds classes known merged kind known merged kind
list-start v base before kinds classes known merged kind =
    record {
      kept = record { still = λ c m. m; led = λ c m. refl; entered = λ c m. refl };
      like = λ p h k. absurd (omega arith);
      from = λ c m. inl m;
      size = refl;
    }

pub list-turn : (v base p : ℕ) (before kinds classes : List ℕ) (known₀ : ℕ) (merged₀ kind₀ : List ℕ) (known : ℕ) (merged kind merged' kind' : List ℕ)
    (c s a : ℕ) → 0 < p → c < 64 → c ≡ slice_index classes (base + p) → ClassesOf classes base (slice_index before (64 * v + p)) s
    → a ≡ slice_index kinds (base + p) → Liked c s a known merged kind merged' kind'
    → ListLike v base (p - 1) before kinds classes known₀ merged₀ kind₀ known merged kind
    → ListLike v base (p + 1 - 1) before kinds classes known₀ merged₀ kind₀ (union known ((1 * 2 ^ c) % 2 ^ 64)) merged' kind'
list-turn v base p before kinds classes known₀ merged₀ kind₀ known merged kind merged' kind' c s a some small e f g k l =
    record {
      kept = record {
        still = λ i m. again.still i (l.kept.still i m);
        led = λ i m. again.led i (l.kept.still i m) ∙ l.kept.led i m;
        entered = λ i m. again.entered i (l.kept.still i m) ∙ l.kept.entered i m;
      };
      like = λ q h j. side q h (omega arith) (ℕ_discrete q p);
      from = λ i m. origin i ((member_union i known new).0 m);
      size = k.size ∙ l.size;
    }
  where
    new : ℕ
    new = (1 * 2 ^ c) % 2 ^ 64

    added : (y : ℕ) → Member y new ↔ (y ≡ c)
    added y = subst (λ (z : ℕ). Member y z ↔ (y ≡ c)) (sym (one_bit c small)) (member-one y c)

    again : Kept known merged kind (union known new) merged' kind'
    again =
        record {
          still = λ i m. (member_union i known new).1 (inl m);
          led = λ i m. k.kept-led i (inr m);
          entered = λ i m. k.kept-entered i (inr m);
        }

    here : LikeAt v base p before kinds classes (union known new) merged' kind'
    here =
        record {
          found = (member_union (slice_index classes (base + p)) known new).1 (inr ((added (slice_index classes (base + p))).1 (sym e)));
          led = subst (ClassesOf classes base (slice_index before (64 * v + p))) (sym k.led ∙ ap (λ (z : ℕ). slice_index merged' z) e) f;
          entered = ap (λ (z : ℕ). slice_index kind' z) (sym e) ∙ k.entered ∙ g;
        }

    side : (q : ℕ) → 0 < q → q ≤ p → Dec (q ≡ p) → LikeAt v base q before kinds classes (union known new) merged' kind'
    side q h j (yes d) = subst (λ (z : ℕ). LikeAt v base z before kinds classes (union known new) merged' kind') (sym d) here
    side q h j (no d) = like-still v base q before kinds classes known merged kind _ _ _ again (l.like q h (omega arith))

    origin : (i : ℕ) → Member i known ⊎ Member i new
        → Member i known₀ ⊎ ((q : ℕ) × (0 < q) × (q ≤ p + 1 - 1) × (slice_index classes (base + q) ≡ i))
    origin i (inl m) = earlier (l.from i m)
      where
        earlier : Member i known₀ ⊎ ((q : ℕ) × (0 < q) × (q ≤ p - 1) × (slice_index classes (base + q) ≡ i))
            → Member i known₀ ⊎ ((q : ℕ) × (0 < q) × (q ≤ p + 1 - 1) × (slice_index classes (base + q) ≡ i))
        earlier (inl u) = inl u
        earlier (inr (q, h, j, d)) = inr (q, h, omega arith, d)
    origin i (inr m) = inr (p, some, omega arith, sym e ∙ sym ((added i).0 m))

-- The occurrences of the first v lists are like what is known of their classes, and the classes known are theirs and 0.
pub record ListsLike (v : ℕ) (sizes before kinds classes : List ℕ) (known : ℕ) (merged kind : List ℕ) : Type 0 where
  pub like : (u p : ℕ) → u < v → 0 < p → p ≤ slice_index sizes (u + 1)
      → LikeAt u (occupied sizes 0 u) p before kinds classes known merged kind
  pub from : (c : ℕ) → Member c known → (c ≡ 0)
      ⊎ ((u : ℕ) × (p : ℕ) × (u < v) × (0 < p) × (p ≤ slice_index sizes (u + 1)) × (slice_index classes (occupied sizes 0 u + p) ≡ c))

pub lists-start : (sizes before kinds classes merged kind : List ℕ) → ListsLike 0 sizes before kinds classes 1 merged kind
lists-start sizes before kinds classes merged kind =
    record { like = λ u p h. absurd (omega arith); from = λ c m. inl ((member-one c 0).0 m) }

pub lists-turn : (v base : ℕ) (sizes before kinds classes : List ℕ) (known : ℕ) (merged kind : List ℕ) (known' : ℕ) (merged' kind' : List ℕ)
    → base ≡ occupied sizes 0 v
    → ListLike v base (slice_index sizes (v + 1)) before kinds classes known merged kind known' merged' kind'
    → ListsLike v sizes before kinds classes known merged kind → ListsLike (v + 1) sizes before kinds classes known' merged' kind'
lists-turn v base sizes before kinds classes known merged kind known' merged' kind' e f l =
    record { like = λ u p h k j. side u p h k j (ℕ_discrete u v); from = λ c m. origin c (f.from c m) }
  where
    side : (u p : ℕ) → u < v + 1 → 0 < p → p ≤ slice_index sizes (u + 1) → Dec (u ≡ v)
        → LikeAt u (occupied sizes 0 u) p before kinds classes known' merged' kind'
    side u p h k j (yes d) =
        subst (λ (z : ℕ). LikeAt z (occupied sizes 0 z) p before kinds classes known' merged' kind') (sym d)
        (subst (λ (z : ℕ). LikeAt v z p before kinds classes known' merged' kind') e
        (f.like p k (subst (λ (z : ℕ). p ≤ slice_index sizes (z + 1)) d j)))
    side u p h k j (no d) =
        like-still u (occupied sizes 0 u) p before kinds classes known merged kind _ _ _ f.kept (l.like u p (omega arith) k j)

    Origin : ℕ → ℕ → Type 0
    Origin w c =
        (u : ℕ) × (p : ℕ) × (u < w) × (0 < p) × (p ≤ slice_index sizes (u + 1)) × (slice_index classes (occupied sizes 0 u + p) ≡ c)

    origin : (c : ℕ) → Member c known ⊎ ((p : ℕ) × (0 < p) × (p ≤ slice_index sizes (v + 1)) × (slice_index classes (base + p) ≡ c))
        → (c ≡ 0) ⊎ Origin (v + 1) c
    origin c (inl m) = earlier (l.from c m)
      where
        earlier : (c ≡ 0) ⊎ Origin v c → (c ≡ 0) ⊎ Origin (v + 1) c
        earlier (inl u) = inl u
        earlier (inr (u, p, h, k, j, d)) = inr (u, p, omega arith, k, j, d)
    origin c (inr (p, k, j, d)) =
        inr (v, p, omega arith, k, j, ap (λ (z : ℕ). slice_index classes (z + p)) (sym e) ∙ d)

-- The entries from 64 on are cleared.
pub record NoneEntered (merged merged' : List ℕ) : Type 0 where
  pub words : (i : ℕ) → i < 64 → slice_index merged' i ≡ slice_index merged i
  pub empty : (a : ℕ) → a < 64 → slice_index merged' (64 + a) ≡ 0

pub none-entered : (merged zeros rest : List ℕ) → 64 ≤ length merged → 64 ≤ length zeros → ((i : ℕ) → i < length zeros → slice_index zeros i ≡ 0)
    → NoneEntered merged (take 64 merged ++ (zeros ++ rest))
none-entered merged zeros rest room long zs =
    record {
      words = λ i h. get_or_append_left (take 64 merged) (zeros ++ rest) 0 i (omega (arith, length-take-le 64 merged room)) ∙ get_or-take 64 merged i 0 h;
      empty = λ a h.
          get_or-append_right (take 64 merged) (zeros ++ rest) 64 (64 + a) 0 (length-take-le 64 merged room) (omega arith)
          ∙ get_or_append_left zeros rest 0 (64 + a - 64) (omega arith)
          ∙ zs (64 + a - 64) (omega arith);
    }

-- The entries from 64 on have the classes below k that each label enters; those before are kept.
pub record EnteredBy (k : ℕ) (kind merged merged' : List ℕ) : Type 0 where
  pub words : (i : ℕ) → i < 64 → slice_index merged' i ≡ slice_index merged i
  pub entered : (c a : ℕ) → a < 64 → Member c (slice_index merged' (64 + a)) ↔ ((0 < c) × (c < k) × Member a (slice_index kind c))

pub enter-start : (kind merged merged' : List ℕ) → NoneEntered merged merged' → EnteredBy 1 kind merged' merged'
enter-start kind merged merged' l =
    record {
      words = λ i h. refl;
      entered = λ c a h. (
        λ m. absurd (member-none c (subst (Member c) (l.empty a h) m)),
        λ (j, k, m). absurd (omega arith),
      );
    }

pub enter-turn : (c : ℕ) (kind merged₀ merged merged' : List ℕ) → 0 < c → LedFrom 64 c (slice_index kind c) merged merged'
    → EnteredBy c kind merged₀ merged → EnteredBy (c + 1) kind merged₀ merged'
enter-turn c kind merged₀ merged merged' some f l =
    record {
      words = λ i h. f.apart i (inl (omega arith)) ∙ l.words i h;
      entered = λ d a h. (λ m. there d a h ((f.gains a d h).0 m), λ m. (f.gains a d h).1 (back d a h m (ℕ_discrete d c)));
    }
  where
    Right : ℕ → ℕ → ℕ → Type 0
    Right k d a = (0 < d) × (d < k) × Member a (slice_index kind d)

    there : (d a : ℕ) → a < 64 → Member d (slice_index merged (64 + a)) ⊎ ((d ≡ c) × Member a (slice_index kind c)) → Right (c + 1) d a
    there d a h (inl m) = let r = (l.entered d a h).0 m in (r.0, omega (arith, r.1), r.2)
    there d a h (inr (e, m)) = (omega arith, omega arith, subst (λ (z : ℕ). Member a (slice_index kind z)) (sym e) m)

    back : (d a : ℕ) → a < 64 → Right (c + 1) d a → Dec (d ≡ c) → Member d (slice_index merged (64 + a)) ⊎ ((d ≡ c) × Member a (slice_index kind c))
    back d a h (i, j, m) (yes e) = inr (e, subst (λ (z : ℕ). Member a (slice_index kind z)) e m)
    back d a h (i, j, m) (no e) = inl ((l.entered d a h).1 (i, omega arith, m))

pub enter-end : (k c : ℕ) (kind merged₀ merged merged' : List ℕ) → c ≡ k → NoneEntered merged₀ merged → EnteredBy c kind merged merged'
    → EnteredBy k kind merged₀ merged'
enter-end k c kind merged₀ merged merged' e n l =
    record {
      words = λ i h. l.words i h ∙ n.words i h;
      entered = λ d a h. subst (λ (z : ℕ). Member d (slice_index merged' (64 + a)) ↔ ((0 < d) × (d < z) × Member a (slice_index kind d))) e (l.entered d a h);
    }

-- The places below k are all in 2 ^ k - 1.
all-below : (k c : ℕ) → c < k → Member c (2 ^ k - 1)
all-below k c h =
    ((member-intersection c (one c) (2 ^ k - 1)).0
    (subst (Member c) (sym (and_mask (one c) k)) ((member-cut k c (one c)).1 (h, (member-one c c).1 refl)))).1

-- The class of an occurrence.
class-there : (sizes classes : List ℕ) (v p : ℕ) → 0 < p → class_at sizes classes v p ≡ slice_index classes (occupied sizes 0 v + p)
class-there sizes classes v zero h = absurd (omega arith)
class-there sizes classes v (suc o) h = refl

-- Classes that are like all of their occurrences, and none is empty, are stable.
pub stable-classes : (n labels k : ℕ) (enter sizes before kinds classes merged kind merged' : List ℕ) → labels ≤ 32
    → slice_index classes 0 ≡ 0 → Counted n sizes → PlacesWithin n sizes before → Numbered (occupied sizes 0 n + 1) k classes
    → Kinds n labels enter sizes kinds → ListsLike n sizes before kinds classes (2 ^ k - 1) merged kind → EnteredBy k kind merged merged'
    → Classes n labels k enter sizes before classes merged'
stable-classes n labels k enter sizes before kinds classes merged kind merged' few alone counted within numbered kinds-of l entered_by =
    record {
      alone = alone;
      inside = λ v p h i j. inside v p h i j;
      onto = λ c h i. onto c h (l.from c (all-below k c i));
      led = λ v p d h i j. (λ m. (led v p d h i j).0 m, λ m. (led v p d h i j).1 m);
      entered = λ v p a h i j b. entered v p a h i j b;
      entered-within = λ c a b m. let r = (entered_by.entered c a (omega arith)).0 m in (r.0, r.1);
    }
  where
    at : ℕ → ℕ → ℕ
    at v p = slice_index classes (occupied sizes 0 v + p)

    numbers : (v p : ℕ) → v < n → 0 < p → p ≤ slice_index sizes (v + 1) → (0 < at v p) × (at v p < k)
    numbers v p h i j = numbered.inside (occupied sizes 0 v + p) (omega arith) (omega (arith, occupied-room sizes v n h))

    inside : (v p : ℕ) → v < n → 0 < p → p ≤ slice_index sizes (v + 1) → (0 < class_at sizes classes v p) × (class_at sizes classes v p < k)
    inside v p h i j =
        subst (λ (z : ℕ). (0 < z) × (z < k)) (sym (class-there sizes classes v p i)) (numbers v p h i j)

    onto : (c : ℕ) → 0 < c
        → (c ≡ 0) ⊎ ((v : ℕ) × (p : ℕ) × (v < n) × (0 < p) × (p ≤ slice_index sizes (v + 1)) × (at v p ≡ c))
        → (v : ℕ) × (p : ℕ) × (v < n) × (0 < p) × (p ≤ slice_index sizes (v + 1)) × (class_at sizes classes v p ≡ c)
    onto c h (inl e) = absurd (omega arith)
    onto c h (inr (v, p, b, i, j, e)) = (v, p, b, i, j, class-there sizes classes v p i ∙ e)

    From : ℕ → ℕ → ℕ → Type 0
    From v p d = (o : ℕ) × Member o (slice_index before (64 * v + p)) × (class_at sizes classes v o ≡ d)

    led : (v p d : ℕ) → v < n → 0 < p → p ≤ slice_index sizes (v + 1) → Member d (slice_index merged' (class_at sizes classes v p)) ↔ From v p d
    led v p d h i j =
        subst (λ (z : ℕ). Member d z ↔ From v p d)
        (sym (ap (λ (z : ℕ). slice_index merged' z) (class-there sizes classes v p i)
        ∙ entered_by.words (at v p) (omega (arith, (numbers v p h i j).1, numbered.few))))
        (λ m. there (exact.0 m), λ (o, m, e). exact.1 (back o m e))
      where
        places : ℕ
        places = slice_index before (64 * v + p)

        exact : Member d (slice_index merged (at v p))
            ↔ ((Member 0 places × (d ≡ 0)) ⊎ ((o : ℕ) × Member (suc o) places × (at v (suc o) % 64 ≡ d)))
        exact = (l.like v p h i j).led.exact d

        small : (o : ℕ) → Member (suc o) places → at v (suc o) % 64 ≡ at v (suc o)
        small o m =
            let r = numbers v (suc o) h (omega arith) (within v (suc o) p h (omega (arith, counted.small v h)) m) in
            omega (arith, r.1, numbered.few)

        there : (Member 0 places × (d ≡ 0)) ⊎ ((o : ℕ) × Member (suc o) places × (at v (suc o) % 64 ≡ d)) → From v p d
        there (inl (m, e)) = (0, m, alone ∙ sym e)
        there (inr (o, m, e)) = (suc o, m, sym (small o m) ∙ e)

        back : (o : ℕ) → Member o places → class_at sizes classes v o ≡ d
            → (Member 0 places × (d ≡ 0)) ⊎ ((x : ℕ) × Member (suc x) places × (at v (suc x) % 64 ≡ d))
        back zero m e = inl (m, sym e ∙ alone)
        back (suc o) m e = inr (o, m, small o m ∙ e)

    entered : (v p a : ℕ) → v < n → 0 < p → p ≤ slice_index sizes (v + 1) → a < labels
        → Member (class_at sizes classes v p) (slice_index merged' (64 + a)) ↔ Member p (slice_index enter (32 * (v + 1) + a))
    entered v p a h i j b =
        subst (λ (z : ℕ). Member z (slice_index merged' (64 + a)) ↔ Member p (slice_index enter (32 * (v + 1) + a)))
        (sym (class-there sizes classes v p i)) (
          λ m. ((kinds-of.exact v p a h i j).0 (subst (Member a) same ((entered_by.entered (at v p) a (omega arith)).0 m).2)).1,
          λ m. (entered_by.entered (at v p) a (omega arith)).1
              ((numbers v p h i j).0, (numbers v p h i j).1, subst (Member a) (sym same) ((kinds-of.exact v p a h i j).1 (b, m))),
        )
      where
        same : slice_index_or kind (at v p) 0 ≡ slice_index kinds (occupied sizes 0 v + p)
        same = (l.like v p h i j).entered
