-- The steps of the search over sets of states (SetSearch): the next states of all that is pending at a recording, one link from these, and
-- all links of the recording.
use Rattle.std.specs.Prelude.{◌≡◌, ℕ, ◌+◌, ◌-◌, ◌*◌, ◌/◌, ◌%◌, ◌<◌, ◌≤◌, ◌⊎◌, ◌↔◌, Option, Some, None, MatchOption, List, refl, length, slice_index, slice_index_or, slice_set}
use Rattle.std.proofs.Math.Logic.{inl, inr}
use Rattle.std.proofs.Common.{sym, ap, ◌∙◌, subst₂, mul_assoc, mul-add, arith}
use Rattle.std.proofs.Math.Path.{subst}
use Rattle.std.proofs.Math.Decide.{ℕ_discrete, dec_lt}
use Rattle.theory.specs.Graph.{Table, Linked}
use Rattle.theory.specs.Places.{Member, union}
use Rattle.theory.specs.PlacesLaws.{member-none, member_union, dec_member}
use Rattle.theory.specs.PlacesWithin.{member-without}
use Rattle.answering.specs.ProductLaws.{node-below}
use Rattle.answering.specs.Links.{leaves, FirstLink, SortedByFrom}
use Rattle.answering.specs.LinkAt.{link_at, place_after}
use Rattle.answering.specs.LinkReading.{Reading, Leaves, Ended, reading-leaves, reading-ended, reading-next}
use Rattle.answering.specs.LinkReading.{linked-index, linked-triple}
use Rattle.answering.specs.declared.links.Link.{Link}
use Rattle.answering.specs.SetSearch.{Steps}
use Rattle.answering.specs.NextState.{NextState}
use Rattle.answering.specs.Pairs.{place, Has, row_below, room, room-less}
use Rattle.answering.specs.WordsFrom.{SomeFrom, Zeroed}
use Rattle.answering.specs.Waiting.{Waiting, waiting-free, row_stays, row-push}
use Rattle.answering.specs.Grown.{Ready, Grown, grown-none, grown-then, grown-below, grown-wider, row-reached}
use Rattle.answering.specs.SetRows.{word_of, new_of, United, SomeNew, united-has, united-kept, united-new, united-there}
use Rattle.answering.specs.SetRows.{united-some, united-back, united-beyond}

-- The next states of what is pending.

-- There are rows for each state and for the images, and words for the recording x.
pub record Spreading (w k states : ℕ) (sets : List ℕ) (x : ℕ) (pending images : List ℕ) : Type 0 where
  pub rows : w * (k * states) ≤ length sets
  pub width : states ≤ 64 * w
  pub most : states ≤ 256
  pub words : w * x + w ≤ length pending
  pub room : w * k ≤ length images

-- The image of each symbol has the next states over it of the states below n that are pending at x.
pub record Spread (w k : ℕ) (Step : ℕ → ℕ → ℕ → Type 0) (x n : ℕ) (pending : List ℕ) (Image : ℕ → ℕ → Type 0) : Type 0 where
  pub exactly : (a t : ℕ) → a < k → t < 64 * w → Image a t ↔ ((s : ℕ) × (s < n) × Has w pending x s × Step s a t)

pub spread_none : {w k : ℕ} (sets : List ℕ) (x : ℕ) (pending : List ℕ) {before images : List ℕ} → Zeroed 0 (w * k) before images
    → Spread w k (Steps sets k w) x 0 pending (Has w images)
unfolding Has
spread_none {w} {k} sets x pending {before} {images} z = record {
  exactly = λ a t h l. (
    λ m. absurd (member-none (t % 64) (subst (Member (t % 64)) (zero a t h l) m)),
    λ (s, b, m, n). absurd (omega arith),
  );
}
  where
    zero : (a t : ℕ) → a < k → t < 64 * w → slice_index images (place w a t) ≡ 0
    zero a t h l =
        let e : 0 + place w a t ≡ place w a t = omega arith in
        rw e at (z.zeros (place w a t) (node-below w k h (omega arith)))

-- The words of the state s begin behind those of the states before it.
row-place : (w k s a r : ℕ) → w * k * s + (w * a + r) ≡ w * (k * s + a) + r
row-place w k s a r = let e = mul_assoc w k s in let f = mul-add w (k * s) a in omega arith

pub rows-below : (w k states : ℕ) {s : ℕ} → s < states → w * k * s + w * k ≤ w * (k * states)
rows-below w k states h = let l = row_below (w * k) states h in let e = mul_assoc w k states in omega arith

pub spread-more : {w k : ℕ} (sets : List ℕ) {x s : ℕ} {pending before images : List ℕ}
    → Spread w k (Steps sets k w) x s pending (Has w before) → Has w pending x s
    → United 0 (w * k) (word_of sets (w * k * s)) before images → Spread w k (Steps sets k w) x (s + 1) pending (Has w images)
unfolding Has
spread-more {w} {k} sets {x} {s} {pending} {before} {images} v p u = record {
  exactly = λ a t h l. (
    λ m. there a t h l ((member_union (t % 64) (slice_index before (place w a t)) (slice_index sets (place w (k * s + a) t))).0
        (subst (Member (t % 64)) (word a t h l) m)),
    λ m. subst (Member (t % 64)) (sym (word a t h l))
        ((member_union (t % 64) (slice_index before (place w a t)) (slice_index sets (place w (k * s + a) t))).1 (back a t h l m)),
  );
}
  where
    word : (a t : ℕ) → a < k → t < 64 * w
        → slice_index images (place w a t) ≡ union (slice_index before (place w a t)) (slice_index sets (place w (k * s + a) t))
    word a t h l =
        let e : 0 + place w a t ≡ place w a t = omega arith in
        let f : w * k * s + place w a t ≡ place w (k * s + a) t = row-place w k s a (t / 64) in
        rw (e, f) at (u.here (place w a t) (node-below w k h (omega arith)))

    there : (a t : ℕ) → a < k → t < 64 * w
        → Member (t % 64) (slice_index before (place w a t)) ⊎ Member (t % 64) (slice_index sets (place w (k * s + a) t))
        → (n : ℕ) × (n < s + 1) × Has w pending x n × Has w sets (k * n + a) t
    there a t h l (inl m) = let (n, b, c, d) = (v.exactly a t h l).0 m in (n, omega arith, c, d)
    there a t h l (inr m) = (s, omega arith, p, m)

    back : (a t : ℕ) → a < k → t < 64 * w → ((n : ℕ) × (n < s + 1) × Has w pending x n × Has w sets (k * n + a) t)
        → Member (t % 64) (slice_index before (place w a t)) ⊎ Member (t % 64) (slice_index sets (place w (k * s + a) t))
    back a t h l (n, b, c, d) = go (ℕ_discrete n s)
      where
        go : Dec (n ≡ s) → Member (t % 64) (slice_index before (place w a t)) ⊎ Member (t % 64) (slice_index sets (place w (k * s + a) t))
        go (yes e) = inr (subst (λ n. Has w sets (k * n + a) t) e d)
        go (no e) = inl ((v.exactly a t h l).1 (n, omega arith, c, d))

pub spread-skip : {w k : ℕ} {Step : ℕ → ℕ → ℕ → Type 0} {x s r : ℕ} {pending : List ℕ} {Image : ℕ → ℕ → Type 0} → s ≤ r
    → Spread w k Step x s pending Image → ((t : ℕ) → s ≤ t → t < r → ¬ Has w pending x t) → Spread w k Step x r pending Image
spread-skip {w} {k} {Step} {x} {s} {r} {pending} {Image} h v d = record {
  exactly = λ a t b l. (
    λ m. let (n, c, p, q) = (v.exactly a t b l).0 m in (n, omega arith, p, q),
    λ (n, c, p, q). (v.exactly a t b l).1 (n, below n c p (dec_lt n s), p, q),
  );
}
  where
    below : (n : ℕ) → n < r → Has w pending x n → Dec (n < s) → n < s
    below n c p (yes e) = e
    below n c p (no e) = absurd (d n (omega arith) c p)

-- The next states of those before the state that comes next, or of all where none comes.
abbrev pub Spreads : ℕ → ℕ → (ℕ → ℕ → ℕ → Type 0) → ℕ → ℕ → List ℕ → (ℕ → ℕ → Type 0) → Option ℕ → Type 0
Spreads w k Step x states pending Image next =
    MatchOption next (Spread w k Step x states pending Image) (λ s. (s < states) × Has w pending x s × Spread w k Step x s pending Image)

pub spread-next : {w k : ℕ} {Step : ℕ → ℕ → ℕ → Type 0} {x s states : ℕ} {pending : List ℕ} {Image : ℕ → ℕ → Type 0} (next : Option ℕ)
    → s ≤ states → Spread w k Step x s pending Image → NextState w pending x s states next → Spreads w k Step x states pending Image next
spread-next None h v p = spread-skip h v p
spread-next (Some s) h v f = (f.inside, f.had, spread-skip f.onward v f.passed)

-- How many states there are from the next one on.
abbrev pub states_left : ℕ → Option ℕ → ℕ
states_left states None = 0
states_left states (Some s) = states - s

pub states-less : (w : ℕ) (pending : List ℕ) (x : ℕ) {s states : ℕ} (next : Option ℕ) → s < states → NextState w pending x (s + 1) states next
    → states_left states next < states - s
states-less w pending x None h p = omega arith
states-less w pending x (Some s) h f = omega (arith, f.onward, f.inside)

-- The states of an image are added at one recording.

-- The states of the image, at y.
abbrev pub OfRow : (ℕ → Type 0) → ℕ → ℕ → ℕ → Type 0
OfRow Image y z t = (z ≡ y) × Image t

-- They are all reached.
abbrev pub RowReached : ℕ → (ℕ → Type 0) → ℕ → List ℕ → Type 0
RowReached w Image y reached = (t : ℕ) → t < 64 * w → Image t → Has w reached y t

pub record StatesAdded (w N : ℕ) (Image : ℕ → Type 0) (y : ℕ) (reached pending : List ℕ) (h : ℕ) (reached' pending' stack' : List ℕ) (h' : ℕ)
    : Type 0 where
  pub grown : Grown w N (OfRow Image y) reached pending h reached' pending' stack' h'
  pub there : RowReached w Image y reached'

pub added-same : {w N : ℕ} {Image Other : ℕ → Type 0} {y : ℕ} {R P : List ℕ} {h : ℕ} {R' P' S' : List ℕ} {h' : ℕ}
    → ((t : ℕ) → Image t → Other t) → ((t : ℕ) → t < 64 * w → Other t → Image t)
    → StatesAdded w N Image y R P h R' P' S' h' → StatesAdded w N Other y R P h R' P' S' h'
added-same to from f = record { grown = grown-wider f.grown (λ z t o. (o.0, to t o.1)); there = λ t l m. f.there t l (from t l m) }

-- There is nothing new ..
pub states-known : {w N : ℕ} (images : List ℕ) (a : ℕ) {y : ℕ} {R P S : List ℕ} {h : ℕ} → Ready w N R P S h
    → ((k : ℕ) → k < w → (i : ℕ) → Member i (word_of images (w * a) k) → Member i (word_of R (w * y) k))
    → StatesAdded w N (Has w images a) y R P h R P S h
unfolding Has
states-known {w} {N} images a {y} r known = record {
  grown = grown-none (OfRow (Has w images a) y) r;
  there = λ t l m. known (t / 64) (omega arith) (t % 64) m;
}

-- .. or something is.
module _ {w N : ℕ} {images : List ℕ} (a y : ℕ) {R P S R' P' : List ℕ} {h : ℕ} (r : Ready w N R P S h) (k : y < N)
    (some : SomeNew (w * y) w images (w * a) R)
    (long : length R' ≡ length R) (long' : length P' ≡ length P)
    (u : United (w * y) w (word_of images (w * a)) R R') (u' : United (w * y) w (new_of images (w * a) R (w * y)) P P') where
  new-there : (t : ℕ) → t < 64 * w → Has w images a t → Has w R' y t
  unfolding Has
  new-there t l m = united-new y u t l m

  new-pending : (t : ℕ) → t < 64 * w → Has w images a t → ¬ Has w R y t → Has w P' y t
  unfolding Has
  new-pending t l m d = united-new y u' t l ((member-without (slice_index images (place w a t)) (slice_index R (place w y t)) (t % 64)).1 (m, d))

  old-or-new : (z s : ℕ) → s < 64 * w → Has w R' z s → Has w R z s ⊎ (OfRow (Has w images a) y z s × Has w P' z s)
  unfolding Has
  old-or-new z s l m = go (united-there y u z s l m)
    where
      pick : z ≡ y → Member (s % 64) (slice_index images (place w a s)) → Dec (Member (s % 64) (slice_index R (place w y s)))
          → Has w R z s ⊎ (OfRow (Has w images a) y z s × Has w P' z s)
      pick e n (yes d) = inl (subst (λ z. Has w R z s) (sym e) d)
      pick e n (no d) = inr ((e, n), subst (λ z. Has w P' z s) (sym e) (new-pending s l n d))

      go : Has w R z s ⊎ ((z ≡ y) × Member (s % 64) (slice_index images (place w a s)))
          → Has w R z s ⊎ (OfRow (Has w images a) y z s × Has w P' z s)
      go (inl n) = inl n
      go (inr (e, n)) = pick e n (dec_member (s % 64) (slice_index R (place w y s)))

  pending-told : (z s : ℕ) → s < 64 * w → Has w P' z s → Has w P z s ⊎ Has w R' z s
  unfolding Has
  pending-told z s l m = go (united-there y u' z s l m)
    where
      go : Has w P z s ⊎ ((z ≡ y) × Member (s % 64) (new_of images (w * a) R (w * y) (s / 64))) → Has w P z s ⊎ Has w R' z s
      go (inl n) = inl n
      go (inr (e, n)) =
          inr
          (subst (λ z. Has w R' z s) (sym e)
          (new-there s l ((member-without (slice_index images (place w a s)) (slice_index R (place w y s)) (s % 64)).0 n).0))

  -- The word that has something new.
  own : SomeFrom P' (w * y) w
  own =
      let i = some.word in
      let b = some.bit in
      let m : Member b (new_of images (w * a) R (w * y) i) =
      (member-without (word_of images (w * a) i) (word_of R (w * y) i) b).1 (some.had, some.lacked) in (
        i,
        some.inside,
        λ z. member-none b (subst (Member b) (sym (u'.here i some.inside) ∙ z)
            ((member_union b (slice_index P (w * y + i)) (new_of images (w * a) R (w * y) i)).1 (inr m))),
      )

  less-room : room R' < room R
  less-room =
      let i = some.word in
      let l = row-reached r y k in
      let c = some.inside in
      room-less R R' long (λ i j. united-kept y u i j) (w * y + i) some.bit (omega arith) some.small some.lacked
      (subst (Member some.bit) (sym (u.here i c)) ((member_union some.bit (slice_index R (w * y + i)) (word_of images (w * a) i)).1
      (inr some.had)))

  states-added : (S' : List ℕ) (h' : ℕ) → h' ≤ h + 1 → Waiting w N P' S' h' → StatesAdded w N (Has w images a) y R P h R' P' S' h'
  states-added S' h' q v = record {
    grown = record {
      ready = record { words = let l = r.words in omega arith; few = r.few; waiting = v };
      kept = united-has y u;
      still = united-has y u';
      new = old-or-new;
      told = pending-told;
      beyond = united-beyond y u N k long;
      less = let l = less-room in omega arith;
    };
    there = new-there;
  }

  pub states-stay : SomeFrom P (w * y) w → StatesAdded w N (Has w images a) y R P h R' P' S h
  states-stay m = states-added S h (omega arith) (row_stays r.waiting y k long' (united-some y u') (united-back y u') m)

  pub states-push : ¬ SomeFrom P (w * y) w → StatesAdded w N (Has w images a) y R P h R' P' (slice_set S h y) (h + 1)
  states-push n =
      states-added (slice_set S h y) (h + 1) (omega arith) (row-push r.waiting y k long' (united-some y u') (united-back y u') own n)

-- The stack has room where nothing of the recording is pending.
pub room-push : {w N : ℕ} {R P S : List ℕ} {h : ℕ} → Ready w N R P S h → (y : ℕ) → y < N → ¬ SomeFrom P (w * y) w → h < length S
room-push r y k n = let l = waiting-free r.waiting y k n in let m = r.waiting.slots in omega arith

-- One link is followed.

-- The pairs that the link to y over the symbol a leads to.
abbrev pub ByRow : ℕ → ℕ → (ℕ → ℕ → Type 0) → ℕ → ℕ → ℕ → ℕ → Type 0
ByRow N k Image a y z t = (z ≡ y) × (a < k) × (y < N) × Image a t

pub record RowFollowed (w N k : ℕ) (Image : ℕ → ℕ → Type 0) (a y : ℕ)
    (reached pending : List ℕ) (h : ℕ) (reached' pending' stack' : List ℕ) (h' : ℕ) : Type 0 where
  pub grown : Grown w N (ByRow N k Image a y) reached pending h reached' pending' stack' h'
  pub all : a < k → y < N → RowReached w (Image a) y reached'

module _ {w N k : ℕ} {Image : ℕ → ℕ → Type 0} {a y : ℕ} {R P : List ℕ} {h : ℕ} where
  pub row-added : {R' P' S' : List ℕ} {h' : ℕ} → a < k → y < N → StatesAdded w N (Image a) y R P h R' P' S' h'
      → RowFollowed w N k Image a y R P h R' P' S' h'
  row-added l m f = record { grown = grown-wider f.grown (λ z t o. (o.0, l, m, o.1)); all = λ b c. f.there }

  -- A link whose symbol or end is out of range is not followed.
  pub row-symbol : {S : List ℕ} → Ready w N R P S h → k ≤ a → RowFollowed w N k Image a y R P h R P S h
  row-symbol r l = record { grown = grown-none (ByRow N k Image a y) r; all = λ b c. absurd (omega arith) }

  pub row-end : {S : List ℕ} → Ready w N R P S h → N ≤ y → RowFollowed w N k Image a y R P h R P S h
  row-end r l = record { grown = grown-none (ByRow N k Image a y) r; all = λ b c. absurd (omega arith) }

-- All links of a recording are followed.

-- The pairs that the links of x lead to.
abbrev pub ByRows : ℕ → ℕ → Table → ℕ → (ℕ → ℕ → Type 0) → ℕ → ℕ → Type 0
ByRows N k table x Image z t = (a : ℕ) × (Linked table x a z) × (a < k) × (z < N) × Image a t

pub record RowsFollowed (w N k : ℕ) (table : Table) (x : ℕ) (Image : ℕ → ℕ → Type 0)
    (reached pending : List ℕ) (h : ℕ) (reached' pending' stack' : List ℕ) (h' : ℕ) : Type 0 where
  pub grown : Grown w N (ByRows N k table x Image) reached pending h reached' pending' stack' h'
  pub all : SortedByFrom table → (a y : ℕ) → Linked table x a y → a < k → y < N → RowReached w (Image a) y reached'

-- Those before the number i were followed.
pub record RowsGoing (w N k : ℕ) (table : Table) (x : ℕ) (Image : ℕ → ℕ → Type 0) (i : ℕ)
    (reached pending : List ℕ) (h : ℕ) (reached' pending' stack' : List ℕ) (h' : ℕ) : Type 0 where
  pub grown : Grown w N (ByRows N k table x Image) reached pending h reached' pending' stack' h'
  pub all : SortedByFrom table → (j : ℕ) → j < i → leaves table j ≡ x → slice_index table (3 * j + 1) < k → slice_index table (3 * j + 2) < N
      → RowReached w (Image (slice_index table (3 * j + 1))) (slice_index table (3 * j + 2)) reached'

module _ {w N k : ℕ} {table : Table} {x : ℕ} {Image : ℕ → ℕ → Type 0} {R P : List ℕ} {h : ℕ} where
  pub rows_none : {first : ℕ} {S : List ℕ} → Ready w N R P S h → FirstLink table x first
      → RowsGoing w N k table x Image first R P h R P S h
  rows_none r f = record {
    grown = grown-none (ByRows N k table x Image) r;
    all = λ sorted j l e. absurd (f.before j (omega arith) e);
  }

  row-followed : {i a y : ℕ} {R' P' S' R'' P'' S'' : List ℕ} {h' h'' : ℕ} → i < length table / 3 → leaves table i ≡ x
      → a ≡ slice_index table (3 * i + 1) → y ≡ slice_index table (3 * i + 2)
      → RowsGoing w N k table x Image i R P h R' P' S' h'
      → RowFollowed w N k Image a y R' P' h' R'' P'' S'' h''
      → RowsGoing w N k table x Image (i + 1) R P h R'' P'' S'' h''
  row-followed {i} {a} {y} {R'} {P'} {S'} {R''} {P''} {S''} l e ea ey g f = record {
    grown = grown-then g.grown f.grown (λ z t b. by z t b);
    all = λ sorted j b d c m. reach sorted j b (ℕ_discrete j i) d c m;
  }
    where
      link : Linked table x a y
      link =
          subst (λ x. Linked table x a y) e
          (subst₂ (λ a y. Linked table (leaves table i) a y) (sym ea) (sym ey) (linked-triple table i (omega arith)))

      by : (z t : ℕ) → ByRow N k Image a y z t → ByRows N k table x Image z t
      by z t (q, c, d, b) = (a, subst (Linked table x a) (sym q) link, c, subst (λ z. z < N) (sym q) d, b)

      reach : SortedByFrom table → (j : ℕ) → j < i + 1 → Dec (j ≡ i) → leaves table j ≡ x → slice_index table (3 * j + 1) < k
          → slice_index table (3 * j + 2) < N
          → RowReached w (Image (slice_index table (3 * j + 1))) (slice_index table (3 * j + 2)) R''
      reach sorted j b (yes q) d c m =
          let qa : slice_index_or table (3 * j + 1) 0 ≡ a = ap (λ j. slice_index table (3 * j + 1)) q ∙ sym ea in
          let qy : slice_index_or table (3 * j + 2) 0 ≡ y = ap (λ j. slice_index table (3 * j + 2)) q ∙ sym ey in
          subst₂ (λ a y. RowReached w (Image a) y R'') (sym qa) (sym qy)
          (f.all (subst (λ a. a < k) qa c) (subst (λ y. y < N) qy m))
      reach sorted j b (no q) d c m = λ t o u. f.grown.kept _ _ (g.all sorted j (omega arith) d c m t o u)

  -- The links of x have come to an end: the table has, or the next link leaves a later recording.
  rows-done : {i : ℕ} {R' P' S' : List ℕ} {h' : ℕ}
      → (SortedByFrom table → (j : ℕ) → i ≤ j → 3 * j + 2 < length table → ¬ (leaves table j ≡ x))
      → RowsGoing w N k table x Image i R P h R' P' S' h'
      → RowsFollowed w N k table x Image R P h R' P' S' h'
  rows-done {i} {R'} {P'} {S'} {h'} no_more g =
      record { grown = g.grown; all = λ sorted a y l c m. reach sorted a y (linked-index l) c m }
    where
      reach : SortedByFrom table → (a y : ℕ)
          → ((j : ℕ) × (3 * j + 2 < length table) × (leaves table j ≡ x) × (slice_index table (3 * j + 1) ≡ a) × (slice_index table (3 * j + 2) ≡ y))
          → a < k → y < N → RowReached w (Image a) y R'
      reach sorted a y (j, l, d, ea, ey) c m = go (dec_lt j i)
        where
          go : Dec (j < i) → RowReached w (Image a) y R'
          go (yes b) =
              subst₂ (λ a y. RowReached w (Image a) y R') ea ey
              (g.all sorted j b d (subst (λ a. a < k) (sym ea) c) (subst (λ y. y < N) (sym ey) m))
          go (no b) = absurd (no_more sorted j (omega arith) l d)

  pub rows-ended : {i : ℕ} {leaving : Option Link} {R' P' S' : List ℕ} {h' : ℕ} → Reading table x i leaving → leaving ≡ None
      → RowsGoing w N k table x Image i R P h R' P' S' h'
      → RowsFollowed w N k table x Image R P h R' P' S' h'
  rows-ended {i} {R' = R'} {P' = P'} {S' = S'} {h' = h'} r e = go (reading-ended r e)
    where
      go : Ended table x i → RowsGoing w N k table x Image i R P h R' P' S' h' → RowsFollowed w N k table x Image R P h R' P' S' h'
      go (inl b) = rows-done (λ sorted j c m d. omega arith)
      go (inr (l, d)) =
          rows-done (λ sorted j c m q. d (
          let p = r.begins.there j (omega arith) q in
          let s = sorted r.first i r.onward (omega arith) in
          let u = sorted i j c m in
          omega arith
          ))

-- Those before the link that was read were followed.
pub record LinksGoing (w N k : ℕ) (table : Table) (x : ℕ) (Image : ℕ → ℕ → Type 0) (leaving : Option Link)
    (reached pending : List ℕ) (h : ℕ) (reached' pending' stack' : List ℕ) (h' : ℕ) : Type 0 where
  pub place : ℕ
  pub reading : Reading table x place leaving
  pub rows : RowsGoing w N k table x Image place reached pending h reached' pending' stack' h'

-- How many triples there are from the link that was read on.
abbrev pub links_left : Table → Option Link → ℕ
links_left table None = 0
links_left table (Some link) = length table / 3 - link.at

module _ {w N k : ℕ} {table : Table} {x : ℕ} {Image : ℕ → ℕ → Type 0} {R P : List ℕ} {h : ℕ} where
  pub links_none : {first : ℕ} {leaving : Option Link} {S : List ℕ} → Ready w N R P S h → FirstLink table x first
      → leaving ≡ link_at table first x → LinksGoing w N k table x Image leaving R P h R P S h
  links_none {first} r f e = record {
    place = first;
    reading = record { first = first; begins = f; onward = omega arith; reads = e };
    rows = rows_none r f;
  }

  module _ {leaving : Option Link} {link : Link} {R' P' S' : List ℕ} {h' : ℕ}
      (g : LinksGoing w N k table x Image leaving R P h R' P' S' h') (told : leaving ≡ Some link) where
    pub links-leaves : Leaves table x g.place link
    links-leaves = reading-leaves g.reading told

    pub links-next : {next : Option Link} → next ≡ link_at table (place_after table link.at) x → {R'' P'' S'' : List ℕ} {h'' : ℕ}
        → RowFollowed w N k Image link.label link.end R' P' h' R'' P'' S'' h''
        → LinksGoing w N k table x Image next R P h R'' P'' S'' h''
    links-next read f =
        let l = links-leaves in
        record { place = g.place + 1; reading = reading-next g.reading told read; rows = row-followed l.within l.from l.label l.end g.rows f }

    pub links-less : {next : Option Link} → next ≡ link_at table (place_after table link.at) x → links_left table next < links_left table leaving
    links-less {next} read = subst (λ z. links_left table next < links_left table z) (sym told) (go next refl)
      where
        go : (z : Option Link) → next ≡ z → links_left table z < length table / 3 - link.at
        go None e = let l = links-leaves in omega (arith, l.within, l.place)
        go (Some further) e =
            let l = links-leaves in
            let m = reading-leaves (reading-next g.reading told read) e in
            omega (arith, l.within, l.place, m.within, m.place)

  pub links-ended : {leaving : Option Link} {R' P' S' : List ℕ} {h' : ℕ} → LinksGoing w N k table x Image leaving R P h R' P' S' h'
      → leaving ≡ None → RowsFollowed w N k table x Image R P h R' P' S' h'
  links-ended g e = rows-ended g.reading e g.rows

-- The images may be told in another way.
pub rows_same : {w N k : ℕ} {table : Table} {x : ℕ} {Image Other : ℕ → ℕ → Type 0} {R P : List ℕ} {h : ℕ} {R' P' S' : List ℕ} {h' : ℕ}
    → ((a t : ℕ) → a < k → t < 64 * w → Image a t ↔ Other a t) → RowsFollowed w N k table x Image R P h R' P' S' h'
    → RowsFollowed w N k table x Other R P h R' P' S' h'
rows_same same f = record {
  grown = grown-below f.grown (λ z t l (a, link, c, d, m). (a, link, c, d, (same a t c l).0 m));
  all = λ sorted a y link c d t l m. f.all sorted a y link c d t l ((same a t c l).1 m);
}
