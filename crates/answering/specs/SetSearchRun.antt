-- The search over sets of states as a whole (SetSearch): while something is pending, a recording is taken off the stack with its pending
-- states, and its links are followed from these. What holds all along: what is reached was found by links, and all links of what is reached
-- and not pending were followed.
use Rattle.std.specs.Prelude.{◌≡◌, ℕ, ◌+◌, ◌-◌, ◌*◌, ◌<◌, ◌≤◌, ◌⊎◌, List, length, drop, replicate}
use Rattle.std.proofs.Common.{inl, inr, sym, ◌∙◌, subst, subst₂, mul-le-mul, mul-le-mul_right, one-mul, arith}
use Rattle.std.specs.Prelude.{refl}
use Rattle.std.proofs.Math.Decide.{ℕ_discrete}
use Rattle.std.proofs.lemmas.List.{length-replicate}
use Rattle.theory.specs.Graph.{Table, Linked}
use Rattle.finding.specs.Cleared.{Cleared}
use Rattle.answering.specs.Links.{SortedByFrom}
use Rattle.answering.specs.Cleared.{cleared-none}
use Rattle.answering.specs.Pairs.{place, Has, put, has-put-new, has-put-there, zeros-idle}
use Rattle.answering.specs.WordsFrom.{Zeroed, SomeFrom, none-pending, zeroed-other, zeroed-back}
use Rattle.answering.specs.Grown.{Ready}
use Rattle.answering.specs.Waiting.{waiting_none}
use Rattle.answering.specs.SetSearch.{Steps, SetFound, begins, onward, SetSearchable, SetSearched}
use Rattle.answering.specs.SetSteps.{Spreading, Spread, OfRow, StatesAdded, ByRows, RowsFollowed}

-- The sizes that a search needs, whatever gives the steps.
pub record SetSizes (k w states N start : ℕ) (reached : List ℕ) : Type 0 where
  pub some_words : 0 < w
  pub width : states ≤ 64 * w
  pub few_words : w ≤ 4
  pub few-symbols : k ≤ 32
  pub few : N ≤ 4096
  pub begins : start < N
  pub room : w * N ≤ length reached

-- The sizes fit, and nothing is reached.
pub record SetStarting (w k states N start : ℕ) (reached : List ℕ) : Type 0 where
  pub fits : SetSizes k w states N start reached
  pub unreached : (y s : ℕ) → y < N → s < 64 * w → ¬ Has w reached y s

-- What the search needs to begin with: room everywhere, and nothing reached or pending.
pub record SetBeginning (w k states N start : ℕ) (reached pending stack : List ℕ) : Type 0 where
  pub starting : SetStarting w k states N start reached
  pub ready : Ready w N reached pending stack 0
  pub idle : (y s : ℕ) → s < 64 * w → ¬ Has w pending y s

-- Room for the images of all symbols, and none for the first one yet.
pub record ImagesBlank (w : ℕ) (images : List ℕ) : Type 0 where
  pub rows : 128 ≤ length images
  pub blank : (s : ℕ) → s < 64 * w → ¬ Has w images 0 s

-- All pairs one link from the pair (x, s) are reached.
abbrev pub SetClosedAt : ℕ → (ℕ → ℕ → ℕ → Type 0) → ℕ → ℕ → Table → ℕ → List ℕ → ℕ → ℕ → Type 0
SetClosedAt w Step k states table N reached x s =
    s < states → (a y t : ℕ) → Linked table x a y → a < k → y < N → t < 64 * w → Step s a t → Has w reached y t

-- What holds whenever the next recording is taken.
pub record SetGoing (w : ℕ) (Step : ℕ → ℕ → ℕ → Type 0) (k states : ℕ) (table : Table) (N start : ℕ)
    (before reached pending stack : List ℕ) (h : ℕ) : Type 0 where
  pub ready : Ready w N reached pending stack h
  pub within : (y s : ℕ) → s < 64 * w → Has w pending y s → Has w reached y s
  pub sound : (y s : ℕ) → s < 64 * w → Has w reached y s → y < N → SetFound Step k w states table N start y s
  pub first : Has w reached start 0
  pub closed : SortedByFrom table → (x s : ℕ) → x < N → s < 64 * w → Has w reached x s
      → Has w pending x s ⊎ SetClosedAt w Step k states table N reached x s
  pub beyond : drop (w * N) reached ≡ drop (w * N) before

-- What is reached are pairs found; and all of them, where the table is sorted.
pub record SetAllFound (w : ℕ) (Step : ℕ → ℕ → ℕ → Type 0) (k states : ℕ) (table : Table) (N start : ℕ)
    (before after : List ℕ) : Type 0 where
  pub sound : (y s : ℕ) → y < N → s < 64 * w → Has w after y s → SetFound Step k w states table N start y s
  pub complete : SortedByFrom table → (y s : ℕ) → SetFound Step k w states table N start y s → Has w after y s
  pub beyond : drop (w * N) after ≡ drop (w * N) before

-- The sizes.

pub sizes-of : {sets : List ℕ} {k w states N start : ℕ} {reached : List ℕ} → SetSearchable sets k w states N start reached
    → SetSizes k w states N start reached
sizes-of f = record {
  some_words = let a = f.some in let b = f.width in omega arith;
  width = f.width;
  few_words = f.few_words;
  few-symbols = f.few-symbols;
  few = f.few;
  begins = f.begins;
  room = f.room;
}

module _ {k w states N start : ℕ} {reached : List ℕ} (f : SetSizes k w states N start reached) where
  pub few-states : states ≤ 256
  few-states = let a = f.width in let b = f.few_words in omega arith

  pub few-rows : w * k ≤ 128
  few-rows = mul-le-mul f.few_words f.few-symbols

  pub few-pairs : w * N ≤ 16384
  few-pairs = mul-le-mul f.few_words f.few

  -- There are no more recordings than words for them.
  pub recordings-below : (n : ℕ) → w * N ≤ n → N ≤ n
  recordings-below n h =
      let l : 1 * N ≤ w * N = mul-le-mul_right N f.some_words in
      let e = one-mul N in
      omega arith

-- The local words are zero to begin with.
pub set-beginning : {w k states N start : ℕ} {reached : List ℕ} (n m : ℕ) → SetStarting w k states N start reached → w * N ≤ n → N < m
    → SetBeginning w k states N start reached (replicate n 0) (replicate m 0)
set-beginning {w} {N = N} n m b hn hm = record {
  starting = b;
  ready = record { words = b.fits.room; few = b.fits.few; waiting = waiting_none w N n m hn hm };
  idle = λ y s l. zeros-idle w n y s;
}

pub images-blank : (w : ℕ) → ImagesBlank w (replicate 128 0)
images-blank w = record { rows = let e = length-replicate {A = ℕ} 128 0 in omega arith; blank = λ s l. zeros-idle w 128 0 s }

-- The first state has its place in the images, and the row of the first symbol as well.
module _ {k w states N start : ℕ} {reached images : List ℕ} (f : SetSizes k w states N start reached) (b : ImagesBlank w images) where
  first-row : w * 0 + w ≤ 128
  first-row = let h = f.few_words in omega arith

  pub first-place : place w 0 0 < length images
  first-place = let h = b.rows in let e = first-row in let s = f.some_words in omega arith

  pub first-words : w * 0 + w ≤ length images
  first-words = let h = b.rows in let e = first-row in omega arith

  -- The row has it alone.
  pub first-there : Has w (put w images 0 0) 0 0
  first-there = has-put-new w images 0 0 (let s = f.some_words in omega arith) first-place

  pub first-only : (s : ℕ) → s < 64 * w → Has w (put w images 0 0) 0 s → s ≡ 0
  first-only s l m = go (has-put-there w images 0 0 (let s = f.some_words in omega arith) first-place 0 s l m)
    where
      go : Has w images 0 s ⊎ ((◌≡◌ {A = ℕ} 0 0) × (s ≡ 0)) → s ≡ 0
      go (inl n) = absurd (b.blank s l n)
      go (inr (e, f)) = f

-- The first pair is found: state 0 alone is added at the start. What is pending before is reached.
pub set-going-begin : {w : ℕ} {Step : ℕ → ℕ → ℕ → Type 0} {k states : ℕ} {table : Table} {N start : ℕ} {reached pending : List ℕ}
    {First : ℕ → Type 0} {R' P' S' : List ℕ} {h : ℕ} → SetStarting w k states N start reached
    → ((y s : ℕ) → s < 64 * w → Has w pending y s → Has w reached y s) → First 0
    → ((s : ℕ) → s < 64 * w → First s → s ≡ 0) → StatesAdded w N First start reached pending 0 R' P' S' h
    → SetGoing w Step k states table N start R' R' P' S' h
set-going-begin {w} {Step} {k} {states} {table} {N} {start} {reached} {pending} {First} {R'} {P'} {S'} {h} b idle first only f = record {
  ready = f.grown.ready;
  within = λ y s l m. within' y s l (f.grown.told y s l m);
  sound = λ y s l m h. sound' y s h l (f.grown.new y s l m);
  first = f.there 0 (let s = b.fits.some_words in omega arith) first;
  closed = λ sorted x s h l m. closed' x s h l (f.grown.new x s l m);
  beyond = refl;
}
  where
    within' : (y s : ℕ) → s < 64 * w → Has w pending y s ⊎ Has w R' y s → Has w R' y s
    within' y s l (inl m) = f.grown.kept y s (idle y s l m)
    within' y s l (inr m) = m

    sound' : (y s : ℕ) → y < N → s < 64 * w → Has w reached y s ⊎ (OfRow First start y s × Has w P' y s)
        → SetFound Step k w states table N start y s
    sound' y s h l (inl m) = absurd (b.unreached y s h l m)
    sound' y s h l (inr ((e, n), m)) = subst₂ (SetFound Step k w states table N start) (sym e) (sym (only s l n)) begins

    closed' : (x s : ℕ) → x < N → s < 64 * w → Has w reached x s ⊎ (OfRow First start x s × Has w P' x s)
        → Has w P' x s ⊎ SetClosedAt w Step k states table N R' x s
    closed' x s h l (inl m) = absurd (b.unreached x s h l m)
    closed' x s h l (inr m) = inl m.1

pub set-going-first : {w : ℕ} {Step : ℕ → ℕ → ℕ → Type 0} {k states : ℕ} {table : Table} {N start : ℕ} {reached pending stack : List ℕ}
    {First : ℕ → Type 0} {R' P' S' : List ℕ} {h : ℕ} → SetBeginning w k states N start reached pending stack → First 0
    → ((s : ℕ) → s < 64 * w → First s → s ≡ 0) → StatesAdded w N First start reached pending 0 R' P' S' h
    → SetGoing w Step k states table N start R' R' P' S' h
set-going-first b first only f = set-going-begin b.starting (λ y s l m. absurd (b.idle y s l m)) first only f

module _ {w : ℕ} {Step : ℕ → ℕ → ℕ → Type 0} {k states : ℕ} {table : Table} {N start : ℕ} {before R P S : List ℕ} {h : ℕ}
    (g : SetGoing w Step k states table N start before R P S h) where
  -- The links of a recording are followed from the states that were pending.
  pub set-going-next : (x : ℕ) {P' R'' P'' S'' : List ℕ} {Image : ℕ → ℕ → Type 0} {h'' : ℕ} → states ≤ 64 * w → x < N
      → Spread w k Step x states P Image → Zeroed (w * x) w P P' → RowsFollowed w N k table x Image R P' (h - 1) R'' P'' S'' h''
      → SetGoing w Step k states table N start before R'' P'' S'' h''
  set-going-next x {P'} {R''} {P''} {S''} {Image} width b spread z f = record {
    ready = f.grown.ready;
    within = λ y s l m. within' y s l (f.grown.told y s l m);
    sound = λ y s l m b. sound' y s b l (f.grown.new y s l m);
    first = f.grown.kept start 0 g.first;
    closed = λ sorted y s b l m. closed' sorted y s b l (f.grown.new y s l m);
    beyond = f.grown.beyond ∙ g.beyond;
  }
    where
      within' : (y s : ℕ) → s < 64 * w → Has w P' y s ⊎ Has w R'' y s → Has w R'' y s
      within' y s l (inl m) = f.grown.kept y s (g.within y s l (zeroed-back x z y s l m))
      within' y s l (inr m) = m

      sound' : (y t : ℕ) → y < N → t < 64 * w → Has w R y t ⊎ (ByRows N k table x Image y t × Has w P'' y t)
          → SetFound Step k w states table N start y t
      sound' y t b' l (inl m) = g.sound y t l m b'
      sound' y t b' l (inr ((a, link, c, d, q), m)) =
          let (s, i, p, o) = (spread.exactly a t c l).0 q in
          let j : s < 64 * w = omega arith in
          onward (g.sound x s j (g.within x s j p) b) i link c d l o

      -- The states that were pending have all their links followed.
      followed : SortedByFrom table → (s : ℕ) → Has w P x s → SetClosedAt w Step k states table N R'' x s
      followed sorted s m i a y t link c d l o = f.all sorted a y link c d t l ((spread.exactly a t c l).1 (s, i, m, o))

      old : SortedByFrom table → (y s : ℕ) → s < 64 * w → Has w P y s ⊎ SetClosedAt w Step k states table N R y s
          → Has w P'' y s ⊎ SetClosedAt w Step k states table N R'' y s
      old sorted y s l (inr m) = inr (λ i a v t link c d q o. f.grown.kept v t (m i a v t link c d q o))
      old sorted y s l (inl m) = go (ℕ_discrete y x)
        where
          go : Dec (y ≡ x) → Has w P'' y s ⊎ SetClosedAt w Step k states table N R'' y s
          go (yes e) =
              inr
              (subst (λ y. SetClosedAt w Step k states table N R'' y s) (sym e) (followed sorted s (subst (λ y. Has w P y s) e m)))
          go (no e) = inl (f.grown.still y s (zeroed-other x z y s l e m))

      closed' : SortedByFrom table → (y s : ℕ) → y < N → s < 64 * w → Has w R y s ⊎ (ByRows N k table x Image y s × Has w P'' y s)
          → Has w P'' y s ⊎ SetClosedAt w Step k states table N R'' y s
      closed' sorted y s b l (inl m) = old sorted y s l (g.closed sorted y s b l m)
      closed' sorted y s b l (inr m) = inl m.1

  -- Where those that wait stand does not matter.
  pub set-going-moved : {S' : List ℕ} → Ready w N R P S' h → SetGoing w Step k states table N start before R P S' h
  set-going-moved r = record {
    ready = r;
    within = g.within;
    sound = g.sound;
    first = g.first;
    closed = g.closed;
    beyond = g.beyond;
  }

  -- Nothing is pending any more.
  module _ (e : h ≡ 0) where
    set-closed : SortedByFrom table → (x s : ℕ) → x < N → s < 64 * w → Has w R x s → SetClosedAt w Step k states table N R x s
    set-closed sorted x s b l m = go (g.closed sorted x s b l m)
      where
        empty : ¬ SomeFrom P (w * x) w
        empty n = let (i, c, q) = g.ready.waiting.listed x b n in omega arith

        go : Has w P x s ⊎ SetClosedAt w Step k states table N R x s → SetClosedAt w Step k states table N R x s
        go (inl n) = absurd (none-pending w P x s l empty n)
        go (inr n) = n

    found-reached : SortedByFrom table → start < N → states ≤ 64 * w → {y t : ℕ} → SetFound Step k w states table N start y t → Has w R y t
    found-reached sorted b width begins = g.first
    found-reached sorted b width (onward {x = x} {s = s} {a = a} {y = y} {t = t} f i link c d l o) =
        set-closed sorted x s (found-end b f) (omega arith) (found-reached sorted b width f) i a y t link c d l o
      where
        found-end : start < N → {y t : ℕ} → SetFound Step k w states table N start y t → y < N
        found-end b begins = b
        found-end b (onward f i link c d l o) = d

    pub set-going-done : {entry : List ℕ} → start < N → states ≤ 64 * w → drop (w * N) before ≡ drop (w * N) entry
        → SetAllFound w Step k states table N start entry R
    set-going-done b width same = record {
      sound = λ y s c l m. g.sound y s l m c;
      complete = λ sorted y t f. found-reached sorted b width f;
      beyond = g.beyond ∙ same;
    }

-- What is needed for each turn.

pub set-spreading : {w : ℕ} {sets : List ℕ} {k states N start x : ℕ} {R I images pending : List ℕ} → SetSizes k w states N start R
    → w * (k * states) ≤ length sets → ImagesBlank w I → w * x + w ≤ length pending → length images ≡ length I
    → Spreading w k states sets x pending images
set-spreading f rows b h e =
    let r = few-rows f in
    let n = b.rows in
    record { rows = rows; width = f.width; most = few-states f; words = h; room = omega arith }

-- The search as a whole.

pub set-starting : {k w states N start : ℕ} {before cleared : List ℕ} → SetSizes k w states N start before
    → Cleared (w * N) before cleared → length cleared ≡ length before → SetStarting w k states N start cleared
set-starting {w = w} {N = N} f c e = record {
  fits = record {
    some_words = f.some_words;
    width = f.width;
    few_words = f.few_words;
    few-symbols = f.few-symbols;
    few = f.few;
    begins = f.begins;
    room = let r = f.room in omega arith;
  };
  unreached = cleared-none w N c f.room;
}

pub set-searched : {sets : List ℕ} {k w states : ℕ} {table : Table} {N start : ℕ} {before cleared after : List ℕ}
    → SetSearchable sets k w states N start before → drop (w * N) cleared ≡ drop (w * N) before → length after ≡ length before
    → SetAllFound w (Steps sets k w) k states table N start cleared after → SetSearched sets k w states table N start before after
set-searched fit same long all = record {
  sound = λ f. all.sound;
  complete = λ f. all.complete;
  beyond = λ f. all.beyond ∙ same;
  same_length = long;
  unfit = λ n. absurd (n fit);
}

pub set-unsearched : {sets : List ℕ} {k w states : ℕ} {table : Table} {N start : ℕ} {before : List ℕ}
    → ¬ SetSearchable sets k w states N start before → SetSearched sets k w states table N start before before
set-unsearched n = record {
  sound = λ f. absurd (n f);
  complete = λ f. absurd (n f);
  beyond = λ f. absurd (n f);
  same_length = refl;
  unfit = λ m. refl;
}
